-- A text without fault is one interchange of a stream, and the lines of such texts are cut into these texts.
use Rattle.std.{specs.{List.{list_all, AllByRecursion}, Prelude.All}, proofs.{lemmas.Bool.{and_parts, eqb-true}, lemmas.Slice.Eq.bytes_eq-Decides}}
use Rattle.std.proofs.Common.{◌≡◌, ℕ, zero, suc, ◌≤◌, Bool, true, false, cond, not, nat_le, ◌&&◌, nat_eq, List, [], ◌∷◌, ◌++◌, length, take, drop, codes, None, refl, sym, ap, subst, ◌∙◌, inl, inr, arith, append_assoc, Option, Some, Ok}
use Rattle.std.proofs.lemmas.List.{append-nil, length-append, length-drop, take-append-drop}
use Rattle.std.proofs.lemmas.List.Elements.{recursion_from_All, All-map, All-take, All-drop, All-weaker}
use Rattle.edi_syntax.specs.{Characters.{is_break, begins_with_advice}, Interchange.{segments_in, interchange_of}, declared.characters.Service.Service}
use Rattle.edi_syntax.specs.{Advice.{advised_characters, may_be_used, service_at, has_bad_advice, behind_advice, without_breaks}, Faults.fault_of}
use Rattle.edi_syntax.specs.{Text.{Content, has_tag, SegmentText, SegmentsText}, Reading.{breaks_len, segments_of, are_segments}, Bytes.line_feed}
use Rattle.edi_syntax.specs.{Envelope.{header_of, trailer_of}, Positions.{is_refused, GoesOn, Closes, SegmentsBehindBreaks}, Streams.{HasNone, AreCuts}}
use Rattle.edi_syntax.specs.Cuts.{past_advice, position_of, is_whole, IsOpen, IsOpenBefore, IsInterchange}
use Rattle.edi_syntax.specs.declared.position.Position.{Position}
use Rattle.edi_syntax.specs.declared.position.Position.TheVariants.{Between, First, Second, Tagged, Inside, Refused}
use Rattle.edi_syntax.{specs.declared.interchange.SyntaxFault.SyntaxFault, proofs.SegmentsLemmas.{segments_sound, breaks_at, no_break_before, at_end_is}}
use Rattle.edi_syntax.proofs.{CutLemmas.{no_fault, nothing_open}, PositionLemmas.{refused_where_nothing_goes_on, closed_where_a_trailer_ends}}
use Rattle.office_parts.specs.{Cutting.{FaultlessIsInterchange, IsFaultless, LinesAreCut, JournalIsCut}, Kept.kept, Journal.{text_of, kept_texts, IsEntry}}
use Rattle.office_parts.proofs.Ends.{read_front, HasNoFault, faultless, begins_unbroken, none_at_end, all_breaks, one_goes, segment_unbroken, without_all, unbroken_more, all_go, trailer_last, ends_of}
use Rattle.office_parts.proofs.Entries.{kept_texts_are_entries}
use Rattle.office_loading.specs.Pages.{lines_of}
use Rattle.partner_core.specs.Deliveries.{Delivery}
use Rattle.office_admission.specs.{Parties.Parties, Admission.{by_header, admission}, Deliveries.deliveries_of, Setups.{SetupContent, parties_in}}
use Rattle.office_admission.specs.Accounts.{content_after}
use Rattle.office_replies.specs.Events.{Event}
use Rattle.edi_syntax.specs.Cuts as cuts

closed_is : (p : Position) → cuts.is_closed p ≡ true → p ≡ Between true
closed_is (Between true) e = refl
closed_is (Between false) e = cc
closed_is (First closes) e = cc
closed_is (Second closes) e = cc
closed_is (Tagged closes) e = cc
closed_is (Inside released closes) e = cc
closed_is Refused e = cc

refused_is : (p : Position) → is_refused p ≡ true → p ≡ Refused
refused_is (Between closed) e = cc
refused_is (First closes) e = cc
refused_is (Second closes) e = cc
refused_is (Tagged closes) e = cc
refused_is (Inside released closes) e = cc
refused_is Refused e = refl

not_true : (b : Bool) → (b ≡ true → ⊥) → b ≡ false
not_true true never = absurd (never refl)
not_true false never = refl

none_broken : (begins reaches usable : Bool) → begins && not (reaches && usable) ≡ false → begins && reaches && not usable ≡ false
none_broken true true true good = refl
none_broken true true false good = cc
none_broken true false usable good = refl
none_broken false reaches usable good = refl

module _ (text : List ℕ) (none : fault_of text ≡ None) (stripped : interchange_of text ≡ text) where
  abbrev is : HasNoFault text
  is = faultless text none

  abbrev s : Service
  s = service_at text

  abbrev segments : List Content
  segments = segments_in text

  spelled : SegmentsText s segments (behind_advice text)
  spelled = segments_sound s (behind_advice text) is.segments

  -- after the advice stand line breaks and then the segments
  past : (breaks : List ℕ) × (list_all is_break breaks ≡ true) × (past_advice text ≡ breaks ++ behind_advice text)
  past = on (begins_with_advice text)
    where
      on : (begins : Bool) → (breaks : List ℕ) × (list_all is_break breaks ≡ true) × (cond begins (drop 9 text) text ≡ breaks ++ cond begins (without_breaks (drop 9 text)) text)
      on true =
          (take (breaks_len (drop 9 text)) (drop 9 text), breaks_at (drop 9 text), sym (take-append-drop (breaks_len (drop 9 text)) (drop 9 text)))
      on false = ([], refl, refl)

  all_past : SegmentsBehindBreaks s segments (past_advice text)
  all_past = let (breaks, all, parts) = past in (breaks, behind_advice text, all, spelled, parts)

  advice : (front : List ℕ) × (text ≡ front ++ past_advice text)
  advice = on (begins_with_advice text)
    where
      on : (begins : Bool) → (front : List ℕ) × (text ≡ front ++ cond begins (drop 9 text) text)
      on true = (take 9 text, sym (take-append-drop 9 text))
      on false = ([], refl)

  -- ---- the end

  tagged : has_tag (codes "UNZ") (trailer_of segments) ≡ true
  tagged = (and_parts (has_tag (codes "UNB") (header_of segments)) (has_tag (codes "UNZ") (trailer_of segments)) (and_parts (has_tag (codes "UNB") (header_of segments) && has_tag (codes "UNZ") (trailer_of segments)) _ is.envelope).0).1

  closes : Closes s (past_advice text)
  closes =
      let (breaks, all, parts) = past in
      let ends = ends_of s segments (behind_advice text) spelled tagged in
      let whole : text ≡ (((advice.0 ++ breaks) ++ ends.front) ++ ends.last) ++ ends.breaks =
      advice.1 ∙ ap (λ (t : List ℕ). advice.0 ++ t) (parts ∙ ap (λ (t : List ℕ). breaks ++ t) ends.whole)
      ∙ sym (append_assoc advice.0 breaks (ends.front ++ (ends.last ++ ends.breaks)))
      ∙ sym (append_assoc (advice.0 ++ breaks) ends.front (ends.last ++ ends.breaks))
      ∙ sym (append_assoc ((advice.0 ++ breaks) ++ ends.front) ends.last ends.breaks) in
      let nothing : ends.breaks ≡ [] =
      none_at_end (((advice.0 ++ breaks) ++ ends.front) ++ ends.last) ends.breaks (subst (λ t. interchange_of t ≡ t) whole stripped) ends.are_breaks in
      let last_is : ends.last ++ ends.breaks ≡ ends.last = ap (λ (t : List ℕ). ends.last ++ t) nothing ∙ append-nil ends.last in
      let tag : (trailer_of segments).tag ≡ codes "UNZ" = (bytes_eq-Decides (trailer_of segments).tag (codes "UNZ")).0 tagged in
      let parted : past_advice text ≡ (breaks ++ ends.front) ++ ends.last =
      parts ∙ ap (λ (t : List ℕ). breaks ++ t) (ends.whole ∙ ap (λ (t : List ℕ). ends.front ++ t) last_is) ∙ sym (append_assoc breaks ends.front ends.last) in
      (ends.before, trailer_of segments, breaks ++ ends.front, ends.last, (breaks, ends.front, all, ends.befores, refl), ends.spelled, tag, parted)

  closed : position_of text ≡ Between true
  closed = (closed_where_a_trailer_ends s (past_advice text)).1 closes

  -- ---- no earlier end

  -- after a trailer no segment stands
  nothing_behind : (before : List Content) (trailer : Content) (breaks rest last more : List ℕ) → list_all is_break breaks ≡ true → SegmentsText s before rest → SegmentText s trailer last → trailer.tag ≡ codes "UNZ"
      → past_advice text ≡ breaks ++ (rest ++ (last ++ more)) → without_breaks more ≡ []
  nothing_behind before trailer breaks rest last more all befores last_spelled tag parts =
      let (breaks', all', parts') = past in
      let here : without_breaks (past_advice text) ≡ behind_advice text = ap without_breaks parts' ∙ without_all breaks' (behind_advice text) all' (no_break_before s segments (behind_advice text) spelled) in
      let tail : breaks_len (last ++ more) ≡ 0 = segment_unbroken s trailer last more last_spelled in
      let there : without_breaks (past_advice text) ≡ rest ++ (last ++ more) =
      ap without_breaks parts ∙ without_all breaks (rest ++ (last ++ more)) all (unbroken_more rest (last ++ more) (no_break_before s before rest befores) tail) in
      let same : behind_advice text ≡ rest ++ (last ++ more) = sym here ∙ there in
      let first = all_go s before rest (last ++ more) befores tail in
      let second = one_goes s trailer last more last_spelled in
      let left : List ℕ = without_breaks more in
      let listed : segments ≡ before ++ trailer ∷ segments_of s left =
      ap (segments_of s) same ∙ first.segments_are ∙ ap (λ (t : List Content). before ++ t) second.segments_are in
      let later : segments_of s left ≡ [] = trailer_last segments before trailer (segments_of s left) is.envelope is.messages listed tag in
      let are : are_segments s left ≡ true = sym second.are_all ∙ sym first.are_all ∙ ap (are_segments s) (sym same) ∙ is.segments in
      let ended : nat_eq (length left) 0 ≡ true = at_end_is s left ∙ (λ i. nat_eq (length (later i)) 0 && are i) in
      empty left (eqb-true (length left) 0 ended)
    where
      empty : (xs : List ℕ) → length xs ≡ 0 → xs ≡ []
      empty [] e = refl
      empty (x ∷ xs) e = absurd (omega arith)

  not_closed : (front more : List ℕ) → front ++ more ≡ text → 1 ≤ length more → past_advice text ≡ past_advice front ++ more → Closes s (past_advice front) → ⊥
  not_closed front more whole some parts (before, trailer, front', last, (breaks, rest, all, befores, parted), last_spelled, tag, front_is) =
      let regrouped : past_advice text ≡ breaks ++ (rest ++ (last ++ more)) =
      parts ∙ ap (λ (t : List ℕ). t ++ more) (front_is ∙ ap (λ (t : List ℕ). t ++ last) parted)
      ∙ append_assoc (breaks ++ rest) last more ∙ append_assoc breaks rest (last ++ more) in
      let nothing = nothing_behind before trailer breaks rest last more all befores last_spelled tag regrouped in
      let gone : more ≡ [] = none_at_end front more (subst (λ t. interchange_of t ≡ t) (sym whole) stripped) (all_breaks more nothing) in
      let long : length more ≡ 0 = ap length gone in
      omega arith

  open_front : (front more : List ℕ) → front ++ more ≡ text → 1 ≤ length more → IsOpen front
  open_front front more whole some = elim (read_front front more (ap has_bad_advice whole ∙ is.good)) [
    | inl read ↦
        let service : service_at front ≡ s = read.service ∙ ap service_at whole in
        let parts : past_advice text ≡ past_advice front ++ more = ap past_advice (sym whole) ∙ read.past in
        let goes : GoesOn s (past_advice front) = (more, segments, subst (SegmentsBehindBreaks s segments) parts all_past) in
        let read_on : is_refused (position_of front) ≡ false =
        not_true (is_refused (position_of front)) (λ yes.
        (refused_where_nothing_goes_on (service_at front) (past_advice front)).0 (refused_is (position_of front) yes) (subst (λ s. GoesOn s (past_advice front)) (sym service) goes)) in
        let short : length front ≤ 1048576 = omega (arith, is.short, length-append front more, ap length whole) in
        let going : is_whole front ≡ false =
        not_true (is_whole front) (λ yes.
        not_closed front more whole some parts (subst (λ s. Closes s (past_advice front)) service ((closed_where_a_trailer_ends (service_at front) (past_advice front)).0 (closed_is (position_of front) yes)))) in
        (no_fault front short read.unbroken read_on, going)
    | inr open_ ↦ open_
  ]

  open_before : IsOpenBefore text
  open_before m low = open_front (take m text) (drop m text) (take-append-drop m text) (omega (arith, length-drop m text))

  one_interchange : IsInterchange text
  one_interchange = (
    no_fault text is.short (none_broken (begins_with_advice text) (nat_le 9 (length text)) (may_be_used (advised_characters text)) is.good) (ap is_refused closed),
    ap cuts.is_closed closed,
    open_before,
  )

pub faultless_is_interchange : FaultlessIsInterchange
faultless_is_interchange text is = one_interchange text is.no_fault is.stripped

nothing_is_none : IsInterchange [] → ⊥
nothing_is_none (good, whole, before) = let wrong : true ≡ false = sym whole ∙ nothing_open in cc

none_in_nothing : HasNone []
none_in_nothing zero is = nothing_is_none is
none_in_nothing (suc n) is = nothing_is_none is

front_unbroken : (text behind : List ℕ) → IsInterchange text → breaks_len text ≡ 0 → without_breaks (text ++ behind) ≡ text ++ behind
front_unbroken [] behind is none = absurd (nothing_is_none is)
front_unbroken (b ∷ text) behind is none = on (is_break b) none
  where
    on : (v : Bool) → cond v (suc (breaks_len text)) 0 ≡ 0 → drop (cond v (suc (breaks_len (text ++ behind))) 0) (b ∷ text ++ behind) ≡ b ∷ text ++ behind
    on true e = cc
    on false e = refl

-- the lines, and the lines after an LF
record AreCutTwice (texts : List (List ℕ)) : Type 0 where
  at_once : AreCuts (lines_of texts) texts []
  behind_feed : AreCuts (line_feed ∷ lines_of texts) texts []

cut_all : (texts : List (List ℕ)) → AllByRecursion IsFaultless texts → AreCutTwice texts
cut_all [] all = record { at_once = (refl, none_in_nothing); behind_feed = (refl, none_in_nothing) }
cut_all (text ∷ texts) (this, others) =
    let is = faultless_is_interchange text this in
    let later = (cut_all texts others).behind_feed in
    let whole : lines_of (text ∷ texts) ≡ text ++ line_feed ∷ lines_of texts = append_assoc text (line_feed ∷ []) (lines_of texts) in
    let begins : without_breaks (lines_of (text ∷ texts)) ≡ text ++ line_feed ∷ lines_of texts =
    ap without_breaks whole ∙ front_unbroken text (line_feed ∷ lines_of texts) is (begins_unbroken text this.stripped) in
    record {
      at_once = (line_feed ∷ lines_of texts, is, begins, later);
      behind_feed = (line_feed ∷ lines_of texts, is, begins, later);
    }

pub lines_are_cut : LinesAreCut
lines_are_cut texts all = (cut_all texts (recursion_from_All IsFaultless texts all)).at_once

-- an admitted text has no syntax fault
admitted_faultless : (parties : Parties) (text : List ℕ) (found : ℕ × ℕ) → admission parties text ≡ Ok found → fault_of text ≡ None
admitted_faultless parties text found is = on (fault_of text) is
  where
    on : (o : Option SyntaxFault) → by_header parties (header_of (segments_in text)) o ≡ Ok found → o ≡ None
    on None e = refl
    on (Some fault) e = cc

entry_faultless : (content : SetupContent) (es : List Event) (d : Delivery) → IsEntry content es d → IsFaultless d.text
entry_faultless content es d entry = record {
  no_fault = admitted_faultless (parties_in (content_after content es)) d.text (d.partner, d.number) entry.admitted;
  stripped = entry.stripped;
}

all_faultless : (content : SetupContent) (es : List Event) → All IsFaultless (kept_texts content es)
all_faultless content es =
    All-map IsFaultless text_of (kept (deliveries_of content es))
    (All-weaker (IsEntry content es) (λ d. IsFaultless (text_of d)) (entry_faultless content es) (kept (deliveries_of content es)) (kept_texts_are_entries content es))

pub journal_is_cut : JournalIsCut
journal_is_cut content es from count =
    lines_are_cut (take count (drop from (kept_texts content es)))
    (All-take IsFaultless count (drop from (kept_texts content es)) (All-drop IsFaultless from (kept_texts content es) (all_faultless content es)))
