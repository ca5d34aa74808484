-- Bytes that come after nine of an interchange: no advice can begin any more.
use Rattle.std.proofs.Common.{◌≡◌, ℕ, zero, suc, ◌+◌, ◌-◌, ◌<◌, ◌≤◌, Bool, true, false, cond, ◌&&◌, nat_lt, min, List, [], ◌∷◌, ◌++◌, length, take, Some, None, refl, sym, ap, subst, ◌∙◌, inl, inr, append_assoc, arith, drop}
use Rattle.std.proofs.{lemmas.Bool.{cases_Bool, true≢false, ltb-true, ltb-false, lt-leb, lt-ltb, le-ltb, false≢true}, Math.Seq.take-append-add}
use Rattle.std.proofs.lemmas.List.{append-nil, take-append-le, take-take, length-append, length-take, length-take-le, take_all, take_at, take-append-drop, append_cancel_left}
use Rattle.edi_syntax.specs.{Characters.{is_break, begins_with_advice}, Reading.breaks_len, Advice.{service_at, without_breaks}}
use Rattle.edi_syntax.specs.{declared.characters.Service.Service, Positions.{position_after, is_refused, stops, ReadsTo}, declared.position.Position.Position}
use Rattle.edi_syntax.specs.Cuts.{is_in_advice, breaks_advice, position_of, is_closed, fault_of, is_whole, IsOpen, IsOpenBefore, IsPending, Cutting, pending_bytes, interchange, IsInterchange}
use Rattle.edi_syntax.specs.{Steps.{Holds, IsReadOn, IsRefusedBehind}, declared.position.Position.TheVariants.{Between, First, Second, Tagged, Inside, Refused}}
use Rattle.edi_syntax.specs.{declared.position.Reading.Reading, declared.cutter.CutFault.TheVariants.{TooLong, Service as ServiceFault, Segment}}
use Rattle.edi_syntax.specs.Streams.{HasNone, AreCuts, Feeds, FeedsAll, stream_of, CutsTheStream, CutsAreOne}
use Rattle.edi_syntax.proofs.CutLemmas.{no_fault, grows, nothing_open, first_is_one}
use Rattle.edi_syntax.specs.Positions as positions

-- ---- more bytes

pub record Grown (text bytes : List ℕ) : Type 0 where
  pub service : service_at (text ++ bytes) ≡ service_at text
  pub position : position_of (text ++ bytes) ≡ position_after (service_at text) (position_of text) bytes
  pub breaks : breaks_advice (text ++ bytes) ≡ breaks_advice text

never_both : (b : Bool) → b && false ≡ false
never_both true = refl
never_both false = refl

outside_advice : (text : List ℕ) → 9 < length text → is_in_advice text ≡ false
outside_advice text past = ap (λ (b : Bool). begins_with_advice text && b) (lt-leb (length text) 9 past) ∙ never_both (begins_with_advice text)

pub grown : (text bytes : List ℕ) → 9 ≤ length text → Grown text bytes
unfolding positions.position_after
grown text [] past = record {
  service = ap service_at (append-nil text);
  position = ap position_of (append-nil text);
  breaks = ap breaks_advice (append-nil text);
}
grown text (b ∷ bytes) past =
    let one = grows text b (outside_advice (text ++ b ∷ []) (omega (arith, past, length-append text (b ∷ [])))) in
    let rest = grown (text ++ b ∷ []) bytes (omega (arith, past, length-append text (b ∷ []))) in
    let same = append_assoc text (b ∷ []) bytes in
    record {
      service = ap service_at (sym same) ∙ rest.service ∙ one.service;
      position = ap position_of (sym same) ∙ rest.position ∙ ap (λ (s : Service). position_after s (position_of (text ++ b ∷ [])) bytes) one.service
          ∙ ap (λ (p : Position). position_after (service_at text) p bytes) one.position;
      breaks = ap breaks_advice (sym same) ∙ rest.breaks ∙ one.breaks;
    }

pub not_refused : (p : Position) → stops p ≡ false → is_refused p ≡ false
not_refused (Between closed) h = refl
not_refused (First closes) h = refl
not_refused (Second closes) h = refl
not_refused (Tagged closes) h = refl
not_refused (Inside released closes) h = refl
not_refused Refused h = absurd (true≢false h)

not_closed : (p : Position) → stops p ≡ false → is_closed p ≡ false
not_closed (Between closed) h = h
not_closed (First closes) h = refl
not_closed (Second closes) h = refl
not_closed (Tagged closes) h = refl
not_closed (Inside released closes) h = refl
not_closed Refused h = refl

pub going : (p : Position) → is_refused p ≡ false → is_closed p ≡ false → stops p ≡ false
going (Between closed) none open_ = open_
going (First closes) none open_ = refl
going (Second closes) none open_ = refl
going (Tagged closes) none open_ = refl
going (Inside released closes) none open_ = refl
going Refused none open_ = none

-- ---- what is held, and what was read of a piece after it

pub record Scanned (text : List ℕ) (reading : Reading) (piece : List ℕ) (room used : ℕ) (position : Position) : Type 0 where
  pub holds : Holds text reading
  pub pends : IsPending text
  pub past : 9 ≤ length text
  pub left : room ≡ 1048576 - length text
  pub short : length text ≤ 1048576
  pub reads : ReadsTo reading.service reading.position (take (min (length piece) room) piece) used position

position_at : (text : List ℕ) (reading : Reading) (bytes : List ℕ) → Holds text reading → 9 ≤ length text → position_of (text ++ bytes) ≡ position_after reading.service reading.position bytes
position_at text reading bytes h past =
    (grown text bytes past).position
    ∙ ap (λ (s : Service). position_after s (position_of text) bytes) (sym h.reads.0)
    ∙ ap (λ (p : Position). position_after reading.service p bytes) (sym h.reads.1)

breaks_at : (text : List ℕ) (reading : Reading) (bytes : List ℕ) → Holds text reading → 9 ≤ length text → breaks_advice (text ++ bytes) ≡ false
breaks_at text reading bytes h past = (grown text bytes past).breaks ∙ h.reads.2

none_at : (text : List ℕ) (reading : Reading) (bytes : List ℕ) → Holds text reading → 9 ≤ length text → length text + length bytes ≤ 1048576 → is_refused (position_after reading.service reading.position bytes) ≡ false → fault_of (text ++ bytes) ≡ None
none_at text reading bytes h past short none =
    no_fault (text ++ bytes) (omega (arith, short, length-append text bytes)) (breaks_at text reading bytes h past)
    (ap is_refused (position_at text reading bytes h past) ∙ none)

open_at : (text : List ℕ) (reading : Reading) (bytes : List ℕ) → Holds text reading → 9 ≤ length text → length text + length bytes ≤ 1048576 → stops (position_after reading.service reading.position bytes) ≡ false → IsOpen (text ++ bytes)
open_at text reading bytes h past short goes = (
  none_at text reading bytes h past short (not_refused (position_after reading.service reading.position bytes) goes),
  ap is_closed (position_at text reading bytes h past) ∙ not_closed (position_after reading.service reading.position bytes) goes,
)

open_before : (text : List ℕ) (reading : Reading) (piece : List ℕ) (n : ℕ) → Holds text reading → IsPending text → 9 ≤ length text → n ≤ length piece
    → ((m : ℕ) → m < n → (length text + m ≤ 1048576) × (stops (position_after reading.service reading.position (take m piece)) ≡ false))
    → IsOpenBefore (text ++ take n piece)
open_before text reading piece n h pends past within goes m less =
    elim (cases_Bool (nat_lt m (length text))) [
      | inl front ↦
          let inside = ltb-true m (length text) front in
          subst IsOpen (sym (take-append-le m text (take n piece) (omega (arith, inside)))) (pends.1 m inside)
      | inr behind ↦
          let (k, is) = difference (length text) m (ltb-false m (length text) behind) in
          let k_less : k < n = omega (arith, is, less, length-append text (take n piece), length-take-le n piece within) in
          let same : take m (text ++ take n piece) ≡ text ++ take k piece =
          ap (λ (i : ℕ). take i (text ++ take n piece)) is ∙ take-append-add text (take n piece) k ∙ ap (λ (t : List ℕ). text ++ t) (take-take k n piece (omega (arith, k_less))) in
          let (short, goes_on) = goes k k_less in
          subst IsOpen (sym same) (open_at text reading (take k piece) h past (omega (arith, short, length-take-le k piece (omega (arith, k_less, within)))) goes_on)
    ]
  where
    difference : (k m : ℕ) → k ≤ m → (j : ℕ) × (m ≡ k + j)
    difference zero m h = (m, omega arith)
    difference (suc k) zero h = absurd (omega (arith, h))
    difference (suc k) (suc m) h = let (j, is) = difference k m (omega (arith, h)) in (j, omega (arith, is))

-- ---- the ends of a piece

used_within : (text : List ℕ) (reading : Reading) (piece : List ℕ) (room used : ℕ) (position : Position) → Scanned text reading piece room used position → (used ≤ length piece) × (used ≤ room)
used_within text reading piece room used position s =
    let w = s.reads.reads.within in (omega (arith, w, length-take (min (length piece) room) piece), omega (arith, w, length-take (min (length piece) room) piece))

taken : (text : List ℕ) (reading : Reading) (piece : List ℕ) (room used : ℕ) (position : Position) → Scanned text reading piece room used position → (m : ℕ) → m ≤ used → take m (take (min (length piece) room) piece) ≡ take m piece
taken text reading piece room used position s m h =
    let (a, b) = used_within text reading piece room used position s in take-take m (min (length piece) room) piece (omega (arith, h, a, b))

-- as far as was read, no position stops, and the text is no longer than it may be
goes : (text : List ℕ) (reading : Reading) (piece : List ℕ) (room used : ℕ) (position : Position) → Scanned text reading piece room used position → (m : ℕ) → m < used → (length text + m ≤ 1048576) × (stops (position_after reading.service reading.position (take m piece)) ≡ false)
goes text reading piece room used position s m h =
    let (a, b) = used_within text reading piece room used position s in (
      omega (arith, h, b, s.left, s.short),
      ap (λ (t : List ℕ). stops (position_after reading.service reading.position t)) (sym (taken text reading piece room used position s m (omega (arith, h)))) ∙ s.reads.reads.before m h,
    )

leads : (text : List ℕ) (reading : Reading) (piece : List ℕ) (room used : ℕ) (position : Position) → Scanned text reading piece room used position → position ≡ position_after reading.service reading.position (take used piece)
leads text reading piece room used position s =
    s.reads.reads.leads ∙ ap (position_after reading.service reading.position) (taken text reading piece room used position s used (omega arith))

short_enough : (text : List ℕ) (reading : Reading) (piece : List ℕ) (room used : ℕ) (position : Position) → Scanned text reading piece room used position → length text + length (take used piece) ≤ 1048576
short_enough text reading piece room used position s =
    let (a, b) = used_within text reading piece room used position s in omega (arith, b, s.left, s.short, length-take-le used piece a)

before_used : (text : List ℕ) (reading : Reading) (piece : List ℕ) (room used : ℕ) (position : Position) → Scanned text reading piece room used position → IsOpenBefore (text ++ take used piece)
before_used text reading piece room used position s =
    let (a, b) = used_within text reading piece room used position s in
    open_before text reading piece used s.holds s.pends s.past a (goes text reading piece room used position s)

-- what is held with what was read
pub holds_used : (text : List ℕ) (reading : Reading) (piece : List ℕ) (room used : ℕ) (position : Position) → Scanned text reading piece room used position → is_refused position ≡ false → Holds (text ++ take used piece) record { service = reading.service; position = position }
holds_used text reading piece room used position s none =
    let is = leads text reading piece room used position s in
    record {
      reads = (
        s.holds.reads.0 ∙ sym (grown text (take used piece) s.past).service,
        is ∙ sym (position_at text reading (take used piece) s.holds s.past),
        breaks_at text reading (take used piece) s.holds s.past,
      );
      front = front text (take used piece) s.holds.front s.past;
      before = before_used text reading piece room used position s;
      none = none_at text reading (take used piece) s.holds s.past (short_enough text reading piece room used position s) (ap is_refused (sym is) ∙ none);
    }
  where
    no_break : (b : Bool) (n : ℕ) → cond b (suc n) 0 ≡ 0 → b ≡ false
    no_break true n h = absurd (omega (arith, h))
    no_break false n h = refl

    front : (text bytes : List ℕ) → breaks_len text ≡ 0 → 9 ≤ length text → breaks_len (text ++ bytes) ≡ 0
    front [] bytes h past = absurd (omega (arith, past))
    front (a ∷ text) bytes h past = rw (no_break (is_break a) (breaks_len text) h) refl

-- no segments go on so
pub refuses_behind : (text : List ℕ) (reading : Reading) (piece : List ℕ) (room used : ℕ) (position : Position) → Scanned text reading piece room used position → is_refused position ≡ true → IsRefusedBehind text piece Segment
refuses_behind text reading piece room used position s refused =
    let (a, b) = used_within text reading piece room used position s in
    let lead = leads text reading piece room used position s in
    let bytes = take used piece in
    let faulty : fault_of (text ++ bytes) ≡ Some Segment =
    refused_fault (text ++ bytes) (omega (arith, short_enough text reading piece room used position s, length-append text bytes)) (breaks_at text reading bytes s.holds s.past)
    (ap is_refused (position_at text reading bytes s.holds s.past ∙ sym lead) ∙ refused) in
    (used, a, (faulty, before_used text reading piece room used position s))
  where
    refused_fault : (t : List ℕ) → length t ≤ 1048576 → breaks_advice t ≡ false → is_refused (position_of t) ≡ true → fault_of t ≡ Some Segment
    refused_fault t short unbroken refused = rw (le-ltb 1048576 (length t) short, unbroken, refused) refl

-- all was read that may be
used_up : (text : List ℕ) (reading : Reading) (piece : List ℕ) (room used : ℕ) (position : Position) → Scanned text reading piece room used position → stops position ≡ false → length piece ≤ room → used ≡ length piece
used_up text reading piece room used position s goes_on all = s.reads.all goes_on ∙ length-take (min (length piece) room) piece ∙ omega (arith, all)

-- one byte too many
pub too_long_behind : (text : List ℕ) (reading : Reading) (piece : List ℕ) (room used : ℕ) (position : Position) → Scanned text reading piece room used position → stops position ≡ false → room < length piece → IsRefusedBehind text piece TooLong
too_long_behind text reading piece room used position s goes_on more =
    let used_all : used ≡ room = s.reads.all goes_on ∙ length-take (min (length piece) room) piece ∙ omega (arith, more) in
    let n = used + 1 in
    let within : n ≤ length piece = omega (arith, used_all, more) in
    let lead = leads text reading piece room used position s in
    let bytes = take n piece in
    let long : 1048576 < length (text ++ bytes) = omega (arith, used_all, s.left, s.short, length-append text bytes, length-take-le n piece within) in
    let faulty : fault_of (text ++ bytes) ≡ Some TooLong = rw (lt-ltb 1048576 (length (text ++ bytes)) long) refl in
    let before : IsOpenBefore (text ++ bytes) = open_before text reading piece n s.holds s.pends s.past within
    (λ m h. elim (cases_Bool (nat_lt m used)) [
      | inl less ↦ goes text reading piece room used position s m (ltb-true m used less)
      | inr last ↦
          let same : m ≡ used = omega (arith, h, ltb-false m used last) in (
            omega (arith, same, used_all, s.left, s.short),
            ap (λ (i : ℕ). stops (position_after reading.service reading.position (take i piece))) same ∙ ap stops (sym lead) ∙ goes_on,
          )
    ]) in
    (n, within, (faulty, before))

-- the piece was read as far as an end, or it is used up
pub reads_on_behind : (text : List ℕ) (reading : Reading) (piece : List ℕ) (room used : ℕ) (position : Position) → Scanned text reading piece room used position → is_refused position ≡ false → (stops position ≡ false → length piece ≤ room)
    → IsReadOn text piece used record { service = reading.service; position = position }
reads_on_behind text reading piece room used position s none all =
    let holds = holds_used text reading piece room used position s none in
    record {
      within = (used_within text reading piece room used position s).0;
      holds = holds;
      all = λ open_. let goes_on = going position none (ap is_closed holds.reads.1 ∙ open_) in used_up text reading piece room used position s goes_on (all goes_on);
    }

-- ---- what is known without a fault

pub sound_so_far : (text : List ℕ) → fault_of text ≡ None → (length text ≤ 1048576) × (is_refused (position_of text) ≡ false)
sound_so_far text h = parts (nat_lt 1048576 (length text)) (breaks_advice text) (is_refused (position_of text)) h (λ is. ltb-false 1048576 (length text) is)
  where
    parts : (a b c : Bool) → cond a (Some TooLong) (cond b (Some ServiceFault) (cond c (Some Segment) None)) ≡ None → (a ≡ false → length text ≤ 1048576) → (length text ≤ 1048576) × (c ≡ false)
    parts true b c e f = absurd cc
    parts false true c e f = absurd cc
    parts false false true e f = absurd cc
    parts false false false e f = (f refl, refl)

pub pends_of : (text : List ℕ) (reading : Reading) → Holds text reading → is_whole text ≡ false → IsPending text
pends_of text reading holds open_ = ((holds.none, open_), holds.before)

pub scanned_of : (text : List ℕ) (reading : Reading) (piece : List ℕ) (count used : ℕ) (position : Position) → Holds text reading → is_whole text ≡ false → 9 ≤ length text
    → count ≡ min (length piece) (1048576 - length text) → ReadsTo reading.service reading.position (take count piece) used position
    → Scanned text reading piece (1048576 - length text) used position
scanned_of text reading piece count used position holds open_ past count_is reads = record {
  holds = holds;
  pends = pends_of text reading holds open_;
  past = past;
  left = refl;
  short = (sound_so_far text holds.none).0;
  reads = subst (λ (n : ℕ). ReadsTo reading.service reading.position (take n piece) used position) count_is reads;
}

pub room_lacks : (text : List ℕ) (reading : Reading) (piece : List ℕ) (room used count : ℕ) (position : Position) → Scanned text reading piece room used position → count ≡ min (length piece) room → length (take count piece) < length piece → room < length piece
room_lacks text reading piece room used count position s is less = omega (arith, less, is, length-take count piece)

pub room_is_there : (text : List ℕ) (reading : Reading) (piece : List ℕ) (room used count : ℕ) (position : Position) → Scanned text reading piece room used position → count ≡ min (length piece) room → length piece ≤ length (take count piece) → length piece ≤ room
room_is_there text reading piece room used count position s is more = omega (arith, more, is, length-take count piece)

pub reading_goes : (text : List ℕ) (reading : Reading) → Holds text reading → is_whole text ≡ false → stops reading.position ≡ false
reading_goes text reading holds open_ =
    going reading.position (ap is_refused holds.reads.1 ∙ (sound_so_far text holds.none).1) (ap is_closed holds.reads.1 ∙ open_)

-- ==== StreamLemmas: The interchanges of a stream, however it is cut into pieces.

-- ---- line breaks at the front

pub none_left : (bytes : List ℕ) → breaks_len (without_breaks bytes) ≡ 0
none_left [] = refl
none_left (b ∷ bytes) =
    elim (cases_Bool (is_break b)) [
      | inl is ↦ rw is (none_left bytes)
      | inr other ↦ rw other (rw other refl)
    ]

without_none : (bytes : List ℕ) → breaks_len bytes ≡ 0 → without_breaks bytes ≡ bytes
without_none bytes none = ap (λ (n : ℕ). drop n bytes) none

-- after the first byte that is no line break
without_more : (front behind : List ℕ) → (without_breaks front ≡ [] → ⊥) → without_breaks (front ++ behind) ≡ without_breaks front ++ behind
without_more [] behind some = absurd (some refl)
without_more (b ∷ front) behind some =
    elim (cases_Bool (is_break b)) [
      | inl is ↦
          let rest : without_breaks front ≡ [] → ⊥ = rw is at some in
          rw is (without_more front behind rest)
      | inr other ↦ rw other refl
    ]

-- line breaks at the front may be taken off before or after
pub without_first : (front behind : List ℕ) → without_breaks (front ++ behind) ≡ without_breaks (without_breaks front ++ behind)
without_first [] behind = refl
without_first (b ∷ front) behind =
    elim (cases_Bool (is_break b)) [
      | inl is ↦ rw is (without_first front behind)
      | inr other ↦ rw other (rw other refl)
    ]

-- ---- no interchange among pending bytes

open_is_none : (bytes : List ℕ) → IsOpen bytes → IsInterchange bytes → ⊥
open_is_none bytes (none, going) (good, whole, before) = false≢true (sym going ∙ whole)

has_none : (bytes : List ℕ) → IsPending bytes → HasNone bytes
has_none bytes (here, before) n is =
    elim (cases_Bool (nat_lt n (length bytes))) [
      | inl less ↦ open_is_none (take n bytes) (before n (ltb-true n (length bytes) less)) is
      | inr more ↦ open_is_none bytes here (subst IsInterchange (take_all n bytes (ltb-false n (length bytes) more)) is)
    ]

some_bytes : (bytes : List ℕ) → IsInterchange bytes → bytes ≡ [] → ⊥
some_bytes bytes (good, whole, before) none = false≢true (sym nothing_open ∙ ap is_whole (sym none) ∙ whole)

-- what is pending is a front of an interchange, without line breaks in front
record Pends (c : Cutting) : Type 0 where
  open_ : IsPending (pending_bytes c)
  front : breaks_len (pending_bytes c) ≡ 0

pending_is : (c : Cutting) (bytes : List ℕ) → c ≡ record { text = bytes; fault = None } → is_whole bytes ≡ false → pending_bytes c ≡ bytes
pending_is c bytes is going = ap pending_bytes is ∙ rw going refl

nothing_pending : (c : Cutting) (bytes : List ℕ) → c ≡ record { text = bytes; fault = None } → is_whole bytes ≡ true → pending_bytes c ≡ []
nothing_pending c bytes is whole = ap pending_bytes is ∙ rw whole refl

interchange_is : (c : Cutting) (bytes : List ℕ) → c ≡ record { text = bytes; fault = None } → is_whole bytes ≡ true → interchange c ≡ bytes
interchange_is c bytes is whole = ap interchange is ∙ rw whole refl

-- ---- one piece

feeds_cut : (interchanges : List (List ℕ)) (c new : Cutting) (piece : List ℕ) → Feeds c piece interchanges new → AreCuts (pending_bytes c ++ piece) interchanges (pending_bytes new) × Pends new
feeds_cut [] c new piece (pends, is) =
    let text : List ℕ = without_breaks (pending_bytes c ++ piece) in
    let same : pending_bytes new ≡ text = pending_is new text is pends.0.1 in
    let here : IsPending (pending_bytes new) = subst IsPending (sym same) pends in
    ((same, has_none (pending_bytes new) here), record { open_ = here; front = ap breaks_len same ∙ none_left (pending_bytes c ++ piece) })
feeds_cut (first ∷ others) c new piece (n, next, (some, within, done, is), first_is, rest) =
    let text : List ℕ = without_breaks (pending_bytes c ++ take n piece) in
    let later = feeds_cut others next new (drop n piece) rest in
    let first_text : first ≡ text = first_is ∙ interchange_is next text is done.1 in
    let nothing : pending_bytes next ≡ [] = nothing_pending next text is done.1 in
    let whole : without_breaks (pending_bytes c ++ piece) ≡ text ++ drop n piece =
    ap without_breaks (ap (λ (t : List ℕ). pending_bytes c ++ t) (sym (take-append-drop n piece)) ∙ sym (append_assoc (pending_bytes c) (take n piece) (drop n piece)))
    ∙ without_more (pending_bytes c ++ take n piece) (drop n piece) (some_bytes text done) in (
      (
        drop n piece,
        subst IsInterchange (sym first_text) done,
        whole ∙ ap (λ (t : List ℕ). t ++ drop n piece) (sym first_text),
        subst (λ (q : List ℕ). AreCuts (q ++ drop n piece) others (pending_bytes new)) nothing later.0,
      ),
      later.1,
    )

-- ---- one piece after the other

cuts_same : (stream stream' rest : List ℕ) (interchanges : List (List ℕ)) → without_breaks stream ≡ without_breaks stream' → AreCuts stream' interchanges rest → AreCuts stream interchanges rest
cuts_same stream stream' rest [] same (is, none) = (is ∙ sym same, none)
cuts_same stream stream' rest (first ∷ others) same (behind, is, whole, later) = (behind, is, same ∙ whole, later)

cuts_append : (here later : List (List ℕ)) (stream rest more end : List ℕ) → AreCuts stream here rest → AreCuts (rest ++ more) later end → AreCuts (stream ++ more) (here ++ later) end
cuts_append [] later stream rest more end (is, none) others =
    cuts_same (stream ++ more) (rest ++ more) end later (without_first stream more ∙ ap (λ (t : List ℕ). without_breaks (t ++ more)) (sym is)) others
cuts_append (first ∷ here) later stream rest more end (behind, is, whole, cuts) others =
    let some : without_breaks stream ≡ [] → ⊥ = λ none. some_bytes first is (no_front first behind (sym whole ∙ none)) in
    (behind ++ more, is, without_more stream more some ∙ ap (λ (t : List ℕ). t ++ more) whole ∙ append_assoc first behind more, cuts_append here later behind rest more end cuts others)
  where
    no_front : (a b : List ℕ) → a ++ b ≡ [] → a ≡ []
    no_front [] b e = refl
    no_front (x ∷ a) b e = absurd cc

feeds_all : (pieces interchanges : List (List ℕ)) (c new : Cutting) → Pends c → FeedsAll c pieces interchanges new → AreCuts (pending_bytes c ++ stream_of pieces) interchanges (pending_bytes new)
feeds_all [] interchanges c new pends (none, same) =
    let stays : pending_bytes new ≡ pending_bytes c = ap pending_bytes same in
    let rest : pending_bytes new ≡ without_breaks (pending_bytes c ++ []) = stays ∙ sym (without_none (pending_bytes c) pends.front) ∙ ap without_breaks (sym (append-nil (pending_bytes c))) in
    subst (λ (is : List (List ℕ)). AreCuts (pending_bytes c ++ []) is (pending_bytes new)) (sym none) (rest, has_none (pending_bytes new) (subst IsPending (sym stays) pends.open_))
feeds_all (piece ∷ pieces) interchanges c new pends (here, later, next, feeds, others, is) =
    let one = feeds_cut here c next piece feeds in
    let more = feeds_all pieces later next new one.1 others in
    let all = cuts_append here later (pending_bytes c ++ piece) (pending_bytes next) (stream_of pieces) (pending_bytes new) one.0 more in
    subst (λ (is : List (List ℕ)). AreCuts (pending_bytes c ++ (piece ++ stream_of pieces)) is (pending_bytes new)) (sym is)
    (subst (λ (t : List ℕ). AreCuts t (here ++ later) (pending_bytes new)) (append_assoc (pending_bytes c) piece (stream_of pieces)) all)

nothing_pends : IsPending []
unfolding position_after
nothing_pends = ((refl, refl), λ m h. absurd (omega (arith, h)))

starts_open : (c : Cutting) → pending_bytes c ≡ [] → Pends c
starts_open c none = record { open_ = subst IsPending (sym none) nothing_pends; front = ap breaks_len none }

pub cuts_the_stream : CutsTheStream
cuts_the_stream c new pieces interchanges none feeds =
    subst (λ (q : List ℕ). AreCuts (q ++ stream_of pieces) interchanges (pending_bytes new)) none (feeds_all pieces interchanges c new (starts_open c none) feeds)

-- ---- one list of interchanges

same_first : (bytes first behind first' behind' : List ℕ) → bytes ≡ first ++ behind → bytes ≡ first' ++ behind' → IsInterchange first → IsInterchange first' → first ≡ first'
same_first bytes first behind first' behind' e e' is is' =
    let front : take (length first) bytes ≡ first = ap (take (length first)) e ∙ take_at first behind (length first) refl in
    let front' : take (length first') bytes ≡ first' = ap (take (length first')) e' ∙ take_at first' behind' (length first') refl in
    let one = (first_is_one bytes (length first) (length first') (subst IsInterchange (sym front) is)).0 (subst IsInterchange (sym front') is') in
    sym front ∙ one ∙ front'

not_both : (stream rest first behind : List ℕ) → rest ≡ without_breaks stream → HasNone rest → IsInterchange first → without_breaks stream ≡ first ++ behind → ⊥
not_both stream rest first behind is none one whole =
    let front : take (length first) rest ≡ first = ap (take (length first)) (is ∙ whole) ∙ take_at first behind (length first) refl in
    none (length first) (subst IsInterchange (sym front) one)

pub cuts_are_one : CutsAreOne
cuts_are_one stream rest rest' [] [] (is, none) (is', none') = (refl, is ∙ sym is')
cuts_are_one stream rest rest' [] (first ∷ others) (is, none) (behind, one, whole, later) = absurd (not_both stream rest first behind is none one whole)
cuts_are_one stream rest rest' (first ∷ others) [] (behind, one, whole, later) (is, none) = absurd (not_both stream rest' first behind is none one whole)
cuts_are_one stream rest rest' (first ∷ others) (first' ∷ others') (behind, one, whole, later) (behind', one', whole', later') =
    let same : first ≡ first' = same_first (without_breaks stream) first behind first' behind' whole whole' one one' in
    let behind_same : behind ≡ behind' = append_cancel_left first behind behind' (sym whole ∙ whole' ∙ ap (λ (t : List ℕ). t ++ behind') (sym same)) in
    let more = cuts_are_one behind rest rest' others others' later (subst (λ (t : List ℕ). AreCuts t others' rest') (sym behind_same) later') in
    (ap (λ (t : List ℕ). t ∷ others) same ∙ ap (λ (t : List (List ℕ)). first' ∷ t) more.0, more.1)
