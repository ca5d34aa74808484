-- What comes later opens and closes no visit of an interchange that was taken.
use Rattle.std.{specs.{Option.{unwrap_or, option_or}, Prelude.{◌==◌, nat_le, slice_get, Contains}}, proofs.lemmas.List.{append-nil, length-map}}
use Rattle.std.proofs.Common.{◌≡◌, ◌⊎◌, ℕ, zero, suc, ◌+◌, ◌<◌, ◌≤◌, inl, inr, List, [], ◌∷◌, ◌++◌, length, map, Bool, true, false, cond, ◌&&◌, Option, None, Some, Ok, refl, sym, ap, subst, ◌∙◌, arith, append_assoc, ◌||◌, is_some}
use Rattle.std.proofs.lemmas.Bool.{and_parts, eqb-true, eq-eqb, false_from_ne_true, cases_lt}
use Rattle.edi_messages.specs.declared.codes.PartnerKind.{PartnerKind}
use Rattle.edi_syntax.specs.{Moments.CivilMoment, Interchange.segments_in, Text.Content, Envelope.{header_of, messages_of}, Header.preparation}
use Rattle.partner_core.specs.{ByPlace.{AreNumbered, taken_by_place}, Deliveries.{Delivery, first_text, is_used, run}, Machine.Taking, Numbered.with_number}
use Rattle.partner_core.specs.Order.{numbers_above, numbers_made_next, reply_of, text_under, state_after, state, order, reply_among}
use Rattle.partner_core.proofs.{Orders.{first-kept, some_of, run_grows, state-append, used_within_run, first-used, reply_of-append}, OnceEach.within_replied}
use Rattle.terminal_core.specs.{Rows.VisitContent, State.{TerminalState, empty_state}, Versions.newest, declared.change.Source.Source}
use Rattle.terminal_core.specs.{declared.change.Version.Version, declared.visits.Departure.Departure}
use Rattle.office_admission.specs.{Accounts.{AccountPair, accounts_with, content_with, content_after}, Admission.{admission, is_for, number_said}}
use Rattle.office_admission.specs.{Deliveries.deliveries_of, Setups.{SetupContent, parties_in}, TakingLaws.ChangesTerminalAlone}
use Rattle.office_admission.specs.Taking.{MachineState, messages_taken_by, codes_for, source_in, nothing_taken, reply_to, taken_at_by, taken_of_by, interchange_taken_by}
use Rattle.office_admission.proofs.Adding.{Grows, stayed, grew, grows, stays, content_on, deliveries_on, first_admitted}
use Rattle.office_replies.specs.Events.{Event, delivered, migrated, added}
use Rattle.office_history.specs.{After.{with_earlier_event, migration_in, taking_by, taking_in, opening_of, machine_after, AreAfter}, Laws.HasNoMigration}
use Rattle.office_history.proofs.{Places.{TakesAlike, reply_alike, state_alike, placed, in_force, numbered, alone_in}, Accounted.within}
use Rattle.office_archives.specs.{Visits.{visits_by, visit_by, IsWithin, HasLeftWithin}, Laws.{LaterLeaveVisits, VisitsAreOfTaken, LaterKeepNumbers}}
use Rattle.office_archives.proofs.Sources.{IsAnother, interchange_keeps, by_cons}
use Rattle.office_rows.specs.Rows.{Rows}
use Rattle.office_reports.specs.Tickets.{is_source, is_opened_by, exit_moment_by, is_told_by}
use Rattle.office_parts.proofs.{Takings.visits_same, Splits.{Has, has_contained}}
use Rattle.std.specs.FinMap as finite_map

-- ---- what becomes next is another interchange

abbrev pub visits_told : Source → MachineState → List VisitContent
visits_told mine machine = visits_by mine machine.terminal.visits

-- rules by which another interchange leaves the visits of this one as they are
abbrev pub LeavesVisits : Source → Taking MachineState → Type 0
LeavesVisits mine taken =
    (machine : MachineState) (partner : ℕ) (text : List ℕ) → IsAnother mine partner text → visits_told mine (taken machine partner text).0 ≡ visits_told mine machine

pub rules_leave : (mine : Source) (content : SetupContent) (es : List Event) → LeavesVisits mine (taking_in newest content es)
rules_leave mine content es =
    in_force (LeavesVisits mine) (λ version. interchange_keeps version mine)
    (λ before old new one two machine p text another. placed (λ taken. visits_told mine taken.0 ≡ visits_told mine machine) before old new machine p text (one machine p text another) (two machine p text another)) newest content es

module _ (mine : Source) where
  abbrev AreOthers : (ℕ → ℕ → List ℕ) → List (ℕ × ℕ) → Type 0
  AreOthers texts [] = Unit {0}
  AreOthers texts (e ∷ numbers) = IsAnother mine e.0 (texts e.0 e.1) × AreOthers texts numbers

  others_leave : (taken : Taking MachineState) → LeavesVisits mine taken → (texts : ℕ → ℕ → List ℕ) (numbers : List (ℕ × ℕ)) (machine : MachineState) → AreOthers texts numbers
      → visits_told mine (state_after taken texts numbers machine) ≡ visits_told mine machine
  others_leave taken leaves texts [] machine others = refl
  others_leave taken leaves texts (e ∷ numbers) machine others =
      others_leave taken leaves texts numbers (taken machine e.0 (texts e.0 e.1)).0 others.1 ∙ leaves machine e.0 (texts e.0 e.1) others.0

  other_pair : (p k : ℕ) → (p ≡ mine.partner → k ≡ mine.number → ⊥) → ((p == mine.partner) && (k == mine.number)) ≡ false
  other_pair p k apart = false_from_ne_true ((p == mine.partner) && (k == mine.number)) (λ e.
      let parts = and_parts (p == mine.partner) (k == mine.number) e in
      apart (eqb-true p mine.partner parts.0) (eqb-true k mine.number parts.1))

  other_text : (ds : List Delivery) (p k : ℕ) → AreNumbered number_said ds → is_used ds p k ≡ true → (p ≡ mine.partner → k ≡ mine.number → ⊥) → IsAnother mine p (text_under ds p k)
  other_text ds p k numbers used apart =
      let first = some_of (first_text ds p k) used in
      let said : number_said (text_under ds p k) ≡ k = ap (λ o. number_said (unwrap_or o [])) first.1 ∙ numbers p k first.0 first.1 in
      ap (λ n. (p == mine.partner) && (n == mine.number)) said ∙ other_pair p k apart

  others_above : (ds : List Delivery) (p low count : ℕ) → AreNumbered number_said ds → ((k : ℕ) → low < k → k ≤ low + count → is_used ds p k ≡ true)
      → ((k : ℕ) → low < k → k ≤ low + count → p ≡ mine.partner → k ≡ mine.number → ⊥) → AreOthers (text_under ds) (numbers_above p low count)
  others_above ds p low zero numbers used apart = tt
  others_above ds p low (suc count) numbers used apart = (
    other_text ds p (low + 1) numbers (used (low + 1) (omega arith) (omega arith)) (apart (low + 1) (omega arith) (omega arith)),
    others_above ds p (low + 1) count numbers (λ k a b. used k (omega arith) (omega arith)) (λ k a b. apart k (omega arith) (omega arith)),
  )

  -- the interchange was taken before, or is not taken yet
  abbrev pub IsOutside : (before later : List Delivery) → Type 0
  IsOutside before later = (mine.number ≤ run before mine.partner) ⊎ (run (before ++ later) mine.partner < mine.number)

  made_outside : (before : List Delivery) (d : Delivery) → IsOutside before (d ∷ []) → (k : ℕ) → run before d.partner < k → k ≤ run (before ++ d ∷ []) d.partner → d.partner ≡ mine.partner → k ≡ mine.number → ⊥
  made_outside before d (inl taken) k above upto own is =
      let low : run before d.partner ≡ run before mine.partner = ap (run before) own in
      omega (arith, taken, above, is, low)
  made_outside before d (inr later) k above upto own is =
      let high : run (before ++ d ∷ []) d.partner ≡ run (before ++ d ∷ []) mine.partner = ap (run (before ++ d ∷ [])) own in
      omega (arith, later, upto, is, high)

  others_made : (before : List Delivery) (d : Delivery) → AreNumbered number_said (before ++ d ∷ []) → IsOutside before (d ∷ []) → AreOthers (text_under (before ++ d ∷ [])) (numbers_made_next before d)
  unfolding numbers_made_next
  others_made before d numbers outside =
      let grown : run before d.partner ≤ run (before ++ d ∷ []) d.partner = run_grows before (d ∷ []) d.partner in
      others_above (before ++ d ∷ []) d.partner _ _ numbers (λ k a b. used_within_run (before ++ d ∷ []) d.partner k (omega arith) (omega (arith, grown)))
      (λ k a b. made_outside before d outside k a (omega (arith, grown)))

  numbered_front : (ds es : List Delivery) → AreNumbered number_said (ds ++ es) → AreNumbered number_said ds
  numbered_front ds es numbers p k text first = numbers p k text (first-kept ds es p k text first)

  outside_first : (before : List Delivery) (d : Delivery) (later : List Delivery) → IsOutside before (d ∷ later) → IsOutside before (d ∷ [])
  outside_first before d later (inl taken) = inl taken
  outside_first before d later (inr beyond) =
      let grown : run (before ++ d ∷ []) mine.partner ≤ run ((before ++ d ∷ []) ++ later) mine.partner = run_grows (before ++ d ∷ []) later mine.partner in
      let same : run ((before ++ d ∷ []) ++ later) mine.partner ≡ run (before ++ d ∷ later) mine.partner = ap (λ l. run l mine.partner) (append_assoc before (d ∷ []) later) in
      inr (omega (arith, grown, same, beyond))

  outside_rest : (before : List Delivery) (d : Delivery) (later : List Delivery) → IsOutside before (d ∷ later) → IsOutside (before ++ d ∷ []) later
  outside_rest before d later (inl taken) =
      let grown : run before mine.partner ≤ run (before ++ d ∷ []) mine.partner = run_grows before (d ∷ []) mine.partner in
      inl (omega (arith, grown, taken))
  outside_rest before d later (inr beyond) = inr (subst (λ l. run l mine.partner < mine.number) (sym (append_assoc before (d ∷ []) later)) beyond)

  pub deliveries_leave : (taken : Taking MachineState) → LeavesVisits mine taken → (opening : MachineState) (before later : List Delivery) → AreNumbered number_said (before ++ later) → IsOutside before later
      → visits_told mine (state taken opening (before ++ later)) ≡ visits_told mine (state taken opening before)
  deliveries_leave taken leaves opening before [] numbers outside = ap (λ l. visits_told mine (state taken opening l)) (append-nil before)
  deliveries_leave taken leaves opening before (d ∷ later) numbers outside =
      let one : List Delivery = before ++ d ∷ [] in
      let same : one ++ later ≡ before ++ d ∷ later = append_assoc before (d ∷ []) later in
      let all : AreNumbered number_said (one ++ later) = subst (AreNumbered number_said) (sym same) numbers in
      ap (λ l. visits_told mine (state taken opening l)) (sym same)
      ∙ deliveries_leave taken leaves opening one later all (outside_rest before d later outside)
      ∙ ap (visits_told mine) (state-append taken opening before d)
      ∙ others_leave taken leaves (text_under one) (numbers_made_next before d) (state taken opening before)
      (others_made before d (numbered_front one later all) (outside_first before d later outside))

-- ---- accounts that were added later

-- the accounts of now are those of then and some more, and the codes are the same
pub record HasMore (then now : SetupContent) : Type 0 where
  pub more : List AccountPair
  pub partners : now.partners ≡ then.partners ++ more
  pub codes : now.codes ≡ then.codes
  pub blocks : now.blocks ≡ then.blocks
  pub limit : now.visit_limit ≡ then.visit_limit

has_added : (content : SetupContent) (code kind : List ℕ) (now : SetupContent) → Grows content.partners (accounts_with content.partners code kind) code kind → HasMore (content_with content (added code kind)) now → HasMore content now
has_added content code kind now (stayed same) rest = record { more = rest.more; partners = rest.partners ∙ ap (λ l. l ++ rest.more) same; codes = rest.codes; blocks = rest.blocks; limit = rest.limit }
has_added content code kind now (grew id own new same) rest = record {
  more = (code, own) ∷ rest.more;
  partners = rest.partners ∙ ap (λ l. l ++ rest.more) same ∙ append_assoc content.partners ((code, own) ∷ []) rest.more;
  codes = rest.codes;
  blocks = rest.blocks;
  limit = rest.limit;
}

pub has_more : (events : List Event) (content : SetupContent) → HasMore content (content_after content events)
has_more [] content = record { more = []; partners = sym (append-nil content.partners); codes = refl; blocks = refl; limit = refl }
has_more (delivered text ∷ events) content = has_more events content
has_more (migrated version ∷ events) content = has_more events content
has_more (added code kind ∷ events) content = has_added content code kind (content_after (content_with content (added code kind)) events) (grows content.partners code kind) (has_more events (content_with content (added code kind)))

abbrev kinds_of : List AccountPair → List PartnerKind
kinds_of accounts = map (λ (account : AccountPair). account.1) accounts

front_at : (accounts more : List AccountPair) (i : ℕ) → i < length accounts → slice_get (kinds_of (accounts ++ more)) i ≡ slice_get (kinds_of accounts) i
front_at [] more i low = absurd (omega arith)
front_at (account ∷ accounts) more zero low = refl
front_at (account ∷ accounts) more (suc i) low = front_at accounts more i (omega arith)

kind_at : (accounts more : List AccountPair) (p : ℕ) → p ≤ length accounts → with_number (kinds_of (accounts ++ more)) p ≡ with_number (kinds_of accounts) p
kind_at accounts more zero low = refl
kind_at accounts more (suc i) low = front_at accounts more i (omega arith)

-- the same terminal is left, and the same is replied
record IsSameTaken (one other : MachineState × List ℕ) : Type 0 where
  terminal : one.0.terminal ≡ other.0.terminal
  reply : one.1 ≡ other.1

at_same : (version : Version) (one other : MachineState) (p : ℕ) (kind : PartnerKind) (segments : List Content) (opened : Option CivilMoment) → one.terminal ≡ other.terminal → one.codes ≡ other.codes
    → IsSameTaken (taken_at_by version one p kind segments opened) (taken_at_by version other p kind segments opened)
at_same version one other p kind segments None terminal codes = record { terminal = terminal; reply = refl }
at_same version one other p kind segments (Some opened) terminal codes =
    let source : Source = source_in p (header_of segments) in
    let same : messages_taken_by version one.terminal (codes_for one kind) source opened (messages_of segments) ≡ messages_taken_by version other.terminal (codes_for other kind) source opened (messages_of segments) =
    λ i. messages_taken_by version (terminal i) (record { kind = kind; table = codes i }) source opened (messages_of segments) in
    record { terminal = ap (λ t. t.0) same; reply = ap (λ t. reply_to segments t.1) same }

of_same : (version : Version) (one other : MachineState) (p : ℕ) (segments : List Content) (kind : Option PartnerKind) → one.terminal ≡ other.terminal → one.codes ≡ other.codes
    → IsSameTaken (taken_of_by version one p segments kind) (taken_of_by version other p segments kind)
of_same version one other p segments None terminal codes = record { terminal = terminal; reply = refl }
of_same version one other p segments (Some kind) terminal codes = at_same version one other p kind segments (preparation (header_of segments)) terminal codes

if_same : (is its : Bool) (one other none none' : MachineState × List ℕ) → is ≡ true → its ≡ true → IsSameTaken one other → IsSameTaken (cond is one none) (cond its other none')
if_same true true one other none none' e f same = same
if_same true false one other none none' e f same = cc
if_same false its one other none none' e f same = cc

module _ (content : SetupContent) (later : List Event) where
  abbrev now : SetupContent
  now = content_after content later

  -- one machine is of now, the other of then, over the same terminal
  record IsLater (one other : MachineState) : Type 0 where
    terminal : one.terminal ≡ other.terminal
    codes : one.codes ≡ other.codes
    parties : one.parties ≡ parties_in now
    parties_then : other.parties ≡ parties_in content
    kinds : one.kinds ≡ kinds_of now.partners
    kinds_then : other.kinds ≡ kinds_of content.partners

  abbrev TakesLater : Taking MachineState → Type 0
  TakesLater taken = (one other : MachineState) (p k : ℕ) (text : List ℕ) → IsLater one other → admission (parties_in content) text ≡ Ok (p, k) → IsSameTaken (taken one p text) (taken other p text)

  kinds_same : (one other : MachineState) (p k : ℕ) (text : List ℕ) → IsLater one other → admission (parties_in content) text ≡ Ok (p, k) → with_number one.kinds p ≡ with_number other.kinds p
  kinds_same one other p k text is admitted =
      let more = has_more later content in
      let count : length (map (λ (account : AccountPair). account.0) content.partners) ≡ length content.partners = length-map content.partners _ in
      let low : p ≤ length (map (λ (account : AccountPair). account.0) content.partners) = (within (parties_in content) text p k admitted).1 in
      ap (λ l. with_number l p) (is.kinds ∙ ap kinds_of more.partners)
      ∙ kind_at content.partners more.more p (omega (arith, low, count))
      ∙ ap (λ l. with_number l p) (sym is.kinds_then)

  each_later : (version : Version) → TakesLater (interchange_taken_by version)
  each_later version one other p k text is admitted =
      let here : admission one.parties text ≡ Ok (p, k) = ap (λ parties. admission parties text) is.parties ∙ stays later content text (p, k) admitted in
      let there : admission other.parties text ≡ Ok (p, k) = ap (λ parties. admission parties text) is.parties_then ∙ admitted in
      if_same (is_for p (admission one.parties text)) (is_for p (admission other.parties text)) (taken_of_by version one p (segments_in text) (with_number one.kinds p)) (taken_of_by version other p (segments_in text) (with_number other.kinds p))
      (nothing_taken one) (nothing_taken other)
      (ap (is_for p) here ∙ eq-eqb p p refl) (ap (is_for p) there ∙ eq-eqb p p refl)
      (subst (λ kind. IsSameTaken (taken_of_by version one p (segments_in text) kind) (taken_of_by version other p (segments_in text) (with_number other.kinds p))) (sym (kinds_same one other p k text is admitted))
      (of_same version one other p (segments_in text) (with_number other.kinds p) is.terminal is.codes))

  either_later : (before : List Delivery) (old new : Taking MachineState) → TakesLater old → TakesLater new → TakesLater (taken_by_place number_said before old new)
  either_later before old new one_takes two_takes one other p k text is admitted = by (nat_le (number_said text) (run before p))
    where
      by : (is_old : Bool) → IsSameTaken (cond is_old (old one p text) (new one p text)) (cond is_old (old other p text) (new other p text))
      by true = one_takes one other p k text is admitted
      by false = two_takes one other p k text is admitted

  still_later : (taken : Taking MachineState) → ChangesTerminalAlone taken → TakesLater taken → (D : List Delivery) → ((p k : ℕ) (text : List ℕ) → first_text D p k ≡ Some text → admission (parties_in content) text ≡ Ok (p, k)) → TakesAlike taken IsLater D
  still_later taken alone takes D admitted one other p k text is first =
      let same = takes one other p k text is (admitted p k text first) in
      let here = alone one p text in
      let there = alone other p text in (
        record {
          terminal = same.terminal;
          codes = ap (λ (m : MachineState). m.codes) here ∙ is.codes ∙ sym (ap (λ (m : MachineState). m.codes) there);
          parties = ap (λ (m : MachineState). m.parties) here ∙ is.parties;
          parties_then = ap (λ (m : MachineState). m.parties) there ∙ is.parties_then;
          kinds = ap (λ (m : MachineState). m.kinds) here ∙ is.kinds;
          kinds_then = ap (λ (m : MachineState). m.kinds) there ∙ is.kinds_then;
        },
        same.reply,
      )

  opening_later : IsLater (opening_of now) (opening_of content)
  opening_later = record { terminal = ground_same; codes = (has_more later content).codes; parties = refl; parties_then = refl; kinds = refl; kinds_then = refl }
    where
      ground_same : (opening_of now).terminal ≡ (opening_of content).terminal
      ground_same = λ i. empty_state (record { plan = (has_more later content).blocks i; boxes = finite_map.empty }) ((has_more later content).limit i)

-- what was delivered by then leaves the same terminal and gets the same replies, whatever accounts were added later
module _ (content : SetupContent) (earlier later : List Event) where
  abbrev then : SetupContent
  then = content_after content earlier

  abbrev taking_then : Taking MachineState
  taking_then = taking_in newest content earlier

  alike : TakesAlike taking_then (IsLater then later) (deliveries_of content earlier)
  alike =
      still_later then later taking_then (alone_in newest content earlier) (in_force (TakesLater then later) (each_later then later) (either_later then later) newest content earlier)
      (deliveries_of content earlier) (λ p k text first. first_admitted earlier content p k text first)

  pub same_terminal : (state taking_then (opening_of (content_after then later)) (deliveries_of content earlier)).terminal ≡ (machine_after content earlier).terminal
  same_terminal = (state_alike taking_then (IsLater then later) (deliveries_of content earlier) alike (opening_of (content_after then later)) (opening_of then) (opening_later then later)).terminal

  pub same_reply : (p k : ℕ) → reply_of taking_then (opening_of (content_after then later)) (deliveries_of content earlier) p k ≡ reply_of taking_then (opening_of then) (deliveries_of content earlier) p k
  same_reply p k = reply_alike taking_then (IsLater then later) (deliveries_of content earlier) alike (opening_of (content_after then later)) (opening_of then) p k (opening_later then later)

-- ---- events

pub migration_on : (earlier later : List Event) → HasNoMigration later → migration_in (earlier ++ later) ≡ migration_in earlier
migration_on [] later none = none
migration_on (delivered text ∷ earlier) later none = ap (with_earlier_event (delivered text)) (migration_on earlier later none)
migration_on (migrated version ∷ earlier) later none = refl
migration_on (added code kind ∷ earlier) later none = ap (with_earlier_event (added code kind)) (migration_on earlier later none)

pub taking_on : (content : SetupContent) (earlier later : List Event) → HasNoMigration later → taking_in newest content (earlier ++ later) ≡ taking_in newest content earlier
unfolding taking_in
taking_on content earlier later none = ap (taking_by newest content) (migration_on earlier later none)

-- the visits of an interchange that was taken by then
pub later_leave : (mine : Source) (content : SetupContent) (earlier later : List Event) → HasNoMigration later → mine.number ≤ run (deliveries_of content earlier) mine.partner
    → visits_told mine (machine_after content (earlier ++ later)) ≡ visits_told mine (machine_after content earlier)
later_leave mine content earlier later none taken =
    let D : List Delivery = deliveries_of content earlier in
    let E : List Delivery = deliveries_of (content_after content earlier) later in
    let opening : MachineState = opening_of (content_after (content_after content earlier) later) in
    let all : deliveries_of content (earlier ++ later) ≡ D ++ E = deliveries_on earlier later content in
    let taking : Taking MachineState = taking_in newest content earlier in
    (λ i. visits_told mine (state (taking_on content earlier later none i) (opening_of (content_on earlier later content i)) (all i)))
    ∙ deliveries_leave mine taking (rules_leave mine content earlier) opening D E (subst (AreNumbered number_said) all (numbered content (earlier ++ later))) (inl taken)
    ∙ ap (λ (t : TerminalState). visits_by mine t.visits) (same_terminal content earlier later)

-- and of one that is not taken yet there is none
none_at_first : (mine : Source) (taken : Taking MachineState) (opening : MachineState) → opening.terminal.visits ≡ [] → visits_told mine (state taken opening []) ≡ []
unfolding state order
none_at_first mine taken opening none = ap (visits_by mine) none

pub untaken_none : (mine : Source) (content : SetupContent) (es : List Event) → (mine.number ≤ 0) ⊎ (run (deliveries_of content es) mine.partner < mine.number) → visits_told mine (machine_after content es) ≡ []
untaken_none mine content es outside =
    deliveries_leave mine (taking_in newest content es) (rules_leave mine content es) (opening_of (content_after content es)) [] (deliveries_of content es) (numbered content es) (at_start outside)
    ∙ none_at_first mine (taking_in newest content es) (opening_of (content_after content es)) refl
  where
    at_start : (mine.number ≤ 0) ⊎ (run (deliveries_of content es) mine.partner < mine.number) → IsOutside mine [] (deliveries_of content es)
    at_start (inl zero_) = inl (omega (arith, zero_))
    at_start (inr beyond) = inr beyond

-- ==== Told: Of which interchanges visits are reported.

-- ---- no visit of an interchange

none_told : (mine : Source) (visits : List VisitContent) (v : VisitContent) → visits_by mine visits ≡ [] → Has visits v → is_told_by mine v ≡ false
none_told mine [] v none has = absurd has
none_told mine (w ∷ visits) v none has = by (is_told_by mine w) refl (sym (by_cons mine w visits) ∙ none) has (none_told mine visits v)
  where
    by : (told : Bool) → is_told_by mine w ≡ told → cond told (visit_by mine w ∷ visits_by mine visits) (visits_by mine visits) ≡ [] → (w ≡ v) ⊎ Has visits v
        → (visits_by mine visits ≡ [] → Has visits v → is_told_by mine v ≡ false) → is_told_by mine v ≡ false
    by true e none has rest = cc
    by false e none (inl here) rest = ap (is_told_by mine) (sym here) ∙ e
    by false e none (inr later) rest = rest none later

pub is_itself : (source : Source) → is_source source source ≡ true
is_itself source = ap (λ b. b && (source.number == source.number)) (eq-eqb source.partner source.partner refl) ∙ eq-eqb source.number source.number refl

pub told_opened : (v : VisitContent) → is_told_by v.arrival.source v ≡ true
told_opened v = ap (λ b. b || is_some (exit_moment_by v.arrival.source v.departure)) (is_itself v.arrival.source)

or_true : (b : Bool) → (b || true) ≡ true
or_true true = refl
or_true false = refl

pub told_closed : (mine : Source) (v : VisitContent) (departure : Departure) → v.departure ≡ Some departure → is_source departure.source mine ≡ true → is_told_by mine v ≡ true
told_closed mine v departure is by =
    ap (λ o. is_opened_by mine v || is_some (exit_moment_by mine o)) is
    ∙ ap (λ b. is_opened_by mine v || is_some (cond b (Some departure.moment) None)) by
    ∙ or_true (is_opened_by mine v)

-- ---- visits are of interchanges that were taken

module _ (content : SetupContent) (es : List Event) (rows : Rows) (v : VisitContent) (after : AreAfter content es rows) (inside : Contains rows.visits v) where
  has_it : Has (machine_after content es).terminal.visits v
  has_it = has_contained (machine_after content es).terminal.visits v (subst (λ l. Contains l v) (visits_same content es rows after) inside)

  told_within : (mine : Source) → is_told_by mine v ≡ true → IsWithin (run (deliveries_of content es)) mine
  told_within mine told = (at_least, at_most)
    where
      never : (mine.number ≤ 0) ⊎ (run (deliveries_of content es) mine.partner < mine.number) → ⊥
      never outside =
          let none = none_told mine (machine_after content es).terminal.visits v (untaken_none mine content es outside) has_it in
          let bad : true ≡ false = sym told ∙ none in
          absurd cc

      at_least : 1 ≤ mine.number
      at_least = elim (cases_lt 0 mine.number) [ inl some ↦ omega (arith, some) | inr zero_ ↦ absurd (never (inl zero_)) ]

      at_most : mine.number ≤ run (deliveries_of content es) mine.partner
      at_most = elim (cases_lt (run (deliveries_of content es) mine.partner) mine.number) [ inl beyond ↦ absurd (never (inr beyond)) | inr upto ↦ upto ]

  left_within : (departure : Option Departure) → v.departure ≡ departure → HasLeftWithin (run (deliveries_of content es)) departure
  left_within None is = tt
  left_within (Some departure) is = told_within departure.source (told_closed departure.source v departure is (is_itself departure.source))

pub visits_of_taken : VisitsAreOfTaken
visits_of_taken content es rows v after inside = record {
  opened = told_within content es rows v after inside v.arrival.source (told_opened v);
  closed = left_within content es rows v after inside v.departure refl;
}

-- ---- what comes later

pub later_leave_visits : LaterLeaveVisits
later_leave_visits content earlier later before after source none are_before are_after taken =
    ap (visits_by source) (visits_same content (earlier ++ later) after are_after)
    ∙ later_leave source content earlier later none taken
    ∙ sym (ap (visits_by source) (visits_same content earlier before are_before))

-- ==== Kept: What was taken keeps its text and its reply.

reply_on : {S : Type 0} (taken : Taking S) (opening : S) (before later : List Delivery) (p n : ℕ) (reply : List ℕ) → reply_of taken opening before p n ≡ Some reply → reply_of taken opening (before ++ later) p n ≡ Some reply
reply_on taken opening before [] p n reply e = ap (λ l. reply_of taken opening l p n) (append-nil before) ∙ e
reply_on taken opening before (d ∷ later) p n reply e =
    let one : List Delivery = before ++ d ∷ [] in
    let still : reply_of taken opening one p n ≡ Some reply =
    reply_of-append taken opening before d p n
    ∙ ap (λ o. option_or o (reply_among taken (text_under one) (numbers_made_next before d) (state taken opening before) p n)) e in
    ap (λ l. reply_of taken opening l p n) (sym (append_assoc before (d ∷ []) later)) ∙ reply_on taken opening one later p n reply still

module _ (content : SetupContent) (earlier later : List Event) (none : HasNoMigration later) (p n : ℕ) (low : 1 ≤ n) (high : n ≤ run (deliveries_of content earlier) p) where
  abbrev D : List Delivery
  D = deliveries_of content earlier

  abbrev E : List Delivery
  E = deliveries_of (content_after content earlier) later

  abbrev taking : Taking MachineState
  taking = taking_in newest content earlier

  abbrev opening : MachineState
  opening = opening_of (content_after (content_after content earlier) later)

  first_reply : (reply : List ℕ) × (reply_of taking opening D p n ≡ Some reply)
  first_reply = some_of (reply_of taking opening D p n) (within_replied taking opening D p n low high)

  replies_kept : reply_of (taking_in newest content (earlier ++ later)) (opening_of (content_after content (earlier ++ later))) (deliveries_of content (earlier ++ later)) p n ≡ reply_of taking (opening_of (content_after content earlier)) D p n
  replies_kept =
      (λ i. reply_of (taking_on content earlier later none i) (opening_of (content_on earlier later content i)) (deliveries_on earlier later content i) p n)
      ∙ reply_on taking opening D E p n first_reply.0 first_reply.1
      ∙ sym first_reply.1
      ∙ same_reply content earlier later p n

pub keep_numbers : LaterKeepNumbers
keep_numbers content earlier later before after p n none are_before are_after low high = record {
  text = are_after.texts p n
      ∙ ap (λ l. first_text l p n) (deliveries_on earlier later content)
      ∙ first-used (deliveries_of content earlier) (deliveries_of (content_after content earlier) later) p n (used_within_run (deliveries_of content earlier) p n low high)
      ∙ sym (are_before.texts p n);
  reply = are_after.replies p n ∙ replies_kept content earlier later none p n low high ∙ sym (are_before.replies p n);
}
