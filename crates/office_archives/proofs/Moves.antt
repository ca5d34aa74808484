-- What an order makes of the visits: none is lost, and what is over stays as it is.
use Rattle.std.specs.{Prelude.{◌==◌, nat_lt, Contains, count_by, filter, find, codes, not, string_bytes}, List.{AllByRecursion, flat_map}, Str.bytes_eq}
use Rattle.std.{specs.{List.Sorted.IsPermutation, Cmp.Lexicographic.bytes_decides}, proofs.lemmas.Bool.{and_parts, and_from, eq-eqb, eqb-true, ltb-true}}
use Rattle.std.proofs.Common.{◌≡◌, ℕ, ◌+◌, ◌<◌, List, [], ◌∷◌, ◌++◌, length, map, Bool, true, false, cond, Option, None, Some, is_none, is_some, refl, sym, ap, ap₂, subst, ◌∙◌, arith, ◌≤◌, inl, inr, Result, Ok, Err}
use Rattle.std.proofs.lemmas.List.Elements.{filter-append}
use Rattle.edi_messages.specs.{declared.codes.PartnerKind.PartnerKind, Purposes.CallContent}
use Rattle.edi_messages.specs.Orders.{EntryContent, OrderContent, gate_in, gate_out, move, list_discharge, list_load, discharge, load}
use Rattle.partner_core.specs.Deliveries.{run}
use Rattle.terminal_core.specs.{declared.visits.Departure.Departure, Rows.VisitContent, Versions.spares_empty, declared.change.Version.Version}
use Rattle.terminal_core.specs.{State.{TerminalState, LineContent, last_number, line_of, is_in, is_open_visit, is_visit_of}, declared.lines.LineState.LineState}
use Rattle.terminal_core.specs.{declared.lines.LineState.TheVariants.{Pending, Done as LineIsDone}, declared.change.Outcome.Outcome, declared.lines.Side.Side}
use Rattle.terminal_core.specs.{declared.change.Outcome.TheVariants.Refused, declared.change.Reason.TheVariants.{AlreadyIn, NotIn, VisitLimit}}
use Rattle.terminal_core.specs.{declared.lines.Side.TheVariants.{Load, Discharge}, declared.change.Source.Source, declared.visits.Way.Way}
use Rattle.terminal_core.{specs.declared.visits.Way.TheVariants.{Gate, Ship}, proofs.{Changing.either, Open.kept_number}}
use Rattle.terminal_core.specs.Step.{StepResult, with_refusal, step_by, yard_with_entry, is_full, visit_of, after_entry, after_entry_at, closed_visit, after_departure, after_departure_at, departure_by, after_move_at, after_listing_at, then_line_done_at, by_line, by_state}
use Rattle.office_admission.specs.{Deliveries.deliveries_of, Setups.SetupContent}
use Rattle.office_replies.specs.Events.{Event}
use Rattle.office_rows.specs.{Effects.is_pair, Opening.tables_version, Rows.{Interchange, Rows}}
use Rattle.office_tables.specs.Answers.{has_id, IsNextOf}
use Rattle.office_loading.specs.Waiting.{is_waiting, waiting_numbers}
use Rattle.office_reports.specs.{declared.query.About.About, Program.program_version, Metrics.{gauge, gauges, gauge_text, is_here, versions_text}}
use Rattle.office_reports.specs.Partners.{PartnerContent}
use Rattle.office_history.{specs.After.{content_after, machine_after}, proofs.{Accounted.next_follows, Kept.count_more}}
use Rattle.office_parts.specs.{OwnTerminal.{own_terminal, own_visits, IsOverOrStays, MayStay}, Closing.is_put_away, Parts.{Archived, ArePartsAfter}}
use Rattle.office_parts.proofs.{Takings.visits_same, Orders.closed_within, Splits.{contained_has, has_contained, had_filtered, Has, has_mapped, has_pushed}}
use Rattle.office_desk.specs.Reports.{AreLookedUp, IsLookedUp, partner_called, TellsAbout, TellsPartner}
use Rattle.office_archives.specs.{Counted.{with_visits, IsOfPartners, TellsOwnMetrics}, Laws.{PartnersAreToldAlike, MetricsAreTold}}
use Rattle.box6346.specs.{declared.box_number.BoxNumber.BoxNumber, declared.slot.Slot.Slot}
use Rattle.edi_syntax.specs.Moments.{CivilMoment}
use Rattle.yard_core.specs.{declared.placements.Placement.Placement, Decisions.{Refusal, yard_without, yard_with_move}, YardMap.YardMap}
use Rattle.office_reports.specs.declared.query.About.TheVariants as about

-- ==== CountedTold: Reports that count, by the store's own rows and by the whole.

-- ---- what waits

-- of interchanges none of which has a number beyond this one none waits for it
none_waiting : (p next : ℕ) (interchanges : List Interchange) → ((n : ℕ) → next < n → find (is_pair p n) interchanges ≡ None) → filter (is_waiting p next) interchanges ≡ []
none_waiting p next [] none = refl
none_waiting p next (i ∷ interchanges) none = by (is_waiting p next i) refl (none_waiting p next interchanges later)
  where
    later : (n : ℕ) → next < n → find (is_pair p n) interchanges ≡ None
    later n far = past (is_pair p n i) (none n far)
      where
        past : (is : Bool) → cond is (Some i) (find (is_pair p n) interchanges) ≡ None → find (is_pair p n) interchanges ≡ None
        past true e = cc
        past false e = e

    by : (waits : Bool) → is_waiting p next i ≡ waits → filter (is_waiting p next) interchanges ≡ [] → cond waits (i ∷ filter (is_waiting p next) interchanges) (filter (is_waiting p next) interchanges) ≡ []
    by false e rest = rest
    by true e rest =
        let parts = and_parts (i.partner == p) (nat_lt next i.number) e in
        let pair : is_pair p i.number i ≡ true = and_from (i.partner == p) (i.number == i.number) parts.0 (eq-eqb i.number i.number refl) in
        let bad : Some i ≡ None = sym (ap (λ b. cond b (Some i) (find (is_pair p i.number) interchanges)) pair) ∙ none i.number (ltb-true next i.number parts.1) in
        absurd cc

module _ (content : SetupContent) (es : List Event) (archived : Archived) (own whole : Rows) (are : ArePartsAfter content es archived own whole) where
  -- a number that is next is beyond what is closed
  next_beyond : (p next : ℕ) → IsNextOf p own next → archived.last_closed p < next
  next_beyond p next is =
      let has = had_filtered (has_id p) own.partners is.0 (has_contained (filter (has_id p) own.partners) is.0 is.1) in
      let inside : Contains whole.partners is.0 = subst (λ partners. Contains partners is.0) (sym are.parts.partners) (contained_has own.partners is.0 has.0) in
      let follows = next_follows content es whole is.0 are.after inside in
      let own_id : is.0.id ≡ p = eqb-true is.0.id p has.1 in
      let same : run (deliveries_of content es) is.0.id ≡ run (deliveries_of content es) p = ap (run (deliveries_of content es)) own_id in
      let upto = closed_within content es archived own whole p are in
      omega (arith, upto, same, follows, is.2)

  waiting_same : (p next : ℕ) → archived.last_closed p < next → waiting_numbers p next own ≡ waiting_numbers p next whole
  waiting_same p next far =
      ap (map (λ (i : Interchange). i.number))
      (sym (
      ap (filter (is_waiting p next)) are.parts.interchanges
      ∙ filter-append (is_waiting p next) archived.interchanges own.interchanges
      ∙ ap (λ l. l ++ filter (is_waiting p next) own.interchanges) (none_waiting p next archived.interchanges (λ n beyond. are.closed.none_beyond p n (omega (arith, far, beyond))))))

  next_whole : (p next : ℕ) → IsNextOf p own next → IsNextOf p whole next
  next_whole p next is = (is.0, subst (λ partners. Contains (filter (has_id p) partners) is.0) (sym are.parts.partners) is.1, is.2)

  looked_up : (id : ℕ) (account : List ℕ × PartnerKind) (partner : PartnerContent) → IsLookedUp own id account partner → IsLookedUp whole id account partner
  looked_up id account partner is = record {
    code = is.code;
    kind = is.kind;
    next = next_whole id partner.next is.next;
    waiting = subst (λ numbers. IsPermutation numbers partner.waiting) (waiting_same id partner.next (next_beyond id partner.next is.next)) is.waiting;
  }

  pub all_looked_up : (id : ℕ) (accounts : List (List ℕ × PartnerKind)) (partners : List PartnerContent) → AreLookedUp own id accounts partners → AreLookedUp whole id accounts partners
  all_looked_up id [] [] all = tt
  all_looked_up id [] (partner ∷ partners) all = absurd all
  all_looked_up id (account ∷ accounts) [] all = absurd all
  all_looked_up id (account ∷ accounts) (partner ∷ partners) all = (looked_up id account partner all.0, all_looked_up (id + 1) accounts partners all.1)

-- ---- visits that are open

here_kept : (stays : ℕ → Bool) (visits : List VisitContent) → AllByRecursion (IsOverOrStays stays) visits → count_by is_here (own_visits stays visits) ≡ count_by is_here visits
here_kept stays [] over = refl
here_kept stays (v ∷ visits) over = by (stays v.number) refl (here_kept stays visits over.1)
  where
    gone : (departure : Option Departure) → is_some departure ≡ true → is_none departure ≡ false
    gone None e = sym e
    gone (Some d) e = refl

    by : (stay : Bool) → stays v.number ≡ stay → count_by is_here (own_visits stays visits) ≡ count_by is_here visits → count_by is_here (cond stay (v ∷ own_visits stays visits) (own_visits stays visits)) ≡ count_by is_here (v ∷ visits)
    by true e rest = count_more is_here v (own_visits stays visits) (is_here v) refl ∙ ap (λ n. cond (is_here v) 1 0 + n) rest ∙ sym (count_more is_here v visits (is_here v) refl)
    by false e rest =
        let more : count_by is_here (v ∷ visits) ≡ 0 + count_by is_here visits = count_more is_here v visits false (gone v.departure (over.0 e)) in
        omega (arith, rest, more)

-- those that stay and those that were put away are all
parted : (stays : ℕ → Bool) (visits : List VisitContent) → length (own_visits stays visits) + length (filter (is_put_away stays) visits) ≡ length visits
parted stays [] = refl
parted stays (v ∷ visits) = by (stays v.number) (parted stays visits)
  where
    by : (stay : Bool) → length (own_visits stays visits) + length (filter (is_put_away stays) visits) ≡ length visits
        → length (cond stay (v ∷ own_visits stays visits) (own_visits stays visits)) + length (cond (not stay) (v ∷ filter (is_put_away stays) visits) (filter (is_put_away stays) visits)) ≡ length (v ∷ visits)
    by true e = omega (arith, e)
    by false e = omega (arith, e)

-- ---- the laws

pub partners_told : PartnersAreToldAlike
partners_told content es archived own whole asked what are is told = at asked is told
  where
    now : SetupContent
    now = content_after content es

    one : (id : Option ℕ) → TellsPartner own now.partners id what → TellsPartner whole now.partners id what
    one None told = told
    one (Some id) told = (told.0, told.1, (told.2.0, looked_up content es archived own whole are id told.0 told.2.0 told.2.1, told.2.2))

    at : (asked : About) → IsOfPartners asked → TellsAbout now (own_terminal archived.stays (machine_after content es).terminal) own asked what → TellsAbout now (machine_after content es).terminal whole asked what
    at about.Partners is told = (told.0, all_looked_up content es archived own whole are 1 now.partners told.0 told.1, told.2)
    at (about.Partner code) is told = one (partner_called now (string_bytes code)) told
    at about.Health is told = told
    at other is told = absurd is

gauges_kept : (stays : ℕ → Bool) (state : TerminalState) (limit : ℕ) (partners : List PartnerContent) → count_by is_here (own_visits stays state.visits) ≡ count_by is_here state.visits
    → last_number (own_visits stays state.visits) ≡ last_number state.visits
    → gauges (own_terminal stays state) limit partners ≡ map (with_visits (length (own_visits stays state.visits))) (gauges state limit partners)
gauges_kept stays state limit partners here newest =
    ap₂ ◌∷◌ refl (ap₂ ◌∷◌ (ap (gauge (codes "office_containers") (codes "Containers in the yard.")) here)
    (ap₂ ◌∷◌ refl (ap₂ ◌∷◌ (ap (gauge (codes "office_visits_ever") (codes "Visits recorded, put away ones too.")) newest) refl)))

pub metrics_told : MetricsAreTold
metrics_told content es archived own whole what are told =
    let state : TerminalState = (machine_after content es).terminal in
    let now : SetupContent = content_after content es in
    let may : MayStay archived.stays state.visits = subst (MayStay archived.stays) (visits_same content es whole are.after) are.stay in
    let found = told.1 in
    let own_told : TellsOwnMetrics now archived.stays state whole told.0 = record {
      count = length (own_visits archived.stays state.visits);
      all = parted archived.stays state.visits;
      tells = (
        found.0,
        all_looked_up content es archived own whole are 1 now.partners found.0 found.1,
        found.2 ∙ ap (λ l. Some (flat_map gauge_text l ++ versions_text program_version tables_version)) (gauges_kept archived.stays state now.visit_limit found.0 (here_kept archived.stays state.visits may.over) may.newest),
      );
    } in
    (told.0, own_told, told.2)

-- ==== Moves: What an order makes of the visits: none is lost, and what is over stays as it is.

-- ---- one more, or one closed

pub data Moves (old new : List VisitContent) : Type 0 where
  same : new ≡ old → Moves old new
  opened : (v : VisitContent) → is_none v.departure ≡ true → new ≡ old ++ v ∷ [] → Moves old new
  closed : (departure : Departure) (b : BoxNumber) → new ≡ map (closed_visit departure b) old → Moves old new

module _ (version : Version) (source : Source) where
  abbrev Does : TerminalState → StepResult → Type 0
  Does state after = Moves state.visits after.state.visits

  entered : (state : TerminalState) (way : Way) (entry : EntryContent) (r : Result (YardMap × Slot) Refusal) → Does state (after_entry_at state way source entry r)
  entered state way entry (Err refusal) = same refl
  entered state way entry (Ok (y, slot)) = opened (visit_of state way source entry slot) refl refl

  enters : (state : TerminalState) (way : Way) (entry : EntryContent) → Does state (after_entry version state way source entry)
  enters state way entry =
      either (Does state) (is_full state) (with_refusal state VisitLimit) (after_entry_at state way source entry (yard_with_entry version state.yard entry)) (same refl) (entered state way entry (yard_with_entry version state.yard entry))

  departed : (state : TerminalState) (b : BoxNumber) (departure : Departure) (r : Result (YardMap × Placement) Refusal) → Does state (after_departure_at state b departure r)
  departed state b departure (Err refusal) = same refl
  departed state b departure (Ok (y, s)) = closed departure b refl

  departs : (state : TerminalState) (way : Way) (b : BoxNumber) (moment : CivilMoment) → Does state (after_departure state way source b moment)
  departs state way b moment = departed state b (departure_by way source moment) (yard_without state.yard b)

  moved : (state : TerminalState) (b : BoxNumber) (slot : Slot) (r : Result YardMap Refusal) → Does state (after_move_at state b slot r)
  moved state b slot (Ok y) = same refl
  moved state b slot (Err refusal) = same refl

  listed : (state : TerminalState) (call : CallContent) (side : Side) (b : BoxNumber) (port : List ℕ) (o : Option LineContent) → Does state (after_listing_at state call side b port o)
  listed state call side b port (Some line) = same refl
  listed state call side b port None = same refl

  then_done : (state : TerminalState) (call : CallContent) (side : Side) (b : BoxNumber) (line : LineContent) (after : StepResult) (o : Outcome) → Does state after → Does state (then_line_done_at call side b line after o)
  then_done state call side b line after (Refused reason) does = does
  then_done state call side b line after o does = does

  by_its_state : (state : TerminalState) (call : CallContent) (side : Side) (b : BoxNumber) (line : LineContent) (after : StepResult) (s : LineState) → Does state after → Does state (by_state state call side b line after s)
  by_its_state state call side b line after LineIsDone does = same refl
  by_its_state state call side b line after Pending does = then_done state call side b line after after.outcome does

  by_its_line : (state : TerminalState) (call : CallContent) (side : Side) (b : BoxNumber) (o : Option LineContent) (after : StepResult) → Does state after → Does state (by_line state call side b o after)
  by_its_line state call side b None after does = same refl
  by_its_line state call side b (Some line) after does = by_its_state state call side b line after line.state does

  pub step_moves : (state : TerminalState) (order : OrderContent) → Does state (step_by version state source order)
  step_moves state (gate_in entry) = either (Does state) (is_in state entry.number) (with_refusal state AlreadyIn) (after_entry version state Gate source entry) (same refl) (enters state Gate entry)
  step_moves state (gate_out b moment) = departs state Gate b moment
  step_moves state (move b slot) = moved state b slot (yard_with_move (spares_empty version) state.yard b slot)
  step_moves state (list_discharge call b) = listed state call Discharge b [] (line_of state call Discharge b)
  step_moves state (list_load call b port) = listed state call Load b port (line_of state call Load b)
  step_moves state (discharge call entry) =
      either (Does state) (is_in state entry.number) (with_refusal state AlreadyIn) (by_line state call Discharge entry.number (line_of state call Discharge entry.number) (after_entry version state Ship source entry)) (same refl)
      (by_its_line state call Discharge entry.number (line_of state call Discharge entry.number) (after_entry version state Ship source entry) (enters state Ship entry))
  step_moves state (load call b moment) =
      either (Does state) (is_in state b) (by_line state call Load b (line_of state call Load b) (after_departure state Ship source b moment)) (with_refusal state NotIn)
      (by_its_line state call Load b (line_of state call Load b) (after_departure state Ship source b moment) (departs state Ship b moment)) (same refl)

-- ---- visits that go on

-- it is the same container's visit of the same number, and if it was over it is as it was
pub record IsSameVisit (old new : VisitContent) : Type 0 where
  pub number : new.number ≡ old.number
  pub container : new.container ≡ old.container
  pub over : is_some old.departure ≡ true → new ≡ old

-- each of the old ones goes on in its place, and new ones come after
abbrev pub GoOn : List VisitContent → List VisitContent → Type 0
GoOn [] new = Unit {0}
GoOn (v ∷ old) [] = ⊥
GoOn (v ∷ old) (w ∷ new) = IsSameVisit v w × GoOn old new

itself : (v : VisitContent) → IsSameVisit v v
itself v = record { number = refl; container = refl; over = λ e. refl }

pub go_on_same : (visits : List VisitContent) → GoOn visits visits
go_on_same [] = tt
go_on_same (v ∷ visits) = (itself v, go_on_same visits)

go_on_opened : (visits : List VisitContent) (v : VisitContent) → GoOn visits (visits ++ v ∷ [])
go_on_opened [] v = tt
go_on_opened (w ∷ visits) v = (itself w, go_on_opened visits v)

still_over : (departure : Departure) (v : VisitContent) (b : BoxNumber) (is : Bool) → is_open_visit b v ≡ is → is_some v.departure ≡ true → cond is (record v { departure = Some departure }) v ≡ v
still_over departure v b false e over = refl
still_over departure v b true e over = by v.departure over (and_parts (bytes_eq v.container b) (is_none v.departure) e).1
  where
    by : (d : Option Departure) → is_some d ≡ true → is_none d ≡ true → record v { departure = Some departure } ≡ v
    by None over open_ = cc
    by (Some d) over open_ = cc

same_box : (departure : Departure) (v : VisitContent) (is : Bool) → (cond is (record v { departure = Some departure }) v).container ≡ v.container
same_box departure v true = refl
same_box departure v false = refl

go_on_closed : (departure : Departure) (b : BoxNumber) (visits : List VisitContent) → GoOn visits (map (closed_visit departure b) visits)
go_on_closed departure b [] = tt
go_on_closed departure b (v ∷ visits) = (
  record { number = kept_number departure v (is_open_visit b v); container = same_box departure v (is_open_visit b v); over = still_over departure v b (is_open_visit b v) refl },
  go_on_closed departure b visits,
)

pub go_on_after : (old new : List VisitContent) → Moves old new → GoOn old new
go_on_after old new (same e) = subst (GoOn old) (sym e) (go_on_same old)
go_on_after old new (opened v open_ e) = subst (GoOn old) (sym e) (go_on_opened old v)
go_on_after old new (closed departure b e) = subst (GoOn old) (sym e) (go_on_closed departure b old)

same_over : (u v w : VisitContent) → IsSameVisit u v → IsSameVisit v w → IsSameVisit u w
same_over u v w one two = record {
  number = two.number ∙ one.number;
  container = two.container ∙ one.container;
  over = λ e. two.over (ap (λ (x : VisitContent). is_some x.departure) (one.over e) ∙ e) ∙ one.over e;
}

pub go_on_further : (a b c : List VisitContent) → GoOn a b → GoOn b c → GoOn a c
go_on_further [] b c one two = tt
go_on_further (u ∷ a) [] c one two = absurd one
go_on_further (u ∷ a) (v ∷ b) [] one two = absurd two
go_on_further (u ∷ a) (v ∷ b) (w ∷ c) one two = (same_over u v w one.0 two.0, go_on_further a b c one.1 two.1)

-- ---- earlier visits of a container are over

-- the visit is over, if a later one is of its container
abbrev pub AreOverBefore : List VisitContent → Type 0
AreOverBefore [] = Unit {0}
AreOverBefore (v ∷ later) = ((w : VisitContent) → Has later w → is_visit_of v.container w ≡ true → is_some v.departure ≡ true) × AreOverBefore later

is_over : (d : Option Departure) → (is_none d ≡ true → ⊥) → is_some d ≡ true
is_over None never = absurd (never refl)
is_over (Some d) never = refl

counted : (b : BoxNumber) (v : VisitContent) (visits : List VisitContent) → length (filter (is_open_visit b) visits) ≤ length (filter (is_open_visit b) (v ∷ visits))
counted b v visits = by (is_open_visit b v)
  where
    by : (is : Bool) → length (filter (is_open_visit b) visits) ≤ length (cond is (v ∷ filter (is_open_visit b) visits) (filter (is_open_visit b) visits))
    by true = omega arith
    by false = omega arith

counts_last : (b : BoxNumber) (visits : List VisitContent) (v : VisitContent) → is_open_visit b v ≡ true → 1 ≤ length (filter (is_open_visit b) (visits ++ v ∷ []))
counts_last b [] v e = let one : length (filter (is_open_visit b) (v ∷ [])) ≡ 1 = ap (λ c. length (cond c (v ∷ []) [])) e in omega (arith, one)
counts_last b (w ∷ visits) v e = let rest = counts_last b visits v e in let more = counted b w (visits ++ v ∷ []) in omega (arith, rest, more)

-- where the last one is open, no other of its container is, since a container has one at most
over_opened : (visits : List VisitContent) (v : VisitContent) → is_none v.departure ≡ true → AreOverBefore visits → ((b : BoxNumber) → length (filter (is_open_visit b) (visits ++ v ∷ [])) ≤ 1) → AreOverBefore (visits ++ v ∷ [])
over_opened [] v open_ over one = ((λ w has same_. absurd has), tt)
over_opened (u ∷ visits) v open_ over one = (
  (λ w has of_it. elim (has_pushed visits v w has) [
    | inl old ↦ over.0 w old of_it
    | inr new ↦ is_over u.departure (λ open_too. two_open (subst (λ x. is_visit_of u.container x ≡ true) (sym new) of_it) open_too)
  ]),
  over_opened visits v open_ over.1 (λ b. let more = counted b u (visits ++ v ∷ []) in let most = one b in omega (arith, more, most)),
)
  where
    two_open : is_visit_of u.container v ≡ true → is_none u.departure ≡ true → ⊥
    two_open of_it open_too =
        let b : BoxNumber = u.container in
        let first : is_open_visit b u ≡ true = and_from (bytes_eq u.container b) (is_none u.departure) ((bytes_decides u.container b).1 refl) open_too in
        let last : is_open_visit b v ≡ true = and_from (bytes_eq v.container b) (is_none v.departure) of_it open_ in
        let two : length (filter (is_open_visit b) ((u ∷ visits) ++ v ∷ [])) ≡ length (u ∷ filter (is_open_visit b) (visits ++ v ∷ [])) = ap (λ c. length (cond c (u ∷ filter (is_open_visit b) (visits ++ v ∷ [])) (filter (is_open_visit b) (visits ++ v ∷ [])))) first in
        let at_least = counts_last b visits v last in
        let at_most = one b in
        omega (arith, two, at_least, at_most)

closed_over : (departure : Departure) (v : VisitContent) (is : Bool) → is_some v.departure ≡ true → is_some (cond is (record v { departure = Some departure }) v).departure ≡ true
closed_over departure v true e = refl
closed_over departure v false e = e

over_closed : (departure : Departure) (b : BoxNumber) (visits : List VisitContent) → AreOverBefore visits → AreOverBefore (map (closed_visit departure b) visits)
over_closed departure b [] over = tt
over_closed departure b (v ∷ visits) over = (
  (λ w has of_it.
      let from = has_mapped (closed_visit departure b) visits w has in
      let own : (closed_visit departure b v).container ≡ v.container = same_box departure v (is_open_visit b v) in
      let its : w.container ≡ (from.0).container = ap (λ (x : VisitContent). x.container) (sym from.2) ∙ same_box departure from.0 (is_open_visit b from.0) in
      closed_over departure v (is_open_visit b v) (over.0 from.0 from.1 (ap (λ c. bytes_eq c v.container) (sym its) ∙ ap (bytes_eq w.container) (sym own) ∙ of_it))),
  over_closed departure b visits over.1,
)

pub over_after : (old new : List VisitContent) → Moves old new → AreOverBefore old → ((b : BoxNumber) → length (filter (is_open_visit b) new) ≤ 1) → AreOverBefore new
over_after old new (same e) over one = subst AreOverBefore (sym e) over
over_after old new (opened v open_ e) over one = subst AreOverBefore (sym e) (over_opened old v open_ over (λ b. subst (λ l. length (filter (is_open_visit b) l) ≤ 1) e (one b)))
over_after old new (closed departure b e) over one = subst AreOverBefore (sym e) (over_closed departure b old over)
