-- One delivery more to a desk.
use Rattle.std.{specs.{List.Sorted.IsPermutation, Prelude.{◌==◌, not, nat_le}}, proofs.lemmas.Simd.map-map}
use Rattle.std.proofs.Common.{◌≡◌, ℕ, List, [], ◌∷◌, ◌++◌, Option, Ok, Err, string_bytes, refl, sym, ap, subst, ◌∙◌, ◌⊎◌, ◌+◌, ◌<◌, ◌≤◌, length, map, inl, inr, Some, arith, None, Bool, true, false, cond}
use Rattle.std.proofs.{lemmas.Bool.{eq-eqb, eqb-true, leb-true, leb-false}, lemmas.List.Sorted.{Contains-permutation, IsPermutation-sym, IsPermutation-trans}}
use Rattle.sqlite.specs.{Effect.Database, Held.state}
use Rattle.sqlite_trees.specs.declared.store.Store.{Ghosts}
use Rattle.edi_syntax.specs.{Interchange.{interchange_of, segments_in}, Envelope.header_of}
use Rattle.partner_core.specs.{Answers.AnswerModel, Deliveries.delivery, Numbered.with_number}
use Rattle.office_replies.specs.{Events.{Event, delivered}, Contents.{GivesOrNotNow, content_of}, Delivering.with_answered, declared.deliver.Response.Response}
use Rattle.office_admission.specs.{Parties.{Parties, parties_of}, Setups.{SetupContent, setup_content}, declared.setup.Setup.Setup, Admission.admission}
use Rattle.office_admission.specs.{Outcomes.{IsRefused, fault_in}, Refusals.{refusal_of, MayBeNotNow, RefusedSurely}, declared.refusal.Refusal.Refusal}
use Rattle.office_admission.{specs.{Taking.{MachineState, interchange_taken, interchange_changes}, Given.IsGiven}, proofs.Takings.interchange_leads}
use Rattle.office_admission.proofs.Forming.{runs_alone}
use Rattle.office_history.specs.After.{content_after, parties_in, AreKeptOnce, accounts_from, AreAfter, deliveries_of, opening_of, machine_after, machine_with, taking_in}
use Rattle.office_history.{specs.Laws.answer_model_of, proofs.{Lawful.{now_same, refused_adds}, Loads.{partner_one, ShowsSetupAndTerminal, one_terminal}}}
use Rattle.office_history.proofs.{Once.{numbers_same, once_if_rising, place, place_of}, Kept.{Rises, same_records, shown_in}, KeptNumbers.have_runs}
use Rattle.office_history.proofs.{Offices.state_given, Places.alone_in}
use Rattle.office_loading.specs.{Closed.{closed_content, ClosedContent}, OwnOffice.{AreInOrder, AreOwnNumbers, IsOwnOffice}, Tables.LoadsOwn}
use Rattle.office_loading.{specs.Checks.{visits_after, AreOwnVisits}, proofs.Offices.after_all}
use Rattle.office_desk.specs.{Answers.{AnswersNext, answer_by_model, answer_at, answer_to, code_of}, Telling.{Answers, Comes, Holds}, Desks.StandsFor}
use Rattle.office_desk.specs.{Kept.{AnswersAt, AnswersByKept, AnswersOver, IsNotedFor, Office}, Noting.{IsNow, NotesFault, NotesMemory}, Beside.IsOrNone}
use Rattle.office_desk.specs.{Offices.{DeskHolds, HoldsOffice}, declared.beside.Beside.Beside, declared.desk.Desk.Desk, Crashes.{Leaves, LeavesBehind}}
use Rattle.office_desk.{specs.Finding.StaysBeside, proofs.OwnNumbers.{refused_for, KeepsBeyond, account_there, by_number, keeps_own}}
use Rattle.office_desk.proofs.HoldLemmas.{answered_behind, refused_leaves, beside_same, next_by, nexts_are, number_of}
use Rattle.office_tables.specs.{declared.table_fault.TableFault.TableFault, declared.table_fault.TableFault.TheVariants.Memory, Answers.{IsNextOf, has_id}}
use Rattle.sqlite_rules.proofs.ListLemmas.{contains_had, has_contained, has_filtered, has_kept}
use Rattle.terminal_core.specs.{State.{TerminalState, AreNumbered, IsWhole, last_from}, declared.visits.Departure.Departure, OneByOne.GoOneByOne}
use Rattle.terminal_core.specs.Rows.{VisitContent, ChangeContent, visit_opened, visit_closed, placed_at, moved_to, removed_from, listed_on, line_done, unlisted}
use Rattle.terminal_core.specs.{Changes.{TerminalRows, rows_of, rows_with, visit_with_departure, rows_with_all, IsApplicable, AreApplicable}, Versions.newest}
use Rattle.terminal_core.proofs.Open.{kept_number}
use Rattle.office_rows.specs.Rows.{Rows}
use Rattle.office_rows.specs.Values.{interchange_values, partner_values}
use Rattle.office_rows.specs.Stored.{HasRows}
use Rattle.office_rows.specs.Shown.{AreNexts, columns_at}
use Rattle.office_rows.{specs.{Opened.{NumberKept, OpenedRows, Shows, number_kept}, Tables.partner_table as partners_table}, proofs.Listed.unmapped}
use Rattle.partner_core.specs.Answers as told
use Rattle.office_replies.specs.declared.deliver.Response.TheVariants as response
use Rattle.office_replies.specs.declared.deliver.Worst.TheVariants as worst

pub parties_same : (setup : Setup) → parties_of setup ≡ parties_in (setup_content setup)
parties_same setup = ap (λ (codes : List (List ℕ)). record { terminal = string_bytes setup.terminal; partners = codes }) (sym (map-map _ _ setup.partners.items))

pub not_now_surely : (P : Parties) (text : List ℕ) → RefusedSurely P text response.NotNow → MayBeNotNow P text
not_now_surely P text surely fault refused plain = let never : response.NotNow ≡ response.Refused fault = surely fault refused plain in absurd cc

not_fine : worst.NotNow ≡ worst.Fine → ⊥
not_fine e = absurd cc

not_refused : worst.NotNow ≡ worst.Refused → ⊥
not_refused e = absurd cc

never_now : (code : List ℕ) (number : ℕ) (kind : AnswerModel) → content_of response.NotNow ≡ answer_by_model code number kind → ⊥
never_now code number told.Clash e = not_refused (ap (λ answer. answer.how_bad) e)
never_now code number kind e = not_fine (ap (λ answer. answer.how_bad) e)

-- what is reported is reported now
pub is_now : (given : Response) (code : List ℕ) (number : ℕ) (kind : AnswerModel) → content_of given ≡ answer_by_model code number kind → IsNow given
is_now response.NotNow code number kind e = absurd (never_now code number kind e)
is_now given code number kind e = tt

-- after an answer that is one now the desk has the fault that it had
pub notes_none : (given : Response) (last : Option TableFault) → IsNow given → NotesFault given last last
notes_none response.NotNow last is = absurd is
notes_none given last is = refl

-- memory that was refused is a fault
pub notes_memory : (given : Response) (old new : Option TableFault) → NotesMemory given old new → NotesFault given old new
notes_memory response.NotNow old new is = (Memory, is)
notes_memory given old new is = is

module _ {S : Type 0} (g : Ghosts S) (content : SetupContent) (es : List Event) where
  -- the answer, and what is held after it
  abbrev Next : List ℕ → Response → SetupContent → Database → Option Beside → Type 0
  Next sent given now db there = AnswersNext content es sent given × Holds content (with_answered es sent given) now db there

  abbrev parties : Parties
  parties = parties_in (content_after content es)

  -- the accounts of a desk that stands there are those so far
  pub parties_now : (desk : Desk S g) → StandsFor g content es desk → parties_of desk.setup ≡ parties
  parties_now desk stands = parties_same desk.setup ∙ ap parties_in (sym stands.now_is)

  -- a text that its accounts admit comes for that partner
  pub comes_for : (sent text : List ℕ) (desk : Desk S g) (partner number : ℕ) → text ≡ interchange_of sent → StandsFor g content es desk → admission (parties_of desk.setup) text ≡ Ok (partner, number) →
      Comes content es sent (delivery partner number text)
  comes_for sent text desk partner number is stands admits = record {
    text_is = is;
    is_for = subst (λ P. admission P (interchange_of sent) ≡ Ok (partner, number)) (parties_now desk stands) (subst (λ t. admission (parties_of desk.setup) t ≡ Ok (partner, number)) is admits);
  }

  answers_or_not : (sent : List ℕ) (given : Response) (now : SetupContent) (db : Database) (there : Option Beside) → GivesOrNotNow (answer_to content es sent) given → RefusedSurely parties (interchange_of sent) given →
      Holds content es now db there → Holds content (es ++ delivered sent ∷ []) now db there → Next sent given now db there
  answers_or_not sent response.NotNow now db there gives surely before after = (not_now_surely parties (interchange_of sent) surely, before)
  answers_or_not sent given now db there gives surely before after = (gives, after)

  answers_now : (sent : List ℕ) (given : Response) (now : SetupContent) (db : Database) (there : Option Beside) (code : List ℕ) (number : ℕ) (kind : AnswerModel) → content_of given ≡ answer_by_model code number kind →
      content_of given ≡ answer_to content es sent → Holds content (es ++ delivered sent ∷ []) now db there → Next sent given now db there
  answers_now sent response.NotNow now db there code number kind e is after = absurd (never_now code number kind e)
  answers_now sent given now db there code number kind e is after = (is, after)

  pub refusal_delivered : (sent text : List ℕ) (given : Response) (desk : Desk S g) (refusal : Refusal) → text ≡ interchange_of sent → StandsFor g content es desk →
      IsRefused desk.setup text refusal → GivesOrNotNow (refusal_of (parties_of desk.setup) (header_of (segments_in text)) (fault_in refusal)) given → RefusedSurely (parties_of desk.setup) text given →
      Next sent given (setup_content desk.setup) (state g desk.conn).committed desk.beside
  refusal_delivered sent text given desk refusal is stands refused gives surely =
      let own = interchange_of sent in
      let fault = fault_in refusal in
      let same : parties_of desk.setup ≡ parties = parties_now desk stands in
      let here : admission parties own ≡ Err fault = subst (λ others. admission others own ≡ Err fault) same (subst (λ other. admission (parties_of desk.setup) other ≡ Err fault) is (refused_for desk.setup text refusal refused)) in
      let adds = refused_adds content es stands.rows sent fault stands.after here in
      let after : StandsFor g content (es ++ delivered sent ∷ []) desk = record {
        given = stands.given;
        now_is = now_same content es sent ∙ stands.now_is;
        rows = stands.rows;
        has = stands.has;
        after = adds.rows_are;
        beside = beside_same content es sent desk.beside adds.machine adds.runs stands.beside;
      } in
      let told : GivesOrNotNow (refusal_of parties (header_of (segments_in own)) fault) given =
      subst (λ others. GivesOrNotNow (refusal_of others (header_of (segments_in own)) fault) given) same
      (subst (λ other. GivesOrNotNow (refusal_of (parties_of desk.setup) (header_of (segments_in other)) fault) given) is gives) in
      answers_or_not sent given (setup_content desk.setup) (state g desk.conn).committed desk.beside
      (subst (λ place. GivesOrNotNow (answer_at content es sent place) given) (sym here) told)
      (subst (λ others. RefusedSurely others own given) same (subst (λ other. RefusedSurely (parties_of desk.setup) other given) is surely)) stands after

  -- a text that is admitted, and was taken in
  pub taken_in : (sent text : List ℕ) (given : Response) (old : Desk S g) (db : Database) (there : Option Beside) (partner number : ℕ) (code : List ℕ) → text ≡ interchange_of sent → StandsFor g content es old →
      admission (parties_of old.setup) text ≡ Ok (partner, number) → code ≡ code_of (parties_of old.setup) partner →
      (StandsFor g content es old → Comes content es sent (delivery partner number text) → Answers content es sent (delivery partner number text) code given (setup_content old.setup) db there) →
      Next sent given (setup_content old.setup) db there
  taken_in sent text given old db there partner number code is stands admits is_code takes =
      let comes = comes_for sent text old partner number is stands admits in
      let told = takes stands comes in
      let kind = answer_model_of content es partner number sent in
      let named : code ≡ code_of parties partner = is_code ∙ ap (λ P. code_of P partner) (parties_now old stands) in
      let here : content_of given ≡ answer_by_model (code_of parties partner) number kind = told.answers ∙ ap (λ c. answer_by_model c number kind) named in
      answers_now sent given (setup_content old.setup) db there (code_of parties partner) number kind here
      (subst (λ place. content_of given ≡ answer_at content es sent place) (sym comes.is_for) here) told.holds

  -- one that is admitted, and could not be taken now
  pub not_taken : (sent : List ℕ) (old : Desk S g) (db : Database) (there : Option Beside) → StandsFor g content es old → RefusedSurely (parties_of old.setup) (interchange_of sent) response.NotNow →
      (StandsFor g content es old → Holds content es (setup_content old.setup) db there) →
      Next sent response.NotNow (setup_content old.setup) db there
  not_taken sent old db there stands surely keeps =
      (not_now_surely parties (interchange_of sent) (subst (λ P. RefusedSurely P (interchange_of sent) response.NotNow) (parties_now old stands) surely), keeps stands)

  -- ---- what a crash leaves

  -- the accounts so far refuse it
  pub refused_at : (sent text : List ℕ) (desk : Desk S g) (refusal : Refusal) → text ≡ interchange_of sent → StandsFor g content es desk → IsRefused desk.setup text refusal →
      admission parties (interchange_of sent) ≡ Err (fault_in refusal)
  refused_at sent text desk refusal is stands refused =
      subst (λ others. admission others (interchange_of sent) ≡ Err (fault_in refusal)) (parties_now desk stands)
      (subst (λ other. admission (parties_of desk.setup) other ≡ Err (fault_in refusal)) is (refused_for desk.setup text refusal refused))

  pub refusal_leaves : (sent text : List ℕ) (given : Response) (desk : Desk S g) (refusal : Refusal) → text ≡ interchange_of sent → StandsFor g content es desk →
      IsRefused desk.setup text refusal → Leaves content es (state g desk.conn) → LeavesBehind content es sent given (state g desk.conn)
  refusal_leaves sent text given desk refusal is stands refused leaves =
      answered_behind content es sent given (state g desk.conn) (refused_leaves content es sent (fault_in refusal) (state g desk.conn) (refused_at sent text desk refusal is stands refused) leaves)

-- ---- over any office

over : {S : Type 0} (g : Ghosts S) (old : Office) (sent : List ℕ) (given : Response) (desk : Desk S g) (code : List ℕ) (number : ℕ) (kind : AnswerModel) → content_of given ≡ answer_by_model code number kind →
    AnswersAt g (admission (parties_of desk.setup) (interchange_of sent)) (interchange_of sent) old given desk → AnswersOver g old sent given desk
over g old sent response.NotNow desk code number kind e by = absurd (never_now code number kind e)
over g old sent given desk code number kind e by = by

module _ {S : Type 0} (g : Ghosts S) where
  pub refusal_over : (old : Office) (sent text : List ℕ) (given : Response) (desk : Desk S g) (refusal : Refusal) → text ≡ interchange_of sent → DeskHolds g desk old.rows old.terminal →
      IsRefused desk.setup text refusal → GivesOrNotNow (refusal_of (parties_of desk.setup) (header_of (segments_in text)) (fault_in refusal)) given → RefusedSurely (parties_of desk.setup) text given →
      (was : Option TableFault) → NotesMemory given was desk.last_fault → AnswersOver g old sent given desk
  refusal_over old sent text given desk refusal is holds refused gives surely was noted =
      let P = parties_of desk.setup in
      let here : admission P (interchange_of sent) ≡ Err (fault_in refusal) = subst (λ other. admission P other ≡ Err (fault_in refusal)) is (refused_for desk.setup text refusal refused) in
      at given (subst (λ other. GivesOrNotNow (refusal_of P (header_of (segments_in other)) (fault_in refusal)) given) is gives) (subst (λ other. RefusedSurely P other given) is surely) here noted
    where
      told : (given : Response) → content_of given ≡ refusal_of (parties_of desk.setup) (header_of (segments_in (interchange_of sent))) (fault_in refusal) → admission (parties_of desk.setup) (interchange_of sent) ≡ Err (fault_in refusal) →
          AnswersAt g (admission (parties_of desk.setup) (interchange_of sent)) (interchange_of sent) old given desk
      told given e here = subst (λ place. AnswersAt g place (interchange_of sent) old given desk) (sym here) (e, holds)

      at : (given : Response) → GivesOrNotNow (refusal_of (parties_of desk.setup) (header_of (segments_in (interchange_of sent))) (fault_in refusal)) given → RefusedSurely (parties_of desk.setup) (interchange_of sent) given →
          admission (parties_of desk.setup) (interchange_of sent) ≡ Err (fault_in refusal) → NotesMemory given was desk.last_fault → AnswersOver g old sent given desk
      at response.NotNow e surely here noted =
          (not_now_surely (parties_of desk.setup) (interchange_of sent) surely, subst (λ place. IsNotedFor (closed_content desk.closed) place old.rows desk.last_fault) (sym here) noted, holds)
      at given e surely here noted = told given e here

  pub answers_over : (old : Office) (sent text : List ℕ) (given : Response) (desk : Desk S g) (partner number : ℕ) (code : List ℕ) → text ≡ interchange_of sent →
      admission (parties_of desk.setup) text ≡ Ok (partner, number) → code ≡ code_of (parties_of desk.setup) partner →
      AnswersByKept (closed_content desk.closed) (setup_content desk.setup) (delivery partner number text) code old given (state g desk.conn).committed desk.beside → AnswersOver g old sent given desk
  answers_over old sent text given desk partner number code is admits is_code told =
      let P = parties_of desk.setup in
      let here : admission P (interchange_of sent) ≡ Ok (partner, number) = subst (λ other. admission P other ≡ Ok (partner, number)) is admits in
      let by : AnswersByKept (closed_content desk.closed) (setup_content desk.setup) (delivery partner number (interchange_of sent)) (code_of P partner) old given (state g desk.conn).committed desk.beside =
      subst (λ c. AnswersByKept (closed_content desk.closed) (setup_content desk.setup) (delivery partner number (interchange_of sent)) c old given (state g desk.conn).committed desk.beside) is_code
      (subst (λ t. AnswersByKept (closed_content desk.closed) (setup_content desk.setup) (delivery partner number t) code old given (state g desk.conn).committed desk.beside) is told) in
      over g old sent given desk (code_of P partner) number by.told by.answers (subst (λ place. AnswersAt g place (interchange_of sent) old given desk) (sym here) by)

-- ==== OfficeAccounts: The rows of an office: its accounts and what is kept for them, whether or not deliveries led to them.

-- ---- no number is kept twice

-- in the order of partners and numbers they rise
rising : (count partner number : ℕ) (ns : List NumberKept) → number ≤ 999999999 → AreInOrder count partner number ns → Rises place (place_of partner number) ns
rising count partner number [] most order = tt
rising count partner number (n ∷ ns) most order = (above order.0.0, rising count n.partner n.number ns order.0.2 order.1)
  where
    above : ((n.partner ≡ partner) × (number < n.number)) ⊎ ((partner < n.partner) × (1 ≤ n.number)) → place_of partner number < place n
    above (inl near) = omega (arith, near.0, near.1)
    above (inr far) = omega (arith, far.0, far.1, most)

pub own_once : (closed : ClosedContent) (db : Database) (rows : Rows) (shown : OpenedRows) (content : SetupContent) (terminal : TerminalState) → HasRows rows db → Shows db shown → IsOwnOffice closed shown content terminal → AreKeptOnce rows.interchanges
own_once closed db rows shown content terminal has shows office = once_if_rising db rows shown has shows (rising (length shown.partners) 1 0 shown.numbers (omega arith) office.own_numbers.in_order)

-- ---- the accounts

-- the accounts by id, each with the number after its partner's run, and what is kept for them
pub record KeepsAccounts (closed : ClosedContent) (content : SetupContent) (rows : Rows) : Type 0 where
  pub runs : ℕ → ℕ
  pub high : (p : ℕ) → runs p ≤ 999999999
  pub by_id : IsPermutation rows.partners (accounts_from 1 (λ p. runs p + 1) content.partners)
  pub keeps : KeepsBeyond closed.last_closed (length content.partners) runs rows

pub keeps_accounts : (closed : ClosedContent) (content : SetupContent) (rows : Rows) (terminal : TerminalState) (db : Database) → HasRows rows db → (loads : LoadsOwn closed db content terminal) →
    (its : KeepsAccounts closed content rows) × (loads.0.partners ≡ accounts_from 1 (λ p. its.runs p + 1) content.partners)
keeps_accounts closed content rows terminal db has loads =
    let shown = loads.0 in
    let shows = loads.1 in
    let office = loads.2 in
    let its = have_runs 1 shown.partners content.partners office.accounts in
    let in_order = shown_in partners_table (0 ∷ 1 ∷ 2 ∷ 3 ∷ []) (0 ∷ []) partner_values rows.partners db (map partner_values shown.partners) (λ p. refl) has.rows_are.partners shows.partners in
    let same : shown.partners ≡ in_order.0 = same_records (λ _. Unit {0}) partner_values partner_one shown.partners in_order.0 (λ _ _. tt) (λ _ _. tt) in_order.2 in
    let table = shows.numbers.shown in
    let placed = unmapped interchange_values rows.interchanges table.by_key (IsPermutation-trans _ _ _ has.rows_are.interchanges.same table.same) in
    let numbers : shown.numbers ≡ map number_kept placed.0 =
    shows.numbers.are ∙ numbers_same shows.numbers.interchanges placed.0 (table.is ∙ ap (map (columns_at (0 ∷ 1 ∷ 3 ∷ []))) placed.2) in (
      record {
        runs = its.runs;
        high = its.high;
        by_id = subst (IsPermutation rows.partners) (sym same ∙ its.are) in_order.1;
        keeps = by_number closed.last_closed (length content.partners) its.runs rows
            (keeps_own closed.last_closed shown.partners content.partners rows placed.0 its placed.1 (own_once closed db rows shown content terminal has shows office)
            (subst (AreOwnNumbers closed.last_closed shown.partners) numbers office.own_numbers));
      },
      its.are,
    )

module _ (closed : ClosedContent) (content : SetupContent) (rows : Rows) (its : KeepsAccounts closed content rows) where
  -- a partner's next number follows its run
  pub next_follows : (p next : ℕ) → IsNextOf p rows next → next ≡ its.runs p + 1
  next_follows p next is =
      let own = has_filtered (has_id p) rows.partners is.0 (has_contained _ is.0 is.1) in
      let here : is.0.id ≡ p = eqb-true is.0.id p own.1 in
      sym is.2 ∙ next_by (λ q. its.runs q + 1) content.partners rows its.by_id is.0 (contains_had rows.partners is.0 own.0) ∙ ap (λ q. its.runs q + 1) here

  pub next_there : (p : ℕ) → 1 ≤ p → p ≤ length content.partners → IsNextOf p rows (its.runs p + 1)
  next_there p one most =
      let account = account_there 1 (λ q. its.runs q + 1) content.partners p one (omega (arith, most)) in
      let inside = Contains-permutation _ rows.partners account.0 (IsPermutation-sym _ _ its.by_id) account.1 in
      (account.0, contains_had _ account.0 (has_kept (has_id p) rows.partners account.0 (has_contained _ account.0 inside) (eq-eqb account.0.id p account.2)), account.3)

  -- the number that stands at a partner's place is its next
  pub next_at : (nexts : List ℕ) (p next : ℕ) → 1 ≤ p → p ≤ length content.partners → AreNexts rows nexts → with_number nexts p ≡ Some next → IsNextOf p rows next
  next_at nexts p next one most are is =
      let here : next ≡ its.runs p + 1 =
      number_of (λ q. its.runs q + 1) (length content.partners) p next (sym (ap (λ l. with_number l p) (nexts_are (λ q. its.runs q + 1) content.partners rows its.by_id nexts are)) ∙ is) in
      subst (IsNextOf p rows) (sym here) (next_there p one most)

-- ==== OfficeLemmas: What holds of the rows of an office, whether or not deliveries led to them.

-- ---- what stands beside the rows

-- what there is stays
pub same_beside : (closed : ClosedContent) (db : Database) (there : Option Beside) → StaysBeside closed db there there
same_beside closed db there = record { events = λ content es rows given has after beside. beside; office = λ content rows terminal holds. holds.beside }

-- what is none is beside any rows
pub none_beside : (closed : ClosedContent) (db : Database) (before : Option Beside) → StaysBeside closed db before None
none_beside closed db before = record { events = λ content es rows given has after beside. tt; office = λ content rows terminal holds. tt }

-- ---- the office

-- the same rows hold the same office, with what stands beside them or without
pub office_with : (closed : ClosedContent) (content : SetupContent) (rows : Rows) (terminal : TerminalState) (db db' : Database) (there there' : Option Beside) → db' ≡ db → IsOrNone rows terminal there' →
    HoldsOffice closed content rows terminal db there → HoldsOffice closed content rows terminal db' there'
office_with closed content rows terminal db db' there there' same beside holds = record {
  has = subst (HasRows rows) (sym same) holds.has;
  loads = subst (λ other. LoadsOwn closed other content terminal) (sym same) holds.loads;
  beside = beside;
}

-- a store's own rows show its set-up and its terminal
pub shown_by_own : (closed : ClosedContent) (rows : OpenedRows) (content : SetupContent) (terminal : TerminalState) → IsOwnOffice closed rows content terminal → ShowsSetupAndTerminal rows content terminal
shown_by_own closed rows content terminal office = record {
  given = office.given;
  settings = office.settings;
  blocks = office.blocks;
  accounts = office.accounts;
  plan = office.plan;
  limit = office.limit;
  whole = office.whole;
  formed = office.formed;
  placed_once = office.placed_once;
  listed_once = office.listed_once;
  terminal = office.terminal;
}

-- what is loaded is the office's terminal
pub loaded_is : (closed : ClosedContent) (content other : SetupContent) (rows : Rows) (terminal loaded : TerminalState) (db : Database) (there : Option Beside) → HoldsOffice closed content rows terminal db there → LoadsOwn closed db other loaded → loaded ≡ terminal
loaded_is closed content other rows terminal loaded db there holds loads =
    one_terminal db loads.0 holds.loads.0 other content loaded terminal loads.1 holds.loads.1 (shown_by_own closed loads.0 other loaded loads.2) (shown_by_own closed holds.loads.0 content terminal holds.loads.2)

-- no number of a partner is kept twice
pub office_once : (closed : ClosedContent) (content : SetupContent) (rows : Rows) (terminal : TerminalState) (db : Database) (there : Option Beside) → HoldsOffice closed content rows terminal db there → AreKeptOnce rows.interchanges
office_once closed content rows terminal db there holds = own_once closed db rows holds.loads.0 content terminal holds.has holds.loads.1 holds.loads.2

-- ==== OwnVisits: Applicable changes leave the visits of a store as it is checked for them, where some were put away.

-- ---- one visit more

numbered_more : (above : ℕ) (visits : List VisitContent) (visit : VisitContent) → AreNumbered above visits → last_from above visits < visit.number → AreNumbered above (visits ++ visit ∷ [])
numbered_more above [] visit rise far = (far, tt)
numbered_more above (v ∷ visits) visit rise far = (rise.0, numbered_more v.number visits visit rise.1 far)

one_more : (next above : ℕ) (visits : List VisitContent) (visit : VisitContent) → above + 1 ≡ next → GoOneByOne next visits → visit.number ≡ last_from above visits + 1 → GoOneByOne next (visits ++ visit ∷ [])
one_more next above [] visit e go is = (is ∙ e, tt)
one_more next above (v ∷ visits) visit e go is = (go.0, one_more (next + 1) v.number visits visit (ap (λ n. n + 1) go.0) go.1 is)

-- ---- visits after the newest closing

module _ (newest : ℕ) where
  abbrev later : List VisitContent → List VisitContent
  later = visits_after newest

  own_more : (low : ℕ) (visits : List VisitContent) (visit : VisitContent) → low ≤ newest → AreNumbered low visits → GoOneByOne (newest + 1) (later visits) → visit.number ≡ last_from low visits + 1
      → GoOneByOne (newest + 1) (later (visits ++ visit ∷ []))
  own_more low [] visit below rise go is = at (nat_le visit.number newest) refl
    where
      at : (old : Bool) → nat_le visit.number newest ≡ old → GoOneByOne (newest + 1) (cond (not old) (visit ∷ []) [])
      at true e = tt
      at false e = let far : newest < visit.number = leb-false visit.number newest e in (omega (arith, far, is, below), tt)
  own_more low (v ∷ visits) visit below rise go is = at (nat_le v.number newest) refl go (λ above more. own_more v.number visits visit above rise.1 more is)
    where
      at : (old : Bool) → nat_le v.number newest ≡ old → GoOneByOne (newest + 1) (cond (not old) (v ∷ later visits) (later visits))
          → (v.number ≤ newest → GoOneByOne (newest + 1) (later visits) → GoOneByOne (newest + 1) (later (visits ++ visit ∷ [])))
          → GoOneByOne (newest + 1) (cond (not old) (v ∷ later (visits ++ visit ∷ [])) (later (visits ++ visit ∷ [])))
      at true e go more = more (leb-true v.number newest e) go
      at false e go more =
          let far : newest < v.number = leb-false v.number newest e in
          let all : later visits ≡ visits = after_all newest v.number visits (omega (arith, far)) rise.1 in
          let with_it : later (visits ++ visit ∷ []) ≡ visits ++ visit ∷ [] = after_all newest v.number (visits ++ visit ∷ []) (omega (arith, far)) (numbered_more v.number visits visit rise.1 (omega (arith, is))) in (
            go.0,
            subst (GoOneByOne (newest + 1 + 1)) (sym with_it)
                (one_more (newest + 1 + 1) v.number visits visit (ap (λ n. n + 1) go.0) (subst (GoOneByOne (newest + 1 + 1)) all go.1) is),
          )

  -- ---- one that is closed

  module _ (number : ℕ) (departure : Departure) where
    abbrev closed : VisitContent → VisitContent
    closed = visit_with_departure number departure

    same_number : (v : VisitContent) → (closed v).number ≡ v.number
    same_number v = kept_number departure v (v.number == number)

    numbered_closed : (above : ℕ) (visits : List VisitContent) → AreNumbered above visits → AreNumbered above (map closed visits)
    numbered_closed above [] rise = tt
    numbered_closed above (v ∷ visits) rise = (
      subst (λ n. above < n) (sym (same_number v)) rise.0,
      subst (λ n. AreNumbered n (map closed visits)) (sym (same_number v)) (numbered_closed v.number visits rise.1),
    )

    one_closed : (next : ℕ) (visits : List VisitContent) → GoOneByOne next visits → GoOneByOne next (map closed visits)
    one_closed next [] go = tt
    one_closed next (v ∷ visits) go = (same_number v ∙ go.0, one_closed (next + 1) visits go.1)

    later_closed : (visits : List VisitContent) → later (map closed visits) ≡ map closed (later visits)
    later_closed [] = refl
    later_closed (v ∷ visits) = ap (λ n. cond (not (nat_le n newest)) (closed v ∷ later (map closed visits)) (later (map closed visits))) (same_number v) ∙ at (nat_le v.number newest) (later_closed visits)
      where
        at : (old : Bool) → later (map closed visits) ≡ map closed (later visits)
            → cond (not old) (closed v ∷ later (map closed visits)) (later (map closed visits)) ≡ map closed (cond (not old) (v ∷ later visits) (later visits))
        at true rest = rest
        at false rest = ap (λ l. closed v ∷ l) rest

  -- ---- changes

  one_change : (rows : TerminalRows) (change : ChangeContent) → IsApplicable rows change → AreOwnVisits newest rows.visits → AreOwnVisits newest (rows_with rows change).visits
  one_change rows (visit_opened visit) is own = record {
    rise = numbered_more 0 rows.visits visit own.rise (omega (arith, is.next));
    one_by_one = own_more 0 rows.visits visit (omega arith) own.rise own.one_by_one is.next;
  }
  one_change rows (visit_closed number departure) is own = record {
    rise = numbered_closed number departure 0 rows.visits own.rise;
    one_by_one = subst (GoOneByOne (newest + 1)) (sym (later_closed number departure rows.visits)) (one_closed number departure (newest + 1) (later rows.visits) own.one_by_one);
  }
  one_change rows (placed_at container visit slot) is own = own
  one_change rows (moved_to container slot) is own = own
  one_change rows (removed_from container) is own = own
  one_change rows (listed_on call side container port) is own = own
  one_change rows (line_done call side container) is own = own
  one_change rows (unlisted call side container) is own = own

  changes_go : (rows : TerminalRows) (changes : List ChangeContent) → AreApplicable rows changes → AreOwnVisits newest rows.visits → AreOwnVisits newest (rows_with_all rows changes).visits
  changes_go rows [] are own = own
  changes_go rows (change ∷ changes) are own = changes_go (rows_with rows change) changes are.1 (one_change rows change are.0 own)

  -- what an interchange leaves is so again
  pub interchange_keeps_own : (machine : MachineState) (partner : ℕ) (text : List ℕ) → IsWhole machine.terminal → AreOwnVisits newest machine.terminal.visits → AreOwnVisits newest (interchange_taken machine partner text).0.terminal.visits
  interchange_keeps_own machine partner text whole own =
      let leads = interchange_leads machine partner text whole in
      subst (λ (rows : TerminalRows). AreOwnVisits newest rows.visits) leads.turned (changes_go (rows_of machine.terminal) (interchange_changes machine partner text) leads.applicable own)

-- ==== PartLemmas: The machine with the terminal that is loaded.

-- the terminal that is loaded is that after the events, so the machine is
pub beside_loaded : (closed : ClosedContent) (content : SetupContent) (es : List Event) (rows : Rows) (db : Database) (other : SetupContent) (terminal : TerminalState) → IsGiven content → AreAfter content es rows → HasRows rows db →
    LoadsOwn closed db other terminal → machine_with (content_after content es) terminal ≡ machine_after content es
beside_loaded closed content es rows db other terminal given after has loads =
    let now = content_after content es in
    ap (machine_with now) (state_given content es rows db loads.0 other terminal given after has loads.1 (shown_by_own closed loads.0 other terminal loads.2))
    ∙ sym (runs_alone (taking_in newest content es) (opening_of now) (deliveries_of content es) (alone_in newest content es))
