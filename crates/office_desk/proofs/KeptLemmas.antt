-- What a desk answers by what it keeps.
use Rattle.std.specs.{Prelude.{◌==◌, Contains, IsSorted, slice_set, find}, List.{range_with_len, AllByRecursion}, List.Sorted.IsPermutation, Ordering.nat_cmp}
use Rattle.std.{specs.{Option.option_map, Result.IsErrAnd}, proofs.lemmas.Bool.{cond-true, cond-false, eq-eqb, ne_eqb, le-ltb, lt-ltb}}
use Rattle.std.proofs.Common.{◌≡◌, ℕ, ◌+◌, ◌-◌, ◌≤◌, List, [], ◌∷◌, length, map, Bool, true, false, cond, Option, refl, sym, ap, ap₂, subst, ◌∙◌, arith, ◌<◌, None, Some, Result, Ok, Err, IfOk, IfErr, OnOk, OnErr, string_bytes, ◌++◌, append_assoc}
use Rattle.std.proofs.{lemmas.List.Sorted.{Contains-permutation, IsPermutation-map, IsPermutation-sym, length_permutation}, lemmas.List.append-nil}
use Rattle.std.proofs.{lemmas.List.FromFn.length-map-range_with_len, lemmas.List.Elements.recursion_from_All}
use Rattle.edi_messages.specs.declared.codes.PartnerKind.{PartnerKind}
use Rattle.office_rows.specs.{Rows.{Partner, Rows, Interchange}, Effects.{with_waiting, is_pair}, Shown.AreNexts, Stored.{HasRows, columns_of}}
use Rattle.office_rows.specs.{Opening.opening_rows, Tables.interchange_table, Values.interchange_values, InPlace.AreInPlace}
use Rattle.office_admission.specs.{Taking.{MachineState, interchange_taken, machine_of}, Setups.{SetupContent, setup_content}, declared.setup.Setup.Setup}
use Rattle.office_admission.specs.{Given.IsGiven, Accounts.content_after, Deliveries.deliveries_of}
use Rattle.office_history.specs.{After.{accounts_from, AreKeptOnce, machine_with, reply_in, AreAfter, SaysSame}, Laws.HasNoMigration}
use Rattle.office_history.specs.Cascade.{TakenContent, AreTakenFrom, with_interchange, with_interchanges, with_run, text_in, texts_with}
use Rattle.office_history.proofs.{Runs.changes_beside, Kept.{head_in, tail_in}}
use Rattle.office_desk.specs.{Answers.{answer_by_model, AnswersNext}, Beside.{IsOf, IsBeside, nexts_after}, Offices.HoldsOffice, Telling.TakesNext, Calls.Leads}
use Rattle.office_desk.specs.{Kept.{Office, TakesIn, AnswersByKept, AnswersOrStays, LacksAnswer}, declared.beside.Beside.Beside, Desks.IsSound, Noting.IsNow}
use Rattle.office_desk.{specs.{Order.{IsInOrder, StandsInOrder}, declared.desk.Desk.Desk}, proofs.RunLoads.{early_loads, has_in_order, in_order, run_loads}}
use Rattle.office_desk.specs.Rebuilding.{DesksAreRebuilt, DesksKeepJournals, LooksStayInOrder, NewStoresAreInOrder, OpenedStandInOrder}
use Rattle.office_desk.proofs.{HoldLemmas.{id_of, ids_are, next_by, nexts_are, set_one, machine_same, reply_kept, number_within}, OwnNumbers.answers_alike}
use Rattle.office_desk.proofs.{DeliverLemmas.{KeepsAccounts, keeps_accounts, next_at, next_follows, office_once, office_with}, AccountLemmas.sound_before}
use Rattle.sqlite.specs.{Effect.Database, State.State, Order.Row, declared.types.Value.TheVariants.Blob}
use Rattle.partner_core.specs.{Answers.{Taken, Waiting, answer_by}, Deliveries.{Delivery, run}, Numbered.with_number, Standings.{standing_of, is_same_text}}
use Rattle.partner_core.specs.declared.runs.Standing.TheVariants.{Known, Other, Early, Next}
use Rattle.office_replies.specs.{Contents.content_of, declared.deliver.Response.Response, Delivering.{AreAnswered, LeadsOn, events_behind, with_answered}}
use Rattle.office_replies.specs.Events.{Event, delivered}
use Rattle.office_loading.specs.{Closed.ClosedContent, Tables.LoadsOwn}
use Rattle.office_tables.specs.{Answers.{IsKept, IsNextOf}, Faults.{IsOfStore, IsOfStoreOr}, declared.interchanges.Kept.Kept, Taking.IsNumbered}
use Rattle.office_tables.{specs.{declared.table_fault.TableFault.TableFault, Writing.Commits, Order.HasRowsInOrder}, proofs.WritesLemmas.of_store_or}
use Rattle.office_tables.proofs.WriteLemmas.{text_kept}
use Rattle.sqlite_trees.specs.declared.store.Store.{Ghosts}
use Rattle.office_parts.{specs.{Journal.{delivered_all, kept_texts}, Kept.kept, Rebuilding.IsSameOffice}, proofs.{Again.rebuilding, Alike.kept_twice}}
use Rattle.office_parts.proofs.{Entries.{again, delivered_content}, JournalOrders.{opening_is_in_order, stored_is_journal}}
use Rattle.office_replies.specs.declared.deliver.Response.TheVariants as response

-- ==== RunNexts: The partners' next numbers after a run: its own partner's follows it.

-- ---- the accounts

-- an account with that next number, if it is the partner's
abbrev pub raised : ℕ → ℕ → Partner → Partner
raised p next account = cond (account.id == p) (record account { next = next }) account

raised_twice : (p high low : ℕ) (account : Partner) → raised p high (raised p low account) ≡ raised p high account
raised_twice p high low account = at (account.id == p) refl
  where
    at : (own : Bool) → (account.id == p) ≡ own → raised p high (cond own (record account { next = low }) account) ≡ raised p high account
    at true e = cond-true (account.id == p) (record account { next = high }) (record account { next = low }) e ∙ sym (cond-true (account.id == p) (record account { next = high }) account e)
    at false e = refl

raised_all : (p high low : ℕ) (accounts : List Partner) → map (raised p high) (map (raised p low) accounts) ≡ map (raised p high) accounts
raised_all p high low [] = refl
raised_all p high low (account ∷ accounts) = ap₂ ◌∷◌ (raised_twice p high low account) (raised_all p high low accounts)

module _ (p : ℕ) (texts : ℕ → Option (List ℕ)) where
  one_raised : (t : TakenContent) (number : ℕ) (rows : Rows) → t.number ≡ number → (with_interchange p t rows).partners ≡ map (raised p (number + 1)) rows.partners
  one_raised t number rows is = ap (map (raised p (t.number + 1))) (changes_beside t.changes rows).partners ∙ ap (λ n. map (raised p (n + 1)) rows.partners) is

  run_raised : (number : ℕ) (old new : MachineState) (first : TakenContent) (later : List TakenContent) (rows : Rows) → AreTakenFrom p texts number old (first ∷ later) new →
      (with_interchanges p (first ∷ later) rows).partners ≡ map (raised p (number + length (first ∷ later))) rows.partners
  run_raised number old new first [] rows taken =
      let end : number + 1 ≡ number + length (first ∷ []) = omega arith in
      one_raised first number rows taken.2 ∙ ap (λ n. map (raised p n) rows.partners) end
  run_raised number old new first (t ∷ later) rows taken =
      let end : number + 1 + length (t ∷ later) ≡ number + length (first ∷ t ∷ later) = omega arith in
      run_raised (number + 1) (interchange_taken old p taken.0).0 new t later (with_interchange p first rows) taken.5
      ∙ ap (map (raised p (number + 1 + length (t ∷ later)))) (one_raised first number rows taken.2)
      ∙ raised_all p (number + 1 + length (t ∷ later)) (number + 1) rows.partners
      ∙ ap (λ n. map (raised p n) rows.partners) end

-- the accounts after a run
pub accounts_raised : (p number : ℕ) (texts : ℕ → Option (List ℕ)) (text : List ℕ) (old new : MachineState) (first : TakenContent) (later : List TakenContent) (rows : Rows) → AreTakenFrom p texts number old (first ∷ later) new →
    (with_run p number text (first ∷ later) rows).partners ≡ map (raised p (number + length (first ∷ later))) rows.partners
accounts_raised p number texts text old new first later rows taken = run_raised p texts number old new first later (with_waiting p number text rows) taken

-- ---- the numbers

same_id : (own : Bool) (next : ℕ) (account : Partner) → (cond own (record account { next = next }) account).id ≡ account.id
same_id true next account = refl
same_id false next account = refl

same_ids : (p next : ℕ) (accounts : List Partner) → map id_of (map (raised p next) accounts) ≡ map id_of accounts
same_ids p next [] = refl
same_ids p next (account ∷ accounts) = ap₂ ◌∷◌ (same_id (account.id == p) next account) (same_ids p next accounts)

own_next : (own : Bool) (next other : ℕ) (account : Partner) → account.next ≡ other → (cond own (record account { next = next }) account).next ≡ cond own next other
own_next true next other account is = refl
own_next false next other account is = is

their_nexts : (p next : ℕ) (f : ℕ → ℕ) (accounts : List Partner) → ((a : Partner) → Contains accounts a → a.next ≡ f a.id) →
    map (λ (a : Partner). a.next) (map (raised p next) accounts) ≡ map (λ q. cond (q == p) next (f q)) (map id_of accounts)
their_nexts p next f [] all = refl
their_nexts p next f (account ∷ accounts) all =
    ap₂ ◌∷◌ (own_next (account.id == p) next (f account.id) account (all account (head_in account accounts)))
    (their_nexts p next f accounts (λ a inside. all a (tail_in account a accounts inside)))

pub nexts_raised : (f : ℕ → ℕ) (accounts : List (List ℕ × PartnerKind)) (rows new : Rows) (p next : ℕ) (nexts : List ℕ) → IsPermutation rows.partners (accounts_from 1 f accounts) → 1 ≤ p →
    new.partners ≡ map (raised p next) rows.partners → AreNexts rows nexts → AreNexts new (slice_set nexts (p - 1) next)
nexts_raised f accounts rows new p next nexts placed one are nexts_of =
    let by_id = nexts_of.0 in
    let f' : ℕ → ℕ = λ q. cond (q == p) next (f q) in
    let here : f' p ≡ next = cond-true (p == p) next (f p) (eq-eqb p p refl) in
    let ids = ids_are f accounts rows placed by_id nexts_of.1 nexts_of.2 in
    let set : slice_set nexts (p - 1) next ≡ map f' (range_with_len 1 (length accounts)) =
    ap₂ (λ l n. slice_set l (p - 1) n) (nexts_are f accounts rows placed nexts nexts_of) (sym here)
    ∙ set_one f f' p (λ q apart. cond-false (q == p) next (f q) (ne_eqb q p apart)) (length accounts) one in
    let theirs = their_nexts p next f by_id (λ a inside. next_by f accounts rows placed a (Contains-permutation by_id rows.partners a (IsPermutation-sym rows.partners by_id nexts_of.1) inside)) in (
      map (raised p next) by_id,
      subst (λ l. IsPermutation l (map (raised p next) by_id)) (sym are) (IsPermutation-map (raised p next) rows.partners by_id nexts_of.1),
      subst (IsSorted nat_cmp) (sym (same_ids p next by_id)) nexts_of.2,
      set ∙ ap (map f') (sym ids) ∙ sym theirs,
    )

-- ==== KeptLemmas: What a desk answers by what it keeps.

-- ---- what is found

module _ (closed : ClosedContent) (content : SetupContent) (old : Office) (db : Database) (before : Option Beside) (holds : HoldsOffice closed content old.rows old.terminal db before) where
  abbrev accounts : KeepsAccounts closed content old.rows
  accounts = (keeps_accounts closed content old.rows old.terminal db holds.has holds.loads).0

  pub next_found : (partner next : ℕ) (there : Beside) → 1 ≤ partner → IsOf old.rows old.terminal there → with_number there.nexts.items partner ≡ Some next → IsNextOf partner old.rows next
  next_found partner next there one is_of is =
      let f : ℕ → ℕ = λ p. accounts.runs p + 1 in
      let many : length there.nexts.items ≡ length content.partners =
      ap length (nexts_are f content.partners old.rows accounts.by_id there.nexts.items is_of.nexts) ∙ length-map-range_with_len f 1 (length content.partners) in
      let low = number_within there.nexts.items partner next is in
      next_at closed content old.rows accounts there.nexts.items partner next one (omega (arith, low, many)) is_of.nexts is

  -- ---- what is used

  pub used_takes : (d : Delivery) (same : Bool) (next : ℕ) (reply : Option (List ℕ)) → reply_in old.rows d.partner d.number ≡ reply → TakesIn (cond same Known Other) content d next (answer_by (cond same Known Other) next reply None) old old
  used_takes d true next reply is = (ap (λ r. answer_by Known next r None) (sym is), refl)
  used_takes d false next reply is = (refl, refl)

  pub used_by_kept : (d : Delivery) (code : List ℕ) (kept : Kept) (response : Response) (db' : Database) (there : Beside) (next : ℕ) → db' ≡ db → IsOf old.rows old.terminal there → IsNextOf d.partner old.rows next → IsKept d.partner d.number old.rows (Some kept) →
      content_of response ≡ answer_by_model code d.number (answer_by (standing_of next d.number (Some kept.text.items) d.text) next (option_map string_bytes kept.reply) None) →
      AnswersByKept closed content d code old response db' (Some there)
  used_by_kept d code kept response db' there next same is_of is_next is told =
      let once = office_once closed content old.rows old.terminal db before holds in
      let used : text_in old.rows d.partner d.number ≡ Some kept.text.items = text_kept d.partner d.number old.rows kept once is in
      let tells = answer_by (standing_of next d.number (Some kept.text.items) d.text) next (option_map string_bytes kept.reply) None in
      record {
        next = next;
        is_next = is_next;
        told = tells;
        new = old;
        takes = subst (λ o. TakesIn (standing_of next d.number o d.text) content d next tells old old) (sym used)
            (used_takes d (is_same_text kept.text.items d.text) next (option_map string_bytes kept.reply) (reply_kept d.partner d.number old.rows kept once is));
        answers = told;
        holds = record { has = subst (HasRows old.rows) (sym same) holds.has; loads = subst (λ other. LoadsOwn closed other content old.terminal) (sym same) holds.loads; beside = is_of };
      }

  -- ---- what is early

  pub early_by_kept : (d : Delivery) (code : List ℕ) (response : Response) (was end : State) (there : Beside) (next : ℕ) → was.committed ≡ db → IsOf old.rows old.terminal there → IsNextOf d.partner old.rows next →
      text_in old.rows d.partner d.number ≡ None → next < d.number → d.number ≤ 999999999 → 1 ≤ d.partner → d.partner ≤ length content.partners →
      content_of response ≡ answer_by_model code d.number (Waiting next) → Commits (with_waiting d.partner d.number d.text) was end → AnswersByKept closed content d code old response end.committed (Some there)
  early_by_kept d code response was end there next same beside is_next free later high one most told wrote =
      let has : HasRows (with_waiting d.partner d.number d.text old.rows) end.committed = wrote.rows old.rows (subst (HasRows old.rows) (sym same) holds.has) in
      let in_turn = wrote.rows (in_order old.rows holds.loads.0) (subst (HasRows (in_order old.rows holds.loads.0)) (sym same) (has_in_order old.rows holds.loads.0 db holds.has holds.loads.1)) in
      let follows = next_follows closed content old.rows accounts d.partner next is_next in
      let new : Office = record old { rows = with_waiting d.partner d.number d.text old.rows } in
      let by_none : TakesIn (standing_of next d.number None d.text) content d next (Waiting next) old new =
      subst (λ is. TakesIn (cond is Early Next) content d next (Waiting next) old new) (sym (lt-ltb next d.number later)) (refl, refl) in
      record {
        next = next;
        is_next = is_next;
        told = Waiting next;
        new = new;
        takes = subst (λ o. TakesIn (standing_of next d.number o d.text) content d next (Waiting next) old new) (sym free) by_none;
        answers = told;
        holds = record {
          has = has;
          loads = early_loads closed content old.rows d.partner d.number d.text old.terminal db end.committed holds.has holds.loads in_turn one most high (omega (arith, follows, later)) free;
          beside = record { terminal_is = beside.terminal_is; nexts = beside.nexts };
        };
      }

-- ---- what is next

pub next_by_kept : (closed : ClosedContent) (setup : Setup) (old : Office) (d : Delivery) (code : List ℕ) (response : Response) (was : Database) (there now : Beside) (end : State) (next : ℕ) →
    HoldsOffice closed (setup_content setup) old.rows old.terminal was (Some there) → IsNextOf d.partner old.rows next → text_in old.rows d.partner d.number ≡ None → d.number ≡ next → 1 ≤ d.partner →
    TakesNext old.rows d code setup there response now end → LoadsOwn closed end.committed (setup_content setup) now.terminal →
    AnswersByKept closed (setup_content setup) d code old response end.committed (Some now)
next_by_kept closed setup old d code response was there now end next holds is_next free same one takes loads =
    let content = setup_content setup in
    let its = (keeps_accounts closed content old.rows old.terminal was holds.has holds.loads).0 in
    let run = takes.first ∷ takes.later in
    let new : Office = record { rows = with_run d.partner d.number d.text run old.rows; terminal = now.terminal } in
    let told = Taken (Some takes.first.reply) in
    let texts = texts_with old.rows d.partner d.number d.text in
    let taken : AreTakenFrom d.partner texts d.number (machine_with content old.terminal) run (machine_with content now.terminal) =
    subst (λ m. AreTakenFrom d.partner texts d.number (machine_with content old.terminal) run m) (machine_same setup now.terminal)
    (subst (λ m. AreTakenFrom d.partner texts d.number m run (machine_of setup now.terminal)) (machine_same setup there.terminal ∙ ap (machine_with content) holds.beside.terminal_is) takes.taken) in
    let by_none : TakesIn (standing_of next d.number None d.text) content d next told old new =
    subst (λ is. TakesIn (cond is Early Next) content d next told old new) (sym (le-ltb next d.number (omega (arith, same))))
    (same, record { first = takes.first; later = takes.later; taken = taken; rows = refl; is_told = refl }) in
    let partners = accounts_raised d.partner d.number texts d.text _ _ takes.first takes.later old.rows taken in
    record {
      next = next;
      is_next = is_next;
      told = told;
      new = new;
      takes = subst (λ o. TakesIn (standing_of next d.number o d.text) content d next told old new) (sym free) by_none;
      answers = takes.answers;
      holds = record {
        has = takes.has;
        loads = loads;
        beside = record {
          terminal_is = refl;
          nexts = subst (AreNexts new.rows) (sym takes.raised)
              (nexts_raised (λ p. its.runs p + 1) content.partners old.rows new.rows d.partner (d.number + length run) there.nexts.items its.by_id one partners holds.beside.nexts);
        };
      };
    }

-- the rows have only numbers of interchanges
pub numbered_in : (closed : ClosedContent) (content : SetupContent) (old : Office) (db : Database) (there : Option Beside) (partner : ℕ) (rows : Rows) → HoldsOffice closed content old.rows old.terminal db there → rows.interchanges ≡ old.rows.interchanges → IsNumbered partner rows
numbered_in closed content old db there partner rows holds same = record {
  kept_once = subst AreKeptOnce (sym same) (office_once closed content old.rows old.terminal db there holds);
  none_beyond = ap (λ l. option_map (λ (i : Interchange). i.body) (find (is_pair partner 1000000000) l)) same ∙ at (text_in old.rows partner 1000000000) refl;
}
  where
    at : (found : Option (List ℕ)) → text_in old.rows partner 1000000000 ≡ found → text_in old.rows partner 1000000000 ≡ None
    at None e = e
    at (Some text) e = let its = (keeps_accounts closed content old.rows old.terminal db holds.has holds.loads).0.keeps.within partner 1000000000 text e in absurd (omega (arith, its.3))

-- what was taken of the rows leaves an office again
pub next_answers_so : (closed : ClosedContent) (setup : Setup) (old : Office) (d : Delivery) (code : List ℕ) (response : Response) (was : Database) (there now : Beside) (end : State) (next : ℕ) →
    HoldsOffice closed (setup_content setup) old.rows old.terminal was (Some there) → IsNextOf d.partner old.rows next → text_in old.rows d.partner d.number ≡ None → d.number ≡ next →
    1 ≤ d.partner → d.partner ≤ length (setup_content setup).partners → d.number ≤ 999999999 →
    ((rows : Rows) → HasRows rows was → IsNumbered d.partner rows → TakesNext rows d code setup there response now end) →
    AnswersByKept closed (setup_content setup) d code old response end.committed (Some now)
next_answers_so closed setup old d code response was there now end next holds is_next free same one most high takes =
    let content = setup_content setup in
    let found = keeps_accounts closed content old.rows old.terminal was holds.has holds.loads in
    let shown = holds.loads.0 in
    let rows = in_order old.rows shown in
    let run = takes rows (has_in_order old.rows shown was holds.has holds.loads.1) (numbered_in closed content old was (Some there) d.partner rows holds refl) in
    let texts = texts_with old.rows d.partner d.number d.text in
    let taken : AreTakenFrom d.partner texts d.number (machine_with content old.terminal) (run.first ∷ run.later) (machine_with content now.terminal) =
    subst (λ m. AreTakenFrom d.partner texts d.number (machine_with content old.terminal) (run.first ∷ run.later) m) (machine_same setup now.terminal)
    (subst (λ m. AreTakenFrom d.partner texts d.number m (run.first ∷ run.later) (machine_of setup now.terminal)) (machine_same setup there.terminal ∙ ap (machine_with content) holds.beside.terminal_is) run.taken) in
    let loads : LoadsOwn closed end.committed content now.terminal =
    run_loads closed content old.rows old.terminal was holds.has holds.loads d.partner d.text d.number (run.first ∷ run.later) now.terminal free
    (same ∙ next_follows closed content old.rows found.0 d.partner next is_next) one most taken high end.committed run.has in
    next_by_kept closed setup old d code response was there now end next holds is_next free same one
    (takes old.rows holds.has (numbered_in closed content old was (Some there) d.partner old.rows holds refl)) loads

-- ---- calls that failed

pub failed_stays : (Q : TableFault → Type 0) (closed : ClosedContent) (content : SetupContent) (old : Office) (d : Delivery) (code : List ℕ) (r : Result Response TableFault) (db : Database) (there : Option Beside) → IsErrAnd r Q →
    ((fault : TableFault) → Q fault → IsOfStoreOr (LacksAnswer closed d.partner d.number old.rows) fault) → HoldsOffice closed content old.rows old.terminal db there → AnswersOrStays closed content d code old r db there
failed_stays Q closed content old d code (Ok response) db there is why holds = absurd is
failed_stays Q closed content old d code (Err fault) db there is why holds = (why fault is, holds)

pub early_or_stays : (closed : ClosedContent) (content : SetupContent) (old : Office) (d : Delivery) (code : List ℕ) (r : Result Response TableFault) (was end : State) (there : Beside) (next : ℕ) →
    HoldsOffice closed content old.rows old.terminal was.committed (Some there) → IsNextOf d.partner old.rows next → text_in old.rows d.partner d.number ≡ None → next < d.number → d.number ≤ 999999999 → 1 ≤ d.partner → d.partner ≤ length content.partners →
    IfOk r (λ response. content_of response ≡ answer_by_model code d.number (Waiting next)) → OnOk r (Commits (with_waiting d.partner d.number d.text) was end) → OnErr r (end.committed ≡ was.committed) → IfErr r IsOfStore →
    AnswersOrStays closed content d code old r end.committed (Some there)
early_or_stays closed content old d code (Ok response) was end there next holds is_next free later high one most told wrote same why =
    early_by_kept closed content old was.committed (Some there) holds d code response was end there next refl holds.beside is_next free later high one most told wrote
early_or_stays closed content old d code (Err fault) was end there next holds is_next free later high one most told wrote same why =
    (of_store_or _ fault why, office_with closed content old.rows old.terminal was.committed end.committed (Some there) (Some there) same holds.beside holds)

-- ==== RebuiltLemmas: Desks that stand in the order of arrival, and the office that their texts make again.

-- ---- a new store

none_stored : (stored : List Row) → IsPermutation [] (map (columns_of interchange_table) stored) → stored ≡ []
none_stored [] same = refl
none_stored (r ∷ stored) same = absurd (omega (arith, length_permutation _ _ same))

pub new_in_order : NewStoresAreInOrder
new_in_order content db has =
    let empty : db.trees interchange_table.tree ≡ [] = none_stored (db.trees interchange_table.tree) has.rows_are.interchanges.same in
    record {
      rows = opening_rows content;
      has = record { has = has; in_place = subst (AreInPlace interchange_table interchange_values []) (sym empty) (record { placed = tt; same = refl }) };
      after = opening_is_in_order content;
    }

module _ {S : Type 0} (g : Ghosts S) where
  -- ---- a desk that is opened, and one that only looks

  pub opened_in_order : OpenedStandInOrder g
  opened_in_order found desk content es opens office order =
      let says = opens.opening_says in
      let back : SaysSame content opens.opening = record { terminal = sym says.terminal; codes = sym says.codes; partners = sym says.partners; blocks = sym says.blocks; limit = sym says.limit } in
      let alike = answers_alike content opens.opening back es in
      record {
        stands = opens.stands;
        in_order = record {
          rows = order.rows;
          has = subst (HasRowsInOrder order.rows) (sym office.unchanged.0.committed_is) order.has;
          after = record { after = alike.rows order.rows order.after.after; in_order = alike.order order.rows order.after.in_order };
        };
      }

  pub looked_in_order : LooksStayInOrder g
  looked_in_order old new content es looks sound was = record {
    stands = looks.same sound content es was.stands;
    in_order = subst (IsInOrder content es) (sym (looks.committed sound)) was.in_order;
  }

  -- ---- deliveries

  pub delivered_in_order : (old new : Desk S g) (texts : List (List ℕ)) (responses : List Response) → LeadsOn (Leads g) old texts responses new → IsSound g new →
      (content : SetupContent) (es : List Event) → StandsInOrder g content es old → AreAnswered (StandsInOrder g content) (AnswersNext content) es new texts responses
  delivered_in_order old new [] [] same sound content es was = record { each = tt; stands_now = subst (StandsInOrder g content es) (sym same) was }
  delivered_in_order old new [] (response ∷ responses) none sound content es was = absurd none
  delivered_in_order old new (text ∷ texts) [] none sound content es was = absurd none
  delivered_in_order old new (text ∷ texts) (response ∷ responses) (next, call, rest) sound content es was =
      let there = sound_before g next new texts responses rest sound in
      let one = call.delivers there content es was.stands in
      let others = delivered_in_order next new texts responses rest sound content (with_answered es text response) (record { stands = one.1; in_order = call.order.rows there content es was }) in
      record { each = (one.0, others.each); stands_now = others.stands_now }

  pub journal_kept : DesksKeepJournals g
  journal_kept content es desk was =
      let order = was.in_order in
      let stored = stored_is_journal content es order.rows _ order.after order.has.in_place in
      record { placed = stored.0; bodies = stored.1 }

  -- the events after deliveries that were each answered
  now_delivered : (es : List Event) (text : List ℕ) (response : Response) → IsNow response → with_answered es text response ≡ es ++ delivered text ∷ []
  now_delivered es text response.NotNow is = absurd is
  now_delivered es text response is = refl

  all_delivered : (es : List Event) (old new : Desk S g) (texts : List (List ℕ)) (responses : List Response) → LeadsOn (Leads g) old texts responses new → AllByRecursion IsNow responses →
      events_behind es texts responses ≡ es ++ delivered_all texts
  all_delivered es old new [] [] same now = sym (append-nil es)
  all_delivered es old new [] (response ∷ responses) none now = absurd none
  all_delivered es old new (text ∷ texts) [] none now = absurd none
  all_delivered es old new (text ∷ texts) (response ∷ responses) (next, call, rest) now =
      all_delivered (with_answered es text response) next new texts responses rest now.1
      ∙ ap (λ before. before ++ delivered_all texts) (now_delivered es text response now.0)
      ∙ append_assoc es (delivered text ∷ []) (delivered_all texts)

-- ---- the office made again

pub same_blobs : (texts others : List (List ℕ)) → map Blob texts ≡ map Blob others → texts ≡ others
same_blobs [] [] e = refl
same_blobs [] (other ∷ others) e = cc
same_blobs (text ∷ texts) [] e = cc
same_blobs (text ∷ texts) (other ∷ others) e =
    let first : text ≡ other = cc in
    let later : map Blob texts ≡ map Blob others = cc in
    ap₂ ◌∷◌ first (same_blobs texts others later)

pub nexts_from : (id : ℕ) (f : ℕ → ℕ) (accounts : List (List ℕ × PartnerKind)) → map (λ (p : Partner). p.next) (accounts_from id f accounts) ≡ map f (range_with_len id (length accounts))
nexts_from id f [] = refl
nexts_from id f (account ∷ accounts) = ap (λ l. f id ∷ l) (nexts_from (id + 1) f accounts)

-- the numbers of the rows after some events and after others
nexts_same : (one other : SetupContent) (es fs : List Event) (rows : Rows) → AreAfter one es rows → AreAfter other fs rows → nexts_after one es ≡ nexts_after other fs
nexts_same one other es fs rows are those =
    sym (nexts_from 1 (λ p. run (deliveries_of one es) p + 1) (content_after one es).partners)
    ∙ ap (map (λ (p : Partner). p.next)) (sym are.partners ∙ those.partners)
    ∙ nexts_from 1 (λ p. run (deliveries_of other fs) p + 1) (content_after other fs).partners

module _ (content : SetupContent) (es : List Event) (none : HasNoMigration es) where
  abbrev now : SetupContent
  now = content_after content es

  abbrev again_all : List Event
  again_all = delivered_all (kept_texts content es)

  same_office : IsSameOffice content es now again_all
  same_office =
      subst (λ fs. IsSameOffice content es now fs) (append-nil again_all)
      (subst (λ l. IsSameOffice content l now (again_all ++ [])) (append-nil es) (rebuilding content es [] (subst HasNoMigration (sym (append-nil es)) none)))

  same_beside : (rows : Rows) (there : Option Beside) → AreAfter now again_all rows → IsBeside now again_all there → IsBeside content es there
  same_beside rows None are beside = tt
  same_beside rows (Some there) are beside = record {
    terminal = ap (λ c. machine_with c there.terminal) (sym (delivered_content (kept_texts content es) now)) ∙ beside.terminal ∙ sym same_office.machine;
    nexts = beside.nexts ∙ nexts_same now content again_all es rows are (same_office.back rows are);
  }

  -- a desk that stands at the journal, delivered again, stands at the events
  pub stands_again : {S : Type 0} (g : Ghosts S) (desk : Desk S g) → IsGiven content → StandsInOrder g now again_all desk → StandsInOrder g content es desk
  stands_again g desk given is =
      let stands = is.stands in
      let order = is.in_order in
      record {
        stands = record {
          given = given;
          now_is = sym (delivered_content (kept_texts content es) now) ∙ stands.now_is;
          rows = stands.rows;
          has = stands.has;
          after = same_office.back stands.rows stands.after;
          beside = same_beside stands.rows desk.beside stands.after stands.beside;
        };
        in_order = record {
          rows = order.rows;
          has = order.has;
          after = record {
            after = same_office.back order.rows order.after.after;
            in_order = order.after.in_order ∙ ap kept (again content es) ∙ kept_twice (deliveries_of content es);
          };
        };
      }

pub rebuilt : {S : Type 0} (g : Ghosts S) → DesksAreRebuilt g
rebuilt g content es first opened new texts responses none was keeps opens led now sound =
    let same : texts ≡ kept_texts content es = same_blobs texts (kept_texts content es) (sym keeps.bodies ∙ (journal_kept g content es first was).bodies) in
    let after = delivered_in_order g opened new texts responses led sound (content_after content es) [] opens in
    let behind : events_behind [] texts responses ≡ delivered_all (kept_texts content es) =
    all_delivered g [] opened new texts responses led (recursion_from_All IsNow responses now) ∙ ap delivered_all same in
    stands_again content es none g new was.stands.given (subst (λ fs. StandsInOrder g (content_after content es) fs new) behind after.stands_now)
