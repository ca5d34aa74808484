-- What a desk hands out: pages of its journal.
use Rattle.std.specs.{Prelude.{◌==◌, ◌||◌, drop, filter}, Result.IsErrAnd, List.list_any, Cmp.nat_cmp_is, Ordering.{is_ge, is_gt}}
use Rattle.std.proofs.Common.{◌≡◌, ◌⊎◌, option_map, string_bytes, ℕ, ◌+◌, ◌<◌, ◌≤◌, inl, inr, List, [], ◌∷◌, cond, Option, None, Some, Result, Ok, Err, OnOk, refl, sym, ap, subst, ◌∙◌, arith, zero, suc, length, map, Bool, true, false, Ordering, Less, Equal, Greater, ◌-◌, ◌++◌, take, get_or, slice_get}
use Rattle.std.proofs.{lemmas.Bool.{cond-true, eq-eqb, le-ltb, lt-ltb, cases_order, ne_eqb}, lemmas.Option.{slice_get-map, slice_get_read}}
use Rattle.std.proofs.lemmas.List.{drop-map, length-map, take_more, map-append, length-take}
use Rattle.sqlite.specs.{Effect.Database, State.State, Tree.{Trees, rowid}, Order.{Row, column, value_cmp}, declared.types.Value.TheVariants.Blob}
use Rattle.partner_core.specs.{Answers.{Taken, Waiting, answer_by}, Deliveries.{Delivery, delivery}, Standings.{is_same_text, standing_of}}
use Rattle.partner_core.specs.declared.runs.Standing.TheVariants.{Early, Next}
use Rattle.terminal_core.specs.{State.TerminalState, Versions.newest}
use Rattle.office_replies.specs.declared.deliver.Response.{Response}
use Rattle.office_loading.specs.{Closed.ClosedContent, Pages.{IsPage, most_page_bytes}, Texts.{has_reached, is_after, is_from}}
use Rattle.office_loading.proofs.TakenLemmas.{reached_none}
use Rattle.office_rows.specs.{Rows.Rows, Effects.with_waiting, Stored.{HasRows, StoresRows}, Tables.interchange_table, Values.number_value, Places.ArePlaced}
use Rattle.office_rows.proofs.Creating.{stores}
use Rattle.office_admission.specs.{Setups.{SetupContent, setup_content, account_contents}, declared.setup.Setup.Setup, Parties.{partner_codes, partner_from}}
use Rattle.office_admission.{specs.{Taking.{MachineState, interchange_taken, machine_of}, declared.setup.Account.Account}, proofs.Forming.terminal_alone}
use Rattle.office_tables.specs.{Answers.{IsKept, IsNextOf}, declared.interchanges.Kept.Kept, declared.table_fault.TableFault.TableFault}
use Rattle.office_tables.{specs.Writing.{Commits, IsWhole}, proofs.WriteLemmas.text_kept}
use Rattle.office_history.{specs.{After.machine_with, Cascade.{TakenContent, AreTakenFrom, text_in, texts_with, with_run}}, proofs.Runs.number_order}
use Rattle.office_desk.specs.{Kept.{Office, TakesIn}, Leaving.{IsTakenInto, LeavesIt, LeavesItOrNot, LeavesOver, LeavesRows, LeavesTakenOver}, Looking.PagesOf}
use Rattle.office_desk.specs.{Offices.HoldsOffice, Telling.{IsRunDone, TakesNext}, declared.beside.Beside.Beside, Causes.{LacksNumbers, LacksSome}}
use Rattle.office_desk.specs.{Rebuilding.{DesksHandOutJournals, HandsTexts, KeepsTexts}, Reports.{AreLookedUp, IsLookedUp, TellsPartner}}
use Rattle.office_desk.proofs.{HoldLemmas.{either_of, machine_same, reply_kept}, KeptLemmas.{used_takes, journal_kept, same_blobs}, DeliverLemmas.office_once}
use Rattle.office_desk.proofs.AccountLemmas.{found_by_code}
use Rattle.sqlite_trees.specs.declared.store.Store.{Ghosts}
use Rattle.office_parts.specs.Journal.{kept_texts}
use Rattle.edi_messages.specs.declared.codes.PartnerKind.{PartnerKind}
use Rattle.office_reports.specs.{Partners.{PartnerContent, partner_content, row_of}, declared.partners.Partner.Partner}
use Rattle.office_report_data.specs.Told as value
use Rattle.office_replies.specs.declared.deliver.Response.TheVariants as response

-- ==== LeavingLemmas: What a crash leaves of an office's rows after one delivery.

-- ---- calls that failed

pub failed_over : (Q : TableFault → Type 0) (content : SetupContent) (d : Delivery) (old : Office) (r : Result Response TableFault) (s : State) → IsErrAnd r Q → LeavesItOrNot content d old s → LeavesTakenOver content d old r s
failed_over Q content d old (Ok response) s is leaves = absurd is
failed_over Q content d old (Err fault) s is leaves = leaves

-- ---- one that is used

pub used_into : (closed : ClosedContent) (content : SetupContent) (old : Office) (was : Database) (there : Option Beside) (holds : HoldsOffice closed content old.rows old.terminal was there) (d : Delivery) (kept : Kept) (next : ℕ) →
    IsNextOf d.partner old.rows next → IsKept d.partner d.number old.rows (Some kept) → (db : Trees) → StoresRows old.rows db → IsTakenInto content d old db
used_into closed content old was there holds d kept next is_next is db are =
    let once = office_once closed content old.rows old.terminal was there holds in
    let used : text_in old.rows d.partner d.number ≡ Some kept.text.items = text_kept d.partner d.number old.rows kept once is in
    let told = answer_by (standing_of next d.number (Some kept.text.items) d.text) next (option_map string_bytes kept.reply) None in
    record {
      next = next;
      is_next = is_next;
      told = told;
      new = old;
      takes = subst (λ o. TakesIn (standing_of next d.number o d.text) content d next told old old) (sym used)
          (used_takes closed content old was there holds d (is_same_text kept.text.items d.text) next (option_map string_bytes kept.reply) (reply_kept d.partner d.number old.rows kept once is));
      are = are;
    }

-- ---- one that is early

module _ (content : SetupContent) (d : Delivery) (old : Office) (next : ℕ) (is_next : IsNextOf d.partner old.rows next) (free : text_in old.rows d.partner d.number ≡ None) where
  early_into : next < d.number → (db : Trees) → StoresRows (with_waiting d.partner d.number d.text old.rows) db → IsTakenInto content d old db
  early_into later db are =
      let new : Office = record old { rows = with_waiting d.partner d.number d.text old.rows } in
      let by_none : TakesIn (standing_of next d.number None d.text) content d next (Waiting next) old new =
      subst (λ is. TakesIn (cond is Early Next) content d next (Waiting next) old new) (sym (lt-ltb next d.number later)) (refl, refl) in
      record {
        next = next;
        is_next = is_next;
        told = Waiting next;
        new = new;
        takes = subst (λ o. TakesIn (standing_of next d.number o d.text) content d next (Waiting next) old new) (sym free) by_none;
        are = are;
      }

  pub early_leaves_over : next < d.number → (r : Result Response TableFault) (was end : State) → HasRows old.rows was.committed → LeavesRows old.rows was → OnOk r (Commits (with_waiting d.partner d.number d.text) was end) →
      ((db : Trees) → end.may_leave db → was.may_leave db ⊎ IsWhole (with_waiting d.partner d.number d.text) was db) → LeavesTakenOver content d old r end
  early_leaves_over later (Ok response) was end has leaves wrote crash = λ db left.
      let rows = with_waiting d.partner d.number d.text old.rows in
      early_into later db (subst (StoresRows rows) (sym (wrote.alone db left)) (stores rows end.committed (wrote.rows old.rows has)))
  early_leaves_over later (Err fault) was end has leaves wrote crash = λ db left.
      either_of (λ before. leaves db before) (λ whole. early_into later db (whole old.rows has)) (crash db left)

-- ---- one that is next

-- taking changes only the terminal
alone : (content : SetupContent) (p : ℕ) (texts : ℕ → Option (List ℕ)) (number : ℕ) (t : TerminalState) (taken : List TakenContent) (new : MachineState) → AreTakenFrom p texts number (machine_with content t) taken new → new ≡ machine_with content new.terminal
alone content p texts number t [] new from = from.1 ∙ ap (λ (m : MachineState). machine_with content m.terminal) (sym from.1)
alone content p texts number t (first ∷ later) new from =
    let step = interchange_taken (machine_with content t) p from.0 in
    let same : step.0 ≡ machine_with content step.0.terminal = terminal_alone newest (machine_with content t) p from.0 in
    alone content p texts (number + 1) step.0.terminal later new (subst (λ m. AreTakenFrom p texts (number + 1) m later new) same from.5)

pub run_into : (setup : Setup) (d : Delivery) (old : Office) (next : ℕ) (there : Beside) (db : Trees) → IsNextOf d.partner old.rows next → text_in old.rows d.partner d.number ≡ None → d.number ≡ next → there.terminal ≡ old.terminal →
    IsRunDone old.rows d (machine_of setup there.terminal) db → IsTakenInto (setup_content setup) d old db
run_into setup d old next there db is_next free same is_of done = at done.taken from done.are
  where
    from : AreTakenFrom d.partner (texts_with old.rows d.partner d.number d.text) d.number (machine_with (setup_content setup) old.terminal) done.taken done.new
    from = subst (λ m. AreTakenFrom d.partner (texts_with old.rows d.partner d.number d.text) d.number m done.taken done.new) (machine_same setup there.terminal ∙ ap (machine_with (setup_content setup)) is_of) done.are_taken

    at : (taken : List TakenContent) → AreTakenFrom d.partner (texts_with old.rows d.partner d.number d.text) d.number (machine_with (setup_content setup) old.terminal) taken done.new → StoresRows (with_run d.partner d.number d.text taken old.rows) db → IsTakenInto (setup_content setup) d old db
    at [] from are =
        let own : (texts_with old.rows d.partner d.number d.text) d.number ≡ Some d.text = cond-true (d.number == d.number) (Some d.text) (text_in old.rows d.partner d.number) (eq-eqb d.number d.number refl) in
        let never : Some d.text ≡ None = sym own ∙ from.0 in absurd cc
    at (first ∷ later) from are =
        let new : Office = record { rows = with_run d.partner d.number d.text (first ∷ later) old.rows; terminal = done.new.terminal } in
        let told = Taken (Some first.reply) in
        let taken : AreTakenFrom d.partner (texts_with old.rows d.partner d.number d.text) d.number (machine_with (setup_content setup) old.terminal) (first ∷ later) (machine_with (setup_content setup) new.terminal) =
        subst (λ m. AreTakenFrom d.partner (texts_with old.rows d.partner d.number d.text) d.number (machine_with (setup_content setup) old.terminal) (first ∷ later) m) (alone (setup_content setup) d.partner (texts_with old.rows d.partner d.number d.text) d.number old.terminal (first ∷ later) done.new from) from in
        let by_none : TakesIn (standing_of next d.number None d.text) (setup_content setup) d next told old new =
        subst (λ is. TakesIn (cond is Early Next) (setup_content setup) d next told old new) (sym (le-ltb next d.number (omega (arith, same))))
        (same, record { first = first; later = later; taken = taken; rows = refl; is_told = refl }) in
        record {
          next = next;
          is_next = is_next;
          told = told;
          new = new;
          takes = subst (λ o. TakesIn (standing_of next d.number o d.text) (setup_content setup) d next told old new) (sym free) by_none;
          are = are;
        }

pub taken_leaves_over : (setup : Setup) (d : Delivery) (code : List ℕ) (old : Office) (next : ℕ) (there now : Beside) (given : Response) (end : State) → IsNextOf d.partner old.rows next → text_in old.rows d.partner d.number ≡ None → d.number ≡ next →
    there.terminal ≡ old.terminal → TakesNext old.rows d code setup there given now end → LeavesIt (setup_content setup) d old end
taken_leaves_over setup d code old next there now given end is_next free same is_of takes db left =
    let rows = with_run d.partner d.number d.text (takes.first ∷ takes.later) old.rows in
    run_into setup d old next there db is_next free same is_of
    (record {
      taken = takes.first ∷ takes.later;
      new = machine_of setup now.terminal;
      are_taken = takes.taken;
      are = subst (StoresRows rows) (sym (takes.alone db left)) (stores rows end.committed takes.has);
    })

-- ---- by the answer

pub answered_over : (content : SetupContent) (place : ℕ × ℕ) (text : List ℕ) (old : Office) (given : Response) (s : State) → LeavesIt content (delivery place.0 place.1 text) old s → LeavesOver content (Ok place) text old given s
answered_over content place text old response.NotNow s leaves = λ db left. inr (leaves db left)
answered_over content place text old given s leaves = leaves

-- while it is open, a crash leaves only what was committed
pub held_rows_leave : (rows : Rows) (s : State) → ((db : Trees) → s.may_leave db → db ≡ s.committed.trees) → HasRows rows s.committed → LeavesRows rows s
held_rows_leave rows s settled has db left = subst (StoresRows rows) (sym (settled db left)) (stores rows s.committed has)

-- ==== PageLemmas: What a desk hands out: pages of its journal.

-- ---- numbers of rows

less : (m n : ℕ) → m < n → value_cmp (number_value m) (number_value n) ≡ Less
less m n l = number_order m n ∙ sym (nat_cmp_is m n Less l)

equal : (m n : ℕ) → m ≡ n → value_cmp (number_value m) (number_value n) ≡ Equal
equal m n e = number_order m n ∙ sym (nat_cmp_is m n Equal e)

greater : (m n : ℕ) → n < m → value_cmp (number_value m) (number_value n) ≡ Greater
greater m n l = number_order m n ∙ sym (nat_cmp_is m n Greater l)

module _ (from : ℕ) where
  at_number : (row : Row) (low : ℕ) (o : Ordering) → rowid row ≡ number_value low → value_cmp (number_value low) (number_value from) ≡ o → value_cmp (rowid row) (number_value from) ≡ o
  at_number row low o is at = ap (λ v. value_cmp v (number_value from)) is ∙ at

  is_beyond : (row : Row) (low : ℕ) → rowid row ≡ number_value low → from < low → is_after from row ≡ true
  is_beyond row low is above = ap is_gt (at_number row low Greater is (greater low from above))

  is_before : (row : Row) (low : ℕ) → rowid row ≡ number_value low → low ≤ from → is_after from row ≡ false
  is_before row low is below = elim (cases_order low from) [
    | inl same ↦ ap is_gt (at_number row low Equal is (equal low from same))
    | inr o ↦ elim o [
      | inl under ↦ ap is_gt (at_number row low Less is (less low from under))
      | inr over ↦ absurd (omega (arith, over, below))
    ]
  ]

  -- ---- the rows after a number

  all_after : (low : ℕ) (rows : List Row) → from < low → ArePlaced low rows → filter (is_after from) rows ≡ rows
  all_after low [] above placed = refl
  all_after low (row ∷ rows) above placed =
      let here = is_beyond row low placed.0 above in
      let step : filter (is_after from) (row ∷ rows) ≡ row ∷ filter (is_after from) rows = rw here refl in
      step ∙ ap (λ l. row ∷ l) (all_after (low + 1) rows (omega (arith, above)) placed.1)

  rows_after : (count low : ℕ) (rows : List Row) → low + count ≡ from + 1 → ArePlaced low rows → filter (is_after from) rows ≡ drop count rows
  rows_after zero low rows same placed = all_after low rows (omega (arith, same)) placed
  rows_after (suc count) low [] same placed = refl
  rows_after (suc count) low (row ∷ rows) same placed =
      let here = is_before row low placed.0 (omega (arith, same)) in
      let step : filter (is_after from) (row ∷ rows) ≡ filter (is_after from) rows = rw here refl in
      step ∙ rows_after count (low + 1) rows (omega (arith, same)) placed.1

  -- ---- whether a number is reached

  some_from : (low : ℕ) (rows : List Row) → low ≤ from → from < low + length rows → ArePlaced low rows → list_any (is_from from) rows ≡ true
  some_from low [] above below placed = absurd (omega (arith, above, below))
  some_from low (row ∷ rows) above below placed = elim (cases_order low from) [
    | inl same ↦
        let here : is_from from row ≡ true = ap is_ge (at_number row low Equal placed.0 (equal low from same)) in
        rw here refl
    | inr o ↦ elim o [
      | inl under ↦
          let here : is_from from row ≡ false = ap is_ge (at_number row low Less placed.0 (less low from under)) in
          let step : list_any (is_from from) (row ∷ rows) ≡ list_any (is_from from) rows = rw here refl in
          step ∙ some_from (low + 1) rows (omega (arith, under)) (omega (arith, below)) placed.1
      | inr over ↦ absurd (omega (arith, over, above))
    ]
  ]

  none_from : (low : ℕ) (rows : List Row) → low + length rows ≤ from → ArePlaced low rows → list_any (is_from from) rows ≡ false
  none_from low [] above placed = refl
  none_from low (row ∷ rows) above placed =
      let here : is_from from row ≡ false = ap is_ge (at_number row low Less placed.0 (less low from (omega (arith, above)))) in
      let step : list_any (is_from from) (row ∷ rows) ≡ list_any (is_from from) rows = rw here refl in
      step ∙ none_from (low + 1) rows (omega (arith, above)) placed.1

  module _ (rows : List Row) (placed : ArePlaced 1 rows) where
    reached : from ≤ length rows → has_reached from rows ≡ true
    reached high = elim (cases_order from 0) [
      | inl none ↦ reached_none from rows none
      | inr o ↦ elim o [
        | inl under ↦ absurd (omega (arith, under))
        | inr over ↦ ap (λ b. (from == 0) || b) (some_from 1 rows (omega (arith, over)) (omega (arith, high)) placed) ∙ or_true (from == 0)
      ]
    ]
      where
        or_true : (b : Bool) → (b || true) ≡ true
        or_true true = refl
        or_true false = refl

    not_reached : length rows < from → has_reached from rows ≡ false
    not_reached low =
        (λ i. ne_eqb from 0 (λ none. absurd (omega (arith, none, low))) i || none_from 1 rows (omega (arith, low)) placed i)

-- ---- pages

never : {b : Bool} → b ≡ true → b ≡ false → ⊥
never is other = absurd cc

pub handed_out : (texts : List (List ℕ)) (db : Database) (from : ℕ) (found : Option (List ℕ)) → KeepsTexts texts db → PagesOf db from found → HandsTexts texts from found
handed_out texts db from None keeps none =
    let rows = db.trees interchange_table.tree in
    let many : length rows ≡ length texts = sym (length-map rows (λ row. column row 3)) ∙ ap length keeps.bodies ∙ length-map texts Blob in
    elim (cases_order from (length texts)) [
      | inl same ↦ absurd (never (reached from rows keeps.placed (omega (arith, many, same))) none)
      | inr o ↦ elim o [
        | inl under ↦ absurd (never (reached from rows keeps.placed (omega (arith, many, under))) none)
        | inr over ↦ over
      ]
    ]
handed_out texts db from (Some lines) keeps hands =
    let rows = db.trees interchange_table.tree in
    let many : length rows ≡ length texts = sym (length-map rows (λ row. column row 3)) ∙ ap length keeps.bodies ∙ length-map texts Blob in
    let tells = hands.2 in
    let high : from ≤ length texts =
    elim (cases_order from (length texts)) [
      | inl same ↦ omega (arith, same)
      | inr o ↦ elim o [
        | inl under ↦ omega (arith, under)
        | inr over ↦ absurd (never hands.0 (not_reached from rows keeps.placed (omega (arith, many, over))))
      ]
    ] in
    let behind : map Blob tells.all ≡ map Blob (drop from texts) =
    tells.after
    ∙ ap (map (λ row. column row 3)) (rows_after from from 1 rows (omega arith) keeps.placed)
    ∙ sym (drop-map (λ (row : Row). column row 3) from rows)
    ∙ ap (drop from) keeps.bodies
    ∙ drop-map Blob from texts in
    (high, tells.page, subst (λ all. IsPage most_page_bytes all tells.page) (same_blobs tells.all (drop from texts) behind) tells.is_page, tells.lines_are)

pub journal_handed_out : {S : Type 0} (g : Ghosts S) → DesksHandOutJournals g
journal_handed_out g content es desk from found was hands =
    handed_out (kept_texts content es) _ from found (journal_kept g content es desk was) (hands was.stands.rows was.stands.has)

-- ==== PartnerLemmas: Partners that are looked up one after the other.

more : (rows : Rows) (id at : ℕ) (accounts : List (List ℕ × PartnerKind)) (partners : List PartnerContent) (account : List ℕ × PartnerKind) (partner : PartnerContent)
    → at ≡ id + length accounts → AreLookedUp rows id accounts partners → IsLookedUp rows at account partner → AreLookedUp rows id (accounts ++ account ∷ []) (partners ++ partner ∷ [])
more rows id at [] [] account partner is are one = (subst (λ n. IsLookedUp rows n account partner) (omega (arith, is)) one, tt)
more rows id at [] (p ∷ ps) account partner is are one = absurd are
more rows id at (a ∷ bs) [] account partner is are one = absurd are
more rows id at (a ∷ bs) (p ∷ ps) account partner is are one = (are.0, more rows (id + 1) at bs ps account partner (omega (arith, is)) are.1 one)

abbrev pub said : Account → List ℕ × PartnerKind
said account = (string_bytes account.code, account.kind)

-- one account more
pub looked_up_more : (rows : Rows) (accounts : List Account) (i : ℕ) (account : Account) (olds news : List Partner) (partner : Partner) → i < length accounts → account ≡ get_or accounts i account
    → news ≡ olds ++ partner ∷ [] → AreLookedUp rows 1 (account_contents (take i accounts)) (map partner_content olds) → IsLookedUp rows (i + 1) (said account) (partner_content partner)
    → AreLookedUp rows 1 (account_contents (take (i + 1) accounts)) (map partner_content news)
looked_up_more rows accounts i account olds news partner low at pushed are one =
    let long : length (account_contents (take i accounts)) ≡ i =
    let same = length-map (take i accounts) said ∙ length-take i accounts in omega (arith, same, low) in
    let taken : account_contents (take (i + 1) accounts) ≡ account_contents (take i accounts) ++ said account ∷ [] =
    ap account_contents (take_more accounts i account low ∙ ap (λ (a : Account). take i accounts ++ a ∷ []) (sym at)) ∙ map-append said (take i accounts) (account ∷ []) in
    let now : map partner_content news ≡ map partner_content olds ++ partner_content partner ∷ [] = ap (map partner_content) pushed ∙ map-append partner_content olds (partner ∷ []) in
    subst (AreLookedUp rows 1 (account_contents (take (i + 1) accounts))) (sym now)
    (subst (λ accounts. AreLookedUp rows 1 accounts (map partner_content olds ++ partner_content partner ∷ [])) (sym taken)
    (more rows 1 (i + 1) (account_contents (take i accounts)) (map partner_content olds) (said account) (partner_content partner) (omega (arith, long)) are one))

-- the one that a code names
pub told_one : (rows : Rows) (accounts : List Account) (code : List ℕ) (index : ℕ) (account : Account) (partner : Partner) → index < length accounts → account ≡ get_or accounts index account
    → Some index ≡ partner_from 0 code (partner_codes accounts) → IsLookedUp rows (index + 1) (said account) (partner_content partner)
    → TellsPartner rows (account_contents accounts) (partner_from 1 code (map (λ (pair : List ℕ × PartnerKind). pair.0) (account_contents accounts)))
    (Some (value.partner (row_of (partner_content partner))))
told_one rows accounts code index account partner low at found is =
    let place : index + 1 - 1 ≡ index = omega arith in
    let there : slice_get (account_contents accounts) (index + 1 - 1) ≡ Some (said account) =
    ap (slice_get (account_contents accounts)) place ∙ slice_get-map said accounts index ∙ ap (option_map said) (slice_get_read accounts (length accounts) index account refl low at) in
    subst (λ (o : Option ℕ). TellsPartner rows (account_contents accounts) o (Some (value.partner (row_of (partner_content partner))))) (sym (found_by_code accounts code (Some index) found))
    (said account, there, (partner_content partner, is, refl))

pub told_of_none : (rows : Rows) (accounts : List Account) (code : List ℕ) → None ≡ partner_from 0 code (partner_codes accounts)
    → TellsPartner rows (account_contents accounts) (partner_from 1 code (map (λ (pair : List ℕ × PartnerKind). pair.0) (account_contents accounts))) None
told_of_none rows accounts code found =
    subst (λ (o : Option ℕ). TellsPartner rows (account_contents accounts) o None) (sym (found_by_code accounts code None found)) refl

-- an account whose numbers can't be read is one of them
pub some_lacks : (rows : Rows) (accounts : List Account) (id : ℕ) → 1 ≤ id → id ≤ length accounts → LacksNumbers rows id → LacksSome rows (length (account_contents accounts))
some_lacks rows accounts id one most lacks = let many = length-map accounts said in (id, one, omega (arith, most, many), lacks)
