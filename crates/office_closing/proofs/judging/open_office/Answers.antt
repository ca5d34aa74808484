use Rattle.std.proofs.{Common.{◌≡◌, ℕ, List, false, refl, inl, inr, sym, ap, subst, ◌∙◌, arith}, lemmas.Result.err_from_is_err_and}
use Rattle.sqlite.specs.{Held.state, State.HasCleanDisk, Effect.Database}
use Rattle.office_loading.specs.{Tables.{LoadsOwn, FailsToLoadOwn}, Closed.{ClosedContent, closed_content}}
use Rattle.office_rows.specs.Stored.{HasRows}
use Rattle.office_admission.specs.Setups.{SetupContent, setup_content}
use Rattle.office_tables.specs.{Faults.{IsOfStore, IsOfStoreOr}, declared.table_fault.TableFault.TableFault}
use Rattle.terminal_core.specs.State.{TerminalState}
use Rattle.office_closing.{specs.Refusing.{HaveNoNexts, IsOfOther, IsOfOtherTerminal, IsUnopened}, proofs.JudgeLemmas.{failed, passed, then_failed}}
use Rattle.office_closing.{specs.Register.{RegisterContent, closed_by, is_of_terminal, register_content}, proofs.PlanLemmas.{or_damaged, this_more}}
use Rattle.office_closing.proofs.judging.open_office.Goals as goal

pub returns-in_err-nexts-clause-rows_read : goal.returns-in_err-nexts-clause-rows_read
returns-in_err-nexts-clause-rows_read g c =
    let p = err_from_is_err_and c.from_residual-in_err-nexts.result c.from_residual-in_err-nexts.ensures.1 in
    rw (p.1, p.2) (then_failed _ c.in_ok-setup.ensures.read c.in_err-nexts.ensures.read)

pub returns-in_err-nexts-clause-register_read : goal.returns-in_err-nexts-clause-register_read
returns-in_err-nexts-clause-register_read g c =
    let p = err_from_is_err_and c.from_residual-in_err-nexts.result c.from_residual-in_err-nexts.ensures.1 in
    rw (p.1, p.2) (failed _ c.in_ok-told.ensures.read)

pub returns-clause-register_read : goal.returns-clause-register_read
returns-clause-register_read g c = passed _ c.in_ok-told.ensures.read

pub returns-clause-opened : goal.returns-clause-opened
returns-clause-opened g c clean register_clean =
    let office_clean : HasCleanDisk (state g.S.Store c.office_of.new.conn) = omega (arith, c.in_ok-nexts.ensures.read.survives.clean, clean) in
    record {
      sound = c.in_ok-told.ensures.sound;
      registered = c.in_ok-told.ensures.registered register_clean;
      loaded = λ schema.
          subst (λ k. LoadsOwn k (state g.S.Store c.args.conn.now).now (setup_content c.in_ok-setup.setup) c.in_ok-setup.terminal) c.in_ok-closed.ensures
          (c.in_ok-setup.ensures.loaded office_clean schema);
      nexts = λ rows has. c.in_ok-nexts.ensures.answer clean rows (subst (HasRows rows) (sym (c.in_ok-setup.ensures.read.unchanged office_clean).0.now_is) has);
      of_day = c.in_ok-nexts.ensures.of_day;
      of_terminal = c.in_ok-check_terminal.ensures.ok;
    }

-- ---- why it is not opened

pub returns-in_err-told-clause-fault : goal.returns-in_err-told-clause-fault
returns-in_err-told-clause-fault g c clean register_clean =
    let p = err_from_is_err_and c.from_residual.result c.from_residual.ensures.1 in
    let db = (state g.S.Store c.args.conn.now).now in
    rw (p.1, p.2) (λ rows held has has_register sound.
    inl (this_more c.args.register_is IsOfStore (IsOfStoreOr (IsOfOtherTerminal held db)) (λ of so. or_damaged (IsOfOtherTerminal held db) of so) _ (c.in_err-told.ensures.fault register_clean held has_register sound)))

pub returns-in_err-closed-clause-fault : goal.returns-in_err-closed-clause-fault
returns-in_err-closed-clause-fault g c clean register_clean =
    let p = err_from_is_err_and c.from_residual-in_err-closed.result c.from_residual-in_err-closed.ensures.1 in
    rw (p.1, p.2) (λ rows held has has_register sound. inl tt)

pub returns-in_err-setup-clause-fault : goal.returns-in_err-setup-clause-fault
returns-in_err-setup-clause-fault g c clean register_clean =
    let p = err_from_is_err_and c.from_residual-in_err-setup.result c.from_residual-in_err-setup.ensures.1 in
    let db = (state g.S.Store c.args.conn.now).now in
    rw (p.1, p.2) (λ rows held has has_register sound.
    let closed : closed_content c.in_ok-closed.closed ≡ closed_by held = c.in_ok-closed.ensures ∙ ap closed_by (c.in_ok-told.ensures.registered register_clean held has_register sound) in
    inr (this_more c.args.conn_is (FailsToLoadOwn (closed_content c.in_ok-closed.closed) db) (IsUnopened held rows db) (λ of so. inl (subst (λ (k : ClosedContent). FailsToLoadOwn k db of) closed so)) _
    (c.in_err-setup.ensures.fault clean has.schema)))

pub returns-in_err-check_terminal-clause-rows_read : goal.returns-in_err-check_terminal-clause-rows_read
returns-in_err-check_terminal-clause-rows_read g c =
    let p = err_from_is_err_and c.from_residual-in_err-check_terminal.result c.from_residual-in_err-check_terminal.ensures.1 in
    rw (p.1, p.2) (failed _ c.in_ok-setup.ensures.read)

pub returns-in_err-check_terminal-clause-register_read : goal.returns-in_err-check_terminal-clause-register_read
returns-in_err-check_terminal-clause-register_read g c =
    let p = err_from_is_err_and c.from_residual-in_err-check_terminal.result c.from_residual-in_err-check_terminal.ensures.1 in
    rw (p.1, p.2) (failed _ c.in_ok-told.ensures.read)

-- its register is of another terminal
other_terminal : (terminal_code : List ℕ) (told held : RegisterContent) (db : Database) → told ≡ held → (terminal_code' : SetupContent) → terminal_code'.terminal ≡ terminal_code → (terminal : TerminalState) → LoadsOwn (closed_by held) db terminal_code' terminal → (of : TableFault)
    → IsOfOther terminal_code told of → IsOfStoreOr (IsOfOtherTerminal held db) of
other_terminal code told held db same setup is terminal loads of so =
    let off = subst (λ r. is_of_terminal setup.terminal r ≡ false) same (subst (λ k. is_of_terminal k told ≡ false) (sym is) so.1) in
    subst (IsOfStoreOr (IsOfOtherTerminal held db)) (sym so.0) (setup, terminal, loads, off)

pub returns-in_err-check_terminal-clause-fault : goal.returns-in_err-check_terminal-clause-fault
returns-in_err-check_terminal-clause-fault g c clean register_clean =
    let p = err_from_is_err_and c.from_residual-in_err-check_terminal.result c.from_residual-in_err-check_terminal.ensures.1 in
    let db = (state g.S.Store c.args.conn.now).now in
    let setup = setup_content c.in_ok-setup.setup in
    rw (p.1, p.2) (λ rows held has has_register sound.
    let told = c.in_ok-told.ensures.registered register_clean held has_register sound in
    let closed : closed_content c.in_ok-closed.closed ≡ closed_by held = c.in_ok-closed.ensures ∙ ap closed_by told in
    let loads = subst (λ (k : ClosedContent). LoadsOwn k db setup c.in_ok-setup.terminal) closed (c.in_ok-setup.ensures.loaded clean has.schema) in
    inl (this_more c.args.register_is (IsOfOther setup.terminal (register_content c.in_ok-told.told)) (IsOfStoreOr (IsOfOtherTerminal held db))
    (other_terminal setup.terminal (register_content c.in_ok-told.told) held db told setup refl c.in_ok-setup.terminal loads) _ c.in_err-check_terminal.ensures.err))

pub returns-in_err-nexts-clause-fault : goal.returns-in_err-nexts-clause-fault
returns-in_err-nexts-clause-fault g c clean register_clean =
    let p = err_from_is_err_and c.from_residual-in_err-nexts.result c.from_residual-in_err-nexts.ensures.1 in
    let db = (state g.S.Store c.args.conn.now).now in
    let office_clean : HasCleanDisk (state g.S.Store c.office_of.new.conn) = omega (arith, c.in_err-nexts.ensures.read.survives.clean, clean) in
    rw (p.1, p.2) (λ rows held has has_register sound.
    let told = c.in_ok-told.ensures.registered register_clean held has_register sound in
    inr (this_more c.args.conn_is (IsOfStoreOr (HaveNoNexts (register_content c.in_ok-told.told) rows)) (IsUnopened held rows db) (λ of so. inr (subst (λ (r : RegisterContent). IsOfStoreOr (HaveNoNexts r rows) of) told so)) _
    (c.in_err-nexts.ensures.fault clean rows (subst (HasRows rows) (sym (c.in_ok-setup.ensures.read.unchanged office_clean).0.now_is) has))))
