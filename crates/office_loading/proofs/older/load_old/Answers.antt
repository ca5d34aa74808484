use Rattle.std.proofs.{Common.subst, lemmas.Result.err_from_is_err_and}
use Rattle.sqlite.specs.Held.{state}
use Rattle.terminal_core.specs.State.{TerminalState}
use Rattle.office_admission.specs.{Setups.setup_content, declared.setup.Setup.Setup}
use Rattle.office_rows.specs.Office.{IsOffice}
use Rattle.office_loading.specs.{Closed.nothing_closed, Contents.opened_rows, Refusals.RefusesTables, Older.NamesOlder, Tables.fault_of_restoring}
use Rattle.office_loading.proofs.{Offices.whole_office, OlderOffice.{older_restoring_fails, older_tables_fail}, OfficeLemmas.restoring_tells}
use Rattle.office_loading.proofs.VersionLemmas.{fault_tells}
use Rattle.office_loading.proofs.older.load_old.Goals as goal

pub returns-in_err-tables-clause-refused : goal.returns-in_err-tables-clause-refused
returns-in_err-tables-clause-refused g c clean is =
    let p = err_from_is_err_and c.from_residual.result c.from_residual.ensures.1 in
    rw (p.1, p.2) (older_tables_fail (state g.S.Store c.args.conn.now).now c.in_err-tables.field-0.0 (c.in_err-tables.ensures.read clean is))

pub returns-in-Ok-clause-loaded : goal.returns-in-Ok-clause-loaded
returns-in-Ok-clause-loaded g c clean is =
    let read = c.in_ok-tables.ensures.read clean is in
    (read.0, read.1, read.3, subst (λ r. IsOffice r (setup_content c.in-Ok.office.0) c.in-Ok.office.1) read.2 (whole_office (opened_rows c.in_ok-tables.tables) (setup_content c.in-Ok.office.0) c.in-Ok.office.1 c.in-Ok.ensures.ok))

pub returns-in-Err-clause-refused : goal.returns-in-Err-clause-refused
returns-in-Err-clause-refused g c clean is =
    let read = c.in_ok-tables.ensures.read clean is in
    let fault = c.in-Err.fault in
    rw c.fault_of_restoring.ensures (older_restoring_fails (state g.S.Store c.args.conn.now).now read.1 read.0 read.3 read.4 fault (subst (λ r. RefusesTables nothing_closed r fault) read.2 c.in-Err.ensures.refused))

-- ---- under any schema

pub returns-in_err-tables-clause-version : goal.returns-in_err-tables-clause-version
returns-in_err-tables-clause-version g c clean tree has =
    let p = err_from_is_err_and c.from_residual.result c.from_residual.ensures.1 in
    rw (p.1, p.2) (c.in_err-tables.ensures.version clean tree has)

pub returns-in-Ok-clause-version : goal.returns-in-Ok-clause-version
returns-in-Ok-clause-version g c clean tree has = c.in_ok-tables.ensures.version clean tree has

pub returns-in-Err-clause-version : goal.returns-in-Err-clause-version
returns-in-Err-clause-version g c clean tree has =
    rw c.fault_of_restoring.ensures (fault_tells (Setup × TerminalState) (NamesOlder ((state g.S.Store c.args.conn.now).now.trees tree)) (fault_of_restoring c.in-Err.fault) (c.in_ok-tables.ensures.version clean tree has) (restoring_tells c.in-Err.fault))

pub returns-in-Ok-clause-missing : goal.returns-in-Ok-clause-missing
returns-in-Ok-clause-missing g c clean none = absurd (c.in_ok-tables.ensures.missing clean none)

pub returns-in-Err-clause-missing : goal.returns-in-Err-clause-missing
returns-in-Err-clause-missing g c clean none = absurd (c.in_ok-tables.ensures.missing clean none)
