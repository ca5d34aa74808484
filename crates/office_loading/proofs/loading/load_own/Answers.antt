use Rattle.std.proofs.lemmas.Result.{err_from_is_err_and}
use Rattle.sqlite.specs.Held.{state}
use Rattle.terminal_core.specs.State.{TerminalState}
use Rattle.office_admission.specs.declared.setup.Setup.{Setup}
use Rattle.office_loading.{specs.{Closed.closed_content, Contents.opened_rows, Tables.{NamesVersion, fault_of_restoring}}, proofs.VersionLemmas.fault_tells}
use Rattle.office_loading.proofs.OfficeLemmas.{restoring_fails, restoring_tells, tables_fail}
use Rattle.office_loading.proofs.loading.load_own.Goals as goal

pub returns-in_err-tables-clause-refused : goal.returns-in_err-tables-clause-refused
returns-in_err-tables-clause-refused g c clean is =
    let p = err_from_is_err_and c.from_residual.result c.from_residual.ensures.1 in
    rw (p.1, p.2) (tables_fail (closed_content c.args.closed.now) (state g.S.Store c.args.conn.now).now c.in_err-tables.field-0.0 (c.in_err-tables.ensures.read clean is))

pub returns-in-Ok-clause-loaded : goal.returns-in-Ok-clause-loaded
returns-in-Ok-clause-loaded g c clean is =
    let read = c.in_ok-tables.ensures.read clean is in
    (opened_rows c.in_ok-tables.tables, read.1, c.in-Ok.ensures.ok)

pub returns-in-Err-clause-refused : goal.returns-in-Err-clause-refused
returns-in-Err-clause-refused g c clean is =
    let read = c.in_ok-tables.ensures.read clean is in
    rw c.fault_of_restoring.ensures (restoring_fails (closed_content c.args.closed.now) (state g.S.Store c.args.conn.now).now (opened_rows c.in_ok-tables.tables) read.0 read.1 read.2 c.in-Err.fault c.in-Err.ensures.refused)

pub returns-in-Ok-clause-given : goal.returns-in-Ok-clause-given
returns-in-Ok-clause-given g c = c.in-Ok.ensures.ok.given

-- ---- under any schema

pub returns-in_err-tables-clause-version : goal.returns-in_err-tables-clause-version
returns-in_err-tables-clause-version g c clean tree has =
    let p = err_from_is_err_and c.from_residual.result c.from_residual.ensures.1 in
    rw (p.1, p.2) (c.in_err-tables.ensures.version clean tree has)

pub returns-in-Ok-clause-version : goal.returns-in-Ok-clause-version
returns-in-Ok-clause-version g c clean tree has = c.in_ok-tables.ensures.version clean tree has

pub returns-in-Err-clause-version : goal.returns-in-Err-clause-version
returns-in-Err-clause-version g c clean tree has =
    rw c.fault_of_restoring.ensures (fault_tells (Setup × TerminalState) (NamesVersion ((state g.S.Store c.args.conn.now).now.trees tree)) (fault_of_restoring c.in-Err.fault) (c.in_ok-tables.ensures.version clean tree has) (restoring_tells c.in-Err.fault))

pub returns-in-Ok-clause-missing : goal.returns-in-Ok-clause-missing
returns-in-Ok-clause-missing g c clean none = absurd (c.in_ok-tables.ensures.missing clean none)

pub returns-in-Err-clause-missing : goal.returns-in-Err-clause-missing
returns-in-Err-clause-missing g c clean none = absurd (c.in_ok-tables.ensures.missing clean none)
