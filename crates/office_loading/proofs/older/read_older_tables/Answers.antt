use Rattle.std.proofs.{Common.map, lemmas.Result.err_from_is_err_and}
use Rattle.sqlite.specs.{Effect.Database, Held.state}
use Rattle.office_rows.specs.Layouts.{bare, bare_schema}
use Rattle.office_loading.specs.{declared.restoring.OpenedTables.OpenedTables, Contents.setting_content, Older.NamesOlder, Tables.ReadsOthers}
use Rattle.office_loading.proofs.VersionLemmas.{result_tells, from_first, older_settings_fail, older_read}
use Rattle.office_tables.proofs.MadeLemmas.{◌then◌, clean_first, reads_stopped}
use Rattle.office_loading.proofs.older.read_older_tables.Goals as goal

pub returns-in_err-settings-clause-read : goal.returns-in_err-settings-clause-read
returns-in_err-settings-clause-read g c clean is =
    let p = err_from_is_err_and c.from_residual.result c.from_residual.ensures.1 in
    rw (p.1, p.2) (older_settings_fail (state g.S.Store c.args.conn.now).now c.in_err-settings.field-0.0 (c.in_err-settings.ensures.read clean bare is))

pub returns-in_err-settings-clause-version : goal.returns-in_err-settings-clause-version
returns-in_err-settings-clause-version g c clean tree has =
    let p = err_from_is_err_and c.from_residual.result c.from_residual.ensures.1 in
    rw (p.1, p.2) (c.in_err-settings.ensures.version clean tree has)

pub returns-in_err-settings-clause-reads : goal.returns-in_err-settings-clause-reads
returns-in_err-settings-clause-reads g c = reads_stopped _ c.from_residual.ensures.0 c.in_err-settings.ensures.reads

pub returns-clause-read : goal.returns-clause-read
returns-clause-read g c clean is =
    let newest = map setting_content c.in_ok-settings.settings.items in
    let said = c.in_ok-settings.ensures.read (clean_first c.read_others.ensures.reads clean) bare is in
    let others = from_first (λ (db : Database). ReadsOthers bare db newest c.read_others.result) bare_schema c.in_ok-settings.ensures.reads c.read_others.ensures.reads c.read_others.ensures.read clean is in
    older_read (state g.S.Store c.args.conn.now).now newest said.1 said.0 said.2 said.3 said.4 c.read_others.result others

pub returns-clause-missing : goal.returns-clause-missing
returns-clause-missing g c clean none = absurd (c.in_ok-settings.ensures.missing (clean_first c.read_others.ensures.reads clean) none)

pub returns-clause-version : goal.returns-clause-version
returns-clause-version g c clean tree has =
    let named = c.in_ok-settings.ensures.version (clean_first c.read_others.ensures.reads clean) tree has in
    result_tells OpenedTables (NamesOlder ((state g.S.Store c.args.conn.now).now.trees tree)) c.read_others.result named c.read_others.ensures.version

pub returns-clause-reads : goal.returns-clause-reads
returns-clause-reads g c = c.in_ok-settings.ensures.reads then c.read_others.ensures.reads
