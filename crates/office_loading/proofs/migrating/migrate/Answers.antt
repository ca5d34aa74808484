use Rattle.std.proofs.{Common.{◌≡◌, Ok, Err, OnOk, not, sym, ap, subst, ◌∙◌, arith, rules}, lemmas.Result.{IfErr-weaker, err_from_is_err_and}}
use Rattle.sqlite.{specs.{State.HasCleanDisk, Held.state, Effect.Database, Schema.Schema}, proofs.StateLemmas.survives_weaker}
use Rattle.office_admission.specs.Setups.{setup_content}
use Rattle.office_rows.{specs.{Layouts.bare_schema, Opened.OpenedRows}, proofs.Creating.on_ok}
use Rattle.office_tables.{specs.Order.HasRowsInOrder, proofs.WritesLemmas.{of_store_or, survives_here}}
use Rattle.office_tables.proofs.MadeLemmas.{◌then◌, clean_first, then_if_open, reads_stopped}
use Rattle.office_loading.specs.{Settings.HasSettings, Contents.opened_rows, declared.restoring.OpenedTables.OpenedTables, Copies.copied_rows}
use Rattle.office_loading.specs.{Older.{NamesOlder, ReadsOlderTables, FailsOlderTables, TellsOlder}, Migration.{Copies, IsCopy, IsMigration}}
use Rattle.office_loading.proofs.{VersionLemmas.{result_tells, told}, OlderOffice.{older_one, older_tables_fail}}
use Rattle.office_loading.proofs.MigratedLemmas.{has_migrated, stand_alike, migrated_whole, of_store_fails}
use Rattle.office_loading.proofs.StandingLemmas.{never_refused, holds_after, migration_holds}
use Rattle.office_loading.proofs.migrating.migrate.Goals as goal

-- ---- the old store is refused

pub returns-in_err-load_old-clause-refused : goal.returns-in_err-load_old-clause-refused
returns-in_err-load_old-clause-refused g c here is =
    let p = err_from_is_err_and c.from_residual.result c.from_residual.ensures.1 in
    rw (p.1, p.2) (c.in_err-load_old.ensures.refused here is)

pub returns-in_err-load_old-clause-err : goal.returns-in_err-load_old-clause-err
returns-in_err-load_old-clause-err g c clean is_open =
    let settled = c.is_autocommit-is_idle.ensures.settled (c.is_autocommit-is_idle.ensures.value ∙ ap not c.requires) is_open in
    search rules

pub returns-in_err-load_old-clause-crash : goal.returns-in_err-load_old-clause-crash
returns-in_err-load_old-clause-crash g c here = survives_here (state g.T.Store c.args.new.now) _

pub returns-in_err-load_old-clause-version : goal.returns-in_err-load_old-clause-version
returns-in_err-load_old-clause-version g c here tree has =
    let p = err_from_is_err_and c.from_residual.result c.from_residual.ensures.1 in
    rw (p.1, p.2) (c.in_err-load_old.ensures.version here tree has)

-- ---- its rows could not be read again

pub returns-in_err-tables-clause-refused : goal.returns-in_err-tables-clause-refused
returns-in_err-tables-clause-refused g c here is =
    let s0 = state g.S.Store c.args.old.now in
    let s1 = state g.S.Store c.load_old.new.conn in
    let fault = c.in_err-tables.field-0.0 in
    let clean1 : HasCleanDisk s1 = clean_first c.read_older_tables.ensures.reads here in
    let now1 : s1.now ≡ s0.now = (c.in_ok-load_old.ensures.reads.unchanged clean1).0.now_is in
    let is1 : s1.now.schema ≡ bare_schema = ap (λ (d : Database). d.schema) now1 ∙ is in
    let fails = subst (λ d. FailsOlderTables d fault) now1 (c.in_err-tables.ensures.read here is1) in
    let p = err_from_is_err_and c.from_residual-in_err-tables.result c.from_residual-in_err-tables.ensures.1 in
    rw (p.1, p.2) (older_tables_fail s0.now fault fails)

pub returns-in_err-tables-clause-reads : goal.returns-in_err-tables-clause-reads
returns-in_err-tables-clause-reads g c = reads_stopped _ c.from_residual-in_err-tables.ensures.0 (c.in_ok-load_old.ensures.reads then c.in_err-tables.ensures.reads)

pub returns-in_err-tables-clause-err : goal.returns-in_err-tables-clause-err
returns-in_err-tables-clause-err g c clean is_open =
    let settled = c.is_autocommit-is_idle.ensures.settled (c.is_autocommit-is_idle.ensures.value ∙ ap not c.requires) is_open in
    search rules

pub returns-in_err-tables-clause-crash : goal.returns-in_err-tables-clause-crash
returns-in_err-tables-clause-crash g c here = survives_here (state g.T.Store c.args.new.now) _

pub returns-in_err-tables-clause-missing : goal.returns-in_err-tables-clause-missing
returns-in_err-tables-clause-missing g c here none =
    absurd (c.in_ok-load_old.ensures.missing (clean_first c.read_older_tables.ensures.reads here) none)

pub returns-in_err-tables-clause-version : goal.returns-in_err-tables-clause-version
returns-in_err-tables-clause-version g c here tree has =
    let s0 = state g.S.Store c.args.old.now in
    let s1 = state g.S.Store c.load_old.new.conn in
    let fault = c.in_err-tables.field-0.0 in
    let clean1 : HasCleanDisk s1 = clean_first c.read_older_tables.ensures.reads here in
    let now1 : s1.now ≡ s0.now = (c.in_ok-load_old.ensures.reads.unchanged clean1).0.now_is in
    let has1 : HasSettings s1.now.schema tree = subst (λ (s : Schema). HasSettings s tree) (sym (ap (λ (d : Database). d.schema) now1)) has in
    let same = told OpenedTables (Unit {0}) (NamesOlder (s1.now.trees tree)) fault (c.in_err-tables.ensures.version here tree has1) in
    let p = err_from_is_err_and c.from_residual-in_err-tables.result c.from_residual-in_err-tables.ensures.1 in
    rw (p.1, p.2) (subst (λ (d : Database). TellsOlder {X = Unit {0}} (d.trees tree) (Err fault)) now1 same)

-- ---- what is copied

pub returns-clause-ok : goal.returns-clause-ok
returns-clause-ok g c clean here is =
    let s0 = state g.S.Store c.args.old.now in
    let s1 = state g.S.Store c.load_old.new.conn in
    let s2 = state g.S.Store c.read_older_tables.new.conn in
    let clean2 : HasCleanDisk s2 = omega (arith, c.copy_tables.ensures.reads.survives.clean) in
    let clean1 : HasCleanDisk s1 = clean_first c.read_older_tables.ensures.reads clean2 in
    let now1 : s1.now ≡ s0.now = (c.in_ok-load_old.ensures.reads.unchanged clean1).0.now_is in
    let now2 : s2.now ≡ s0.now = (c.in_ok-tables.ensures.reads.unchanged clean2).0.now_is ∙ now1 in
    let is1 : s1.now.schema ≡ bare_schema = ap (λ (d : Database). d.schema) now1 ∙ is in
    let is2 : s2.now.schema ≡ bare_schema = ap (λ (d : Database). d.schema) now2 ∙ is in
    let loads = c.in_ok-load_old.ensures.loaded clean1 is in
    let content = setup_content c.in_ok-load_old.field-0.0 in
    let terminal = c.in_ok-load_old.field-0.1 in
    let tables = opened_rows c.in_ok-tables.tables in
    let read = subst (λ d. ReadsOlderTables d (Ok c.in_ok-tables.tables)) now1 (c.in_ok-tables.ensures.read clean2 is1) in
    let rows = read.1 in
    let office = older_one s0.now loads.1 content terminal loads.3 loads.2 rows read.3 read.4 in
    let result = subst (λ (d : Database). OnOk c.copy_tables.result (Copies d tables (state g.T.Store c.args.new.now) (state g.T.Store c.copy_tables.new.new))) now2 (c.copy_tables.ensures.ok clean here is2) in
    on_ok c.copy_tables.result (λ copies. record {
      content = content;
      terminal = terminal;
      loads = loads;
      rows = λ none own has.
          has_migrated s0.now rows content terminal office read.3 copies.copied copies.are own has (state g.T.Store c.copy_tables.new.new).committed
          (subst (λ (r : OpenedRows). HasRowsInOrder (copied_rows r copies.copied) (state g.T.Store c.copy_tables.new.new).committed) read.2 (copies.rows none));
      in_order = λ none own has.
          stand_alike s0.now rows content terminal office read.3 copies.copied copies.are own has (state g.T.Store c.copy_tables.new.new).committed
          (subst (λ (r : OpenedRows). HasRowsInOrder (copied_rows r copies.copied) (state g.T.Store c.copy_tables.new.new).committed) read.2 (copies.rows none));
      stays = copies.stays;
    }) result

pub returns-clause-crash : goal.returns-clause-crash
returns-clause-crash g c here =
    let s0 = state g.S.Store c.args.old.now in
    let s1 = state g.S.Store c.load_old.new.conn in
    let s2 = state g.S.Store c.read_older_tables.new.conn in
    let before = (state g.T.Store c.args.new.now).committed in
    let clean2 : HasCleanDisk s2 = omega (arith, c.copy_tables.ensures.reads.survives.clean) in
    let clean1 : HasCleanDisk s1 = clean_first c.read_older_tables.ensures.reads clean2 in
    let now1 : s1.now ≡ s0.now = (c.in_ok-load_old.ensures.reads.unchanged clean1).0.now_is in
    let now2 : s2.now ≡ s0.now = (c.in_ok-tables.ensures.reads.unchanged clean2).0.now_is ∙ now1 in
    let tables = opened_rows c.in_ok-tables.tables in
    survives_weaker (state g.T.Store c.args.new.now) (state g.T.Store c.copy_tables.new.new) (IsCopy s2.now tables before) (IsMigration s0.now before) (λ clean db copy none own has.
    let is = has.schema in
    let is1 : s1.now.schema ≡ bare_schema = ap (λ (d : Database). d.schema) now1 ∙ is in
    let loads = c.in_ok-load_old.ensures.loaded clean1 is in
    let content = setup_content c.in_ok-load_old.field-0.0 in
    let terminal = c.in_ok-load_old.field-0.1 in
    let read = subst (λ d. ReadsOlderTables d (Ok c.in_ok-tables.tables)) now1 (c.in_ok-tables.ensures.read clean2 is1) in
    let rows = read.1 in
    let office = older_one s0.now loads.1 content terminal loads.3 loads.2 rows read.3 read.4 in
    let moved = subst (λ d. IsCopy d tables before db) now2 copy in
    let copied = subst (λ (r : OpenedRows). IsCopy s0.now r before db) read.2 moved in
    migrated_whole s0.now before rows content terminal office read.3 db copied none own has) (c.copy_tables.ensures.crash here)

pub returns-clause-refused : goal.returns-clause-refused
returns-clause-refused g c here is = IfErr-weaker c.copy_tables.result _ _ (of_store_fails (state g.S.Store c.args.old.now).now) c.copy_tables.ensures.fault

pub returns-clause-untouched : goal.returns-clause-untouched
returns-clause-untouched g c = IfErr-weaker c.copy_tables.result _ _ (λ fault is other. absurd (other is)) c.copy_tables.ensures.fault

pub returns-clause-reads : goal.returns-clause-reads
returns-clause-reads g c = then_if_open (c.in_ok-load_old.ensures.reads then c.in_ok-tables.ensures.reads) c.copy_tables.ensures.reads

pub returns-clause-missing : goal.returns-clause-missing
returns-clause-missing g c here none =
    let clean2 : HasCleanDisk (state g.S.Store c.read_older_tables.new.conn) = omega (arith, c.copy_tables.ensures.reads.survives.clean) in
    absurd (c.in_ok-load_old.ensures.missing (clean_first c.read_older_tables.ensures.reads clean2) none)

pub returns-clause-version : goal.returns-clause-version
returns-clause-version g c here tree has =
    let clean2 : HasCleanDisk (state g.S.Store c.read_older_tables.new.conn) = omega (arith, c.copy_tables.ensures.reads.survives.clean) in
    let named = c.in_ok-load_old.ensures.version (clean_first c.read_older_tables.ensures.reads clean2) tree has in
    result_tells (Unit {0}) (NamesOlder ((state g.S.Store c.args.old.now).now.trees tree)) c.copy_tables.result named (IfErr-weaker c.copy_tables.result _ _ (of_store_or (Unit {0})) c.copy_tables.ensures.fault)

-- ---- events

pub returns-in_err-load_old-clause-stops : goal.returns-in_err-load_old-clause-stops
returns-in_err-load_old-clause-stops g c here none version content es it = survives_here (state g.T.Store c.args.new.now) _

pub returns-in_err-load_old-clause-no_damage : goal.returns-in_err-load_old-clause-no_damage
returns-in_err-load_old-clause-no_damage g c here version content es it =
    let s0 = state g.S.Store c.args.old.now in
    let p = err_from_is_err_and c.from_residual.result c.from_residual.ensures.1 in
    rw (p.1, p.2) (never_refused version content es s0.now it c.in_err-load_old.field-0.0 (c.in_err-load_old.ensures.refused here it.has.schema))

pub returns-in_err-tables-clause-stops : goal.returns-in_err-tables-clause-stops
returns-in_err-tables-clause-stops g c here none version content es it = survives_here (state g.T.Store c.args.new.now) _

pub returns-in_err-tables-clause-no_damage : goal.returns-in_err-tables-clause-no_damage
returns-in_err-tables-clause-no_damage g c here version content es it =
    let s0 = state g.S.Store c.args.old.now in
    let s1 = state g.S.Store c.load_old.new.conn in
    let fault = c.in_err-tables.field-0.0 in
    let clean1 : HasCleanDisk s1 = clean_first c.read_older_tables.ensures.reads here in
    let now1 : s1.now ≡ s0.now = (c.in_ok-load_old.ensures.reads.unchanged clean1).0.now_is in
    let is1 : s1.now.schema ≡ bare_schema = ap (λ (d : Database). d.schema) now1 ∙ it.has.schema in
    let fails = subst (λ d. FailsOlderTables d fault) now1 (c.in_err-tables.ensures.read here is1) in
    let p = err_from_is_err_and c.from_residual-in_err-tables.result c.from_residual-in_err-tables.ensures.1 in
    rw (p.1, p.2) (never_refused version content es s0.now it fault (older_tables_fail s0.now fault fails))

pub returns-clause-no_damage : goal.returns-clause-no_damage
returns-clause-no_damage g c here version content es it = c.copy_tables.ensures.fault

pub returns-clause-goes_on : goal.returns-clause-goes_on
returns-clause-goes_on g c clean here none version content es it =
    on_ok c.copy_tables.result (λ migrates. holds_after version content es (state g.S.Store c.args.old.now).now it (state g.T.Store c.copy_tables.new.new).committed (migrates.rows none it.rows it.has)) (returns-clause-ok g c clean here it.has.schema)

pub returns-clause-stops : goal.returns-clause-stops
returns-clause-stops g c here none version content es it =
    let from = (state g.S.Store c.args.old.now).now in
    let before = (state g.T.Store c.args.new.now).committed in
    survives_weaker (state g.T.Store c.args.new.now) (state g.T.Store c.copy_tables.new.new) (IsMigration from before) _ (λ clean db made. migration_holds version content es from it before db made none) (returns-clause-crash g c here)
