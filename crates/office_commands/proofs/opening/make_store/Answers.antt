use Rattle.std.proofs.Common.{◌≡◌, [], arith, subst}
use Rattle.sqlite.specs.{Effect.Database, Files.file_state, State.HasCleanDisk}
use Rattle.office_rows.specs.{Opening.opening_rows, Tables.{office_schema, office_tables}}
use Rattle.office_admission.specs.Setups.{setup_content}
use Rattle.office_tables.specs.Opened.{AreMissing}
use Rattle.office_history.proofs.Lawful.{opening_after}
use Rattle.office_desk.proofs.HoldLemmas.{committed_leaves}
use Rattle.office_commands.proofs.OpenedLemmas.{never_missing}
use Rattle.office_commands.proofs.opening.make_store.Goals as goal

-- The tables are made in an empty store, so their rows are those after no delivery, and only they are committed. None of
-- them was there before.
pub returns : goal.returns
returns g c = record {
  made = λ clean none.
      let content = setup_content c.args.setup.now in
      let now = file_state c.create.new.conn in
      let early : HasCleanDisk (file_state c.in_ok-conn.conn) = omega (arith, c.create.ensures.crash.clean, clean) in
      let made = c.in_ok-create.ensures.ok clean in
      committed_leaves content [] now (opening_rows content) made.alone
      (made.rows (c.in_ok-conn.ensures.empty early none)) (opening_after content);
  new = λ clean db held.
      let was = file_state c.in_ok-conn.conn in
      let early : HasCleanDisk was = omega (arith, c.create.ensures.crash.clean, clean) in
      let shows : was.committed ≡ record { schema = office_schema; trees = db } = c.in_ok-conn.ensures.found early db office_schema held.held held.lists in
      never_missing (subst (λ (d : Database). AreMissing office_tables d.schema) shows (c.in_ok-create.ensures.new clean));
}
