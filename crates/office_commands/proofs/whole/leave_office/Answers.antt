use Rattle.std.proofs.{Common.{ap, subst, ◌∙◌}, lemmas.Result.IfOk-weaker}
use Rattle.sqlite.specs.{Files.{file_state, over_files}, Held.Held, declared.FileStore.FileStore}
use Rattle.office_desk.specs.declared.desk.Desk.{Desk}
use Rattle.office_commands.{specs.Whole.IsLeft, proofs.WholeLemmas.whole_after}
use Rattle.office_commands.proofs.whole.leave_office.Goals as goal

-- The connection is the desk's.
pub returns-clause-left : goal.returns-clause-left
returns-clause-left g c =
    subst (λ (conn : Held (FileStore g.row.D.Denot g.D.Disk)). IsLeft conn c.leave_whole.result)
    (c.into_connection.ensures ∙ ap (λ (desk : Desk (FileStore g.row.D.Denot g.D.Disk) over_files). desk.conn) c.into_desk.ensures) c.leave_whole.ensures

pub returns-clause-beside : goal.returns-clause-beside
returns-clause-beside g c =
    let db = (file_state c.args.office.desk.conn).committed.trees in
    IfOk-weaker c.leave_whole.result _ _
    (λ files whole clean list closed content es beside image may.
    let alone = whole clean image may in
    (record { db = db; held = alone.both; beside = beside }, record { db = db; held = alone.alone; beside = beside }))
    (returns-clause-left g c).whole

pub returns-clause-after : goal.returns-clause-after
returns-clause-after g c =
    IfOk-weaker c.leave_whole.result _ _
    (λ files whole clean content es stands. whole_after g.D.Disk c.args.office.desk files (whole clean) content es stands)
    (returns-clause-left g c).whole
