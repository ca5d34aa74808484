use Rattle.std.proofs.Common.{not, ap, ◌∙◌}
use Rattle.sqlite.specs.Held.{state}
use Rattle.office_rows.specs.{Rows.Rows, Stored.HasRows}
use Rattle.office_tables.specs.{Answers.{HasUnfitReply, IsKept}, Faults.IsOfStoreOr}
use Rattle.office_archives.proofs.Looking.{err_committed, ok_committed}
use Rattle.office_archives.proofs.looked.Looked.kept.Goals as goal

pub returns-clause-answer : goal.returns-clause-answer
returns-clause-answer g c clean =
    ok_committed (state g.S.Store c.args.self.now.conn) (state g.S.Store c.kept.new.conn) (λ is_open. c.is_autocommit-is_idle.ensures.settled (c.is_autocommit-is_idle.ensures.value ∙ ap not c.args.self.now.idle) is_open)
    (λ db answer. (rows : Rows) → HasRows rows db → IsKept c.args.partner c.args.number rows answer) c.kept.result (c.kept.ensures.reads.unchanged clean) (c.kept.ensures.answer clean)

pub returns-clause-fault : goal.returns-clause-fault
returns-clause-fault g c clean is_open =
    err_committed (state g.S.Store c.args.self.now.conn) (λ is_open. c.is_autocommit-is_idle.ensures.settled (c.is_autocommit-is_idle.ensures.value ∙ ap not c.args.self.now.idle) is_open)
    (λ db fault. (rows : Rows) → HasRows rows db → IsOfStoreOr (HasUnfitReply c.args.partner c.args.number rows) fault) c.kept.result ((c.kept.ensures.reads.keeps clean).was_open is_open) (c.kept.ensures.fault clean)
