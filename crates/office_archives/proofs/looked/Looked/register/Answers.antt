use Rattle.std.proofs.Common.{◌≡◌, not, ap, ◌∙◌}
use Rattle.sqlite.specs.Held.{state}
use Rattle.office_closing.specs.{Register.{RegisterContent, register_content}, Sound.IsSound, Stored.HasRegister}
use Rattle.office_tables.specs.Faults.{IsOfStore}
use Rattle.office_archives.proofs.Looking.{err_committed, ok_committed}
use Rattle.office_archives.proofs.looked.Looked.register.Goals as goal

pub returns-clause-register : goal.returns-clause-register
returns-clause-register g c clean =
    ok_committed (state g.S.Store c.args.self.now.conn) (state g.S.Store c.read_register.new.conn) (λ is_open. c.is_autocommit-is_idle.ensures.settled (c.is_autocommit-is_idle.ensures.value ∙ ap not c.args.self.now.idle) is_open)
    (λ db register. (content : RegisterContent) → HasRegister content db → IsSound content → register_content register ≡ content) c.read_register.result (c.read_register.ensures.reads.unchanged clean) (c.read_register.ensures.register clean)

pub returns-clause-kept : goal.returns-clause-kept
returns-clause-kept g c clean is_open =
    err_committed (state g.S.Store c.args.self.now.conn) (λ is_open. c.is_autocommit-is_idle.ensures.settled (c.is_autocommit-is_idle.ensures.value ∙ ap not c.args.self.now.idle) is_open)
    (λ db fault. (content : RegisterContent) → HasRegister content db → IsSound content → IsOfStore fault) c.read_register.result ((c.read_register.ensures.reads.keeps clean).was_open is_open) (c.read_register.ensures.kept clean)
