use Rattle.std.proofs.Common.{◌≡◌, ◌↔◌, true, IfOk, not, ap, subst, ◌∙◌}
use Rattle.office_rows.specs.{Rows.Rows, Stored.HasRows}
use Rattle.office_history.specs.After.{AreKeptOnce}
use Rattle.office_tables.proofs.WriteLemmas.{was_open}
use Rattle.office_closing.specs.{Register.register_content, Seals.HasSealOf}
use Rattle.office_archives.proofs.looked.Looked.has_seal_of.Goals as goal

pub returns-clause-has : goal.returns-clause-has
returns-clause-has g c clean is_open =
    subst (λ db. IfOk c.has_seal_of.result (λ has. (rows : Rows) → HasRows rows db → AreKeptOnce rows.interchanges → (has ≡ true) ↔ HasSealOf (register_content c.args.register.now) c.args.place c.args.partner c.args.number rows))
    (c.is_autocommit-is_idle.ensures.settled (c.is_autocommit-is_idle.ensures.value ∙ ap not c.args.self.now.idle) (was_open c.has_seal_of.ensures.reads clean is_open)) (c.has_seal_of.ensures.has clean)
