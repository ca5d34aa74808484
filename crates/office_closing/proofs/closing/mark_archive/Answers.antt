use Rattle.std.proofs.Common.{◌≡◌, Ok, true, false, sym, subst, ◌∙◌, rules}
use Rattle.sqlite.specs.Held.{state}
use Rattle.office_closing.{specs.{Changes.{marked_for, unmarked}, Steps.{StepsIf, is_unmarked}}, proofs.PlanLemmas.not_due}
use Rattle.office_closing.proofs.closing.mark_archive.Goals as goal

pub returns-then-is_due-clause-steps : goal.returns-then-is_due-clause-steps
returns-then-is_due-clause-steps g c =
    let due : true ≡ is_unmarked c.args.stage = sym c.if-is_due.true ∙ c.is_unmarked-is_due.ensures in
    subst (λ b. StepsIf b unmarked (marked_for c.args.store_file.now) (state g.S.Store c.args.conn.now) (state g.S.Store c.mark_now.new.conn) c.mark_now.result) due c.mark_now.ensures.steps

pub returns-else-is_due-clause-steps : goal.returns-else-is_due-clause-steps
returns-else-is_due-clause-steps g c =
    let off : c.is_unmarked-is_due.result ≡ false = search rules in
    let due : false ≡ is_unmarked c.args.stage = sym off ∙ c.is_unmarked-is_due.ensures in
    subst (λ b. StepsIf {T = Unit {0}} b unmarked (marked_for c.args.store_file.now) (state g.S.Store c.args.conn.now) (state g.S.Store c.args.conn.now) (Ok tt)) due (not_due unmarked (marked_for c.args.store_file.now) (state g.S.Store c.args.conn.now) tt c.requires)
