use Rattle.std.proofs.Common.{refl, subst}
use Rattle.office_closing.{specs.{Arriving.IsTold, Judging.WantsAll}, proofs.PlanLemmas.{first_copied, other_copied, same_copied}}
use Rattle.office_closing.proofs.judging.is_copied.Goals as goal

pub returns-in-Same : goal.returns-in-Same
returns-in-Same c last_closed own copy told =
    (λ e. same_copied (WantsAll c.args.plan.now) last_closed own copy (subst (IsTold last_closed own copy) c.in-Same.is told), λ texts. refl)

pub returns-in-First : goal.returns-in-First
returns-in-First c last_closed own copy told =
    first_copied (WantsAll c.args.plan.now) last_closed own copy c.wants_all.result c.wants_all.ensures (subst (IsTold last_closed own copy) c.in-First.is told)

pub returns-in-Other : goal.returns-in-Other
returns-in-Other c last_closed own copy told =
    other_copied (WantsAll c.args.plan.now) last_closed own copy (subst (IsTold last_closed own copy) c.in-Other.is told)
