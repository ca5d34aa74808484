use Rattle.std.proofs.Common.{arith}
use Rattle.office_closing.proofs.PlanLemmas.{most_no_more}
use Rattle.office_closing.proofs.planning.are_at_most.Goals as goal

pub returns-then-numbers-others : goal.returns-then-numbers-others
returns-then-numbers-others c = (λ e. absurd cc, λ most. absurd (let low = most_no_more c.args.numbers.now c.args.others.now most in omega (arith, low)))
