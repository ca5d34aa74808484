use Rattle.std.proofs.Common.{◌≡◌}
use Rattle.partner_core.specs.Runs.{partner_count}
use Rattle.office_trials.proofs.runs.assert_said.Given as goal

abbrev pub invariant-loop-id : goal.invariant-loop-id
invariant-loop-id g l = partner_count l.runs ≡ partner_count l.fn.runs
