use Rattle.std.proofs.Common.{◌≡◌}
use Rattle.partner_core.specs.Runs.{partner_count}
use Rattle.office_trials.proofs.runs.added.assert_said_to.Given as goal

abbrev pub invariant-loop-number : goal.invariant-loop-number
invariant-loop-number g l = partner_count l.runs ≡ partner_count l.fn.runs
