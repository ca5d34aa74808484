use Rattle.std.proofs.Common.{◌≡◌}
use Rattle.partner_core.specs.Runs.{partner_count}
use Rattle.office_trials.proofs.runs.added.partners_are_added_one_by_one.Given as goal

-- as many partners as turns
abbrev pub invariant-loop-before : goal.invariant-loop-before
invariant-loop-before g l = partner_count l.runs ≡ l.before
