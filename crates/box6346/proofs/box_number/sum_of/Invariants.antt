use Rattle.std.proofs.Common.{◌≡◌, ◌+◌, ◌*◌, ◌≤◌, drop}
use Rattle.box6346.specs.NumberText.{weighted_sum}
use Rattle.box6346.proofs.box_number.sum_of.Given as goal

-- the sum so far and that of what is left are the sum of all; each of the ten adds less than 2 ^ 17
abbrev pub invariant-loop-position : goal.invariant-loop-position
invariant-loop-position l = (l.sum + weighted_sum l.position (drop l.position l.text) ≡ weighted_sum 0 l.text) × (l.sum ≤ l.position * 131072)
