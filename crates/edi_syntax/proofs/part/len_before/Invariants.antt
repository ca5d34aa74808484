-- no separator among the bytes that were passed over
use Rattle.std.proofs.Common.{◌≡◌, ◌-◌, ◌<◌, ◌≤◌, ℕ, nat_eq, length, get_or, false}
use Rattle.edi_syntax.proofs.part.len_before.Given as goal

abbrev pub invariant-loop-at : goal.invariant-loop-at
invariant-loop-at l = record {
  within : l.at ≤ length l.bytes;
  passed : (k : ℕ) → k < l.at → nat_eq (get_or l.bytes k 0) l.separator ≡ false;
}

abbrev pub decreases-loop-at : goal.decreases-loop-at
decreases-loop-at l = length l.bytes - l.at
