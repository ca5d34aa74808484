-- the separator stands as far after the bytes that were passed over as it stands in what is left
use Rattle.std.{specs.Option.option_map, proofs.Common.{◌≡◌, ◌+◌, ◌-◌, ◌≤◌, length, drop, false}}
use Rattle.edi_syntax.specs.Parts.{separator_of}
use Rattle.edi_syntax.proofs.part.separator_behind_releases.Given as goal

abbrev pub invariant-loop-at : goal.invariant-loop-at
invariant-loop-at l = record {
  within : l.at ≤ length l.bytes;
  passed : separator_of l.service l.separator false l.bytes ≡ option_map (λ n. l.at + n) (separator_of l.service l.separator false (drop l.at l.bytes));
}

abbrev pub decreases-loop-at : goal.decreases-loop-at
decreases-loop-at l = length l.bytes - l.at
