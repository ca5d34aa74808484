-- the terminator stands as far after the bytes that were passed over as it stands in what is left
use Rattle.std.{specs.Option.option_map, proofs.Common.{◌≡◌, ◌+◌, ◌-◌, ◌≤◌, length, drop, false}}
use Rattle.edi_syntax.specs.Reading.{end_of}
use Rattle.edi_syntax.proofs.reader.end_behind.Given as goal

abbrev pub invariant-loop-at : goal.invariant-loop-at
invariant-loop-at l = record {
  within : l.at ≤ length l.bytes;
  passed : end_of l.table.service false l.bytes ≡ option_map (λ n. l.at + n) (end_of l.table.service false (drop l.at l.bytes));
}

abbrev pub decreases-loop-at : goal.decreases-loop-at
decreases-loop-at l = length l.bytes - l.at
