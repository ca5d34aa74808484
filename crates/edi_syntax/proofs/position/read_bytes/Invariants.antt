use Rattle.std.proofs.Common.{◌≡◌, ◌-◌, length, false}
use Rattle.edi_syntax.specs.Positions.{stops, Reads}
use Rattle.edi_syntax.proofs.position.read_bytes.Given as goal

abbrev pub invariant-loop-count : goal.invariant-loop-count
invariant-loop-count l = record {
  going : stops l.position ≡ false;
  reads : Reads l.service l.fn.position l.bytes l.count l.position;
}

abbrev pub decreases-loop-count : goal.decreases-loop-count
decreases-loop-count l = length l.bytes - l.count
