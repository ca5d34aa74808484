use Rattle.std.proofs.Common.{◌≡◌}
use Rattle.office_http.specs.Lines.{IsSamePeer}
use Rattle.office_http.proofs.told.Parting.parted.Given as goal

-- it is the same connection, and may take no longer
abbrev pub invariant-reads : goal.invariant-reads
invariant-reads l = record {
  peer : IsSamePeer l.fn.self.peer l.self.peer;
  deadline : l.self.deadline ≡ l.fn.self.deadline;
}
