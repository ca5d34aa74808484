use Rattle.std.proofs.Common.{◌≡◌, ◌≤◌}
use Rattle.office_http.specs.Lines.{IsSamePeer}
use Rattle.office_http.proofs.told.Telling.told.Given as goal

-- it is the same response, of which more is taken
abbrev pub invariant-writes : goal.invariant-writes
invariant-writes l = record {
  peer : IsSamePeer l.fn.self.peer l.self.peer;
  told : l.self.told ≡ l.fn.self.told;
  taken : l.fn.self.taken ≤ l.self.taken;
  deadline : l.self.deadline ≡ l.fn.self.deadline;
}
