use Rattle.std.proofs.Common.{◌≡◌}
use Rattle.office_http.specs.Lines.{HasGrown, IsSamePeer}
use Rattle.office_http.proofs.line.Asking.heard.Given as goal

-- it is the same connection, of which more has come
abbrev pub invariant-reads : goal.invariant-reads
invariant-reads l = record {
  peer : IsSamePeer l.fn.self.peer l.self.peer;
  asked : HasGrown l.fn.self.asked.items l.self.asked.items;
}
