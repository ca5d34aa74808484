use Rattle.std.proofs.Common.{◌≡◌, ◌≤◌}
use Rattle.office_http.specs.Gates.{KeepsBound}
use Rattle.office_http.proofs.gate.Gate.accept.Given as goal

-- no more are open than may be, and no more are still expected
abbrev pub invariant-waiting : goal.invariant-waiting
invariant-waiting l = record {
  bound : KeepsBound l.fn.self l.self;
  left : l.self.left ≤ l.fn.self.left;
}
