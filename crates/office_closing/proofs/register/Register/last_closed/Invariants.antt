use Rattle.std.proofs.Common.{◌≡◌, max, drop}
use Rattle.office_closing.specs.Register.{last_closed}
use Rattle.office_closing.proofs.register.Register.last_closed.Given as goal

abbrev pub invariant-loop-segment : goal.invariant-loop-segment
invariant-loop-segment l =
    last_closed l.self.segments.items l.partner ≡ max l.last (last_closed (drop l.segment-index l.self.segments.items) l.partner)
