use Rattle.std.{specs.List.sum_by, proofs.Common.{◌≡◌, ◌-◌, ◌^◌, min, take}}
use Rattle.office_http.specs.Lines.{held_at}
use Rattle.office_http.proofs.lines.Lines.held.Given as goal

-- what is held for those at the keys so far
abbrev pub invariant-keys : goal.invariant-keys
invariant-keys l = l.held ≡ min (sum_by held_at (take l.key l.self.slots.slots)) (2 ^ 64 - 1)
