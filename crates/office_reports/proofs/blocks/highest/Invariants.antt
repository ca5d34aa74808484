use Rattle.std.proofs.Common.{◌≡◌, take}
use Rattle.office_reports.specs.Blocks.{highest_tier}
use Rattle.office_reports.proofs.blocks.highest.Given as goal

abbrev pub invariant-loop-standing : goal.invariant-loop-standing
invariant-loop-standing l = l.highest ≡ highest_tier (take l.standing-index l.standings)
