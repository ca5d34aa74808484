use Rattle.std.specs.Io.KnownBytes.{Appends}
use Rattle.std.proofs.Common.{◌-◌, ◌≡◌, ◌<◌, ◌≤◌, ◌+◌, ℕ, List, IsTrue, length, take, ◌*◌}
use Rattle.office.proofs.copying.copy_parts.Given as goal

abbrev pub invariant-loop-at : goal.invariant-loop-at
invariant-loop-at g l =
    (l.at ≤ l.length)
    × IsTrue (g.D.Disk.is_usable l.file)
    × (g.D.Disk.seen l.file ≡ g.D.Disk.seen l.initial.file)
    × (IsTrue (g.D.Disk.is_clean l.file) → IsTrue (g.D.Disk.is_clean l.initial.file))
    × (IsTrue (g.D.Disk.is_clean l.file) →
    Appends (g.W.Write.contents l.initial.writer) (g.W.Write.contents l.writer) (take l.at (g.D.Disk.seen l.initial.file)))
    × ((left : List ℕ) → g.D.Disk.may_leave l.file left → g.D.Disk.may_leave l.initial.file left)

abbrev pub decreases-loop-at : goal.decreases-loop-at
decreases-loop-at g l = l.length - l.at
