use Rattle.std.proofs.Common.{◌≡◌, ◌++◌, false, length}
use Rattle.office_pages.specs.Contrl.{segment_lines}
use Rattle.office_pages.proofs.contrl.segment_lines.Given as goal

abbrev pub invariant-bytes : goal.invariant-bytes
invariant-bytes l = l.lines.items ++ segment_lines l.is_released l.rest ≡ segment_lines false l.text

abbrev pub decreases-bytes : goal.decreases-bytes
decreases-bytes l = length l.rest
