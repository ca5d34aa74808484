use Rattle.std.proofs.Common.{take}
use Rattle.office_loading.specs.Formed.{AreSoundLines}
use Rattle.office_loading.proofs.settings.are_sound_lines.Given as goal

abbrev pub invariant-loop-line : goal.invariant-loop-line
invariant-loop-line l = AreSoundLines (take l.line-index l.lines)
