use Rattle.std.{specs.Fmt.{HasWritten, IsPlainFormatter}, proofs.Common.{flat_map, take}}
use Rattle.office_reports.specs.Fields.{character_text}
use Rattle.office_reports.proofs.fixed.FieldDisplay.fmt.Given as goal

abbrev pub invariant-loop-byte : goal.invariant-loop-byte
invariant-loop-byte g l =
    IsPlainFormatter l.initial.f → HasWritten g.W.Write.write_str_gives l.initial.f (flat_map character_text (take l.byte-index l.byte-items)) l.f
