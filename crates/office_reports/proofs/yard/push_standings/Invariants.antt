use Rattle.std.{specs.Map.values_of, proofs.Common.{◌≡◌, ◌++◌, string_bytes, flat_map}}
use Rattle.office_reports.specs.Yard.{standing_line}
use Rattle.office_reports.proofs.yard.push_standings.Given as goal

abbrev pub invariant-loop-standing : goal.invariant-loop-standing
invariant-loop-standing l = string_bytes l.text ++ flat_map standing_line (values_of l.standing-iterator) ≡ string_bytes l.initial.text ++ flat_map standing_line (values_of l.initial.standing-iterator)
