use Rattle.std.{specs.List.range_with_len, proofs.Common.{◌≡◌, ◌++◌, flat_map, string_bytes}}
use Rattle.office_reports.specs.Views.{part_view}
use Rattle.office_reports.proofs.grids.push_parts.Given as goal

abbrev pub invariant-loop-part : goal.invariant-loop-part
invariant-loop-part l = string_bytes l.text ≡ string_bytes l.initial.text ++ flat_map (part_view l.block l.row) (range_with_len 0 l.part)
