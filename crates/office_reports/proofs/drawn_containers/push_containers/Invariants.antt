use Rattle.std.proofs.Common.{◌≡◌, ◌++◌, drop, flat_map, string_bytes}
use Rattle.office_reports.specs.Views.{view_in_row}
use Rattle.office_reports.proofs.drawn_containers.push_containers.Given as goal

abbrev pub invariant-loop-standing : goal.invariant-loop-standing
invariant-loop-standing l = string_bytes l.text ++ flat_map (view_in_row l.block l.row) (drop l.standing-index l.standings) ≡ string_bytes l.initial.text ++ flat_map (view_in_row l.block l.row) l.standings
