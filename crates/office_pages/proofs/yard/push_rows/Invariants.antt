use Rattle.std.proofs.Common.{◌≡◌, ◌++◌, take, string_bytes, flat_map}
use Rattle.office_pages.specs.Yard.{standing_row}
use Rattle.office_pages.proofs.yard.push_rows.Given as goal

abbrev pub invariant-loop-standing : goal.invariant-loop-standing
invariant-loop-standing l = string_bytes l.page ≡ string_bytes l.initial.page ++ flat_map standing_row (take l.standing-index l.standings)
