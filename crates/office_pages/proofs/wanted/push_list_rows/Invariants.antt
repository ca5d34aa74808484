use Rattle.std.proofs.Common.{◌≡◌, ◌++◌, map, take, string_bytes, flat_map}
use Rattle.terminal_core.specs.Listings.{line_entry}
use Rattle.office_pages.specs.Wanted.{wanted_row}
use Rattle.office_pages.proofs.wanted.push_list_rows.Given as goal

abbrev pub invariant-loop-list : goal.invariant-loop-list
invariant-loop-list l = string_bytes l.page ≡ string_bytes l.initial.page ++ flat_map wanted_row (map (λ line. line_entry line.now) (take l.list-index l.lists))
