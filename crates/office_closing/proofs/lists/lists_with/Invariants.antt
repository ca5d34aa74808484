use Rattle.std.proofs.Common.{◌≡◌, filter, map, take}
use Rattle.office_closing.specs.{Lists.list_content, Copies.is_put_away_with}
use Rattle.office_closing.proofs.lists.lists_with.Given as goal

abbrev pub invariant-loop-list : goal.invariant-loop-list
invariant-loop-list l =
    map list_content l.found.items ≡ filter (is_put_away_with l.archive) (map list_content (take l.list-index l.lists))
