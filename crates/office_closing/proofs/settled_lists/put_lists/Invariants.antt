use Rattle.std.proofs.Common.{◌≡◌, map, take}
use Rattle.office_closing.specs.Lists.{list_content, put_lists}
use Rattle.office_closing.proofs.settled_lists.put_lists.Given as goal

abbrev pub invariant-loop-list : goal.invariant-loop-list
invariant-loop-list l =
    map list_content l.lists.items ≡ put_lists (map list_content (take l.list-index l.more)) (map list_content l.fn.lists.items)
