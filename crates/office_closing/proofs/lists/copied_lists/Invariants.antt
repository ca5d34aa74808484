use Rattle.std.proofs.Common.{◌≡◌, map, take}
use Rattle.office_closing.specs.Lists.{list_content}
use Rattle.office_closing.proofs.lists.copied_lists.Given as goal

abbrev pub invariant-loop-list : goal.invariant-loop-list
invariant-loop-list l = map list_content l.copies.items ≡ map list_content (take l.list-index l.lists)
