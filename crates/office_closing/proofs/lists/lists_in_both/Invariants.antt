use Rattle.std.proofs.Common.{map, take}
use Rattle.office_closing.specs.{Lists.list_content, Planning.AreInBoth}
use Rattle.office_closing.proofs.lists.lists_in_both.Given as goal

abbrev pub invariant-loop-list : goal.invariant-loop-list
invariant-loop-list l =
    AreInBoth (map list_content (take l.list-index l.lists)) (map list_content l.others) (map list_content l.both.items)
