use Rattle.std.proofs.Common.{◌≡◌, map, take}
use Rattle.office_closing.specs.Lists.{list_content}
use Rattle.office_closing.proofs.settled_lists.are_same_lists.Given as goal

abbrev pub invariant-loop-index : goal.invariant-loop-index
invariant-loop-index l = map list_content (take l.index l.one) ≡ map list_content (take l.index l.other)
