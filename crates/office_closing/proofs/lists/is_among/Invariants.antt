use Rattle.std.{specs.Prelude.Contains, proofs.Common.{map, take}}
use Rattle.office_closing.specs.Lists.{list_content}
use Rattle.office_closing.proofs.lists.is_among.Given as goal

abbrev pub invariant-loop-other : goal.invariant-loop-other
invariant-loop-other l = ¬ Contains (map list_content (take l.other-index l.others)) (list_content l.list)
