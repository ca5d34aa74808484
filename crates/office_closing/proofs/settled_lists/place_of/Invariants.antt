use Rattle.std.proofs.Common.{◌≡◌, ◌++◌, map, take, drop}
use Rattle.office_closing.specs.Lists.{list_content, put_list}
use Rattle.office_closing.proofs.settled_lists.place_of.Given as goal

abbrev pub invariant-loop-place : goal.invariant-loop-place
invariant-loop-place l =
    put_list (list_content l.list) (map list_content l.lists) ≡ map list_content (take l.place l.lists) ++ put_list (list_content l.list) (map list_content (drop l.place l.lists))
