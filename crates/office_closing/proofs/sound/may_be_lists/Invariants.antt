use Rattle.std.{specs.List.list_all, proofs.Common.{◌≡◌, map, drop}}
use Rattle.office_closing.specs.{Lists.list_content, Sound.may_be_list}
use Rattle.office_closing.proofs.sound.may_be_lists.Given as goal

abbrev pub invariant-loop-list : goal.invariant-loop-list
invariant-loop-list l =
    list_all (may_be_list l.archives) (map list_content l.lists) ≡ list_all (may_be_list l.archives) (map list_content (drop l.list-index l.lists))
