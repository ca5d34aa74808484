use Rattle.std.{specs.Option.option_map, proofs.Common.{◌≡◌, map, drop, None}}
use Rattle.office_closing.specs.{Lists.list_content, Sound.are_rising}
use Rattle.office_closing.proofs.sound.are_rising.Given as goal

abbrev pub invariant-loop-list : goal.invariant-loop-list
invariant-loop-list l =
    are_rising None (map list_content l.lists) ≡ are_rising (option_map (λ one. list_content one.now) l.before) (map list_content (drop l.list-index l.lists))
