use Rattle.std.proofs.Common.{map, take}
use Rattle.office_loading.specs.{Contents.number_content, Owned.AreOwn}
use Rattle.office_loading.proofs.numbers.own_count.Given as goal

abbrev pub invariant-loop-index : goal.invariant-loop-index
invariant-loop-index l = AreOwn l.partner (map number_content (take l.index l.numbers))
