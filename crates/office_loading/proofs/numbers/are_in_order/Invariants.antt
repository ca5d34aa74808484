use Rattle.std.proofs.Common.{map, drop, ◌↔◌}
use Rattle.office_loading.specs.{Contents.number_content, OwnOffice.AreInOrder}
use Rattle.office_loading.proofs.numbers.are_in_order.Given as goal

abbrev pub invariant-loop-row : goal.invariant-loop-row
invariant-loop-row l = AreInOrder l.count 1 0 (map number_content l.numbers) ↔ AreInOrder l.count l.partner l.number (map number_content (drop l.row-index l.numbers))
