use Rattle.std.proofs.Common.{map, drop, ◌↔◌}
use Rattle.office_rows.specs.Office.{AreWaiting}
use Rattle.office_loading.specs.Contents.{number_content}
use Rattle.office_loading.proofs.numbers.are_waiting.Given as goal

abbrev pub invariant-loop-row : goal.invariant-loop-row
invariant-loop-row l = AreWaiting l.partner l.next (map number_content l.numbers) ↔ AreWaiting l.partner l.above (map number_content (drop l.row-index l.numbers))
