use Rattle.std.proofs.Common.{◌≡◌, map, take}
use Rattle.sqlite.specs.Order.{column}
use Rattle.office_rows.specs.Values.{number_value}
use Rattle.office_loading.proofs.rows.read_numbers.Given as goal

abbrev pub invariant-loop-row : goal.invariant-loop-row
invariant-loop-row l = map number_value l.numbers.items ≡ map (λ row. column row 0) (take l.row-index l.rows)
