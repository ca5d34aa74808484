use Rattle.std.proofs.Common.{◌≡◌, map, take}
use Rattle.sqlite.specs.Order.{column}
use Rattle.office_rows.specs.Values.{number_value}
use Rattle.office_loading.proofs.loading.read_nexts.Given as goal

abbrev pub invariant-loop-row : goal.invariant-loop-row
invariant-loop-row l = map number_value l.nexts.items ≡ map (λ row. column row 3) (take l.row-index l.rows)
