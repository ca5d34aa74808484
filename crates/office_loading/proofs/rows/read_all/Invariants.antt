use Rattle.std.{specs.List.AllZip, proofs.Common.take}
use Rattle.office_loading.proofs.rows.read_all.Given as goal

abbrev pub invariant-loop-row : goal.invariant-loop-row
invariant-loop-row g l = AllZip g.T.Record.says (take l.row-index l.rows) l.records.items
