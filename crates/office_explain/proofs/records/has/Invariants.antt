use Rattle.std.{specs.List.list_any, proofs.Common.{◌≡◌, map, drop}}
use Rattle.csv.specs.Records.{fields_of}
use Rattle.office_explain.specs.Wrong.{is_of}
use Rattle.office_explain.proofs.records.has.Given as goal

abbrev pub invariant-loop-row : goal.invariant-loop-row
invariant-loop-row l = list_any (is_of l.what) (map fields_of (drop l.row-index l.rows)) ≡ list_any (is_of l.what) (map fields_of l.rows)
