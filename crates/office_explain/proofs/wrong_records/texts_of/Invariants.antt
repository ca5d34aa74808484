use Rattle.std.{specs.Vec.Iter.into_iter_items, proofs.Common.{◌≡◌, All, map, ◌++◌}}
use Rattle.csv.specs.Records.{AllText, fields_of}
use Rattle.office_explain.proofs.wrong_records.texts_of.Given as goal

abbrev pub invariant-loop-row : goal.invariant-loop-row
invariant-loop-row l = record {
  next : (goal.iterator-loop-row).can_next l.row-iterator;
  ends : (goal.iterator-loop-row).is_finite l.row-iterator;
  same : map fields_of l.texts.items ≡ map fields_of l.yielded;
  text : All AllText (map fields_of l.yielded);
  left : l.fn.rows.items ≡ l.yielded ++ into_iter_items l.row-iterator;
}
