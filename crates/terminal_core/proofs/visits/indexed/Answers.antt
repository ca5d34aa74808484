use Rattle.std.{specs.{Prelude.map, Str.bytes_eq, Map.lookup}, proofs.{Common.{List, Some, cond, ap, ◌∙◌, arith, subst}, lemmas.List.take_all}}
use Rattle.terminal_core.specs.{declared.visits.Visit.Visit, Rows.visit_content, Index.AreIndexed}
use Rattle.terminal_core.proofs.Indexed.{none_indexed, open_row_indexed, closed_row_indexed, stays_tested, went_tested}
use Rattle.terminal_core.proofs.visits.indexed.Goals.{then-is_none+in_ok-insert, else-is_none}
use Rattle.terminal_core.proofs.visits.indexed.Goals as goal

pub loop-row_index-init : goal.loop-row_index-init
loop-row_index-init c = none_indexed c.new-open_indexes.result.entries

pub loop-row_index-preserved : goal.loop-row_index-preserved
loop-row_index-preserved c = elim c.if-is_none.branch [
  | then-is_none+in_ok-insert w ↦ rw w.open_indexes-is
      (open_row_indexed c.args.rows.now c.loop-row_index.row_index c.index-rows-row_index.result c.loop-row_index.open_indexes.entries w.insert.new.self.entries c.requires (omega arith) c.index-rows-row_index.is
      (stays_tested c.index-rows-row_index.result c.is_none.result c.is_none.ensures w.if-is_none.true) c.loop-row_index.invariant
      (λ q. w.in_ok-insert.ensures.updates.0 q ∙ ap (λ t. cond (bytes_eq t q) (Some c.loop-row_index.row_index) (lookup (bytes_eq q) c.loop-row_index.open_indexes.entries)) w.text.ensures.same))
  | else-is_none w ↦ rw w.open_indexes-is
      (closed_row_indexed c.args.rows.now c.loop-row_index.row_index c.index-rows-row_index.result c.loop-row_index.open_indexes.entries (omega arith) c.index-rows-row_index.is
      (went_tested c.index-rows-row_index.result c.is_none.result c.is_none.ensures w.if-is_none.false) c.loop-row_index.invariant)
]

pub returns : goal.returns
returns c =
    let P : List Visit → Type 0 = λ rows. AreIndexed (map visit_content rows) c.loop-row_index.open_indexes.entries in
    subst P (take_all c.loop-row_index.row_index c.args.rows.now (omega arith)) c.loop-row_index.invariant
