use Rattle.std.{specs.{Prelude.map, Str.bytes_eq, Map.lookup}, proofs.{Common.{List, Some, cond, ap, ◌∙◌, arith, subst}, lemmas.List.take_all}}
use Rattle.terminal_core.{specs.{declared.visits.Visit.Visit, Rows.visit_content, Index.AreLastIndexed}, proofs.Noted.row_last}
use Rattle.terminal_core.proofs.visits.last_indexed.Goals as goal

pub loop-row_index-preserved : goal.loop-row_index-preserved
loop-row_index-preserved c =
    row_last c.args.rows.now c.loop-row_index.row_index c.index-rows-row_index.result c.loop-row_index.last_indexes.entries c.insert.new.self.entries (omega arith) c.index-rows-row_index.is c.loop-row_index.invariant
    (λ q. c.in_ok-insert.ensures.updates.0 q ∙ ap (λ t. cond (bytes_eq t q) (Some c.loop-row_index.row_index) (lookup (bytes_eq q) c.loop-row_index.last_indexes.entries)) c.text.ensures.same)

pub returns : goal.returns
returns c =
    let P : List Visit → Type 0 = λ rows. AreLastIndexed (map visit_content rows) c.loop-row_index.last_indexes.entries in
    subst P (take_all c.loop-row_index.row_index c.args.rows.now (omega arith)) c.loop-row_index.invariant
