use Rattle.std.{specs.Prelude.map, proofs.Common.{List, ap, sym, ◌∙◌, subst, ℕ}}
use Rattle.box6346.specs.declared.box_number.BoxNumber.{BoxNumber}
use Rattle.terminal_core.{specs.{Rows.{VisitContent, visit_content}, Index.AreFound}, proofs.Indexed.clones_same}
use Rattle.terminal_core.proofs.visits.Visits.copy.Goals as goal

pub invariant_of-result : goal.invariant_of-result
invariant_of-result c =
    let O : List (BoxNumber × ℕ) → Type 0 = λ entries. AreFound (map visit_content c.in_ok-rows.rows.items) entries c.in_ok-last_indexes.last_indexes.entries in
    let L : List (BoxNumber × ℕ) → Type 0 = λ entries. AreFound (map visit_content c.in_ok-rows.rows.items) c.self.inside.open_indexes.entries entries in
    let V : List VisitContent → Type 0 = λ visits. AreFound visits c.self.inside.open_indexes.entries c.self.inside.last_indexes.entries in
    subst O (sym (clones_same c.self.inside.open_indexes.entries c.in_ok-open_indexes.open_indexes.entries c.in_ok-open_indexes.ensures.cases))
    (subst L (sym (clones_same c.self.inside.last_indexes.entries c.in_ok-last_indexes.last_indexes.entries c.in_ok-last_indexes.ensures.cases))
    (subst V (sym (c.in_ok-rows.ensures ∙ ap (map visit_content) c.deref.ensures.value)) c.self.invariant))
