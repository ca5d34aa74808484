use Rattle.std.{specs.{Prelude.{map, find, reverse, slice_get}, Str.bytes_eq, Map.lookup}, proofs.Common.{◌≡◌, Some, ap, ◌∙◌}}
use Rattle.terminal_core.{specs.{Rows.visit_content, State.is_visit_of, Index.VisitBook}, proofs.Noted.{is_shown, lent_at}}
use Rattle.terminal_core.proofs.visits.Visits.last_visit.Goals as goal

pub returns : goal.returns
returns c =
    let visits = map visit_content c.self.inside.rows.items in
    let told : Some c.in-Some.row_index.now ≡ lookup (bytes_eq c.args.container) c.self.inside.last_indexes.entries =
    c.in-Some.ensures.value ∙ ap (λ t. lookup (bytes_eq t) c.self.inside.last_indexes.entries) c.text.ensures.same in
    lent_at c.deref.result.now c.in-Some.row_index.now c.get-2.result c.get-2.ensures.lookup
    ∙ ap (λ rows. slice_get (map visit_content rows) c.in-Some.row_index.now) c.deref.ensures.value
    ∙ is_shown visits (lookup (bytes_eq c.args.container) c.self.inside.last_indexes.entries) (find (is_visit_of c.args.container) (reverse visits)) c.in-Some.row_index.now (c.self.invariant.last_ones c.args.container) told
    ∙ ap (λ (b : VisitBook). find (is_visit_of c.args.container) (reverse b.visits)) c.self.view_is
