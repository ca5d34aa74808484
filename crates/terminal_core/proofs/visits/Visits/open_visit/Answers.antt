use Rattle.std.{specs.{Prelude.{map, find, slice_get}, Str.bytes_eq, Map.lookup}, proofs.Common.{◌≡◌, List, length, None, Some, nat_lt, sym, ap, ◌∙◌, subst}}
use Rattle.std.proofs.lemmas.Option.{none-some, same_Some}
use Rattle.terminal_core.{specs.{declared.visits.Visit.Visit, Rows.visit_content, State.is_open_visit, Index.VisitBook}, proofs.Whole.content_at}
use Rattle.terminal_core.proofs.Lined.{opened, none_opened, read_at, not_read}
use Rattle.terminal_core.proofs.visits.Visits.open_visit.Goals as goal

pub returns-in_default : goal.returns-in_default
returns-in_default c =
    let none : None ≡ lookup (bytes_eq c.args.container) c.self.inside.open_indexes.entries =
    c.in_default.ensures.value ∙ ap (λ t. lookup (bytes_eq t) c.self.inside.open_indexes.entries) c.text.ensures.same in
    none_opened c.args.container (map visit_content c.self.inside.rows.items) c.self.inside.open_indexes.entries c.self.invariant.open_ones
    (λ k visit at told. absurd (none-some k (none ∙ told)))
    ∙ ap (λ (b : VisitBook). find (is_open_visit c.args.container) b.visits) c.self.view_is

pub returns-in_default-get : goal.returns-in_default-get
returns-in_default-get c =
    let told : Some c.in-Some.row_index.now ≡ lookup (bytes_eq c.args.container) c.self.inside.open_indexes.entries =
    c.in-Some.ensures.value ∙ ap (λ t. lookup (bytes_eq t) c.self.inside.open_indexes.entries) c.text.ensures.same in
    none_opened c.args.container (map visit_content c.self.inside.rows.items) c.self.inside.open_indexes.entries c.self.invariant.open_ones
    (λ k visit at there. absurd (not_read c.self.inside.rows.items k c.in-Some.row_index.now visit at (sym (same_Some c.in-Some.row_index.now k (told ∙ there))) (c.in_default-get.ensures.lookup.0 ∙ ap (λ (rows : List Visit). nat_lt c.in-Some.row_index.now (length rows)) c.deref.ensures.value)))
    ∙ ap (λ (b : VisitBook). find (is_open_visit c.args.container) b.visits) c.self.view_is

pub returns-then-is_open : goal.returns-then-is_open
returns-then-is_open c =
    let at : slice_get c.self.inside.rows.items c.in-Some.row_index.now ≡ Some c.in-Some-get.visit.now =
    subst (λ rows. slice_get rows c.in-Some.row_index.now ≡ Some c.in-Some-get.visit.now) c.deref.ensures.value (read_at c.deref.result.now c.in-Some.row_index.now c.in-Some-get.visit.now c.in-Some-get.ensures.lookup.0 c.in-Some-get.ensures.lookup.1) in
    opened c.args.container (map visit_content c.self.inside.rows.items) c.self.inside.open_indexes.entries c.self.invariant.open_ones c.in-Some.row_index.now (visit_content c.in-Some-get.visit.now)
    (content_at c.self.inside.rows.items c.in-Some.row_index.now c.in-Some-get.visit.now at) (sym (c.if-is_open.ensures))
    ∙ ap (λ (b : VisitBook). find (is_open_visit c.args.container) b.visits) c.self.view_is

pub returns-else-is_open : goal.returns-else-is_open
returns-else-is_open c =
    let at : slice_get c.self.inside.rows.items c.in-Some.row_index.now ≡ Some c.in-Some-get.visit.now =
    subst (λ rows. slice_get rows c.in-Some.row_index.now ≡ Some c.in-Some-get.visit.now) c.deref.ensures.value (read_at c.deref.result.now c.in-Some.row_index.now c.in-Some-get.visit.now c.in-Some-get.ensures.lookup.0 c.in-Some-get.ensures.lookup.1) in
    let content = content_at c.self.inside.rows.items c.in-Some.row_index.now c.in-Some-get.visit.now at in
    let told : Some c.in-Some.row_index.now ≡ lookup (bytes_eq c.args.container) c.self.inside.open_indexes.entries =
    c.in-Some.ensures.value ∙ ap (λ t. lookup (bytes_eq t) c.self.inside.open_indexes.entries) c.text.ensures.same in
    none_opened c.args.container (map visit_content c.self.inside.rows.items) c.self.inside.open_indexes.entries c.self.invariant.open_ones
    (λ k visit there shows.
    let same = same_Some c.in-Some.row_index.now k (told ∙ shows) in
    let visits = same_Some (visit_content c.in-Some-get.visit.now) visit (sym content ∙ ap (slice_get (map visit_content c.self.inside.rows.items)) same ∙ there) in
    ap (is_open_visit c.args.container) (sym visits) ∙ sym c.if-is_open.ensures)
    ∙ ap (λ (b : VisitBook). find (is_open_visit c.args.container) b.visits) c.self.view_is
