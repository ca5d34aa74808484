use Rattle.std.{specs.{Option.option_and_then, Prelude.slice_get}, proofs.Common.{◌≡◌, map, Bor, None, Some, sym, ap, subst, ◌∷◌, [], ◌∙◌}}
use Rattle.std.proofs.lemmas.List.{map-append}
use Rattle.terminal_core.specs.{Index.{VisitBook, if_open}, Rows.{VisitContent, visit_content}, State.AreOpenOf, declared.visits.Visit.Visit}
use Rattle.terminal_core.proofs.Dropping.{IsOpenSoFar, open_none, open_more, open_less, open_all}
use Rattle.terminal_core.proofs.visits.Visits.open_visits.Goals as goal

abbrev shown : Bor Visit → VisitContent
shown visit = visit_content visit.now

pub loop-row_index-init : goal.loop-row_index-init
loop-row_index-init c =
    let visits = map visit_content c.self.inside.rows.items in
    let gives = c.into_iter-row_index-iterator.ensures.into_iter_gives in
    subst (λ found. IsOpenSoFar visits c.into_iter-row_index-iterator.result (map shown found)) (sym c.new-found.ensures.items)
    (subst (λ rest. IsOpenSoFar visits rest []) (sym gives.0) (open_none visits c.self.inside.open_indexes.entries c.self.invariant.open_ones))

pub loop-row_index-preserved-in-Continue-1 : goal.loop-row_index-preserved-in-Continue-1
loop-row_index-preserved-in-Continue-1 c =
    let visits = map visit_content c.self.inside.rows.items in
    let found = map shown c.loop-row_index.found.items in
    let so : IsOpenSoFar visits ((c.in-Some.field-0-0.now, c.in-Some.row_index.now) ∷ c.next.new.self) found = subst (λ rest. IsOpenSoFar visits rest found) c.in-Some.ensures.steps c.loop-row_index.invariant in
    let here = sym (subst (λ rows. Some (shown c.in-Some-open_at.visit) ≡ option_and_then if_open (slice_get (map visit_content rows) c.in-Some.row_index.now)) c.deref.ensures.value c.in-Some-open_at.ensures) in
    subst (IsOpenSoFar visits c.next.new.self) (sym (ap (map shown) c.in_ok-push.ensures.items ∙ map-append shown c.loop-row_index.found.items (c.in-Some-open_at.visit ∷ [])))
    (open_more visits c.in-Some.field-0-0.now c.in-Some.row_index.now c.next.new.self found so (shown c.in-Some-open_at.visit) here)

pub loop-row_index-preserved : goal.loop-row_index-preserved
loop-row_index-preserved c =
    let visits = map visit_content c.self.inside.rows.items in
    let found = map shown c.loop-row_index.found.items in
    let so : IsOpenSoFar visits ((c.in-Some.field-0-0.now, c.in-Some.row_index.now) ∷ c.next.new.self) found = subst (λ rest. IsOpenSoFar visits rest found) c.in-Some.ensures.steps c.loop-row_index.invariant in
    let none = sym (subst (λ rows. None ≡ option_and_then if_open (slice_get (map visit_content rows) c.in-Some.row_index.now)) c.deref.ensures.value c.in_default.ensures) in
    open_less visits c.in-Some.field-0-0.now c.in-Some.row_index.now c.next.new.self found so none

pub returns : goal.returns
returns c =
    let visits = map visit_content c.self.inside.rows.items in
    subst (λ (b : VisitBook). AreOpenOf b.visits (map shown c.loop-row_index.found.items)) c.self.view_is
    (open_all visits c.loop-row_index.row_index-iterator (map shown c.loop-row_index.found.items) c.in-None.ensures.steps.0 c.loop-row_index.invariant)
