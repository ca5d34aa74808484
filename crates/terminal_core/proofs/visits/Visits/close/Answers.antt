use Rattle.std.{specs.{Prelude.{map, find}, Str.bytes_eq, Map.lookup}, proofs.lemmas.Option.{none-some, slice_get_within}}
use Rattle.std.proofs.Common.{◌≡◌, List, length, vec_len, Some, cond, None, refl, sym, ap, ◌∙◌, arith, rules, subst}
use Rattle.terminal_core.specs.{Rows.{VisitContent, visit_content}, Step.{departure_by, closed_visit, number_of_visit}, State.is_open_visit, Calls.HasOneVisit}
use Rattle.terminal_core.{specs.Index.VisitBook, proofs.{Indexed.{kept_somewhere, kept_at, shut_rows, less_indexed}, Noted.closed_last}}
use Rattle.terminal_core.proofs.visits.Visits.close.Goals as goal

pub unreachable-requires : goal.unreachable-requires
unreachable-requires c =
    let P : List VisitContent → Type 0 = HasOneVisit c.args.container in
    let has = subst P (sym (ap (λ (b : VisitBook). b.visits) c.self.view_is)) c.requires in
    let there = kept_somewhere c.args.container c.self.inside.rows.items c.self.inside.open_indexes.entries c.self.invariant.open_ones has in
    none-some there.0 (sym c.in_default.is ∙ c.remove.ensures.value ∙ ap (λ t. lookup (bytes_eq t) c.self.inside.open_indexes.entries) c.text.ensures.same ∙ there.1)

pub index_mut-visit-requires : goal.index_mut-visit-requires
index_mut-visit-requires c =
    let P : List VisitContent → Type 0 = HasOneVisit c.args.container in
    let has = subst P (sym (ap (λ (b : VisitBook). b.visits) c.self.view_is)) c.requires in
    let told : lookup (bytes_eq c.args.container) c.self.inside.open_indexes.entries ≡ Some c.in-Some.row_index =
    sym (ap (λ t. lookup (bytes_eq t) c.self.inside.open_indexes.entries) c.text.ensures.same) ∙ sym c.remove.ensures.value ∙ c.in-Some.is in
    let kept = kept_at c.args.container c.self.inside.rows.items c.self.inside.open_indexes.entries c.in-Some.row_index c.self.invariant.open_ones has told in
    let within = slice_get_within c.self.inside.rows.items c.in-Some.row_index kept.row kept.at in
    let long : length c.self.inside.rows.items ≡ vec_len c.self.inside.rows = search rules in
    omega (arith, within)

pub invariant_of-self : goal.invariant_of-self
invariant_of-self c =
    let P : List VisitContent → Type 0 = HasOneVisit c.args.container in
    let has = subst P (sym (ap (λ (b : VisitBook). b.visits) c.self.view_is)) c.requires in
    let told : lookup (bytes_eq c.args.container) c.self.inside.open_indexes.entries ≡ Some c.in-Some.row_index =
    sym (ap (λ t. lookup (bytes_eq t) c.self.inside.open_indexes.entries) c.text.ensures.same) ∙ sym c.remove.ensures.value ∙ c.in-Some.is in
    let kept = kept_at c.args.container c.self.inside.rows.items c.self.inside.open_indexes.entries c.in-Some.row_index c.self.invariant.open_ones has told in
    let d = departure_by c.args.way c.args.source c.args.moment in
    let shut = shut_rows c.args.container d c.self.inside.rows.items c.in-Some.row_index c.index_mut-visit.result.now (record (c.index_mut-visit.result.now) { departure = Some d }) has kept c.index_mut-visit.ensures.value refl in
    record {
      open_ones = less_indexed d c.args.container (map visit_content c.self.inside.rows.items) _ c.self.inside.open_indexes.entries c.remove.new.self.entries c.self.invariant.open_ones
          (λ q. c.remove.ensures.updates.0 q ∙ ap (λ t. cond (bytes_eq t q) None (lookup (bytes_eq q) c.self.inside.open_indexes.entries)) c.text.ensures.same) shut.0;
      last_ones = closed_last d c.args.container (map visit_content c.self.inside.rows.items) _ c.self.inside.last_indexes.entries c.self.invariant.last_ones shut.0;
    }

pub returns-clause-closed : goal.returns-clause-closed
returns-clause-closed c =
    let P : List VisitContent → Type 0 = HasOneVisit c.args.container in
    let has = subst P (sym (ap (λ (b : VisitBook). b.visits) c.self.view_is)) c.requires in
    let told : lookup (bytes_eq c.args.container) c.self.inside.open_indexes.entries ≡ Some c.in-Some.row_index =
    sym (ap (λ t. lookup (bytes_eq t) c.self.inside.open_indexes.entries) c.text.ensures.same) ∙ sym c.remove.ensures.value ∙ c.in-Some.is in
    let kept = kept_at c.args.container c.self.inside.rows.items c.self.inside.open_indexes.entries c.in-Some.row_index c.self.invariant.open_ones has told in
    let d = departure_by c.args.way c.args.source c.args.moment in
    let shut = shut_rows c.args.container d c.self.inside.rows.items c.in-Some.row_index c.index_mut-visit.result.now (record (c.index_mut-visit.result.now) { departure = Some d }) has kept c.index_mut-visit.ensures.value refl in
    shut.0 ∙ ap (λ (b : VisitBook). map (closed_visit d c.args.container) b.visits) c.self.view_is

pub returns-clause-number : goal.returns-clause-number
returns-clause-number c =
    let P : List VisitContent → Type 0 = HasOneVisit c.args.container in
    let has = subst P (sym (ap (λ (b : VisitBook). b.visits) c.self.view_is)) c.requires in
    let told : lookup (bytes_eq c.args.container) c.self.inside.open_indexes.entries ≡ Some c.in-Some.row_index =
    sym (ap (λ t. lookup (bytes_eq t) c.self.inside.open_indexes.entries) c.text.ensures.same) ∙ sym c.remove.ensures.value ∙ c.in-Some.is in
    let kept = kept_at c.args.container c.self.inside.rows.items c.self.inside.open_indexes.entries c.in-Some.row_index c.self.invariant.open_ones has told in
    let d = departure_by c.args.way c.args.source c.args.moment in
    let shut = shut_rows c.args.container d c.self.inside.rows.items c.in-Some.row_index c.index_mut-visit.result.now (record (c.index_mut-visit.result.now) { departure = Some d }) has kept c.index_mut-visit.ensures.value refl in
    shut.1 ∙ ap (λ (b : VisitBook). number_of_visit (find (is_open_visit c.args.container) b.visits)) c.self.view_is
