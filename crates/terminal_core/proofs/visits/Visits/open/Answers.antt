use Rattle.std.{specs.{Prelude.{map, find, is_some}, Str.bytes_eq, Map.lookup, HashMap.spare}, proofs.lemmas.List.length-map}
use Rattle.std.proofs.Common.{◌≡◌, ◌<◌, List, length, vec_len, Some, cond, refl, sym, ap, ◌∙◌, rules, subst}
use Rattle.terminal_core.{specs.{Rows.{VisitContent, visit_content}, State.is_open_visit, Index.{VisitBook, AreFound}}, proofs.{Open.one_more, Noted.one_last}}
use Rattle.terminal_core.proofs.Indexed.{one_indexed, at_ok}
use Rattle.terminal_core.proofs.visits.Visits.open.Goals as goal

pub invariant_of-self : goal.invariant_of-self
invariant_of-self c =
    let P : List VisitContent → Type 0 = λ v. AreFound v c.insert.new.self.entries c.insert-2.new.self.entries in
    let O : VisitBook → Type 0 = λ b. 0 < b.spare_open_indexes in
    let L : VisitBook → Type 0 = λ b. 0 < b.spare_last_indexes in
    let open_room : 0 < spare c.self.inside.open_indexes = subst O (sym c.self.view_is) c.requires.room.for_open_index in
    let last_room : 0 < spare c.self.inside.last_indexes = subst L (sym c.self.view_is) c.requires.room.for_last_index in
    let puts_open = at_ok c.insert.result (c.insert.ensures.succeeds open_room) c.insert.ensures.updates in
    let puts_last = at_ok c.insert-2.result (c.insert-2.ensures.succeeds last_room) c.insert-2.ensures.updates in
    let long : c.len-row_index.result ≡ length (map visit_content c.self.inside.rows.items) =
    (let same : length (map visit_content c.self.inside.rows.items) ≡ length c.self.inside.rows.items = length-map c.self.inside.rows.items visit_content in
    let all : length c.self.inside.rows.items ≡ vec_len c.self.inside.rows = search rules in
    c.len-row_index.ensures ∙ sym all ∙ sym same) in
    subst P (sym (one_more visit_content c.self.inside.rows.items c.append.new.rows.items c.args.visit _ c.append.ensures.rows refl))
    (record {
      open_ones = one_indexed (map visit_content c.self.inside.rows.items) (visit_content c.args.visit) c.self.inside.open_indexes.entries c.insert.new.self.entries c.self.invariant.open_ones
          (ap (λ (b : VisitBook). is_some (find (is_open_visit c.args.visit.container) b.visits)) c.self.view_is ∙ c.requires.none_open)
          (λ q. puts_open.0 q ∙ ap (λ t. cond (bytes_eq t q) (Some c.len-row_index.result) (lookup (bytes_eq q) c.self.inside.open_indexes.entries)) c.text.ensures.same
          ∙ ap (λ n. cond (bytes_eq c.args.visit.container q) (Some n) (lookup (bytes_eq q) c.self.inside.open_indexes.entries)) long);
      last_ones = one_last (map visit_content c.self.inside.rows.items) (visit_content c.args.visit) c.self.inside.last_indexes.entries c.insert-2.new.self.entries c.self.invariant.last_ones
          (λ q. puts_last.0 q ∙ ap (λ t. cond (bytes_eq t q) (Some c.len-row_index.result) (lookup (bytes_eq q) c.self.inside.last_indexes.entries)) c.text-2.ensures.same
          ∙ ap (λ n. cond (bytes_eq c.args.visit.container q) (Some n) (lookup (bytes_eq q) c.self.inside.last_indexes.entries)) long);
    })
