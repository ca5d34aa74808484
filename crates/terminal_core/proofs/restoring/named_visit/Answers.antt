use Rattle.std.{specs.Prelude.{slice_get, map}, proofs.{Common.{◌≡◌, ◌<◌, Some, get_or, refl, sym, ap, ◌∙◌, arith, length}, lemmas.List.length-map}}
use Rattle.std.proofs.lemmas.Option.{slice_get_read, slice_get_within, same_Some}
use Rattle.terminal_core.specs.{declared.visits.Visit.Visit, Restoring.numbers_of, Rows.{visit_content, VisitContent}, State.is_open_visit}
use Rattle.terminal_core.proofs.Whole.{found_at, row_at, content_at, number_read, numbers_rise, same_index, names_at}
use Rattle.terminal_core.proofs.restoring.named_visit.Goals as goal

pub index_of-requires : goal.index_of-requires
index_of-requires c = numbers_rise c.args.visits.now c.args.numbers.now c.requires.numbers c.requires.numbered

pub returns-in_default : goal.returns-in_default
returns-in_default c visit names =
    let at : slice_get (map visit_content c.args.visits.now) names.listed.0 ≡ Some visit = found_at (map visit_content c.args.visits.now) visit names.listed in
    let row = row_at c.args.visits.now names.listed.0 visit at in
    let low : names.listed.0 < length c.args.visits.now = slice_get_within c.args.visits.now names.listed.0 row.0 row.1 in
    let long : length (numbers_of c.args.visits.now) ≡ length c.args.visits.now = length-map c.args.visits.now (λ (v : Visit). v.number) in
    let same_long : length c.args.numbers.now ≡ length (numbers_of c.args.visits.now) = ap length c.requires.numbers in
    let number : get_or c.args.numbers.now names.listed.0 0 ≡ c.args.place.now.visit =
    ap (λ n. get_or n names.listed.0 0) c.requires.numbers ∙ number_read c.args.visits.now names.listed.0 row.0 row.1 ∙ ap (λ (v : VisitContent). v.number) row.2 ∙ names.number in
    c.in_default.ensures names.listed.0 (omega (arith, low, long, same_long)) number

pub returns-else-is_open : goal.returns-else-is_open
returns-else-is_open c visit names =
    let look = c.in-Some-get.ensures.lookup in
    let v : Visit = c.in-Some-get.visit.now in
    let at : slice_get c.args.visits.now c.in-Some.index ≡ Some v = slice_get_read c.args.visits.now (length c.args.visits.now) _ v refl look.3.0 look.1 in
    let number : v.number ≡ c.args.place.now.visit = sym (number_read c.args.visits.now c.in-Some.index v at) ∙ sym (ap (λ n. get_or n c.in-Some.index 0) c.requires.numbers) ∙ c.in-Some.ensures.1 in
    let there : slice_get (map visit_content c.args.visits.now) names.listed.0 ≡ Some visit = found_at (map visit_content c.args.visits.now) visit names.listed in
    let here : slice_get (map visit_content c.args.visits.now) c.in-Some.index ≡ Some (visit_content v) = content_at c.args.visits.now c.in-Some.index v at in
    let index : names.listed.0 ≡ c.in-Some.index = same_index 0 (map visit_content c.args.visits.now) names.listed.0 c.in-Some.index visit (visit_content v) c.requires.numbered there here (names.number ∙ sym number) in
    let same : visit ≡ visit_content v = same_Some visit (visit_content v) (sym there ∙ ap (slice_get (map visit_content c.args.visits.now)) index ∙ here) in
    let open_ = sym names.is_open ∙ ap (λ (u : VisitContent). is_open_visit c.args.place.now.container u) same ∙ sym c.is_open.ensures ∙ c.if-is_open.false in
    cc

pub returns-then-is_open : goal.returns-then-is_open
returns-then-is_open c =
    let look = c.in-Some-get.ensures.lookup in
    let v : Visit = c.in-Some-get.visit.now in
    let at : slice_get c.args.visits.now c.in-Some.index ≡ Some v = slice_get_read c.args.visits.now (length c.args.visits.now) _ v refl look.3.0 look.1 in
    let number : v.number ≡ c.args.place.now.visit = sym (number_read c.args.visits.now c.in-Some.index v at) ∙ sym (ap (λ n. get_or n c.in-Some.index 0) c.requires.numbers) ∙ c.in-Some.ensures.1 in
    names_at (map visit_content c.args.visits.now) c.requires.numbered c.args.place.now c.in-Some.index (visit_content v) (content_at c.args.visits.now c.in-Some.index v at) number (sym c.is_open.ensures ∙ c.if-is_open.true)
