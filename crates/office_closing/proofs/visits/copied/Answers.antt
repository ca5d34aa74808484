use Rattle.std.{specs.Prelude.{slice_get, map}, proofs.{Common.{◌≡◌, ◌<◌, Some, get_or, refl, sym, ap, ◌∙◌, arith, length}, lemmas.List.length-map}}
use Rattle.std.proofs.lemmas.Option.{slice_get_read, slice_get_within}
use Rattle.terminal_core.specs.{declared.visits.Visit.Visit, Restoring.numbers_of, Rows.{visit_content, VisitContent}}
use Rattle.terminal_core.proofs.Whole.{contained, found_at, row_at, content_at, number_read, numbers_rise}
use Rattle.office_closing.proofs.visits.copied.Goals as goal

pub index_of-requires : goal.index_of-requires
index_of-requires c = numbers_rise c.args.copy.now c.args.numbers.now c.requires.numbers c.requires.numbered

pub returns-in_default : goal.returns-in_default
returns-in_default c visit here same =
    let at : slice_get (map visit_content c.args.copy.now) here.0 ≡ Some visit = found_at (map visit_content c.args.copy.now) visit here in
    let row = row_at c.args.copy.now here.0 visit at in
    let low : here.0 < length c.args.copy.now = slice_get_within c.args.copy.now here.0 row.0 row.1 in
    let long : length (numbers_of c.args.copy.now) ≡ length c.args.copy.now = length-map c.args.copy.now (λ (v : Visit). v.number) in
    let same_long : length c.args.numbers.now ≡ length (numbers_of c.args.copy.now) = ap length c.requires.numbers in
    let number : get_or c.args.numbers.now here.0 0 ≡ c.args.number =
    ap (λ n. get_or n here.0 0) c.requires.numbers ∙ number_read c.args.copy.now here.0 row.0 row.1 ∙ ap (λ (v : VisitContent). v.number) row.2 ∙ same in
    c.in_default.ensures here.0 (omega (arith, low, long, same_long)) number

pub returns : goal.returns
returns c =
    let look = c.in-Some-get.ensures.lookup in
    let v : Visit = c.in-Some-get.visit.now in
    let at : slice_get c.args.copy.now c.in-Some.index ≡ Some v = slice_get_read c.args.copy.now (length c.args.copy.now) _ v refl look.3.0 look.1 in
    let number : v.number ≡ c.args.number = sym (number_read c.args.copy.now c.in-Some.index v at) ∙ sym (ap (λ n. get_or n c.in-Some.index 0) c.requires.numbers) ∙ c.in-Some.ensures.1 in
    (contained (map visit_content c.args.copy.now) c.in-Some.index (visit_content v) (content_at c.args.copy.now c.in-Some.index v at), number)
