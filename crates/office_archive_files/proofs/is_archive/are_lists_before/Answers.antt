use Rattle.std.specs.{Prelude.{slice_get}, Option.option_map}
use Rattle.std.proofs.Common.{◌≡◌, ◌<◌, ◌≤◌, ◌+◌, ℕ, Bool, Some, List, true, false, nat_lt, length, map, get_or, arith, rules, refl, sym, ap, subst, ◌∙◌}
use Rattle.std.proofs.lemmas.{List.length-map, Option.{slice_get-map, slice_get_read, slice_get_within}}
use Rattle.office_closing.specs.{Lists.{SettledListContent, list_content}, declared.settled_lists.SettledList.SettledList}
use Rattle.office_archive_files.proofs.PassingLemmas.{GoOn, goes_on_with, goes_on_without, is_the_next, none_is_left}
use Rattle.office_archive_files.proofs.is_archive.are_lists_before.Goals.{then-other-place+else-not-is_at, else-other-place}
use Rattle.office_archive_files.proofs.is_archive.are_lists_before.Goals as goal

abbrev is_before : ℕ → SettledListContent → Bool
is_before place list = nat_lt list.archive place

-- what the list at an index says
said_at : (lists : List SettledList) (i : ℕ) (list : SettledList) → i < length lists → list ≡ get_or lists i list → slice_get (map list_content lists) i ≡ Some (list_content list)
said_at lists i list within here = slice_get-map list_content lists i ∙ ap (option_map list_content) (slice_get_read lists (length lists) i list refl within here)

pub returns-then-not-is_at : goal.returns-then-not-is_at
returns-then-not-is_at c =
    let others = c.args.others.now in
    let i = c.loop-other.other-index in
    let other = c.other-item.result in
    let here = said_at others i other c.loop-other-test.true c.other-item.is in
    let passes : is_before c.args.place (list_content other) ≡ true = search rules in
    let fails : c.is_at.result ≡ false = search rules in
    (λ e. absurd cc, λ same. absurd (let is = c.is_at.ensures.1 (is_the_next (is_before c.args.place) (map list_content c.args.lists.now) (map list_content others) c.loop-other.count i (list_content other) here passes c.loop-other.invariant.goes_on same) in cc))

pub loop-other-preserved : goal.loop-other-preserved
loop-other-preserved c =
    let lists = map list_content c.args.lists.now in
    let others = map list_content c.args.others.now in
    let n = c.loop-other.count in
    let i = c.loop-other.other-index in
    let other = c.other-item.result in
    let here = said_at c.args.others.now i other c.loop-other-test.true c.other-item.is in
    let goes = c.loop-other.invariant.goes_on in
    elim c.if-other-place.branch [
      | then-other-place+else-not-is_at w ↦ (
          let there : slice_get lists n ≡ Some (list_content other) = w.is_at.ensures.0 (search rules) in
          let low = slice_get_within lists n (list_content other) there in
          let passes : is_before c.args.place (list_content other) ≡ true = search rules in
          record {
            within = omega (arith, low, length-map c.args.lists.now list_content, w.count-is);
            goes_on = subst (λ m. GoOn (is_before c.args.place) lists others m (i + 1)) (sym w.count-is) (goes_on_with (is_before c.args.place) lists others n i (list_content other) here passes there goes);
          })
      | else-other-place w ↦ (
          let fails : is_before c.args.place (list_content other) ≡ false = search rules in
          record {
            within = omega (arith, w.count-is);
            goes_on = subst (λ m. GoOn (is_before c.args.place) lists others m (i + 1)) (sym w.count-is) (goes_on_without (is_before c.args.place) lists others n i (list_content other) here fails goes);
          })
    ]

pub returns : goal.returns
returns c =
    let lists = map list_content c.args.lists.now in
    let long = length-map c.args.lists.now list_content in
    let many = length-map c.args.others.now list_content in
    let all = none_is_left (is_before c.args.place) lists (map list_content c.args.others.now) c.loop-other.count c.loop-other.other-index (omega (arith, many)) (omega (arith, long)) c.loop-other.invariant.goes_on in
    (λ e. all.0 (let f : c.loop-other.count ≡ length c.args.lists.now = search rules in f ∙ sym long), λ same. let e = all.1 same ∙ long in search rules)
