use Rattle.std.specs.Prelude.{slice_get}
use Rattle.std.proofs.Common.{◌≡◌, ◌<◌, ◌≤◌, ◌+◌, ℕ, Bool, Some, true, false, nat_lt, length, get_or, arith, rules, refl, sym, ap, subst, ◌∙◌}
use Rattle.std.proofs.lemmas.Option.{slice_get-get_or, slice_get_within}
use Rattle.office_closing.specs.declared.register.Segment.{Segment}
use Rattle.office_archive_files.proofs.PassingLemmas.{GoOn, goes_on_with, goes_on_without, is_the_next, none_is_left}
use Rattle.office_archive_files.proofs.is_archive.are_segments_before.Goals.{then-segment-place+else-not-is_segment_at, else-segment-place}
use Rattle.office_archive_files.proofs.is_archive.are_segments_before.Goals as goal

abbrev is_before : ℕ → Segment → Bool
is_before place segment = nat_lt segment.archive place

pub returns-then-not-is_segment_at : goal.returns-then-not-is_segment_at
returns-then-not-is_segment_at c =
    let others = c.args.others.now in
    let i = c.loop-segment.segment-index in
    let other = get_or others i (record { partner = 0; archive = 0; last = 0 }) in
    let here : slice_get others i ≡ Some other = slice_get-get_or others i _ c.loop-segment-test.true in
    let passes : is_before c.args.place other ≡ true = search rules in
    let fails : c.is_segment_at.result ≡ false = search rules in
    (λ e. absurd cc, λ same. absurd (let is = c.is_segment_at.ensures.1 (is_the_next (is_before c.args.place) c.args.segments.now others c.loop-segment.count i other here passes c.loop-segment.invariant.goes_on same) in cc))

pub loop-segment-preserved : goal.loop-segment-preserved
loop-segment-preserved c =
    let segments = c.args.segments.now in
    let others = c.args.others.now in
    let n = c.loop-segment.count in
    let i = c.loop-segment.segment-index in
    let other = get_or others i (record { partner = 0; archive = 0; last = 0 }) in
    let here : slice_get others i ≡ Some other = slice_get-get_or others i _ c.loop-segment-test.true in
    let goes = c.loop-segment.invariant.goes_on in
    elim c.if-segment-place.branch [
      | then-segment-place+else-not-is_segment_at w ↦ (
          let there : slice_get segments n ≡ Some other = w.is_segment_at.ensures.0 (search rules) in
          let low = slice_get_within segments n other there in
          let passes : is_before c.args.place other ≡ true = search rules in
          record {
            within = omega (arith, low, w.count-is);
            goes_on = subst (λ m. GoOn (is_before c.args.place) segments others m (i + 1)) (sym w.count-is) (goes_on_with (is_before c.args.place) segments others n i other here passes there goes);
          })
      | else-segment-place w ↦ (
          let fails : is_before c.args.place other ≡ false = search rules in
          record {
            within = omega (arith, w.count-is);
            goes_on = subst (λ m. GoOn (is_before c.args.place) segments others m (i + 1)) (sym w.count-is) (goes_on_without (is_before c.args.place) segments others n i other here fails goes);
          })
    ]

pub returns : goal.returns
returns c =
    let all = none_is_left (is_before c.args.place) c.args.segments.now c.args.others.now c.loop-segment.count c.loop-segment.segment-index (omega arith) c.loop-segment.invariant.within c.loop-segment.invariant.goes_on in
    (λ e. all.0 (search rules), λ same. let e = all.1 same in search rules)
