use Rattle.std.proofs.Common.{◌≡◌, List, Bool, true, false, length, get_or, set, length-set, ap, ◌∙◌}
use Rattle.terminal_core.proofs.{Whole.{marked_more, unmarked_more}, restoring.named.Goals.{in-Some, in_default}}
use Rattle.terminal_core.proofs.restoring.named.Goals as goal

pub loop-place-preserved : goal.loop-place-preserved
loop-place-preserved c = elim c.match-index_of.branch [
  | in-Some w ↦ (let items : c.match-index_of.marks.items ≡ set c.loop-place.marks.items w.in-Some.index true = ap (λ v. v.items) w.marks-is in
      record {
        len = ap length items ∙ length-set c.loop-place.marks.items w.in-Some.index true ∙ c.loop-place.invariant.len;
        marks = λ k within. ap (λ (l : List Bool). get_or l k false) items
            ∙ marked_more c.args.numbers.now c.loop-place.marks.items c.args.places.now c.loop-place.place-index w.in-Some.index c.place-item.result c.requires c.loop-place.invariant.len c.loop-place-test.true c.place-item.is
            w.in-Some.ensures.0 w.in-Some.ensures.1 c.loop-place.invariant.marks k within;
      })
  | in_default w ↦ (let items : c.match-index_of.marks.items ≡ c.loop-place.marks.items = ap (λ v. v.items) w.marks-is in
      record {
        len = ap length items ∙ c.loop-place.invariant.len;
        marks = λ k within. ap (λ (l : List Bool). get_or l k false) items
            ∙ unmarked_more c.args.numbers.now c.loop-place.marks.items c.args.places.now c.loop-place.place-index c.place-item.result c.loop-place-test.true c.place-item.is
            w.in_default.ensures c.loop-place.invariant.marks k within;
      })
]
