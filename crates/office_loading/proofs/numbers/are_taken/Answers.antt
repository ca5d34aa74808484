use Rattle.std.proofs.Common.{false, refl, get_or}
use Rattle.office_loading.{specs.declared.numbers.NumberRow.NumberRow, proofs.Kept.{taken_more, taken_not}}
use Rattle.office_loading.proofs.numbers.are_taken.Goals as goal

abbrev none : NumberRow
none = record { partner = 0; number = 0; is_taken = false }

pub returns-then-not-is_taken : goal.returns-then-not-is_taken
returns-then-not-is_taken c = (
  λ f. absurd (cc),
  λ all. absurd (taken_not c.args.partner c.args.first c.args.numbers.now c.loop-index.index none (get_or c.args.numbers.now c.loop-index.index none) c.loop-index-test.true refl c.is_taken.result c.is_taken.ensures c.if-not-is_taken.true all),
)

pub loop-index-preserved : goal.loop-index-preserved
loop-index-preserved c =
    taken_more c.args.partner c.args.first c.args.numbers.now c.loop-index.index none (get_or c.args.numbers.now c.loop-index.index none) c.loop-index-test.true refl c.is_taken.result c.is_taken.ensures c.loop-index.invariant c.if-not-is_taken.false
