use Rattle.std.proofs.{Common.{List, false, map, refl, sym, subst, get_or}, lemmas.List.drop_all}
use Rattle.office_rows.specs.Office.{AreWaiting}
use Rattle.office_loading.{specs.{Contents.number_content, declared.numbers.NumberRow.NumberRow}, proofs.Kept.{waits_more, waits_not}}
use Rattle.office_loading.proofs.numbers.are_waiting.Goals as goal

abbrev none : NumberRow
none = record { partner = 0; number = 0; is_taken = false }

pub returns-then-not-is_waiting : goal.returns-then-not-is_waiting
returns-then-not-is_waiting c = (
  λ f. absurd (cc),
  λ all. absurd (waits_not c.args.partner c.args.next c.args.numbers.now c.loop-row.above c.loop-row.row-index none (get_or c.args.numbers.now c.loop-row.row-index none) c.loop-row-test.true refl c.is_waiting.result c.is_waiting.ensures
      c.loop-row.invariant c.if-not-is_waiting.true all),
)

pub loop-row-preserved : goal.loop-row-preserved
loop-row-preserved c =
    waits_more c.args.partner c.args.next c.args.numbers.now c.loop-row.above c.loop-row.row-index none (get_or c.args.numbers.now c.loop-row.row-index none) c.loop-row-test.true refl c.is_waiting.result c.is_waiting.ensures c.loop-row.invariant
    c.if-not-is_waiting.false

pub returns : goal.returns
returns c = (
  λ t. (let P : List NumberRow → Type 0 = λ rows. AreWaiting c.args.partner c.loop-row.above (map number_content rows) in
      c.loop-row.invariant.1 (subst P (sym (drop_all c.loop-row.row-index c.args.numbers.now c.loop-row-test.false)) tt)),
  λ all. refl,
)
