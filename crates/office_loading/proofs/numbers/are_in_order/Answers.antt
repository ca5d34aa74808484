use Rattle.std.proofs.{Common.{List, false, map, refl, sym, subst, get_or}, lemmas.List.drop_all}
use Rattle.office_loading.{specs.{Contents.number_content, OwnOffice.AreInOrder, declared.numbers.NumberRow.NumberRow}, proofs.Keyed.{order_more, order_not}}
use Rattle.office_loading.proofs.numbers.are_in_order.Goals as goal

abbrev none : NumberRow
none = record { partner = 0; number = 0; is_taken = false }

pub returns-then-not-is_in_order : goal.returns-then-not-is_in_order
returns-then-not-is_in_order c = (
  λ f. absurd (cc),
  λ all. absurd (order_not c.args.count c.args.numbers.now c.loop-row.partner c.loop-row.number c.loop-row.row-index none (get_or c.args.numbers.now c.loop-row.row-index none) c.loop-row-test.true refl c.is_in_order.result c.is_in_order.ensures
      c.loop-row.invariant c.if-not-is_in_order.true all),
)

pub loop-row-preserved : goal.loop-row-preserved
loop-row-preserved c =
    order_more c.args.count c.args.numbers.now c.loop-row.partner c.loop-row.number c.loop-row.row-index none (get_or c.args.numbers.now c.loop-row.row-index none) c.loop-row-test.true refl c.is_in_order.result c.is_in_order.ensures
    c.loop-row.invariant c.if-not-is_in_order.false

pub returns : goal.returns
returns c = (
  λ t. (let P : List NumberRow → Type 0 = λ rows. AreInOrder c.args.count c.loop-row.partner c.loop-row.number (map number_content rows) in
      c.loop-row.invariant.1 (subst P (sym (drop_all c.loop-row.row-index c.args.numbers.now c.loop-row-test.false)) tt)),
  λ all. refl,
)
