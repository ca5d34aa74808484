use Rattle.std.proofs.{Common.{◌<◌, refl, sym, subst, arith}, lemmas.List.Elements.All-map}
use Rattle.office_loading.specs.{Closed.last_closed, Contents.partner_content, OwnOffice.IsClosedBelow, declared.numbers.PartnerRow.PartnerRow}
use Rattle.office_loading.proofs.Kept.{each_mapped, each_more, each_of}
use Rattle.office_loading.proofs.numbers.are_closed_below.Goals as goal

pub returns-then-partner-last_of : goal.returns-then-partner-last_of
returns-then-partner-last_of c = (
  λ f. absurd (cc),
  λ all. (let P : PartnerRow → Type 0 = λ row. last_closed c.args.closed.now row.id < row.next in
      let here : P c.partner-item.result =
      subst P (sym c.partner-item.is) (each_mapped (IsClosedBelow (last_closed c.args.closed.now)) partner_content c.args.partners.now all c.loop-partner.partner-index c.partner-item.result c.loop-partner-test.true) in
      absurd (omega (arith, here, c.last_of.ensures, c.if-partner-last_of.true))),
)

pub loop-partner-preserved : goal.loop-partner-preserved
loop-partner-preserved c =
    let P : PartnerRow → Type 0 = λ row. last_closed c.args.closed.now row.id < row.next in
    let here : P c.partner-item.result = omega (arith, c.last_of.ensures, c.if-partner-last_of.false) in
    each_more P c.args.partners.now c.loop-partner.partner-index c.partner-item.result c.partner-item.result c.loop-partner-test.true c.partner-item.is here c.loop-partner.invariant

pub returns : goal.returns
returns c = (
  λ t. (let P : PartnerRow → Type 0 = λ row. last_closed c.args.closed.now row.id < row.next in
      All-map (IsClosedBelow (last_closed c.args.closed.now)) partner_content c.args.partners.now (each_of P c.args.partners.now c.loop-partner.partner-index c.loop-partner-test.false c.loop-partner.invariant)),
  λ all. refl,
)
