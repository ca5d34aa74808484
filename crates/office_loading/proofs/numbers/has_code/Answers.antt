use Rattle.std.{specs.Prelude.slice_get, proofs.Common.{◌≡◌, ◌≢◌, ℕ, Some, length, refl, sym, ◌∙◌, arith, true, string_bytes}}
use Rattle.std.proofs.lemmas.Option.{slice_get_read, slice_get_within}
use Rattle.office_loading.{specs.declared.numbers.PartnerRow.PartnerRow, proofs.Kept.rows_more}
use Rattle.office_loading.proofs.numbers.has_code.Goals as goal

pub returns-then-are_same : goal.returns-then-are_same
returns-then-are_same c = (
  λ t. (
    c.loop-partner.partner-index,
    c.partner-item.result,
    slice_get_read c.args.partners.now (length c.args.partners.now) _ c.partner-item.result refl c.loop-partner-test.true c.partner-item.is,
    sym c.as_str.ensures.value ∙ c.are_same.ensures.0 c.if-are_same.true,
  ),
  λ has. refl,
)

pub loop-partner-preserved : goal.loop-partner-preserved
loop-partner-preserved c =
    let at : slice_get c.args.partners.now c.loop-partner.partner-index ≡ Some c.partner-item.result = slice_get_read c.args.partners.now (length c.args.partners.now) _ c.partner-item.result refl c.loop-partner-test.true c.partner-item.is in
    let P : ℕ → PartnerRow → Type 0 = λ k row. string_bytes row.code ≢ c.args.code.now in
    rows_more P c.args.partners.now c.loop-partner.partner-index c.partner-item.result at (λ e. (let is : c.are_same.result ≡ true = c.are_same.ensures.1 (c.as_str.ensures.value ∙ e) in absurd (cc))) c.loop-partner.invariant

pub returns : goal.returns
returns c = (
  λ f. absurd (cc),
  λ has. (let low = slice_get_within c.args.partners.now has.0 has.1 has.2 in absurd (c.loop-partner.invariant has.0 has.1 (omega (arith, low)) has.2 has.3)),
)
