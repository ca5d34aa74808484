use Rattle.std.{specs.Prelude.slice_get, proofs.Common.{◌≡◌, ◌≢◌, ℕ, ◌<◌, List, Some, length, take, refl, sym, ap, ◌∙◌, arith, true, string_bytes}}
use Rattle.std.proofs.lemmas.Option.{slice_get_read, slice_get_within}
use Rattle.office_loading.{specs.declared.numbers.PartnerRow.PartnerRow, proofs.Kept.{rows_more, before_in, before_of, distinct_at, distinct_from}}
use Rattle.office_loading.proofs.numbers.are_distinct.Goals as goal

pub returns-then-has_code : goal.returns-then-has_code
returns-then-has_code c = (
  λ f. absurd (cc),
  λ apart. (let here : slice_get c.args.partners.now c.loop-index.index ≡ Some c.index-partners-index.result = slice_get_read c.args.partners.now (length c.args.partners.now) _ c.index-partners-index.result refl c.loop-index-test.true c.index-partners-index.is in
      let has = c.has_code.ensures.0 c.if-has_code.true in
      let there : slice_get (take c.loop-index.index c.args.partners.now) has.0 ≡ Some has.1 = ap (λ (l : List PartnerRow). slice_get l has.0) (sym c.split_at.ensures.front) ∙ has.2 in
      let before = before_in c.args.partners.now c.loop-index.index has.0 has.1 there in
      let same : has.0 ≡ c.loop-index.index = distinct_at c.args.partners.now has.0 c.loop-index.index has.1 c.index-partners-index.result apart before.1 here (has.3 ∙ c.as_str.ensures.value) in
      absurd (omega (arith, before.0))),
)

pub loop-index-preserved : goal.loop-index-preserved
loop-index-preserved c j k a b less low e f =
    let here : slice_get c.args.partners.now c.loop-index.index ≡ Some c.index-partners-index.result = slice_get_read c.args.partners.now (length c.args.partners.now) _ c.index-partners-index.result refl c.loop-index-test.true c.index-partners-index.is in
    let P : ℕ → PartnerRow → Type 0 = λ n row. (m : ℕ) (other : PartnerRow) → m < n → slice_get c.args.partners.now m ≡ Some other → string_bytes other.code ≢ string_bytes row.code in
    rows_more P c.args.partners.now c.loop-index.index c.index-partners-index.result here
    (λ m other before there same. (let is : c.has_code.result ≡ true = c.has_code.ensures.1 (m, other, ap (λ (l : List PartnerRow). slice_get l m) c.split_at.ensures.front ∙ before_of c.args.partners.now c.loop-index.index m other before there, same ∙ sym c.as_str.ensures.value) in
    absurd (cc)))
    (λ n row near there m other before at. c.loop-index.invariant m n other row before near at there) k b low f j a less e

pub returns : goal.returns
returns c = (
  λ t. distinct_from c.args.partners.now (λ j k a b less e f. (let low = slice_get_within c.args.partners.now k b f in c.loop-index.invariant j k a b less (omega (arith, low)) e f)),
  λ apart. refl,
)
