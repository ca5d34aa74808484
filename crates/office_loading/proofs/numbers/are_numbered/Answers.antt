use Rattle.std.{specs.Prelude.slice_get, proofs.{Common.{◌≡◌, ℕ, ◌+◌, Some, length, refl, arith, true}, lemmas.Option.{slice_get_read, slice_get_within}}}
use Rattle.office_loading.{specs.declared.numbers.PartnerRow.PartnerRow, proofs.Kept.{IsAccount, account_at, accounts_from, rows_more}}
use Rattle.office_loading.proofs.numbers.are_numbered.Goals as goal

pub returns-then-not-is_account : goal.returns-then-not-is_account
returns-then-not-is_account c = (
  λ f. absurd (cc),
  λ are. (let at : slice_get c.args.partners.now c.loop-index.index ≡ Some c.index-partners-index.result = slice_get_read c.args.partners.now (length c.args.partners.now) _ c.index-partners-index.result refl c.loop-index-test.true c.index-partners-index.is in
      let is : c.is_account.result ≡ true = c.is_account.ensures.1 (account_at 1 c.args.partners.now c.loop-index.index c.index-partners-index.result are at) in
      absurd (cc)),
)

pub loop-index-preserved : goal.loop-index-preserved
loop-index-preserved c =
    let at : slice_get c.args.partners.now c.loop-index.index ≡ Some c.index-partners-index.result = slice_get_read c.args.partners.now (length c.args.partners.now) _ c.index-partners-index.result refl c.loop-index-test.true c.index-partners-index.is in
    let P : ℕ → PartnerRow → Type 0 = λ k. IsAccount (k + 1) in
    rows_more P c.args.partners.now c.loop-index.index c.index-partners-index.result at (c.is_account.ensures.0 c.if-not-is_account.false) c.loop-index.invariant

pub returns : goal.returns
returns c = (
  λ t. accounts_from 1 c.args.partners.now (λ k row at. (let low = slice_get_within c.args.partners.now k row at in c.loop-index.invariant k row (omega (arith, low)) at)),
  λ are. refl,
)
