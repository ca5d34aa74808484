use Rattle.std.{specs.Prelude.string_bytes, proofs.Common.{◌≡◌, List, ℕ, false, true, refl, ap, arith, rules}}
use Rattle.edi_messages.specs.declared.codes.PartnerKind.{PartnerKind}
use Rattle.office_admission.specs.declared.setup.Account.{Account}
use Rattle.office_closing.proofs.FirstLemmas.{are_the_first, first_no_more, first_same}
use Rattle.office_closing.proofs.planning.are_first_accounts.Goals as goal

abbrev said : Account → List ℕ × PartnerKind
said account = (string_bytes account.code, account.kind)

pub returns-then-accounts-others : goal.returns-then-accounts-others
returns-then-accounts-others c = (λ e. absurd cc, λ first. absurd (let low = first_no_more said c.args.accounts.now c.args.others.now first in omega (arith, low)))

pub returns-then-not-is_same_account : goal.returns-then-not-is_same_account
returns-then-not-is_same_account c = (
  λ e. absurd cc,
  λ first. absurd (
      let here = first_same said c.args.accounts.now c.args.others.now first c.loop-index.index c.index-accounts-index.result c.index-others-index.result (omega arith) c.index-accounts-index.is c.index-others-index.is in
      let yes : c.is_same_account.result ≡ true = c.is_same_account.ensures.1 (ap (λ (p : List ℕ × PartnerKind). p.0) here, ap (λ (p : List ℕ × PartnerKind). p.1) here) in
      let no : c.is_same_account.result ≡ false = search rules in
      cc),
)

pub returns : goal.returns
returns c = (λ e. are_the_first said c.args.accounts.now c.args.others.now c.loop-index.index (omega arith) (omega arith) c.loop-index.invariant, λ first. refl)
