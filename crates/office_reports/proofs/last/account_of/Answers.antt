use Rattle.std.proofs.{Common.{◌≡◌, ◌-◌, ℕ, length, List, ap, Some, slice_get, sym, ◌∙◌, arith}, lemmas.Bool.ltb-true, lemmas.Option.slice_get-get_or}
use Rattle.office_admission.specs.declared.setup.Account.{Account}
use Rattle.office_reports.proofs.LastLemmas.{account_found}
use Rattle.office_reports.proofs.last.account_of.Goals as goal

pub returns-in-Some : goal.returns-in-Some
returns-in-Some c =
    let low = ltb-true (c.from.result - 1) (length c.as_slice-accounts.result.now) (sym c.in-Some.ensures.lookup.0) in
    let found : slice_get c.as_slice-accounts.result.now (c.from.result - 1) ≡ Some c.in-Some.account.now = slice_get-get_or c.as_slice-accounts.result.now (c.from.result - 1) _ low ∙ ap Some (sym c.in-Some.ensures.lookup.1) in
    let at : slice_get c.args.setup.now.partners.items (c.from.result - 1) ≡ Some c.in-Some.account.now = ap (λ (accounts : List Account). slice_get accounts (c.from.result - 1)) (sym c.as_slice-accounts.ensures) ∙ found in
    ap (λ (code : List ℕ). Some (code, c.in-Some.account.now.kind)) c.as_str.ensures.value ∙ sym (account_found c.args.setup.now c.args.partner (c.from.result - 1) c.in-Some.account.now (omega arith) at)
