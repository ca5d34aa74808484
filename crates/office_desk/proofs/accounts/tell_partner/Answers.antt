use Rattle.std.proofs.{Common.{◌≡◌, ◌+◌, ◌<◌, List, None, Some, get_or, length, refl, sym, ap, subst, ◌∙◌, arith}, lemmas.Result.err_from_is_err_and}
use Rattle.office_admission.specs.{declared.setup.Account.Account, Setups.account_contents}
use Rattle.office_tables.proofs.WritesLemmas.{of_store_weaker}
use Rattle.office_reports.specs.Partners.{partner_content, row_of}
use Rattle.office_report_data.specs.Told.{shown}
use Rattle.office_desk.{specs.Causes.{LacksNumbers, LacksSome}, proofs.PageLemmas.{some_lacks, told_of_none, told_one}}
use Rattle.office_report_data.specs.Told as value
use Rattle.office_desk.proofs.accounts.tell_partner.Goals as goal

pub returns-in_ok-show_partner-in-Some-clause-told : goal.returns-in_ok-show_partner-in-Some-clause-told
returns-in_ok-show_partner-in-Some-clause-told g c clean rows has =
    let items = c.args.setup.now.partners.items in
    let index = c.in-Some.index in
    let account = c.index-accounts-index.result in
    let low : index < length items = rw c.in-Some.is at c.index_called.ensures.within in
    let there : account ≡ get_or items index account = subst (λ (l : List Account). account ≡ get_or l index account) c.as_slice-accounts.ensures c.index-accounts-index.is in
    let partner = c.in_ok-partner-in-Some.partner in (
      Some (value.partner (row_of (partner_content partner))),
      told_one rows items c.args.code.now index account partner low there (sym c.in-Some.is ∙ c.index_called.ensures.index) (c.in_ok-partner-in-Some.ensures.is clean rows has),
      ap Some (c.in_ok-show_partner-in-Some.ensures ∙ ap (λ row. shown c.args.view (value.partner row)) c.partner_row.ensures),
    )

pub returns-in-None-clause-told : goal.returns-in-None-clause-told
returns-in-None-clause-told g c clean rows has = (None, told_of_none rows c.args.setup.now.partners.items c.args.code.now (sym c.in-None.is ∙ c.index_called.ensures.index), refl)

-- ---- why it can't be reported

pub returns-in_err-partner-in-Some-clause-fault : goal.returns-in_err-partner-in-Some-clause-fault
returns-in_err-partner-in-Some-clause-fault g c clean =
    let items = c.args.setup.now.partners.items in
    let index = c.in-Some.index in
    let low : index < length items = rw c.in-Some.is at c.index_called.ensures.within in
    let p = err_from_is_err_and c.from_residual.result c.from_residual.ensures.1 in
    rw (p.1, p.2) (λ rows has.
    of_store_weaker (LacksNumbers rows (index + 1)) (LacksSome rows (length (account_contents items))) (λ lacks. some_lacks rows items (index + 1) (omega arith) (omega (arith, low)) lacks) _
    (c.in_err-partner-in-Some.ensures.fault clean rows has))
