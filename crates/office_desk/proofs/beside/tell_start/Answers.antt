use Rattle.std.proofs.{Common.{◌≡◌, List, length, Some, map, refl, sym, ap, subst, ◌∙◌}, lemmas.List.length-map, lemmas.Result.err_from_is_err_and}
use Rattle.office_tables.proofs.WritesLemmas.{of_store_weaker}
use Rattle.office_admission.specs.{Setups.{account_contents, setup_content}, declared.setup.Account.Account}
use Rattle.office_pages.specs.Start.{office_page}
use Rattle.office_reports.specs.Partners.{partner_content}
use Rattle.office_report_data.specs.Told.{shown}
use Rattle.office_desk.{specs.{Causes.LacksSome, Reports.{AreLookedUp, start_by}}, proofs.PageLemmas.said}
use Rattle.office_report_data.specs.Told as value
use Rattle.office_desk.proofs.beside.tell_start.Goals as goal

pub returns-clause-told : goal.returns-clause-told
unfolding shown
returns-clause-told g c clean rows has view =
    let content = setup_content c.args.setup.now in
    let terminal = c.args.terminal.now in
    let partners = map partner_content c.in_ok-partners.partners.items in
    let are = subst (λ (l : List Account). AreLookedUp rows 1 (account_contents l) partners) c.as_slice.ensures (c.in_ok-partners.ensures.are clean rows has) in
    let page = c.in_ok-start_of.ensures in
    let blocks = page.0 in (
      Some (value.start content.terminal (start_by content terminal partners blocks)),
      (partners, are, (blocks, page.1, refl)),
      ap Some (page.2 ∙ ap (λ l. office_page content.terminal (start_by content terminal (map partner_content l) blocks)) c.deref.ensures.value),
    )

-- ---- why it can't be reported

pub returns-in_err-partners-clause-fault : goal.returns-in_err-partners-clause-fault
returns-in_err-partners-clause-fault g c clean =
    let items = c.args.setup.now.partners.items in
    let many : length c.as_slice.result.now ≡ length (account_contents items) = ap length c.as_slice.ensures ∙ sym (length-map items said) in
    let p = err_from_is_err_and c.from_residual.result c.from_residual.ensures.1 in
    rw (p.1, p.2) (λ rows has.
    of_store_weaker (LacksSome rows (length c.as_slice.result.now)) (LacksSome rows (length (account_contents items))) (subst (LacksSome rows) many) _ (c.in_err-partners.ensures.fault clean rows has))
