use Rattle.std.proofs.Common.{◌≡◌, List, length, Some, map, sym, ap, subst, ◌∙◌}
use Rattle.std.proofs.lemmas.List.{length-map}
use Rattle.std.proofs.lemmas.Result.{err_from_is_err_and}
use Rattle.office_tables.proofs.WritesLemmas.{of_store_weaker}
use Rattle.office_rows.specs.Opening.{tables_version}
use Rattle.office_admission.specs.{Setups.account_contents, declared.setup.Account.Account}
use Rattle.office_reports.specs.{Metrics.metrics_text, Partners.partner_content}
use Rattle.office_desk.{specs.{Causes.LacksSome, Reports.AreLookedUp}, proofs.PageLemmas.said}
use Rattle.office_desk.proofs.beside.tell_metrics.Goals as goal

pub returns-clause-told : goal.returns-clause-told
returns-clause-told g c clean rows has =
    let partners = map partner_content c.in_ok-partners.partners.items in
    let are = subst (λ (l : List Account). AreLookedUp rows 1 (account_contents l) partners) c.as_slice.ensures (c.in_ok-partners.ensures.are clean rows has) in (
      partners,
      are,
      ap Some (c.in_ok-metrics_report.ensures
          ∙ (λ i. metrics_text (c.program_version.ensures i) tables_version c.args.terminal.now c.args.setup.now.visit_limit (map partner_content (c.deref.ensures.value i)))),
    )

-- ---- why it can't be reported

pub returns-in_err-partners-clause-fault : goal.returns-in_err-partners-clause-fault
returns-in_err-partners-clause-fault g c clean =
    let items = c.args.setup.now.partners.items in
    let many : length c.as_slice.result.now ≡ length (account_contents items) = ap length c.as_slice.ensures ∙ sym (length-map items said) in
    let p = err_from_is_err_and c.from_residual.result c.from_residual.ensures.1 in
    rw (p.1, p.2) (λ rows has.
    of_store_weaker (LacksSome rows (length c.as_slice.result.now)) (LacksSome rows (length (account_contents items))) (subst (LacksSome rows) many) _ (c.in_err-partners.ensures.fault clean rows has))
