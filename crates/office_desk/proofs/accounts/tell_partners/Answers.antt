use Rattle.std.proofs.Common.{◌≡◌, Some, map, refl, ap, ◌∙◌}
use Rattle.office_reports.specs.Partners.{partner_content, partners_content, partners_of}
use Rattle.office_report_data.specs.Told.{shown}
use Rattle.office_report_data.specs.Told as value
use Rattle.office_desk.proofs.accounts.tell_partners.Goals as goal

pub returns-clause-told : goal.returns-clause-told
returns-clause-told g c clean rows has =
    let partners = c.in_ok-partners.partners.items in
    let report : partners_content c.in_ok-report.report ≡ partners_of (map partner_content partners) =
    c.in_ok-report.ensures ∙ ap (λ l. partners_of (map partner_content l)) c.deref.ensures.value in (
      Some (value.partners (partners_of (map partner_content partners))),
      (map partner_content partners, c.in_ok-partners.ensures.are clean rows has, refl),
      ap Some (c.in_ok-show_partners.ensures ∙ ap (λ told. shown c.args.view (value.partners told)) report),
    )
