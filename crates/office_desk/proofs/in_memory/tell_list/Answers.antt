use Rattle.std.proofs.Common.{◌≡◌, None, Some, option_map, refl, ap, subst}
use Rattle.edi_messages.specs.Owned.{call_content}
use Rattle.office_reports.specs.Lists.{IsOfLines, list_by, list_content}
use Rattle.office_desk.proofs.Values.{of_lines}
use Rattle.office_report_data.specs.Told as value
use Rattle.office_desk.proofs.in_memory.tell_list.Goals as goal

pub returns-in_ok-show_list-in-Some : goal.returns-in_ok-show_list-in-Some
returns-in_ok-show_list-in-Some c =
    let a = c.args in
    let call = call_content a.call.now in
    let is : c.in_ok-report.field-0 ≡ Some c.in-Some.report = let f = c.in-Some.is in cc in
    let found = subst (λ o. IsOfLines a.terminal.now call a.side (list_by call a.side) (option_map list_content o)) is c.in_ok-report.ensures in (
      Some (value.list (list_content c.in-Some.report)),
      of_lines value.list a.terminal.now call a.side (list_by call a.side) (Some (list_content c.in-Some.report)) found,
      ap Some c.in_ok-show_list-in-Some.ensures,
    )

pub returns-in-None : goal.returns-in-None
returns-in-None c =
    let a = c.args in
    let call = call_content a.call.now in
    let is : c.in_ok-report.field-0 ≡ None = let f = c.in-None.is in cc in
    let found = subst (λ o. IsOfLines a.terminal.now call a.side (list_by call a.side) (option_map list_content o)) is c.in_ok-report.ensures in
    (None, of_lines value.list a.terminal.now call a.side (list_by call a.side) None found, refl)
