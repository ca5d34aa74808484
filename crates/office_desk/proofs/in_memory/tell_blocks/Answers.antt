use Rattle.std.proofs.Common.{Some, refl, ap}
use Rattle.office_reports.specs.Blocks.{blocks_content}
use Rattle.office_rows.proofs.Creating.{if_ok}
use Rattle.office_report_data.specs.Told as value
use Rattle.office_desk.proofs.in_memory.tell_blocks.Goals as goal

pub returns : goal.returns
returns c =
    let report = blocks_content c.in_ok-report.report in
    if_ok c.show_blocks.result (λ text is. (Some (value.blocks report), (report, c.in_ok-report.ensures, refl), ap Some is)) c.show_blocks.ensures
