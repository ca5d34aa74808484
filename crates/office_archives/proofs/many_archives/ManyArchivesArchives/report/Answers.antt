use Rattle.std.proofs.Common.{option_map, string_bytes}
use Rattle.office_rows.proofs.Creating.{if_ok}
use Rattle.office_closing.specs.{Register.register_content, Seals.HasSeals}
use Rattle.office_archives.{specs.Keeping.IsReportOf, proofs.Rising.told_report}
use Rattle.office_archives.proofs.many_archives.ManyArchivesArchives.report.Goals as goal

pub returns-clause-report : goal.returns-clause-report
returns-clause-report g c = λ last.
    let self = c.args.self.now in
    if_ok c.report_at.result (λ found so list are archive at. (so list are archive at).1)
    (told_report g.S.Store g.F.Shelf.is_known g.F.Shelf.holds self.shelf self.register self.opened.items _ c.args.place
    (λ found rows. HasSeals (register_content self.register) c.args.place rows × IsReportOf rows c.args.query.now (option_map string_bytes found)) c.report_at.result c.report_at.ensures.told last)
