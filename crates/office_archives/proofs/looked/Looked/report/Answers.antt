use Rattle.std.proofs.Common.{not, option_map, string_bytes, ap, subst, ◌∙◌, IfOk}
use Rattle.office_rows.specs.{Rows.Rows, Stored.HasRows}
use Rattle.office_history.specs.After.{AreKeptOnce}
use Rattle.office_tables.proofs.WriteLemmas.{was_open}
use Rattle.office_archives.specs.Keeping.{IsReportOf}
use Rattle.office_archives.proofs.looked.Looked.report.Goals as goal

pub returns-clause-report : goal.returns-clause-report
returns-clause-report g c clean is_open =
    subst (λ db. IfOk c.report_by.result (λ found. (rows : Rows) → HasRows rows db → AreKeptOnce rows.interchanges → IsReportOf rows c.args.query.now (option_map string_bytes found)))
    (c.is_autocommit-is_idle.ensures.settled (c.is_autocommit-is_idle.ensures.value ∙ ap not c.args.self.now.idle) (was_open c.report_by.ensures.reads clean is_open)) (c.report_by.ensures.report clean)
