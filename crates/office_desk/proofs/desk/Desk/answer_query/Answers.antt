use Rattle.std.proofs.Common.{string_bytes}
use Rattle.office_reports.specs.Looking.{report}
use Rattle.office_desk.proofs.LookLemmas.{looks_noted}
use Rattle.office_desk.proofs.desk.Desk.answer_query.Goals as goal

pub returns : goal.returns
returns g c =
    let told = c.find_report-told.ensures in
    record { looks = looks_noted g.S.Store string_bytes c.args.self.now c.find_report-told.new.self c.self-1.given.0 c.self-1.given.1.0 (report c.args.query.now) c.find_report-told.result c.noted.result _ c.noted.ensures told.told told.fault told.looks told.is_open told.last_fault }
