use Rattle.office_reports.proofs.Pages.{page_alike}
use Rattle.office_reports.proofs.laws.fields_bring_no_markup.Goals as goal

pub returns : goal.returns
returns c name other blocks ones others e = (page_alike name other blocks ones others e).same
