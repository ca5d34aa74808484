use Rattle.office_reports.proofs.Markup.{field_is_shown}
use Rattle.office_reports.proofs.laws.fields_are_shown.Goals as goal

pub returns : goal.returns
returns c = field_is_shown
