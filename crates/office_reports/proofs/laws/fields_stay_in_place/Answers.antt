use Rattle.office_reports.{specs.Fields.field_text, proofs.Markup.{field_is_quiet, quiet_stays}}
use Rattle.office_reports.proofs.laws.fields_stay_in_place.Goals as goal

pub returns : goal.returns
returns c place bytes = quiet_stays place (field_text bytes) (field_is_quiet bytes)
