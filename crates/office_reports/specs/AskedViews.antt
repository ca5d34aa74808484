-- As what reports are shown (our own).
use Rattle.std.specs.Prelude.{Bool, true, false}
use Rattle.office_reports.specs.{declared.query.ReportKind.ReportKind, declared.query.View.View, declared.query.View.TheVariants.{Text, Json, Csv, Page}}
use Rattle.office_reports.specs.declared.query.ReportKind.TheVariants as kind

-- not pictures, CONTRLs, health and metrics, nor what is only a page
abbrev pub has_json : ReportKind → Bool
has_json kind.Contrl = false
has_json kind.Picture = false
has_json kind.Health = false
has_json kind.Metrics = false
has_json kind.Block = false
has_json kind.Start = false
has_json other = true

-- those that are lists
abbrev pub has_csv : ReportKind → Bool
has_csv kind.Yard = true
has_csv kind.Visits = true
has_csv kind.List = true
has_csv kind.Work = true
has_csv kind.Partners = true
has_csv kind.Blocks = true
has_csv kind.Calls = true
has_csv other = false

-- not health and metrics, which programs read
abbrev pub has_page : ReportKind → Bool
has_page kind.Health = false
has_page kind.Metrics = false
has_page other = true

-- not what is only a page
abbrev pub has_text : ReportKind → Bool
has_text kind.Block = false
has_text kind.Start = false
has_text other = true

abbrev pub has_view : ReportKind → View → Bool
has_view asked Text = has_text asked
has_view asked Json = has_json asked
has_view asked Csv = has_csv asked
has_view asked Page = has_page asked
