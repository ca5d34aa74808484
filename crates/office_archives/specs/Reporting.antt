-- What a desk over a store's own rows reports.
use Rattle.std.specs.Prelude.{List, Option}
use Rattle.office_replies.specs.Events.{Event}
use Rattle.office_rows.specs.Rows.{Rows}
use Rattle.office_admission.specs.Setups.{SetupContent}
use Rattle.office_reports.specs.declared.query.About.{About}
use Rattle.office_history.specs.After.{content_after, machine_after}
use Rattle.office_report_data.specs.Told.{ReportContent}
use Rattle.office_desk.specs.Reports.{TellsAbout}
use Rattle.office_parts.specs.{OwnTerminal.own_terminal, Parts.{Archived, ArePartsAfter}}
use Rattle.office_reports.specs.declared.query.About.TheVariants as about

-- it is asked what stands in the yard, how full it is, what the lists say and what is left of them, or which number comes
-- next
abbrev pub IsOfWhatStands : About → Type 0
IsOfWhatStands about.Yard = Unit {0}
IsOfWhatStands about.Picture = Unit {0}
IsOfWhatStands about.Blocks = Unit {0}
IsOfWhatStands (about.Block letter) = Unit {0}
IsOfWhatStands about.Calls = Unit {0}
IsOfWhatStands (about.List call side) = Unit {0}
IsOfWhatStands (about.Work call side) = Unit {0}
IsOfWhatStands (about.Next code) = Unit {0}
IsOfWhatStands other = ⊥

-- this is reported by the store's own rows and its own terminal as by the whole
abbrev pub WhatStandsIsToldAlike : Type 0
WhatStandsIsToldAlike =
    (content : SetupContent) (es : List Event) (archived : Archived) (own whole : Rows) (asked : About)
    (told : Option ReportContent) → ArePartsAfter content es archived own whole → IsOfWhatStands asked →
    TellsAbout (content_after content es) (own_terminal archived.stays (machine_after content es).terminal) own asked told
    → TellsAbout (content_after content es) (machine_after content es).terminal whole asked told
