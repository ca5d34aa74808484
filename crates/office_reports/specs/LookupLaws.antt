-- What the definitions of the reports mean together.
use Rattle.std.specs.{Prelude.{◌≡◌, ℕ, List, Option}, Option.option_map, List.AllZip}
use Rattle.box6346.specs.declared.box_number.BoxNumber.{BoxNumber}
use Rattle.edi_messages.specs.Purposes.{CallContent}
use Rattle.terminal_core.specs.{declared.change.Source.Source, declared.lines.Side.Side, Rows.VisitContent, State.TerminalState}
use Rattle.office_admission.specs.Setups.{SetupContent}
use Rattle.office_reports.specs.{Blocks.IsBlocksReport, Partners.{PartnerContent, AreAlike, partners_text}, Tickets.{ticket_of, ticket_text, told_text}}
use Rattle.office_reports.specs.{Visits.{rows_text, visit_report, visits_of}, Work.IsWorkReport}

-- two reports on the work that is left of a list are one answer
abbrev pub WorkReportsAreOne : Type 0
WorkReportsAreOne = (state : TerminalState) (call : CallContent) (side : Side) (one other : Option (List ℕ)) →
    IsWorkReport state call side one → IsWorkReport state call side other → one ≡ other

-- two reports on the blocks are one text
abbrev pub BlocksReportsAreOne : Type 0
BlocksReportsAreOne = (state : TerminalState) (one other : List ℕ) → IsBlocksReport state one →
    IsBlocksReport state other → one ≡ other

-- partners are told of alike, whatever the order in which the numbers come that wait
abbrev pub PartnersReportsAreOne : Type 0
PartnersReportsAreOne = (one other : List PartnerContent) → AllZip AreAlike one other →
    partners_text one ≡ partners_text other

-- the text of what is told of a container's visits is the report on them
abbrev pub VisitTextsStay : Type 0
VisitTextsStay = (setup : SetupContent) (state : TerminalState) (container : BoxNumber) →
    option_map rows_text (visits_of setup state container) ≡ visit_report setup state container

-- so is that of a ticket
abbrev pub TicketTextsStay : Type 0
TicketTextsStay = (code : List ℕ) (source : Source) (visits : List VisitContent) →
    told_text (ticket_of code source visits) ≡ ticket_text code source visits
