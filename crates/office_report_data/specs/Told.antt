-- What a report tells, and as what it is shown.
use Rattle.std.specs.Prelude.{ℕ, List, Option, None, Some, codes}
use Rattle.box6346.specs.declared.box_number.BoxNumber.{BoxNumber}
use Rattle.serde_json.specs.Written.{compact_text}
use Rattle.terminal_core.specs.{Rows.VisitContent, State.{LineContent, LineKey}}
use Rattle.office_replies.specs.Bodies.{answer_text, waiting_text}
use Rattle.office_reports.specs.{Blocks.{BlocksContent, blocks_text}, Calls.lists_text, Containers.{ContainerContent, container_text}, Yard.yard_text}
use Rattle.office_reports.specs.{Lists.{ListContent, list_text}, Partners.{PartnerRowContent, PartnersContent, row_line, rows_text}, declared.query.View.View}
use Rattle.office_reports.specs.{Tickets.{TicketContent, told_text}, Visits.{VisitsContent, rows_text as visits_text}, Work.{WorkContent, work_text}}
use Rattle.office_reports.specs.{declared.calls.ListCount.ListCount, declared.query.View.TheVariants.{Text, Json, Csv, Page}, declared.yard.Standing.Standing}
use Rattle.office_pages.specs.{Blocks.blocks_page, Calls.calls_page, Container.container_page, Contrl.contrl_page, Drawn.picture_view, Found.found_page}
use Rattle.office_pages.specs.{Lists.list_page, Partner.partner_page, Partners.partners_page, Reply.{reply_page, waiting_page}, Tickets.ticket_page}
use Rattle.office_pages.specs.{Start.{StartContent, office_page}, Visits.visits_page, Wanted.expected_page, Work.work_page, Yard.yard_page}
use Rattle.office_report_data.specs.{Blocks.{blocks_data, blocks_table}, Calls.{calls_data, calls_table}, Containers.container_data, Tickets.ticket_data}
use Rattle.office_report_data.specs.{Lists.{list_data, list_table}, Partners.{partner_data, partners_data, partners_table}, Visits.{visits_data, visits_table}}
use Rattle.office_report_data.specs.{Work.{work_data, work_table}, Yard.{yard_data, yard_table}}

-- the value of a report, or a text that is the same however it is shown: a number, health and the metrics
pub data ReportContent : Type 0 where
  yard : List (List ℕ × Standing) → ReportContent
  -- with the open lines that name it and its visits
  container : ContainerContent → List (LineKey × LineContent) → Option VisitsContent → ReportContent
  visits : VisitsContent → ReportContent
  list : ListContent → ReportContent
  work : WorkContent → ReportContent
  calls : List (LineKey × ListCount) → ReportContent
  partners : PartnersContent → ReportContent
  partner : PartnerRowContent → ReportContent
  blocks : BlocksContent → ReportContent
  ticket : TicketContent → ReportContent
  -- the answer of a partner's interchange under a number: the reply, if it was taken, or the number that is next
  taken : (partner : List ℕ) → (number : ℕ) → (reply : List ℕ) → ReportContent
  waiting : (partner : List ℕ) → (number next : ℕ) → ReportContent
  -- the CONTRL of a partner's interchange under a number, and the reply that it is of
  contrl : (partner : List ℕ) → (number : ℕ) → (kept plain : List ℕ) → ReportContent
  picture : List ℕ → ReportContent
  -- only as a page: the terminal's name and what its start page tells, a block of the yard, a container that never came,
  -- what a text finds
  start : (terminal : List ℕ) → StartContent → ReportContent
  block : ℕ → List (List ℕ × Standing) → ReportContent
  expected : BoxNumber → List (LineKey × LineContent) → ReportContent
  found : (typed : List ℕ) → List VisitContent → Option (List ℕ) → List (LineKey × ListCount) → ReportContent
  text : List ℕ → ReportContent

abbrev pub in_view : View → (plain json table page : List ℕ) → List ℕ
in_view Text plain json table page = plain
in_view Json plain json table page = json
in_view Csv plain json table page = table
in_view Page plain json table page = page

-- what is a text, but for its page
abbrev pub text_or_page : View → (plain page : List ℕ) → List ℕ
text_or_page view plain page = in_view view plain plain plain page

-- its text, the compact text of its JSON, its table, or its page; what has no table is shown as text instead
unfoldable pub shown : View → ReportContent → List ℕ
shown view (yard rows) =
    in_view view (yard_text rows) (compact_text (yard_data rows)) (yard_table rows) (yard_page rows None)
shown view (container report lists told) =
    in_view view (container_text report) (compact_text (container_data report)) (container_text report)
    (container_page report lists told)
shown view (visits report) =
    in_view view (visits_text report) (compact_text (visits_data report)) (visits_table report) (visits_page report)
shown view (list report) =
    in_view view (list_text report) (compact_text (list_data report)) (list_table report) (list_page report)
shown view (work report) =
    in_view view (work_text report) (compact_text (work_data report)) (work_table report) (work_page report)
shown view (calls lists) =
    in_view view (lists_text lists) (compact_text (calls_data lists)) (calls_table lists) (calls_page lists)
shown view (partners report) =
    in_view view (rows_text report) (compact_text (partners_data report)) (partners_table report) (partners_page report)
shown view (partner row) =
    in_view view (row_line row) (compact_text (partner_data row)) (row_line row) (partner_page row)
shown view (blocks report) =
    in_view view (blocks_text report) (compact_text (blocks_data report)) (blocks_table report) (blocks_page report)
shown view (ticket report) =
    in_view view (told_text report) (compact_text (ticket_data report)) (told_text report) (ticket_page report)
shown view (taken code number reply) =
    text_or_page view (answer_text (codes "repeat") number code reply) (reply_page code number reply)
shown view (waiting code number next) = text_or_page view (waiting_text next number code) (waiting_page code number next)
shown view (contrl code number kept plain) = text_or_page view plain (contrl_page code number kept)
shown view (picture page) = text_or_page view page (picture_view page)
shown view (start terminal report) = office_page terminal report
shown view (block letter rows) = yard_page rows (Some letter)
shown view (expected named lists) = expected_page named lists
shown view (found typed stays code lists) = found_page typed stays code lists
shown view (text bytes) = bytes
