-- The JSON of a reply: the text that is kept of an interchange.
use Rattle.std.specs.Prelude.{ℕ, List, Option, None, Some, map, string_bytes, codes}
use Rattle.serde_json.specs.{Data.{Data, array, object, number, unsigned, Members, member, no_members}, View.items_of, Written.compact_text}
use Rattle.edi_messages.specs.declared.message.MessageFault.{MessageFault}
use Rattle.office_replies.specs.{declared.message_report.LineReport.LineReport, declared.message_report.MessageReport.MessageReport, Names.message_fault_name}
use Rattle.office_replies.specs.{declared.message_report.MessageVerdict.MessageVerdict, Members.text_member, Lines.lines_from}
use Rattle.office_replies.specs.declared.message_report.MessageVerdict.TheVariants as verdict

-- what became of a message's lines, after how many lines were dropped, if it replaced a list; or why it gave no orders,
-- with the code of the error (0085)
pub data VerdictContent : Type 0 where
  accepted : Option ℕ → List LineReport → VerdictContent
  rejected : MessageFault → ℕ → VerdictContent

-- a message's reference, and what became of it
pub record ReportContent : Type 0 where
  pub reference : List ℕ
  pub verdict : VerdictContent

abbrev pub verdict_content : MessageVerdict → VerdictContent
verdict_content (verdict.Accepted dropped lines) = accepted dropped lines.items
verdict_content (verdict.Rejected rejection) = rejected rejection.fault rejection.code

abbrev pub report_content : MessageReport → ReportContent
report_content report = record { reference = string_bytes report.reference; verdict = verdict_content report.verdict }

-- the members that each message has that is accepted
abbrev pub common_members : List ℕ → List LineReport → Members
common_members reference lines =
    member (codes "lines") (array (items_of (lines_from 1 lines)))
    (text_member (codes "reference") reference (text_member (codes "result") (codes "accepted") no_members))

abbrev pub accepted_members : List ℕ → Option ℕ → List LineReport → Members
accepted_members reference None lines = common_members reference lines
accepted_members reference (Some count) lines =
    member (codes "dropped") (number (unsigned count)) (common_members reference lines)

-- of a message that is rejected for a fault of that name
abbrev pub rejected_members : List ℕ → List ℕ → Members
rejected_members reference fault =
    text_member (codes "fault") fault
    (text_member (codes "reference") reference (text_member (codes "result") (codes "rejected") no_members))

abbrev pub verdict_data : List ℕ → VerdictContent → Data
verdict_data reference (accepted dropped lines) = object (accepted_members reference dropped lines)
verdict_data reference (rejected fault code) = object (rejected_members reference (message_fault_name fault))

abbrev pub report_data : ReportContent → Data
report_data report = verdict_data report.reference report.verdict

abbrev pub message_data : MessageReport → Data
message_data report = report_data (report_content report)

abbrev pub messages_data : List MessageReport → Data
messages_data reports = array (items_of (map report_data (map report_content reports)))

abbrev pub reply_data : List ℕ → List ReportContent → Data
reply_data contrl reports =
    object (text_member (codes "contrl") contrl
    (member (codes "messages") (array (items_of (map report_data reports))) no_members))

-- the text of a reply, as it is kept
unfoldable pub reply_content_text : List ℕ → List ReportContent → List ℕ
reply_content_text contrl reports = compact_text (reply_data contrl reports)

abbrev pub reply_text : List ℕ → List MessageReport → List ℕ
reply_text contrl reports = reply_content_text contrl (map report_content reports)
