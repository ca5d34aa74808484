-- What archives tell of a number that is closed: its reply, its CONTRL and its ticket.
use Rattle.std.specs.{Prelude.{ℕ, List, Option, Some}, Option.{option_map, option_and_then}}
use Rattle.office_report_data.specs.Told.{ReportContent}
use Rattle.office_parts.specs.Archives.{Archive, archive_of, reply_by}
use Rattle.office_desk.specs.Reports.{contrl_told, ticket_of}
use Rattle.office_report_data.specs.Told as value

-- the reply that the number's archive keeps
abbrev pub closed_reply : List Archive → (code : List ℕ) → (partner number : ℕ) → Option ReportContent
closed_reply archives code partner number =
    option_map (value.taken code number) (reply_by archives partner number)

-- the CONTRL in it
abbrev pub closed_contrl : List Archive → (code : List ℕ) → (partner number : ℕ) → Option ReportContent
closed_contrl archives code partner number = contrl_told code number (reply_by archives partner number)

-- the ticket that the number's archive tells by its own rows
abbrev pub closed_ticket : List Archive → (code : List ℕ) → (partner number : ℕ) → Option ReportContent
closed_ticket archives code partner number =
    option_and_then
    (λ (archive : Archive). ticket_of archive.rows.visits archive.rows code number (Some partner))
    (archive_of archives partner number)
