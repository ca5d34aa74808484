-- What the archives of a store keep: under a number, and as the stores that they were.
use Rattle.std.specs.{Prelude.{◌≡◌, ◌⊎◌, ℕ, ◌<◌, ◌≤◌, List, Option, None, Some, is_some, string_bytes, true}, Option.option_map}
use Rattle.sqlite.specs.Effect.{Database}
use Rattle.terminal_core.specs.State.{TerminalState}
use Rattle.office_rows.specs.{Rows.Rows, Stored.HasRows}
use Rattle.office_admission.specs.Setups.{SetupContent}
use Rattle.office_loading.specs.{Closed.ClosedContent, Tables.LoadsOwn}
use Rattle.office_history.specs.After.{reply_in}
use Rattle.office_reports.specs.{declared.query.About.About, declared.query.Query.Query, declared.query.View.View, Tickets.ticket_of}
use Rattle.office_report_data.specs.Told.{ReportContent, shown}
use Rattle.office_desk.specs.Reports.{Shows, TellsAbout}
use Rattle.office_tables.specs.declared.interchanges.Kept.{Kept}
use Rattle.office_parts.specs.Archives.{Archive, archive_of, text_by, reply_by}
use Rattle.office_archives.specs.Shelves.{archive_at}
use Rattle.office_report_data.specs.Told as value

-- the number is closed: it is one, from 1, and one of the archives reaches it
abbrev pub IsClosedIn : List Archive → ℕ → ℕ → Type 0
IsClosedIn archives partner number = (1 ≤ number) × (is_some (archive_of archives partner number) ≡ true)

-- it is the text and the reply that the number's archive keeps
pub record IsKeptIn (archives : List Archive) (partner number : ℕ) (kept : Kept) : Type 0 where
  pub text : text_by archives partner number ≡ Some kept.text.items
  pub reply : reply_by archives partner number ≡ option_map string_bytes kept.reply

-- The ticket of an interchange that was taken, of the partner with a code, shown so: by the terminal of a store that has these
-- rows, whatever is closed of it.
pub record IsTicketOf (rows : Rows) (code : List ℕ) (partner number : ℕ) (view : View) (ticket : List ℕ) : Type 0 where
  pub db : Database
  pub has : HasRows rows db
  pub closed : ClosedContent
  pub content : SetupContent
  pub terminal : TerminalState
  pub loads : LoadsOwn closed db content terminal
  pub taken : is_some (reply_in rows partner number) ≡ true
  pub tells : ticket
      ≡ shown view (value.ticket (ticket_of code (record { partner = partner; number = number }) terminal.visits))

-- it is the one that the number's archive tells, as the store that it was
abbrev pub IsTicketIn : List Archive → (code : List ℕ) → (partner number : ℕ) → View → (ticket : List ℕ) → Type 0
IsTicketIn archives code partner number view ticket =
    1 ≤ number → (archive : Archive) → archive_of archives partner number ≡ Some archive →
    IsTicketOf archive.rows code partner number view ticket

-- ---- an archive as the store that it was

-- what a store that has these rows tells of it, whatever is closed of it
pub record IsValueOf (rows : Rows) (asked : About) (told : Option ReportContent) : Type 0 where
  pub db : Database
  pub has : HasRows rows db
  pub closed : ClosedContent
  pub content : SetupContent
  pub terminal : TerminalState
  pub loads : LoadsOwn closed db content terminal
  pub tells : TellsAbout content terminal rows asked told

-- what it reports at a query
abbrev pub IsReportOf : Rows → Query → Option (List ℕ) → Type 0
IsReportOf rows asked found = Shows (IsValueOf rows asked.about) asked.view found

-- it is what the archive at that place tells, as the store that it was
abbrev pub IsReportIn : List Archive → (place : ℕ) → Query → Option (List ℕ) → Type 0
IsReportIn archives place asked found =
    (archive : Archive) → archive_at archives place ≡ Some archive → IsReportOf archive.rows asked found

-- the number is closed, and an archive before that place keeps it
pub record IsClosedBefore (archives : List Archive) (place partner number : ℕ) : Type 0 where
  pub closed : IsClosedIn archives partner number
  pub earlier : ℕ
  pub before : earlier < place
  pub keeps : archive_of archives partner number ≡ archive_at archives earlier

-- the archive at that place keeps the number, or one at a later place does
pub record IsKeptFrom (archives : List Archive) (place partner number : ℕ) : Type 0 where
  pub later : ℕ
  pub from : place ≤ later
  pub keeps : archive_of archives partner number ≡ archive_at archives later

-- the number was not closed before the archive at that place was: none keeps it, or one from that place on does
abbrev pub IsNotClosedBefore : List Archive → (place partner number : ℕ) → Type 0
IsNotClosedBefore archives place partner number =
    (archive_of archives partner number ≡ None) ⊎ IsKeptFrom archives place partner number
