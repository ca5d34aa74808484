-- What a command prints of a report.
use Rattle.std.specs.{Prelude.{◌≡◌, ◌⊎◌, ℕ, List, [], ◌∷◌, Option, None, Some, codes, eqb, if◌then◌else◌}, List.ends_with}
use Rattle.sqlite.specs.{Effect.Database, Recovery.Image, Tree.Trees}
use Rattle.edi_syntax.specs.Bytes.{line_feed}
use Rattle.terminal_core.specs.State.{TerminalState}
use Rattle.office_replies.specs.{Events.Event, StreamLines.line}
use Rattle.office_admission.specs.Setups.{SetupContent}
use Rattle.office_rows.specs.{Rows.Rows, Stored.HasRows, Tables.office_schema}
use Rattle.office_loading.specs.Tables.{Loads}
use Rattle.office_reports.specs.{Keys.{query_content, query_of}, declared.query.Query.Query, declared.query.ReportKind.ReportKind, declared.query.View.View}
use Rattle.office_desk.specs.Reports.{FindsAfter, TellsOf}
use Rattle.office_commands.specs.Opening.{BeginsAt, HoldsTables}

-- ---- the text and the status

-- a text in whole lines: an empty one has none
abbrev pub in_lines : List ℕ → List ℕ
in_lines [] = []
in_lines (b ∷ bs) = if ends_with eqb (b ∷ bs) (line_feed ∷ []) then b ∷ bs else line (b ∷ bs)

abbrev pub report_text : Option (List ℕ) → List ℕ
report_text None = codes "none\n"
report_text (Some text) = in_lines text

-- nothing to tell counts as a refusal
abbrev pub report_status : Option (List ℕ) → ℕ
report_status None = 1
report_status (Some text) = 0

-- What was found is printed, with its status.
pub record Reports (is_found : Option (List ℕ) → Type 0) (prints : List ℕ → (wanted status : ℕ) → Type 0)
    (status : ℕ) : Type 0 where
  pub found : Option (List ℕ)
  pub is : is_found found
  pub printed : prints (report_text found) (report_status found) status

-- ---- what is found

-- what is reported at the query that a key asks for, shown so; nothing, if it asks for none
abbrev pub TellsKey : (tells : Query → Option (List ℕ) → Type 0) → ReportKind → View → List ℕ → Option (List ℕ) → Type 0
TellsKey tells kind view key found =
    ((query_of kind view key ≡ None) × (found ≡ None))
    ⊎ ((query : Query) × (query_of kind view key ≡ Some (query_content query)) × tells query found)

abbrev pub office_database : Trees → Database
office_database db = record { schema = office_schema; trees = db }

-- what the rows of an office's tables tell, by the set-up and the terminal that they show
pub record TellsOver (db : Trees) (query : Query) (found : Option (List ℕ)) : Type 0 where
  pub content : SetupContent
  pub terminal : TerminalState
  pub loads : Loads (office_database db) content terminal
  pub tells : (rows : Rows) → HasRows rows (office_database db) → TellsOf content terminal rows query found

-- what the files' rows tell: those after some events what these led to, and those of any office what they are
pub record TellsHeld (image : Image) (kind : ReportKind) (view : View) (key : List ℕ) (found : Option (List ℕ)) : Type 0 where
  pub after : (content : SetupContent) (es : List Event) → BeginsAt image content es →
      TellsKey (FindsAfter content es) kind view key found
  pub office : (db : Trees) → HoldsTables image db → TellsKey (TellsOver db) kind view key found
