-- The report on a vessel's list as JSON and as CSV.
use Rattle.std.specs.Prelude.{ℕ, List, [], ◌∷◌, codes}
use Rattle.serde_json.specs.Data.{Data, string, object, member, no_members}
use Rattle.terminal_core.specs.State.{LineContent, side_code}
use Rattle.office_reports.specs.Lists.{ListContent}
use Rattle.office_report_data.specs.{Rows.rows_data, Tables.table_text, Words.{side_word, state_word, text_or_null}}

-- a line, under its container
abbrev pub listed_data : List ℕ × LineContent → Data
listed_data entry =
    object (member (codes "container") (string entry.0) (member (codes "port") (text_or_null entry.1.port)
    (member (codes "state") (string (state_word entry.1.state)) no_members)))

abbrev pub list_data : ListContent → Data
list_data report =
    object (member (codes "rows") (rows_data listed_data report.lines)
    (member (codes "side") (string (side_word (side_code report.side ∷ [])))
    (member (codes "vessel") (string report.call.vessel) (member (codes "voyage") (string report.call.voyage) no_members))))

-- ---- as CSV

abbrev pub list_header : List (List ℕ)
list_header = codes "container" ∷ codes "state" ∷ codes "port" ∷ []

abbrev pub listed_fields : List ℕ × LineContent → List (List ℕ)
listed_fields entry = entry.0 ∷ state_word entry.1.state ∷ entry.1.port ∷ []

abbrev pub list_table : ListContent → List ℕ
list_table report = table_text list_header listed_fields report.lines
