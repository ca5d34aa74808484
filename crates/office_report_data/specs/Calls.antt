-- The report on the vessels' lists as JSON and as CSV.
use Rattle.std.specs.Prelude.{ℕ, List, [], ◌∷◌, codes, decimal}
use Rattle.serde_json.specs.Data.{Data, null, string, number, unsigned, object, member, no_members}
use Rattle.terminal_core.specs.State.{LineKey}
use Rattle.office_reports.specs.declared.calls.ListCount.{ListCount}
use Rattle.office_report_data.specs.{Archives.{ToldContent, told_data}, Rows.rows_data, Tables.table_text, Words.side_word}

abbrev pub call_data : LineKey × ListCount → Data
call_data ((vessel ∷ voyage ∷ side ∷ []), count) =
    object (member (codes "done") (number (unsigned count.done)) (member (codes "open") (number (unsigned count.pending))
    (member (codes "side") (string (side_word side)) (member (codes "vessel") (string vessel)
    (member (codes "voyage") (string voyage) no_members)))))
call_data (other, count) = null

abbrev pub calls_object : List (LineKey × ListCount) → ToldContent
calls_object lists = record { key = codes "rows"; value = rows_data call_data lists; others = no_members }

abbrev pub calls_data : List (LineKey × ListCount) → Data
calls_data lists = told_data (calls_object lists)

-- ---- as CSV

unfoldable pub calls_header : List (List ℕ)
calls_header = codes "vessel" ∷ codes "voyage" ∷ codes "side" ∷ codes "open" ∷ codes "done" ∷ []

abbrev pub call_fields : LineKey × ListCount → List (List ℕ)
call_fields ((vessel ∷ voyage ∷ side ∷ []), count) =
    vessel ∷ voyage ∷ side_word side ∷ decimal count.pending ∷ decimal count.done ∷ []
call_fields (other, count) = []

abbrev pub calls_table : List (LineKey × ListCount) → List ℕ
calls_table lists = table_text calls_header call_fields lists
