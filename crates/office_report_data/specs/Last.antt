-- The report on the interchanges that came last as JSON and as CSV.
use Rattle.std.specs.Prelude.{ℕ, List, [], ◌∷◌, codes, decimal}
use Rattle.edi_messages.specs.declared.order.OrderKind.{OrderKind}
use Rattle.serde_json.specs.Data.{Data, string, number, unsigned, object, member, no_members}
use Rattle.office_reports.specs.{InterchangeLines.kind_name, Last.{LastRowContent, SettledContent}, Names.phrase}
use Rattle.office_report_data.specs.{Rows.{rows_data, rows_object}, Tables.table_text, Words.{field_of, or_null}}

abbrev pub kind_data : OrderKind → Data
kind_data kind = string (kind_name kind)

abbrev pub settled_data : SettledContent → Data
settled_data settled =
    object (member (codes "done") (number (unsigned settled.done)) (member (codes "reasons") (rows_data string settled.reasons)
    (member (codes "refused") (number (unsigned settled.refused))
    (member (codes "rejected") (number (unsigned settled.rejected)) no_members))))

-- what became of it is null as long as it waits
abbrev pub last_row_data : LastRowContent → Data
last_row_data row =
    object (member (codes "kind") (or_null kind_data row.kind) (member (codes "number") (number (unsigned row.number))
    (member (codes "partner") (string row.code) (member (codes "settled") (or_null settled_data row.settled) no_members))))

abbrev pub last_data : List LastRowContent → Data
last_data rows = rows_object last_row_data rows

-- ---- as CSV

unfoldable pub last_header : List (List ℕ)
last_header =
    codes "partner" ∷ codes "number" ∷ codes "kind" ∷ codes "done" ∷ codes "refused" ∷ codes "rejected" ∷ codes "reasons" ∷ []

-- the reasons with a space between each two
abbrev pub last_fields : LastRowContent → List (List ℕ)
last_fields row =
    row.code ∷ decimal row.number ∷ field_of kind_name row.kind
    ∷ field_of (λ (settled : SettledContent). decimal settled.done) row.settled
    ∷ field_of (λ (settled : SettledContent). decimal settled.refused) row.settled
    ∷ field_of (λ (settled : SettledContent). decimal settled.rejected) row.settled
    ∷ field_of (λ (settled : SettledContent). phrase settled.reasons) row.settled ∷ []

abbrev pub last_table : List LastRowContent → List ℕ
last_table rows = table_text last_header last_fields rows
