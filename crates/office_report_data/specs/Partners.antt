-- The report on the partners as JSON and as CSV.
use Rattle.std.specs.Prelude.{ℕ, List, [], ◌∷◌, codes, decimal}
use Rattle.serde_json.specs.Data.{Data, string, number, unsigned, object, member, no_members}
use Rattle.office_reports.specs.Partners.{PartnerRowContent, PartnersContent, WaitingContent}
use Rattle.office_report_data.specs.{Rows.rows_object, Tables.table_text, Words.{field_of, kind_word, or_null}}

abbrev pub waiting_data : WaitingContent → Data
waiting_data waiting =
    object (member (codes "count") (number (unsigned waiting.count)) (member (codes "first") (number (unsigned waiting.first))
    (member (codes "last") (number (unsigned waiting.last)) no_members)))

-- its next number is the one that is missing, if others wait for it
abbrev pub partner_data : PartnerRowContent → Data
partner_data row =
    object (member (codes "code") (string row.code) (member (codes "kind") (string (kind_word row.kind))
    (member (codes "next") (number (unsigned row.next)) (member (codes "waiting") (or_null waiting_data row.waiting) no_members))))

abbrev pub partners_data : PartnersContent → Data
partners_data report = rows_object partner_data report.rows

-- ---- as CSV

unfoldable pub partners_header : List (List ℕ)
partners_header =
    codes "code" ∷ codes "kind" ∷ codes "next" ∷ codes "waiting_count" ∷ codes "waiting_first" ∷ codes "waiting_last" ∷ []

abbrev pub partner_fields : PartnerRowContent → List (List ℕ)
partner_fields row =
    row.code ∷ kind_word row.kind ∷ decimal row.next ∷ field_of (λ waiting. decimal waiting.count) row.waiting
    ∷ field_of (λ waiting. decimal waiting.first) row.waiting ∷ field_of (λ waiting. decimal waiting.last) row.waiting ∷ []

abbrev pub partners_table : PartnersContent → List ℕ
partners_table report = table_text partners_header partner_fields report.rows
