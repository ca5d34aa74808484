-- The page of the partners: those first whose number is missing.
use Rattle.std.specs.Prelude.{ℕ, ◌-◌, ◌==◌, true, List, [], ◌∷◌, ◌++◌, codes, count_by, is_none, is_some, if◌then◌else◌, Bool, Option, None, Some}
use Rattle.std.specs.List.{flat_map}
use Rattle.edi_messages.specs.{declared.codes.PartnerKind.PartnerKind, declared.codes.PartnerKind.TheVariants.{Gate, Line, Quay, Yard}}
use Rattle.office_reports.specs.Partners.{PartnerRowContent, PartnersContent, WaitingContent}
use Rattle.office_pages.specs.{Fixed.foot, Frame.page_top, Pieces.{Count, Digits, Markup, Part, Reply, Text, pieces_text}, Tables.table_of}

abbrev pub kind_word : PartnerKind → List ℕ
kind_word Gate = codes "gate"
kind_word Line = codes "line"
kind_word Quay = codes "quay"
kind_word Yard = codes "yard"

abbrev pub is_waiting : PartnerRowContent → Bool
is_waiting row = is_some row.waiting

abbrev pub is_expected : PartnerRowContent → Bool
is_expected row = is_none row.waiting

-- ---- rows

-- the code, with a link to the partner, and what it is
abbrev pub partner_cells : (code kind : List ℕ) → List ℕ
partner_cells code kind = pieces_text
    (Markup (codes "<tr><th><a href='/pages/partners/") ∷ Part code ∷ Markup (codes "'>") ∷ Text code
    ∷ Markup (codes "</a></th><td>") ∷ Markup kind ∷ Markup (codes "</td><td class='n'>") ∷ [])

-- the number that is missing, how many wait for it, and the least and the greatest of their numbers
abbrev pub missing_cells : ℕ → WaitingContent → List ℕ
missing_cells next waiting = pieces_text
    (Markup (codes "<b class='s wait'>") ∷ Digits next ∷ Markup (codes "</b></td><td class='n'>") ∷ Count waiting.count
    ∷ Markup (codes "</td><td>") ∷ Digits waiting.first ∷ Markup (codes " to ") ∷ Digits waiting.last
    ∷ Markup (codes "</td></tr>\n") ∷ [])

abbrev pub waiting_row_by : PartnerRowContent → Option WaitingContent → List ℕ
waiting_row_by row None = []
waiting_row_by row (Some waiting) = partner_cells row.code (kind_word row.kind) ++ missing_cells row.next waiting

-- that of a partner whose number is missing
abbrev pub waiting_row : PartnerRowContent → List ℕ
waiting_row row = waiting_row_by row row.waiting

-- the number that is expected, and the reply to the one before it, if there is one
abbrev pub next_cells : List ℕ → ℕ → List ℕ
next_cells code next =
    if next == 1 then pieces_text (Markup (codes "1</td><td><span class='note'>none yet</span></td></tr>\n") ∷ [])
    else pieces_text (Digits next ∷ Markup (codes "</td><td>") ∷ Reply code (next - 1) ∷ Markup (codes "</td></tr>\n") ∷ [])

abbrev pub expected_row_by : PartnerRowContent → Option WaitingContent → List ℕ
expected_row_by row None = partner_cells row.code (kind_word row.kind) ++ next_cells row.code row.next
expected_row_by row (Some waiting) = []

-- that of one of whom nothing waits
abbrev pub expected_row : PartnerRowContent → List ℕ
expected_row row = expected_row_by row row.waiting

-- ---- tables

-- how many partners there are, and how many of their interchanges wait
abbrev pub waiting_head : (partners waiting : ℕ) → List ℕ
waiting_head partners waiting = pieces_text
    (Markup (codes "<h1>Partners</h1>\n<section>\n<h2>Wait for a missing number <small>") ∷ Count partners
    ∷ Markup (codes " partners, ") ∷ Count waiting ∷ Markup (codes " interchanges</small></h2>\n") ∷ [])

abbrev pub expected_head : ℕ → List ℕ
expected_head partners = pieces_text
    (Markup (codes "<section>\n<h2>Nothing waits <small>") ∷ Count partners ∷ Markup (codes " partners</small></h2>\n") ∷ [])

unfoldable pub waiting_columns : List ℕ
waiting_columns =
    codes "<th>Partner</th><th>Kind</th><th class='n'>Missing</th><th class='n'>Wait</th><th>Numbers that wait</th>"

unfoldable pub expected_columns : List ℕ
expected_columns = codes "<th>Partner</th><th>Kind</th><th class='n'>Next number</th><th>Last reply</th>"

abbrev pub waiting_section : PartnersContent → List ℕ
waiting_section report =
    waiting_head (count_by is_waiting report.rows) report.waiting
    ++ table_of (count_by is_waiting report.rows) waiting_columns (flat_map waiting_row report.rows) (codes "Nothing waits.")

abbrev pub expected_section : PartnersContent → List ℕ
expected_section report =
    expected_head (count_by is_expected report.rows)
    ++ table_of (count_by is_expected report.rows) expected_columns (flat_map expected_row report.rows)
    (codes "Something waits of each partner.")

abbrev pub partners_page : PartnersContent → List ℕ
partners_page report =
    page_top (codes "/pages/partners") true (Markup (codes "Partners") ∷ []) ++ waiting_section report
    ++ expected_section report ++ foot
