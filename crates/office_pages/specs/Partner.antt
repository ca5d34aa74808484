-- The page of a partner: what it is, which number is expected of it, and its last interchanges.
use Rattle.std.specs.{Prelude.{ℕ, ◌-◌, ◌==◌, false, List, [], ◌∷◌, ◌++◌, codes, min, if◌then◌else◌, Option, None, Some}, List.{flat_map, range_with_len}}
use Rattle.office_reports.specs.Partners.{PartnerRowContent, WaitingContent}
use Rattle.office_pages.specs.{Fixed.foot, Frame.page_top, Partners.kind_word, Pieces.{Count, Digits, Markup, Reply, Text, pieces_text}}

abbrev pub partner_top : List ℕ → List ℕ
partner_top code = page_top [] false (Markup (codes "Partner ") ∷ Text code ∷ [])

abbrev pub partner_heading : (code kind : List ℕ) → List ℕ
partner_heading code kind = pieces_text
    (Markup (codes "<h1><small>Partner</small> ") ∷ Text code ∷ Markup (codes "</h1>\n<section>\n<dl>\n<dt>Kind</dt><dd>")
    ∷ Markup kind ∷ Markup (codes "</dd>\n") ∷ [])

-- the number that is expected, or that is missing and what waits for it
abbrev pub expected_fact : ℕ → Option WaitingContent → List ℕ
expected_fact next None = pieces_text
    (Markup (codes "<dt>Next number</dt><dd>") ∷ Digits next ∷ Markup (codes "</dd>\n</dl>\n</section>\n") ∷ [])
expected_fact next (Some waiting) = pieces_text
    (Markup (codes "<dt>Missing</dt><dd><b class='s wait'>") ∷ Digits next ∷ Markup (codes "</b></dd>\n<dt>Wait</dt><dd>")
    ∷ Count waiting.count ∷ Markup (codes ", ") ∷ Digits waiting.first ∷ Markup (codes " to ") ∷ Digits waiting.last
    ∷ Markup (codes "</dd>\n</dl>\n</section>\n") ∷ [])

-- at most so many
abbrev pub most_last : ℕ
most_last = 20

abbrev pub last_reply : List ℕ → ℕ → List ℕ
last_reply code number = pieces_text (Reply code number ∷ Markup (codes "\n") ∷ [])

-- the replies to the numbers before the next, the last first
abbrev pub last_replies : List ℕ → ℕ → List ℕ
last_replies code next =
    flat_map (λ back. last_reply code (next - 1 - back)) (range_with_len 0 (min most_last (next - 1)))

abbrev pub last_section : List ℕ → ℕ → List ℕ
last_section code next =
    pieces_text (Markup (codes "<section>\n<h2>Last interchanges</h2>\n<p>\n") ∷ []) ++ last_replies code next
    ++ pieces_text (Markup (codes "</p>\n</section>\n") ∷ [])

abbrev pub no_last : List ℕ
no_last = pieces_text
    (Markup (codes "<section>\n<h2>Last interchanges</h2>\n<p class='fine'>It has sent none that was taken.</p>\n</section>\n") ∷ [])

abbrev pub last_view : List ℕ → ℕ → List ℕ
last_view code next = if next == 1 then no_last else last_section code next

abbrev pub partner_page : PartnerRowContent → List ℕ
partner_page row =
    partner_top row.code ++ partner_heading row.code (kind_word row.kind) ++ expected_fact row.next row.waiting
    ++ last_view row.code row.next ++ foot
