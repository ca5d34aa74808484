-- The CONTRL of a reply on pages, a segment on each line.
use Rattle.std.specs.Prelude.{ℕ, ◌==◌, ◌&&◌, Bool, false, not, List, [], ◌∷◌, ◌++◌, codes, if◌then◌else◌, Option, None, Some}
use Rattle.serde_json.specs.{Data.Data, Read.read}
use Rattle.office_reports.specs.Fields.{field_text}
use Rattle.office_pages.specs.{Fixed.foot, Frame.page_top, Pieces.{Digits, Markup, Part, Text, pieces_text}, ReplyValues.text_in}

-- an LF after the end of a segment, which no release character stands before
abbrev pub line_end : (is_released : Bool) → ℕ → List ℕ
line_end is_released c = if c == 39 && not is_released then codes "\n" else []

-- a text with an LF after each of these; a byte after a release character stands for itself (ISO 9735)
abbrev pub segment_lines : (is_released : Bool) → List ℕ → List ℕ
segment_lines is_released [] = []
segment_lines is_released (c ∷ text) =
    c ∷ line_end is_released c ++ segment_lines (c == 63 && not is_released) text

abbrev pub contrl_section : List ℕ → List ℕ
contrl_section contrl =
    pieces_text (Markup (codes "<section>\n<h2>CONTRL</h2>\n<pre>\n") ∷ []) ++ field_text (segment_lines false contrl)
    ++ pieces_text (Markup (codes "</pre>\n</section>\n") ∷ [])

-- ---- its page

abbrev pub contrl_top : (partner : List ℕ) → (number : ℕ) → List ℕ
contrl_top partner number =
    page_top [] false (Markup (codes "CONTRL to ") ∷ Text partner ∷ Markup (codes " ") ∷ Digits number ∷ [])

abbrev pub contrl_head : (partner : List ℕ) → (number : ℕ) → List ℕ
contrl_head partner number = pieces_text
    (Markup (codes "<h1><small>CONTRL to</small> ") ∷ Text partner ∷ Markup (codes " ") ∷ Digits number
    ∷ Markup (codes "</h1>\n<p class='beside'>\n<a href='/pages/tickets/") ∷ Part partner ∷ Markup (codes "/") ∷ Digits number
    ∷ Markup (codes "'>What it did</a>\n<a href='/pages/replies/") ∷ Part partner ∷ Markup (codes "/") ∷ Digits number
    ∷ Markup (codes "'>Reply</a>\n<a href='/pages/partners/") ∷ Part partner ∷ Markup (codes "'>Partner</a>\n</p>\n") ∷ [])

abbrev pub contrl_view : Option Data → List ℕ
contrl_view None = []
contrl_view (Some reply) = contrl_section (text_in (codes "contrl") reply)

abbrev pub contrl_page : (partner : List ℕ) → (number : ℕ) → (reply : List ℕ) → List ℕ
contrl_page partner number reply =
    contrl_top partner number ++ contrl_head partner number ++ contrl_view (read reply) ++ foot
