-- How many archives were not asked, on a page.
use Rattle.std.specs.Prelude.{ℕ, ◌==◌, List, [], ◌∷◌, codes, if◌then◌else◌}
use Rattle.office_pages.specs.Pieces.{Count, Markup, pieces_text}

unfoldable pub note_line : ℕ → List ℕ
note_line count = pieces_text
    (Markup (codes "<p class='note'>") ∷ Count count
    ∷ Markup (codes " archives were not asked: older visits may stand there.</p>\n") ∷ [])

-- nothing if there are none
abbrev pub archives_note : ℕ → List ℕ
archives_note count = if count == 0 then [] else note_line count
