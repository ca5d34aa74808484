-- Tables: what stands above one, the names of its columns, its rows; and a sentence in place of one that has no row.
use Rattle.std.specs.Prelude.{ℕ, ◌==◌, List, [], ◌∷◌, ◌++◌, codes, if◌then◌else◌}
use Rattle.office_pages.specs.Pieces.{Count, Markup, pieces_text}

-- a state or a name, how many rows the table has, and what else is to be said of them
abbrev pub section_head : (name : List ℕ) → (count : ℕ) → (more : List ℕ) → List ℕ
section_head name count more = pieces_text
    (Markup (codes "<section>\n<h2>") ∷ Markup name ∷ Markup (codes " <small>") ∷ Count count ∷ Markup more
    ∷ Markup (codes "</small></h2>\n") ∷ [])

abbrev pub no_rows : List ℕ → List ℕ
no_rows sentence =
    pieces_text (Markup (codes "<p class='fine'>") ∷ Markup sentence ∷ Markup (codes "</p>\n</section>\n") ∷ [])

abbrev pub table_head : List ℕ → List ℕ
table_head columns =
    pieces_text (Markup (codes "<table>\n<thead><tr>") ∷ Markup columns ∷ Markup (codes "</tr></thead>\n<tbody>\n") ∷ [])

abbrev pub table_end : List ℕ
table_end = pieces_text (Markup (codes "</tbody>\n</table>\n</section>\n") ∷ [])

abbrev pub table_of : ℕ → (columns rows sentence : List ℕ) → List ℕ
table_of count columns rows sentence =
    if count == 0 then no_rows sentence else table_head columns ++ rows ++ table_end
