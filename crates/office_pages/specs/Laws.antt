-- What the definitions of the pages mean together.
use Rattle.std.specs.Prelude.{◌≡◌, ℕ, List, ◌∷◌, ◌++◌}
use Rattle.office_reports.specs.Markup.{Between, place_after_all, tags}
use Rattle.office_pages.specs.Pieces.{PieceContent, Text, pieces_text}

-- whatever a text is that stands between tags, a page with it has the same tags
abbrev pub TextsBringNoMarkup : Type 0
TextsBringNoMarkup = (front back : List PieceContent) (one other : List ℕ) →
    place_after_all Between (pieces_text front) ≡ Between →
    tags Between (pieces_text (front ++ Text one ∷ back)) ≡ tags Between (pieces_text (front ++ Text other ∷ back))
