-- A vessel's list that is done, as a text: of each line its container's number, its port, if it has one, and a line feed.
-- Neither the vessel, nor the voyage, nor the side is in the text.
use Rattle.std.specs.{Prelude.{◌≡◌, ℕ, List, [], ◌∷◌, ◌++◌, IsTrue}, List.{flat_map, AllByRecursion}}
use Rattle.box6346.specs.NumberText.{is_number}
use Rattle.edi_syntax.specs.Bytes.{line_feed}
use Rattle.edi_messages.specs.Purposes.{CallContent}
use Rattle.terminal_core.specs.{Forms.IsFormedPort, declared.lines.LineState.TheVariants.Done, declared.lines.Side.Side}
use Rattle.office_rows.specs.Rows.{ListingContent}

-- ---- the text

abbrev pub line_text : ListingContent → List ℕ
line_text line = line.container ++ line.port ++ line_feed ∷ []

abbrev pub lines_text : List ListingContent → List ℕ
lines_text lines = flat_map line_text lines

-- ---- whose text it is

-- a line of that list that is done, its container and its port in their forms
pub record IsOfList (call : CallContent) (side : Side) (line : ListingContent) : Type 0 where
  pub of_call : line.call ≡ call
  pub of_side : line.side ≡ side
  pub is_done : line.state ≡ Done
  pub container_formed : IsTrue (is_number line.container)
  pub port_formed : IsFormedPort side line.port

-- the text is that of such a line, without its line feed
abbrev pub IsLineOf : CallContent → Side → (text : List ℕ) → ListingContent → Type 0
IsLineOf call side text line = (text ≡ line.container ++ line.port) × IsOfList call side line

-- the text is that of these lines, each of them of the list
abbrev pub IsTextOf : CallContent → Side → (text : List ℕ) → List ListingContent → Type 0
IsTextOf call side text lines = (text ≡ lines_text lines) × AllByRecursion (IsOfList call side) lines

-- ---- the law

-- a text is that of one list of lines at most
abbrev pub OneTextOneList : Type 0
OneTextOneList =
    (call : CallContent) (side : Side) (text : List ℕ) (a b : List ListingContent) →
    IsTextOf call side text a → IsTextOf call side text b → a ≡ b
