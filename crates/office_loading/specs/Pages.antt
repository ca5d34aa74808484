-- A page of texts.
use Rattle.std.specs.Prelude.{◌≡◌, ◌≢◌, ◌==◌, ◌||◌, ◌⊎◌, ℕ, ◌+◌, ◌<◌, ◌≤◌, nat_lt, Bool, true, false, List, [], ◌∷◌, ◌++◌, length, flat_map, Option, Some, None}
use Rattle.sqlite.specs.{Order.{Row, column}, declared.types.Value.TheVariants.Blob}
use Rattle.office_loading.specs.{Texts.{AreTextsAfter, has_reached}, declared.page.TextsPage.TextsPage}
use Rattle.edi_syntax.specs.Bytes.{line_feed}

-- the most bytes that one page has, unless its first text has more (our own)
abbrev pub most_page_bytes : ℕ
most_page_bytes = 1048576

-- each text, an LF after it
abbrev pub lines_of : List (List ℕ) → List ℕ
lines_of texts = flat_map (λ text. text ++ line_feed ∷ []) texts

-- the page is not empty, and has no room for the next text, if there is one
abbrev pub IsFull : ℕ → List (List ℕ) → List (List ℕ) → Type 0
IsFull most page [] = Unit {0}
IsFull most page (next ∷ later) = (page ≢ []) × (most < length (lines_of (page ++ next ∷ [])))

-- the first of the texts, as many as have room with an LF each; one at least, if there is one
pub record IsPage (most : ℕ) (all page : List (List ℕ)) : Type 0 where
  pub later : List (List ℕ)
  pub front : all ≡ page ++ later
  pub fits : length page ≤ 1 ⊎ length (lines_of page) ≤ most
  pub full : IsFull most page later

-- these are the lines of a page of the texts after a number, and so many they are
pub record TellsPage (from most : ℕ) (stored : List Row) (lines : List ℕ) (count : ℕ) : Type 0 where
  pub all : List (List ℕ)
  pub after : AreTextsAfter from stored all
  pub page : List (List ℕ)
  pub is_page : IsPage most all page
  pub lines_are : lines ≡ lines_of page
  pub count_is : count ≡ length page

-- a page of the texts after a number, or none exactly if there are fewer than that
abbrev pub TellsTexts : ℕ → ℕ → List Row → Option TextsPage → Type 0
TellsTexts from most stored None = has_reached from stored ≡ false
TellsTexts from most stored (Some page) =
    (has_reached from stored ≡ true) × TellsPage from most stored page.lines.items page.count

-- the same of what is handed on: only the lines
abbrev pub TellsLines : ℕ → ℕ → List Row → Option (List ℕ) → Type 0
TellsLines from most stored None = has_reached from stored ≡ false
TellsLines from most stored (Some lines) =
    (has_reached from stored ≡ true) × (count : ℕ) × TellsPage from most stored lines count

-- ---- one text more

-- a text after these lines of so many: the first has room, and a later one that fits with its LF
abbrev pub has_room : ℕ → List ℕ → ℕ → List ℕ → Bool
has_room most lines count text = (count == 0) || nat_lt (length lines + length text) most

-- the text is added at the end
pub record Adds (text : List ℕ) (old new : TextsPage) : Type 0 where
  pub lines : new.lines.items ≡ old.lines.items ++ text ++ line_feed ∷ []
  pub count : new.count ≡ old.count + 1

-- a text that has room is added; else the page stays
abbrev pub TakesText : Bool → List ℕ → TextsPage → TextsPage → Type 0
TakesText true text old new = Adds text old new
TakesText false text old new = new ≡ old

pub record TakesRow (most : ℕ) (row : Row) (old new : TextsPage) (taken : Bool) : Type 0 where
  pub text : List ℕ
  pub is : column row 0 ≡ Blob text
  pub room : has_room most old.lines.items old.count text ≡ taken
  pub takes : TakesText taken text old new
