-- What writing the texts of one file leaves.
use Rattle.std.specs.{Prelude.{◌≡◌, ℕ, ◌-◌, Bool, true, false, List, [], ◌∷◌, ◌++◌, map, drop, length, Option, None, Some}, Io.KnownBytes.Appends}
use Rattle.sqlite.specs.{declared.types.Value.TheVariants.Blob, Order.{Row, column}}
use Rattle.office_rows.specs.{Tables.interchange_table, Rows.Interchange, Values.{number_value, interchange_values}, Stored.columns_of}
use Rattle.office_loading.specs.Pages.{lines_of}
use Rattle.office_parts.specs.ArchiveJournal.{texts_beyond, texts_added, carried_on}
use Rattle.office_archives.specs.{declared.passing.Rest.Rest, declared.passing.Passing.Passing}

-- the interchanges stand in the table in this order
abbrev pub StandInOrder : List Interchange → (stored : List Row) → Type 0
StandInOrder interchanges stored = map interchange_values interchanges ≡ map (columns_of interchange_table) stored

-- what is written of a file: what it adds to the journal, without the first, which are still to be passed over
abbrev pub texts_written : (before : ℕ → ℕ) → Rest → List Interchange → List (List ℕ)
texts_written before rest interchanges = drop rest.from (texts_added before rest.carried interchanges)

-- the texts of a file were written, an LF after each, and this is left for the next one
pub record PartIsWritten (before after : ℕ → ℕ) (rest : Rest) (interchanges : List Interchange) (old new : Option (List ℕ))
    (left : Rest) : Type 0 where
  pub from : left.from ≡ rest.from - length (texts_added before rest.carried interchanges)
  pub carried : left.carried ≡ carried_on before after interchanges
  pub appended : Appends old new (lines_of (texts_written before rest interchanges))

-- the same, or the writer failed; then nothing is said of what is written
abbrev pub WritesPart : (before after : ℕ → ℕ) → Rest → List Interchange → (old new : Option (List ℕ)) →
    Option Rest → Type 0
WritesPart before after rest interchanges old new None = Unit {0}
WritesPart before after rest interchanges old new (Some left) =
    PartIsWritten before after rest interchanges old new left

-- the writer has failed exactly if nothing is told, and not before
abbrev pub LeavesPort : Bool → Bool → Option Rest → Type 0
LeavesPort failed failed' None = failed' ≡ true
LeavesPort failed failed' (Some left) = failed' ≡ failed

-- ---- while the rows are read

-- the row of the query shows the body, the partner and the number of an interchange
pub record ShowsInterchange (row : Row) (i : Interchange) : Type 0 where
  pub body : column row 0 ≡ Blob i.body
  pub partner : column row 1 ≡ number_value i.partner
  pub number : column row 2 ≡ number_value i.number

-- the counts after these interchanges of a file
pub record AreCounted (before after : ℕ → ℕ) (rest : Rest) (interchanges : List Interchange) (passing : Passing)
    : Type 0 where
  pub carried : passing.rest.carried ≡ rest.carried - length (texts_beyond before interchanges)
  pub from : passing.rest.from ≡ rest.from - length (texts_added before rest.carried interchanges)
  pub found : passing.found ≡ carried_on before after interchanges

-- the text that is written of one interchange, or none
abbrev pub text_if : Bool → Interchange → List (List ℕ)
text_if true i = i.body ∷ []
text_if false i = []

-- Whatever came before it, an interchange of that number is counted; and just if so told its text comes next of those that
-- are written.
abbrev pub TakesNext : (before after : ℕ → ℕ) → (partner number : ℕ) → Passing → Passing → (told : Bool) → Type 0
TakesNext before after partner number old new told =
    (rest : Rest) (earlier : List Interchange) (i : Interchange) → i.partner ≡ partner → i.number ≡ number
    → AreCounted before after rest earlier old
    → AreCounted before after rest (earlier ++ i ∷ []) new
    × (texts_written before rest (earlier ++ i ∷ []) ≡ texts_written before rest earlier ++ text_if told i)

-- these interchanges are counted, and what is to be written of them is written
pub record AreDone (before after : ℕ → ℕ) (rest : Rest) (interchanges : List Interchange) (first now : Option (List ℕ))
    (passing : Passing) : Type 0 where
  pub counted : AreCounted before after rest interchanges passing
  pub appended : Appends first now (lines_of (texts_written before rest interchanges))

-- whatever was done before it, the interchange that a row shows is done with it; or the writer failed
abbrev pub PassesRow : (before after : ℕ → ℕ) → Row → Passing → Passing → (old new : Option (List ℕ)) →
    (failed failed' : Bool) → (taken : Bool) → Type 0
PassesRow before after row was passing old new failed failed' true =
    (failed' ≡ failed)
    × ((rest : Rest) (first : Option (List ℕ)) (earlier : List Interchange) (i : Interchange) → ShowsInterchange row i
    → AreDone before after rest earlier first old was
    → AreDone before after rest (earlier ++ i ∷ []) first new passing)
PassesRow before after row was passing old new failed failed' false = failed' ≡ true
