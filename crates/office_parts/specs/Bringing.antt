-- A list is brought back: its lines stand in the store again, after those that stand there.
use Rattle.std.specs.{Prelude.{◌≡◌, Bool, true, not, ◌&&◌, ◌||◌, List, filter, IsPermutation}, Ordering.{nat_cmp, eq_by_cmp}, Cmp.Lexicographic.slice_cmp}
use Rattle.office_history.specs.After.{AreAfter}
use Rattle.office_parts.specs.{Parts.{Archived, ArePartsAfter}, OwnLists.{ListName, list_name, rows_without_lists}}
use Rattle.office_replies.specs.Events.{Event}
use Rattle.office_rows.specs.{Opening.with_lines, Rows.{ListingContent, Rows}}
use Rattle.office_admission.specs.Setups.{SetupContent}

abbrev pub is_list : ListName → ListName → Bool
is_list list other = eq_by_cmp (slice_cmp (slice_cmp nat_cmp)) list other

-- all that were put away but this one
abbrev pub all_but : ListName → (away : ListName → Bool) → ListName → Bool
all_but list away other = away other && not (is_list list other)

abbrev pub is_of : ListName → ListingContent → Bool
is_of list line = is_list list (list_name line.call line.side)

-- the lines of the list, as they stand
abbrev pub lines_of : ListName → Rows → List ListingContent
lines_of list rows = filter (is_of list) rows.lines

-- Rows that are as these but for the order of their lines, of which with one list less put away the store has its own and
-- those that were brought back.
pub record BringsBack (content : SetupContent) (es : List Event) (archived : Archived) (away : ListName → Bool)
    (list : ListName) (back : List ListingContent) (own : Rows) : Type 0 where
  pub most : Rows
  pub whole : Rows
  pub parts : ArePartsAfter content es archived most whole
  pub is_own : rows_without_lists (all_but list away) most ≡ with_lines back (rows_without_lists away own)
  pub but_lines : most ≡ record own { lines = most.lines }
  pub same : IsPermutation own.lines most.lines

-- ---- the laws

-- lines may stand in any order
abbrev pub LinesStandInAnyOrder : Type 0
LinesStandInAnyOrder =
    (content : SetupContent) (es : List Event) (rows : Rows) (lines : List ListingContent) → AreAfter content es rows →
    IsPermutation rows.lines lines
    → AreAfter content es (record rows { lines = lines })

-- a list that was put away is brought back by its lines, in whatever order
abbrev pub ListsAreBroughtBack : Type 0
ListsAreBroughtBack =
    (content : SetupContent) (es : List Event) (archived : Archived) (own whole : Rows) (away : ListName → Bool)
    (list : ListName) (back : List ListingContent) → ArePartsAfter content es archived own whole → away list ≡ true →
    IsPermutation (lines_of list own) back
    → BringsBack content es archived away list back own

-- to put more lists away is to take their lines out of those that stand there
abbrev pub MoreListsArePutAway : Type 0
MoreListsArePutAway =
    (away more : ListName → Bool) (rows : Rows)
    → rows_without_lists more (rows_without_lists away rows)
    ≡ rows_without_lists (λ (list : ListName). away list || more list) rows
