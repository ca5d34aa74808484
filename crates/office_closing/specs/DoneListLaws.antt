-- What lists that are put away mean for a store and its archives.
use Rattle.std.specs.Prelude.{◌≡◌, ◌||◌, ℕ, Bool, true, false, List, IsPermutation, Some}
use Rattle.office_replies.specs.Events.{Event}
use Rattle.office_rows.specs.Rows.{ListingContent, Rows}
use Rattle.office_admission.specs.Setups.{SetupContent}
use Rattle.office_history.specs.After.{SaysSame, content_after}
use Rattle.office_parts.specs.{Away.{AreAway, lines_away}, Bringing.lines_of, OwnLists.{ListName, rows_without_lists}, Archives.Archive}
use Rattle.office_parts.specs.{Closing.{MayClose, carried}, Parts.{Archived, ArePartsAfter}}
use Rattle.office_closing.specs.Going.{MayGo}

-- these archives keep the lines of the list that stand in the rows, in some order
pub record KeepLines (archives : List Archive) (rows : Rows) (list : ListName) : Type 0 where
  pub kept : List ListingContent
  pub are : lines_away archives list ≡ Some kept
  pub same : IsPermutation (lines_of list rows) kept

-- Some lists may go. The archives that a store has then keep their lines, and of any other list what those before kept. Then
-- whichever of these lists are deleted, they are away too, by whatever set-up says the same as the opening one with the
-- accounts so far.
abbrev pub PutAwayListsAreAway : Type 0
PutAwayListsAreAway =
    (content setup : SetupContent) (es : List Event) (archives after : List Archive)
    (away goes deleted : ListName → Bool) (archived : Archived) (own whole : Rows) →
    ArePartsAfter content es archived own whole → AreAway archives away content es own →
    SaysSame setup (content_after content es) →
    ((list : ListName) → goes list ≡ true → MayGo setup (rows_without_lists away own) list) →
    ((list : ListName) → goes list ≡ true → KeepLines after (rows_without_lists away own) list) →
    ((list : ListName) → goes list ≡ false → lines_away after list ≡ lines_away archives list) →
    ((list : ListName) → deleted list ≡ true → goes list ≡ true)
    → AreAway after (λ (list : ListName). away list || deleted list) content es own

-- what is away stays away when numbers are closed and visits put away
abbrev pub AwayStaysWithClosing : Type 0
AwayStaysWithClosing =
    (content : SetupContent) (es : List Event) (archives : List Archive) (away : ListName → Bool)
    (archived : Archived) (own whole : Rows) (last_closed : ℕ → ℕ) (stays : ℕ → Bool) →
    ArePartsAfter content es archived own whole → MayClose content es archived own last_closed stays →
    AreAway archives away content es own
    → AreAway archives away content es (carried last_closed stays own)
