-- What lists that a closing puts away mean for a store and its archives.
use Rattle.std.specs.Prelude.{◌≡◌, ◌⊎◌, ◌||◌, ◌<◌, ◌++◌, ◌∷◌, [], ℕ, Bool, true, false, Contains, filter, List, None, Some}
use Rattle.office_replies.specs.Events.{Event}
use Rattle.office_rows.specs.Rows.{Interchange, ListingContent, Rows}
use Rattle.office_admission.specs.{Given.IsGiven, Setups.SetupContent}
use Rattle.office_closing.specs.{Texts.IsTextOf, Going.name_of, Changes.unmarked, Lists.SettledListContent, Copies.FileNames, Deleting.is_one_of}
use Rattle.office_closing.specs.Register.{RegisterContent, last_closed, newest_visit}
use Rattle.office_closing.specs.Closes.{AreOrderly, Closing, Held, IsClosing, IsLeft, PutsAway, closed_after, raised_register}
use Rattle.office_parts.specs.{Away.AreAway, OwnLists.{ListName, rows_without_lists}, Archives.{Archive, Hold}, Closing.is_closed, LeftOver.rows_beyond}
use Rattle.office_parts.specs.Parts.{Archived, ArePartsAfter}

-- ---- where a store stands

-- A store has these rows and this register beside its archives after the events. The archives hold what is closed, which the
-- register tells. Beyond it the rows are the store's own without the lists that are away, and the archives hold each closed
-- interchange that still stands among them.
pub record Stands (content : SetupContent) (es : List Event) (archives : List Archive) (rows : Rows)
    (register : RegisterContent) : Type 0 where
  pub given : IsGiven content
  pub archived : Archived
  pub own : Rows
  pub whole : Rows
  pub parts : ArePartsAfter content es archived own whole
  pub hold : Hold archives archived
  pub closed : (partner : ℕ) → last_closed register.segments partner ≡ archived.last_closed partner
  pub visits : (number : ℕ) → newest_visit register.archives < number → archived.stays number ≡ true
  pub away : ListName → Bool
  pub lists : AreAway archives away content es own
  pub beyond : rows_beyond archived.last_closed rows ≡ rows_without_lists away own
  pub rest : (i : Interchange) → Contains (filter (is_closed archived.last_closed) rows.interchanges) i →
      Contains archived.interchanges i

-- ---- the archive

-- the archive has the lines of the list, of which this is the text
pub record HasLines (one : Archive) (list : SettledListContent) : Type 0 where
  pub lines : List ListingContent
  pub are : one.lists (name_of list) ≡ Some lines
  pub is_text : IsTextOf list.call list.side list.lines lines

-- it has these lists and no other
pub record HasLists (one : Archive) (lists : List SettledListContent) : Type 0 where
  pub each : (list : SettledListContent) → Contains lists list → HasLines one list
  pub only : (list : ListName) → is_one_of lists list ≡ false → one.lists list ≡ None

-- The archives that the store's register names once it has the copy, which closes what is closed then and has the lists: the
-- copy comes after those that the register named; or it named it already, as the last.
pub record AreNamedThen (held : Held) (closing : Closing) (archives after : List Archive) : Type 0 where
  pub before : List Archive
  pub one : Archive
  pub are : after ≡ before ++ one ∷ []
  pub rows : one.rows ≡ held.copy
  pub closes : one.last_closed ≡ closed_after held closing
  pub lists : HasLists one closing.lists
  pub named : ((held.register ≡ unmarked held.copied) × (archives ≡ before))
      ⊎ ((held.register ≡ raised_register held closing) × (archives ≡ after))

-- ---- the laws

-- Once the register has the archive, whichever of the lists that go are deleted, all of them or some, they are away with those
-- that were.
abbrev pub ListsThatGoAreAway : Type 0
ListsThatGoAreAway =
    (content : SetupContent) (es : List Event) (archives after : List Archive) (held : Held) (closing : Closing)
    (deleted : ListName → Bool) (stands : Stands content es archives held.own held.register) → PutsAway held closing →
    AreNamedThen held closing archives after →
    ((list : ListName) → deleted list ≡ true → is_one_of closing.gone list ≡ true)
    → AreAway after (λ (list : ListName). stands.away list || deleted list) content es stands.own

-- A store that is closed, or of which some of what goes is deleted, stands beside these archives after the events after which it
-- stood.
abbrev pub ClosedStoresStand : Type 0
ClosedStoresStand =
    (content : SetupContent) (es : List Event) (archives after : List Archive) (held : Held) (names : FileNames)
    (closing : Closing) (left : Rows) → Stands content es archives held.own held.register → AreOrderly held.own →
    AreOrderly held.copy → IsClosing held names closing → AreNamedThen held closing archives after →
    IsLeft closing held.own left
    → Stands content es after left (raised_register held closing)
