-- The texts of a store and of an archive in the order in which they arrived, and whether those of the archive are the first of
-- the store's.
use Rattle.std.specs.Prelude.{◌≡◌, ◌⊎◌, ℕ, nat_le, not, Bool, true, false, List, [], ◌∷◌, ◌++◌, codes, filter, map, pos, negsuc, Option, None, Some, Result}
use Rattle.partner_core.specs.Deliveries.{Delivery}
use Rattle.sqlite_value.specs.{declared.value.Value.Value, declared.value.Value.TheVariants.{Null, Int, Real, Text, Blob}, Order.{Row, column}}
use Rattle.sqlite_trees.specs.declared.store.Store.{Ghosts}
use Rattle.sqlite.specs.{declared.rows.stream.Rows.Rows as Query, Given.HasGiven, Held.state, State.Shown}
use Rattle.office_rows.specs.{Rows.{Interchange, Rows}, Stored.columns_of, Tables.interchange_table, Values.interchange_values}
use Rattle.office_tables.specs.Reading.{OnlyShows}
use Rattle.office_parts.specs.{Closing.is_beyond, InOrder.as_delivery}
use Rattle.office_closing.specs.{Copies.AreFirst, Files.IsRead, declared.arriving.Likeness.Likeness}
use Rattle.sqlite.specs.Held as connection
use Rattle.office_closing.specs.declared.arriving.Likeness.TheVariants as likeness

-- ---- the texts

-- the interchanges stand in the table in this order, that of arrival
abbrev pub StandInOrder : List Interchange → (stored : List Row) → Type 0
StandInOrder interchanges stored = map interchange_values interchanges ≡ map (columns_of interchange_table) stored

-- what arrived beyond what is closed, whether it waits or was taken
abbrev pub arrivals : (last_closed : ℕ → ℕ) → List Interchange → List Delivery
arrivals last_closed interchanges = map as_delivery (filter (is_beyond last_closed) interchanges)

-- what the archive has beyond what is closed is the first of what the store has so
abbrev pub HasFirst : (last_closed : ℕ → ℕ) → (own copy : Rows) → Type 0
HasFirst last_closed own copy = AreFirst (arrivals last_closed copy.interchanges) (arrivals last_closed own.interchanges)

-- it is all of that
abbrev pub HasAll : (last_closed : ℕ → ℕ) → (own copy : Rows) → Type 0
HasAll last_closed own copy = arrivals last_closed copy.interchanges ≡ arrivals last_closed own.interchanges

-- the archive's texts beyond what is closed are the first of the store's; and all of them, if that is wanted
pub record HasTexts (wants_all : Type 0) (last_closed : ℕ → ℕ) (own copy : Rows) : Type 0 where
  pub first : HasFirst last_closed own copy
  pub all : wants_all → HasAll last_closed own copy

-- how the archive's texts beyond what is closed stand to the store's
abbrev pub IsTold : (last_closed : ℕ → ℕ) → (own copy : Rows) → Likeness → Type 0
IsTold last_closed own copy likeness.Same = HasAll last_closed own copy
IsTold last_closed own copy likeness.First = HasFirst last_closed own copy × ¬ HasAll last_closed own copy
IsTold last_closed own copy likeness.Other = ¬ HasFirst last_closed own copy

-- ---- what a query of the texts shows

abbrev pub select_arrivals : List ℕ
select_arrivals = codes "SELECT body, partner, number FROM interchange ORDER BY rowid"

-- the number that a value is; nothing is meant of another value
abbrev pub number_in : Value → ℕ
number_in Null = 0
number_in (Int (pos n)) = n
number_in (Int (negsuc n)) = 0
number_in (Real x) = 0
number_in (Text t) = 0
number_in (Blob b) = 0

-- the row shows a number beyond what is closed
abbrev pub shows_beyond : (last_closed : ℕ → ℕ) → Row → Bool
shows_beyond last_closed row = not (nat_le (number_in (column row 2)) (last_closed (number_in (column row 1))))

-- the text, the partner and the number
abbrev pub arrival_in : Row → Row
arrival_in row = column row 0 ∷ column row 1 ∷ column row 2 ∷ []

-- what rows show beyond what is closed
abbrev pub arrivals_in : (last_closed : ℕ → ℕ) → List Row → List Row
arrivals_in last_closed rows = map arrival_in (filter (shows_beyond last_closed) rows)

-- there is no row, or it shows a number beyond what is closed
abbrev pub stops_at : (last_closed : ℕ → ℕ) → Option Row → Bool
stops_at last_closed None = true
stops_at last_closed (Some row) = shows_beyond last_closed row

-- ---- one query, row by row

-- it was only read on, if at all
pub record IsReadOn {S T E : Type 0} (g : Ghosts S) (old new : Query S g) (result : Result T E) : Type 0 where
  pub same_reference : new.conn.ghost_name ≡ old.conn.ghost_name
  pub read : (new.conn.now ≡ old.conn.now) ⊎ IsRead (state g old.conn.now) (state g new.conn.now) result

module _ {S : Type 0} (g : Ghosts S) (last_closed : ℕ → ℕ) where
  -- the rows so far show what had arrived and, as the last, what this row shows; or all rows show just that
  abbrev pub ComesTo : (sql : List ℕ) → (old new : connection.Held S) → (arrived : List Row) → Option Row → Type 0
  ComesTo sql old new arrived (Some row) =
      (given : List Row) × HasGiven g sql [] new given
      × (arrivals_in last_closed given ≡ arrived ++ arrival_in row ∷ [])
  ComesTo sql old new arrived None =
      (all : List Row) × Shown sql [] (state g old) (state g new) all × (arrivals_in last_closed all ≡ arrived)

  -- whatever it has given, it goes on to the next row that shows a number beyond what is closed, or to the end
  abbrev pub GoesBeyond : (old new : connection.Held S) → Option Row → Type 0
  GoesBeyond old new stands =
      (sql : List ℕ) (given : List Row) → OnlyShows sql → HasGiven g sql [] old given
      → ComesTo sql old new (arrivals_in last_closed given) stands

-- ---- two queries

-- what the next rows of store and archive tell, if there are any: how all stand to each other, or nothing, if both show the same
abbrev pub TellsRows : (own copy : Option Row) → Option Likeness → Type 0
TellsRows None None told = told ≡ Some likeness.Same
TellsRows (Some kept) None told = told ≡ Some likeness.First
TellsRows None (Some copied) told = told ≡ Some likeness.Other
TellsRows (Some kept) (Some copied) None = arrival_in kept ≡ arrival_in copied
TellsRows (Some kept) (Some copied) (Some told) =
    (told ≡ likeness.Other) × ¬ (arrival_in kept ≡ arrival_in copied)

module _ {S A : Type 0} (g : Ghosts S) (h : Ghosts A) (last_closed : ℕ → ℕ) (sql : List ℕ) (own own' : connection.Held S)
    (copy copy' : connection.Held A) where
  -- all rows of the archive show what all rows of the store show
  pub record AreSameShown : Type 0 where
    pub all : List Row
    pub shown : Shown sql [] (state g own) (state g own') all
    pub copied : List Row
    pub copied_shown : Shown sql [] (state h copy) (state h copy') copied
    pub same : arrivals_in last_closed copied ≡ arrivals_in last_closed all

  -- the store has one more after all that the archive shows
  pub record AreFirstShown : Type 0 where
    pub copied : List Row
    pub copied_shown : Shown sql [] (state h copy) (state h copy') copied
    pub given : List Row
    pub has : HasGiven g sql [] own' given
    pub one : Row
    pub shows : arrivals_in last_closed given ≡ arrivals_in last_closed copied ++ one ∷ []

  -- after these the store has no more, or another one
  abbrev pub IsAnother : (before : List Row) → (one : Row) → Type 0
  IsAnother before one =
      ((all : List Row) × Shown sql [] (state g own) (state g own') all × (arrivals_in last_closed all ≡ before))
      ⊎ ((given : List Row) × (other : Row) × HasGiven g sql [] own' given
      × (arrivals_in last_closed given ≡ before ++ other ∷ []) × ¬ (other ≡ one))

  -- the archive has one that the store does not have there
  pub record AreApart : Type 0 where
    pub before : List Row
    pub one : Row
    pub given : List Row
    pub has : HasGiven h sql [] copy' given
    pub shows : arrivals_in last_closed given ≡ before ++ one ∷ []
    pub another : IsAnother before one

  abbrev pub TellsTexts : Likeness → Type 0
  TellsTexts likeness.Same = AreSameShown
  TellsTexts likeness.First = AreFirstShown
  TellsTexts likeness.Other = AreApart

-- so of two queries that only show rows, from their start
abbrev pub AreCompared : {S A : Type 0} → Ghosts S → Ghosts A → (last_closed : ℕ → ℕ) → (own own' : connection.Held S) →
    (copy copy' : connection.Held A) → Likeness → Type 0
AreCompared g h last_closed own own' copy copy' told =
    (sql : List ℕ) → OnlyShows sql → HasGiven g sql [] own [] → HasGiven h sql [] copy []
    → TellsTexts g h last_closed sql own own' copy copy' told
