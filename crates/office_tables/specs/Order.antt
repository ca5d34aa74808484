-- In which order the interchanges stand.
use Rattle.sqlite.specs.{Effect.Database, State.State}
use Rattle.office_rows.specs.{Rows.Rows, Stored.HasRows, InPlace.InterchangesAreInPlace}

-- the database has these rows, and its interchanges stand in just this order, under the rowids 1, 2, 3 and so on
pub record HasRowsInOrder (rows : Rows) (db : Database) : Type 0 where
  pub has : HasRows rows db
  pub in_place : InterchangesAreInPlace rows.interchanges db.trees

-- Rows that stand in order become these, in order. Where a change adds an interchange at the end of their list, its row
-- is the last; where one gets its reply, each row stays under its rowid.
abbrev pub KeepsOrder : (Rows → Rows) → State → State → Type 0
KeepsOrder change old new = (rows : Rows) → HasRowsInOrder rows old.now → HasRowsInOrder (change rows) new.now
