-- What a call does inside a transaction.
use Rattle.std.specs.Prelude.{◌≡◌, IsTrue}
use Rattle.sqlite.specs.{Effect.Database, State.State}
use Rattle.office_rows.specs.{Rows.Rows, Stored.HasRows}

-- the rows become these, in the transaction that goes on
pub record Steps (change : Rows → Rows) (old new : State) : Type 0 where
  pub rows : (rows : Rows) → HasRows rows old.now → HasRows (change rows) new.now
  pub inside : IsTrue new.in_transaction
  pub committed : new.committed ≡ old.committed
  pub is_open : IsTrue new.is_open

-- a database that is the one becomes the other, in the transaction that goes on
pub record Turns (from to : Database → Type 0) (old new : State) : Type 0 where
  pub now : from old.now → to new.now
  pub inside : IsTrue new.in_transaction
  pub committed : new.committed ≡ old.committed
  pub is_open : IsTrue new.is_open
