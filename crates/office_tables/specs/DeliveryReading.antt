-- What calls that only read leave of a database.
use Rattle.std.specs.Prelude.{◌≡◌, ℕ, ◌<◌, OnOk, Result}
use Rattle.sqlite.specs.State.{State, HasCleanDisk}
use Rattle.office_rows.specs.Rows.{Rows}
use Rattle.office_tables.specs.{Answers.HasUnfitReply, Reading.ReadsIfOpen, declared.table_fault.TableFault.TableFault}

-- the rows are the same
pub record IsSame (old new : State) : Type 0 where
  pub now : new.now ≡ old.now
  pub committed : new.committed ≡ old.committed

-- of a call that may have nothing to read: so the rows are the same at Ok even if the connection was shut
pub record OnlyReads {T : Type 0} (old new : State) (result : Result T TableFault) : Type 0 where
  pub same : HasCleanDisk new → OnOk result (IsSame old new)
  pub reads : ReadsIfOpen old new result

-- an interchange of the partner under a higher number has a reply that is no text
abbrev pub HasUnfitBehind : ℕ → ℕ → Rows → Type 0
HasUnfitBehind partner number rows = (n : ℕ) × (number < n) × HasUnfitReply partner n rows
