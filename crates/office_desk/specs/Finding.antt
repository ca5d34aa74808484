-- What a delivery finds in the tables and beside them.
use Rattle.std.specs.Prelude.{ℕ, ◌≤◌, List, length, Option, None, Some, IsTrue}
use Rattle.sqlite.specs.{Effect.Database, State.State}
use Rattle.terminal_core.specs.State.{TerminalState}
use Rattle.office_replies.specs.Events.{Event}
use Rattle.office_loading.specs.Closed.{ClosedContent}
use Rattle.office_rows.specs.{Rows.Rows, Stored.HasRows}
use Rattle.office_admission.specs.{Given.IsGiven, Setups.SetupContent}
use Rattle.office_tables.specs.{Answers.{HasUnfitReply, IsKept}, Faults.IsOfStoreOr, declared.interchanges.Kept.Kept}
use Rattle.office_tables.specs.declared.table_fault.TableFault.{TableFault}
use Rattle.office_history.specs.After.{AreAfter}
use Rattle.office_desk.specs.{Beside.{IsAt, IsBeside, IsOrNone}, Offices.HoldsOffice, declared.beside.Beside.Beside, declared.taking.Found.Found}

-- whatever rows the database has, what stands beside them in the end is theirs if what stood there before was: of those
-- after some events, and of those of an office
pub record StaysBeside (closed : ClosedContent) (db : Database) (before after : Option Beside) : Type 0 where
  pub events : (content : SetupContent) (es : List Event) (rows : Rows) → IsGiven content → HasRows rows db →
      AreAfter content es rows → IsBeside content es before → IsBeside content es after
  pub office : (content : SetupContent) (rows : Rows) (terminal : TerminalState) →
      HoldsOffice closed content rows terminal db before → IsOrNone rows terminal after

-- whatever rows the database has, this is what they keep under the partner's number, if that stands beside them: rows
-- after some events, and rows of an office
pub record KeepsBeside (closed : ClosedContent) (partner number : ℕ) (db : Database) (there : Beside)
    (kept : Option Kept) : Type 0 where
  pub events : (content : SetupContent) (es : List Event) (rows : Rows) → HasRows rows db →
      AreAfter content es rows → IsAt content es there → IsKept partner number rows kept
  pub office : (content : SetupContent) (rows : Rows) (terminal : TerminalState) →
      HoldsOffice closed content rows terminal db (Some there) → IsKept partner number rows kept

-- what is kept was read over an open connection
abbrev pub IsOpenIfKept : Option Kept → State → Type 0
IsOpenIfKept None s = Unit {0}
IsOpenIfKept (Some kept) s = IsTrue s.is_open

-- what was found under the partner's number is what the rows keep, if what stands beside them in the end is theirs, as it
-- is if what stood there before was
pub record IsFound (closed : ClosedContent) (partner number : ℕ) (db : Database) (before : Option Beside)
    (found : Found) : Type 0 where
  pub kept : KeepsBeside closed partner number db found.there found.kept
  pub beside : StaysBeside closed db before (Some found.there)

-- nothing was found: what stands beside the rows stays; and if they are those of an office that has the partner, the store
-- failed, or memory was refused, or the reply that they keep under the number is no text
pub record IsNotFound (closed : ClosedContent) (partner number : ℕ) (db : Database) (before : Option Beside)
    (fault : TableFault) (after : Option Beside) : Type 0 where
  pub beside : StaysBeside closed db before after
  pub why : (content : SetupContent) (rows : Rows) (terminal : TerminalState) →
      HoldsOffice closed content rows terminal db before → partner ≤ length content.partners →
      IsOfStoreOr (HasUnfitReply partner number rows) fault
