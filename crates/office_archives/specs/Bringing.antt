-- Lists that are away are brought back into the store before a text names them.
use Rattle.std.specs.Prelude.{◌≡◌, ℕ, false, List, [], IsTrue, OnOk, Result, Ok, Err}
use Rattle.sqlite.specs.{Held.state, State.HasCleanDisk}
use Rattle.sqlite_trees.specs.declared.store.Store.{Ghosts}
use Rattle.terminal_core.specs.Versions.{newest}
use Rattle.office_loading.specs.Closed.{closed_content}
use Rattle.office_desk.specs.{Desks.IsSound, declared.desk.Desk.Desk}
use Rattle.office_parts.specs.{Naming.{AreHere, interchange_lists}, OwnLists.ListName, Archives.Archive}
use Rattle.office_replies.specs.Events.{Event}
use Rattle.office_admission.specs.{Parties.partner_kinds, Setups.SetupContent}
use Rattle.office_tables.specs.declared.table_fault.TableFault.{TableFault}
use Rattle.office_archives.specs.{Standing.StandsBeside, Together.LeavesBeside}

-- the lists that the text names as that of the partner, by the desk's set-up
abbrev pub named_by : {S : Type 0} {g : Ghosts S} → Desk S g → (partner : ℕ) → (text : List ℕ) → List ListName
named_by desk partner text =
    interchange_lists newest desk.setup.codes (partner_kinds desk.setup.partners.items) partner text

-- The desk stands beside the archives, of these lists none is away, and none that was not.
pub record StandsWith {S : Type 0} (g : Ghosts S) (archives : List Archive) (content : SetupContent) (es : List Event)
    (lists : List ListName) (old new : Desk S g) (was : StandsBeside g archives content es old) : Type 0 where
  pub stands : StandsBeside g archives content es new
  pub here : AreHere stands.away lists
  pub others : (list : ListName) → was.away list ≡ false → stands.away list ≡ false

-- at a fault it is not known of any
abbrev pub lists_back : Result (Unit {0}) TableFault → List ListName → List ListName
lists_back (Ok done) lists = lists
lists_back (Err fault) lists = []

-- Each of these lists that was away was brought back. Desk and archives stand where they stood, and a crash leaves only rows
-- that stand so; set-up and what is closed stay, and so does a fault that was kept; what isn't sound stays so, and at Ok what
-- was open.
pub record BringsTogether {S A : Type 0} (g : Ghosts S) (are : List Archive → A → Type 0) (old : Desk S g)
    (archives : A) (lists : List ListName) (result : Result (Unit {0}) TableFault) (new : Desk S g) : Type 0 where
  pub stand : IsSound g new → (list : List Archive) (content : SetupContent) (es : List Event) → are list archives →
      (stands : StandsBeside g list content es old)
      → StandsWith g list content es (lists_back result lists) old new stands
  pub crash : IsSound g old → HasCleanDisk (state g new.conn) → (list : List Archive) (content : SetupContent)
      (es : List Event) → are list archives → StandsBeside g list content es old
      → LeavesBeside list (closed_content old.closed) content es (state g new.conn)
  pub setup : new.setup ≡ old.setup
  pub closed : new.closed ≡ old.closed
  pub last_fault : new.last_fault ≡ old.last_fault
  pub stays : IsSound g new → IsSound g old
  pub clean : HasCleanDisk (state g new.conn) → HasCleanDisk (state g old.conn)
  pub opens : IsSound g old → HasCleanDisk (state g new.conn) → OnOk result (IsTrue (state g new.conn).is_open)
