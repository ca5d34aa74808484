-- Why a report of a store and its archives can't be reported.
use Rattle.std.specs.Prelude.{◌≡◌, ℕ, List, ◌&&◌, false, nat_le, Some, string_bytes}
use Rattle.sqlite_trees.specs.declared.store.Store.{Ghosts}
use Rattle.terminal_core.specs.State.{TerminalState}
use Rattle.office_admission.specs.Setups.{setup_content}
use Rattle.office_loading.specs.Closed.{last_closed}
use Rattle.office_rows.specs.Rows.{Rows}
use Rattle.office_tables.specs.{Faults.IsOfStoreOr, declared.table_fault.TableFault.TableFault}
use Rattle.office_reports.specs.{Looking.{Look, of_archive, report, texts_after}, declared.query.About.About}
use Rattle.office_desk.specs.{Causes.AsksUnfitReply, Offices.DeskHolds, Reports.partner_called, declared.desk.Desk.Desk}
use Rattle.office_reports.specs.declared.query.About.TheVariants as about

-- over an office's rows the store failed, or memory was refused, or the reply that is asked for is no text
abbrev pub IsDeserved : {S : Type 0} (g : Ghosts S) → Desk S g → About → TableFault → Type 0
IsDeserved g desk asked fault =
    (rows : Rows) (terminal : TerminalState) → DeskHolds g desk rows terminal
    → IsOfStoreOr (AsksUnfitReply (setup_content desk.setup) rows asked) fault

-- ---- what the store's own rows report

-- whoever has the code, the number is not closed
abbrev pub IsNotClosed : {S : Type 0} {g : Ghosts S} → Desk S g → (code : List ℕ) → (number : ℕ) → Type 0
IsNotClosed desk code number =
    (partner : ℕ) → partner_called (setup_content desk.setup) code ≡ Some partner
    → (nat_le 1 number && nat_le number (last_closed desk.closed partner)) ≡ false

-- neither a list is asked for, which may be away, nor a number that is closed
abbrev pub IsAskedHere : {S : Type 0} {g : Ghosts S} → Desk S g → About → Type 0
IsAskedHere desk (about.List call side) = ⊥
IsAskedHere desk (about.Work call side) = ⊥
IsAskedHere desk (about.Reply code number) = IsNotClosed desk (string_bytes code) number
IsAskedHere desk (about.Contrl code number) = IsNotClosed desk (string_bytes code) number
IsAskedHere desk (about.Ticket code number) = IsNotClosed desk (string_bytes code) number
IsAskedHere desk other = Unit {0}

-- so it is of what the store's own rows report
abbrev pub IsDeservedHere : {S : Type 0} (g : Ghosts S) → Desk S g → About → TableFault → Type 0
IsDeservedHere g desk asked fault = IsAskedHere desk asked → IsDeserved g desk asked fault

-- a report by these rows is looked at
abbrev pub IsLookedAtHere : {S : Type 0} {g : Ghosts S} → Desk S g → Look → Type 0
IsLookedAtHere desk (report asked) = IsAskedHere desk asked.about
IsLookedAtHere desk (texts_after from) = ⊥
IsLookedAtHere desk (of_archive place asked) = ⊥
