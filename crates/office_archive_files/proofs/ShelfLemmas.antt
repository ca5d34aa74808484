-- What a connection to an archive shows.
use Rattle.std.{specs.List.AllByRecursion, proofs.Common.{◌≡◌, ◌≤◌, ◌↔◌, inl, ℕ, Bool, true, List, [], None, Some, Result, Ok, Err, IfOk, IsTrue, arith, length, suc, take, zero, refl, sym, subst, ◌∙◌}}
use Rattle.edi_messages.specs.Purposes.{CallContent}
use Rattle.terminal_core.specs.declared.lines.Side.{Side}
use Rattle.office_parts.specs.{Away.lines_away, OwnLists.list_name, Archives.Archive}
use Rattle.sqlite_disk.specs.declared.Disk.{Ghosts as DiskGhosts}
use Rattle.sqlite_trees.specs.declared.store.Store.{Ghosts}
use Rattle.sqlite.specs.{Files.{file_state, over_files}, Held.{Held, state}, Recovery.Image, State.HasCleanDisk, declared.FileStore.FileStore}
use Rattle.office_rows.specs.{Rows.Rows, Stored.HasRows, Tables.office_schema}
use Rattle.office_admission.specs.Setups.{SetupContent}
use Rattle.office_history.specs.After.{AreKeptOnce}
use Rattle.office_tables.specs.declared.table_fault.TableFault.{TableFault}
use Rattle.office_commands.specs.Opening.{Shows, ShowsHeld}
use Rattle.office_closing.specs.{Changes.empty_register, Register.{RegisterContent, register_content}, Seals.HasSeals, declared.register.Register.Register}
use Rattle.office_archives.specs.{Shelves.{AreSealed, AreShelved, IsKeptAs, IsOpenAt, IsOpenIfKnown, NamesAll}, declared.opened.Opened.Opened}
use Rattle.office_archive_files.specs.{Archives.{IsSealedAt, PassesAt}, Shelves.HoldArchiveAt}

-- it was opened on the files, and then only read
pub opened_at : {D : Type 0} {g : DiskGhosts D} (image : Image) (list : List Archive) (place : ℕ) (found conn : Held (FileStore D g)) → (HasCleanDisk (file_state found) → ShowsHeld image found)
    → (HasCleanDisk (file_state conn) → HasCleanDisk (file_state found)) → (HasCleanDisk (file_state conn) → (file_state conn).committed ≡ (file_state found).committed) → HoldArchiveAt image place list → IsOpenAt over_files list place conn
opened_at image list place found conn shows clean_before same hold clean now_open archive at =
    let holds = hold archive at in
    let shown = shows (clean_before clean) holds.db office_schema holds.held holds.are.lists in
    record { has = subst (HasRows archive.rows) (sym (same clean ∙ shown)) holds.are; kept_once = holds.kept_once }

-- what was only read shows what the files held
pub shown_after : {S : Type 0} (g : Ghosts S) (image : Image) (found conn : Held S) → (HasCleanDisk (state g conn) → HasCleanDisk (state g found)) → (HasCleanDisk (state g conn) → (state g conn).committed ≡ (state g found).committed) → Shows g image found → Shows g image conn
shown_after g image found conn clean_before same shows clean db schema held lists = same clean ∙ shows (clean_before clean) db schema held lists

-- it has passed, and its seals were looked at
pub sealed_at : {S : Type 0} (g : Ghosts S) (image : Image) (path : List ℕ) (store : SetupContent) (names : RegisterContent) (place : ℕ) (found last : Held S) → PassesAt g image path store names place found → (result : Result Bool TableFault)
    → (HasCleanDisk (state g last) → IsTrue (state g last).is_open → IfOk result (λ has. (rows : Rows) → HasRows rows (state g found).committed → AreKeptOnce rows.interchanges → (has ≡ true) ↔ HasSeals names place rows))
    → IfOk result (IsSealedAt g image path store names place)
sealed_at g image path store names place found last passes (Ok has) says = record { found = found; last = last; passes = passes; sealed = says }
sealed_at g image path store names place found last passes (Err fault) says = tt

-- ---- a store of which nothing was put away

-- whatever its file holds, it is none of no archives
pub none_held : (image : Image) (place : ℕ) → HoldArchiveAt image place []
none_held image place archive at = let never : None ≡ Some archive = at in absurd cc

none_among : (count : ℕ) (call : CallContent) (side : Side) → IsKeptAs call side None (lines_away (take count []) (list_name call side))
none_among zero call side = tt
none_among (suc count) call side = tt

-- an empty register names no archives
pub none_named : NamesAll empty_register []
none_named = record { counted = refl; named = λ partner number from. refl; lists = λ call side. tt; among = none_among; of_calls = λ name. inl refl }

-- none is open of those on the shelf
pub none_opened : {S F : Type 0} (g : Ghosts S) (is_known : ℕ → Type 0) (holds : List Archive → F → Type 0) (list : List Archive) (shelf : F) (names : Register) (opened : List (Opened S g)) → holds list shelf → NamesAll (register_content names) list → opened ≡ [] → AreShelved g is_known holds list shelf names opened
none_opened g is_known holds list shelf names opened on_shelf named none = record {
  on_shelf = on_shelf;
  are_named = named;
  few_open = subst (λ l. length l ≤ 4) (sym none) (omega arith);
  are_open = subst (AllByRecursion (IsOpenIfKnown g is_known list)) (sym none) tt;
  are_sealed = subst (AreSealed g (register_content names)) (sym none) tt;
}

pub none_shelved : {S F : Type 0} (g : Ghosts S) (is_known : ℕ → Type 0) (holds : List Archive → F → Type 0) (shelf : F) (names : Register) (opened : List (Opened S g)) → holds [] shelf → register_content names ≡ empty_register → opened ≡ [] → AreShelved g is_known holds [] shelf names opened
none_shelved g is_known holds shelf names opened on_shelf empty none =
    none_opened g is_known holds [] shelf names opened on_shelf (subst (λ (r : RegisterContent). NamesAll r []) (sym empty) none_named) none
