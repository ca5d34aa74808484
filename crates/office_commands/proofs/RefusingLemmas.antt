-- Why a store is not opened.
use Rattle.std.{specs.Prelude.IfErr, proofs.Common.{◌≡◌, ℕ, List, true, false, inl, inr, ap, subst, ◌∙◌, Result, Ok, Err, IsTrue}}
use Rattle.sqlite.specs.{Effect.Database, Held.{Held, state}, Recovery.Image, State.HasCleanDisk}
use Rattle.sqlite_trees.specs.declared.store.Store.{Ghosts}
use Rattle.office_rows.specs.{Rows.Rows, Shown.AreNexts, Stored.HasRows, Tables.office_schema}
use Rattle.terminal_core.specs.State.{TerminalState}
use Rattle.office_admission.specs.Setups.{SetupContent}
use Rattle.office_loading.specs.{Tables.LoadsOwn, Closed.ClosedContent}
use Rattle.office_tables.{specs.{DeliveryReading.OnlyReads, declared.table_fault.TableFault.TableFault}, proofs.WriteLemmas.only_on}
use Rattle.office_closing.specs.{Register.{RegisterContent, closed_by, is_newer_than, is_of_terminal}, Sound.is_sound}
use Rattle.office_desk.specs.Offices.{FailsToOpen}
use Rattle.office_commands.specs.{Opening.Shows, Refusing.{IsOfRegister, IsOfOtherOver, IsOlderOver, IsRefused, IsUnloaded, IsUnloadedOver, IsUnopened}}
use Rattle.office_commands.specs.{declared.offices.OpenFault.OpenFault, declared.offices.OpenFault.TheVariants.{Closed, Store, Register, Older, Other}}

module _ {S : Type 0} (g : Ghosts S) (image : Image) (Marked : Type 0) where
  -- its file could not be opened
  pub refused_opening : (fault : OpenFault) → IsUnopened fault → IsRefused g image Marked fault
  refused_opening Closed is = absurd is
  refused_opening (Store fault) is = inl is
  refused_opening (Register fault) is = absurd is
  refused_opening Older is = absurd is
  refused_opening Other is = absurd is

  -- its register could not be read, or has a mark
  pub refused_names : (fault : OpenFault) → IsOfRegister Marked fault → IsRefused g image Marked fault
  refused_names Closed is = is
  refused_names (Store fault) is = absurd is
  refused_names (Register fault) is = is
  refused_names Older is = absurd is
  refused_names Other is = absurd is

-- its tables could not be loaded
module _ {S T : Type 0} (g : Ghosts S) (image : Image) (found last : Held S) (names : RegisterContent) (result : Result T TableFault) (fault : TableFault) where
  pub unloaded_over : Shows g image found → IsTrue (is_sound names) → OnlyReads (state g found) (state g last) result
      → (HasCleanDisk (state g last) → IsTrue (state g last).is_open → (state g found).committed.schema ≡ office_schema → IsUnloaded (closed_by names) (state g found).committed fault) → IsUnloadedOver g image fault
  unloaded_over shows sound reads deserved = record {
    found = found;
    last = last;
    names = names;
    shows = shows;
    sound = sound;
    reads = record {
      same = λ clean. tt;
      reads = record { unchanged = λ clean was. tt; keeps = reads.reads.keeps; mode = reads.reads.mode; survives = reads.reads.survives };
    };
    deserved = deserved;
  }

-- the fault is the one that its tables deserve
pub unloaded : (db : Database) (own closed : ClosedContent) (fault : TableFault) → own ≡ closed → FailsToOpen own db fault → IsUnloaded closed db fault
unloaded db own closed fault same fails = inr (subst (λ (k : ClosedContent). FailsToOpen k db fault) same fails)

-- its rows are of a day before its register, by their next numbers
pub older_over : {S X : Type 0} (g : Ghosts S) (image : Image) (found last : Held S) (names : RegisterContent) (nexts : List ℕ) {read : X} → Shows g image found → IsTrue (is_sound names) → OnlyReads (state g found) (state g last) (Ok read)
    → (HasCleanDisk (state g last) → (rows : Rows) → HasRows rows (state g found).committed → AreNexts rows nexts) → is_newer_than nexts names ≡ true → IsOlderOver g image
older_over g image found last names nexts shows sound reads are newer = record {
  found = found;
  last = last;
  names = names;
  shows = shows;
  sound = sound;
  reads = only_on (Ok tt) reads;
  older = λ clean rows has. (nexts, are clean rows has, newer);
}

-- ---- what follows of faults

pub err_both : {T E : Type 0} (result : Result T E) (N : Type 0) (F G : E → Type 0) → IfErr result F → (N → IfErr result G) → IfErr result (λ fault. F fault × (N → G fault))
err_both (Ok x) N F G one other = tt
err_both (Err fault) N F G one other = (one, other)

-- what is supposed before the fault is known may be supposed after it
pub err_under : {T E : Type 0} (result : Result T E) (P : Type 0) (F : E → Type 0) → (P → IfErr result F) → IfErr result (λ fault. P → F fault)
err_under (Ok x) P F given = tt
err_under (Err fault) P F given = given

-- what is loaded is of another terminal than its register
pub other_over : {S X : Type 0} (g : Ghosts S) (image : Image) (found last : Held S) (names : RegisterContent) (setup : SetupContent) (terminal : TerminalState) {read : X} → Shows g image found → IsTrue (is_sound names) → OnlyReads (state g found) (state g last) (Ok read)
    → (HasCleanDisk (state g last) → (state g found).committed.schema ≡ office_schema → LoadsOwn (closed_by names) (state g found).committed setup terminal) → is_of_terminal setup.terminal names ≡ false → IsOfOtherOver g image
other_over g image found last names setup terminal shows sound reads loads other = record {
  found = found;
  last = last;
  names = names;
  shows = shows;
  sound = sound;
  reads = only_on (Ok tt) reads;
  other = λ clean schema. (setup, terminal, loads clean schema, other);
}

-- the same of what was loaded by the register that was read
pub other_loaded : {S X : Type 0} (g : Ghosts S) (image : Image) (found last : Held S) (names its : RegisterContent) (closed : ClosedContent) (setup : SetupContent) (terminal : TerminalState) {read : X} → Shows g image found → IsTrue (is_sound names) → OnlyReads (state g found) (state g last) (Ok read)
    → its ≡ names → closed ≡ closed_by its → (HasCleanDisk (state g last) → (state g found).committed.schema ≡ office_schema → LoadsOwn closed (state g found).committed setup terminal) → is_of_terminal setup.terminal its ≡ false → IsOfOtherOver g image
other_loaded g image found last names its closed setup terminal shows sound reads same closed_is loads other =
    other_over g image found last names setup terminal shows sound reads (λ clean schema. subst (λ k. LoadsOwn k (state g found).committed setup terminal) (closed_is ∙ ap closed_by same) (loads clean schema))
    (subst (λ r. is_of_terminal setup.terminal r ≡ false) same other)
