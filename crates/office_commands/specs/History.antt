-- What was put away of a store, as its register says.
use Rattle.std.specs.Prelude.{◌≡◌, Bool, length, Option, None, Some, is_some, IfSome, IsTrue, true, false}
use Rattle.office_closing.specs.{Register.RegisterContent, Sound.is_sound}
use Rattle.sqlite.specs.declared.error.Error.TheVariants.{SqlInputError}
use Rattle.sqlite_resolve.specs.declared.error.CompileError.TheVariants.{NoSuchTable}
use Rattle.office_tables.specs.{declared.table_fault.TableFault.TableFault, declared.table_fault.TableFault.TheVariants.Store}
use Rattle.office_commands.specs.declared.register.History.{History}

-- what was put away of a store with that register, or with none
abbrev pub history_in : Option RegisterContent → History
history_in None = record { archives = 0; is_closed = false }
history_in (Some names) = record { archives = length names.archives; is_closed = is_some names.closed_for }

-- it is what a sound register says, or there was none
abbrev pub IsHistory : History → Type 0
IsHistory history =
    (found : Option RegisterContent) × IfSome found (λ names. IsTrue (is_sound names)) × (history ≡ history_in found)

-- a statement names a table that isn't there
abbrev pub has_no_tables : TableFault → Bool
has_no_tables (Store (SqlInputError NoSuchTable)) = true
has_no_tables other = false
