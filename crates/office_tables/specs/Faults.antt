-- What a fault of SQL is to a caller of the tables.
use Rattle.sqlite.specs.{declared.error.Error.Error, declared.error.Error.TheVariants.SqliteFailure, declared.error.ErrorCode.TheVariants.OutOfMemory}
use Rattle.office_tables.specs.{declared.table_fault.TableFault.TableFault, declared.table_fault.TableFault.TheVariants.{Store, Damaged, Version, Memory}}

-- a statement that fails is the store's fault, or memory was refused
abbrev pub fault_of : Error → TableFault
fault_of (SqliteFailure OutOfMemory) = Memory
fault_of error = Store error

-- the store failed, or memory was refused; nothing is said of rows
abbrev pub IsOfStore : TableFault → Type 0
IsOfStore (Store error) = Unit {0}
IsOfStore Memory = Unit {0}
IsOfStore Damaged = ⊥
IsOfStore Version = ⊥

-- the store failed, or memory was refused; or the rows are damaged in this way
abbrev pub IsOfStoreOr : Type 0 → TableFault → Type 0
IsOfStoreOr damage (Store error) = Unit {0}
IsOfStoreOr damage Memory = Unit {0}
IsOfStoreOr damage Damaged = damage
IsOfStoreOr damage Version = ⊥
