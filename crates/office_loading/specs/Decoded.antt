-- What reading a row, or a column, answers: what the code relies on, and no caller has to read.
use Rattle.std.specs.{Prelude.{ℕ, List, [], Contains, Result, Ok, Err, Vec}, List.AllZip}
use Rattle.sqlite.specs.{Order.Row, State.{State, IsUnchanged, Begins, Shown}, declared.error.Error.Error, declared.error.Error.TheVariants.SqliteFailure}
use Rattle.sqlite.specs.declared.error.ErrorCode.TheVariants.{OutOfMemory}
use Rattle.office_tables.specs.{declared.table_fault.TableFault.TableFault, declared.table_fault.TableFault.TheVariants.{Store, Damaged, Version, Memory}}
use Rattle.office_tables.specs.Faults.{IsOfStoreOr}

-- something says what is given
abbrev pub IsSaid : {A C : Type 0} → (A → C → Type 0) → A → Type 0
IsSaid {A} {C} Says given = (c : C) × Says given c

-- a column that can't be read is that of no office, unless memory was refused
abbrev pub fault_of_column : Error → TableFault
fault_of_column (SqliteFailure OutOfMemory) = Memory
fault_of_column error = Damaged

-- nothing says what is given, or memory was refused
abbrev pub Fails : {A : Type 0} → (A → Type 0) → A → TableFault → Type 0
Fails is_said given Damaged = ¬ is_said given
Fails is_said given Memory = Unit {0}
Fails is_said given Version = ⊥
Fails is_said given (Store error) = ⊥

-- what is read says what is given
abbrev pub Decodes : {A X : Type 0} → (A → X → Type 0) → (A → Type 0) → A → Result X TableFault → Type 0
Decodes says is_said given (Ok read) = says given read
Decodes says is_said given (Err fault) = Fails is_said given fault

-- the same, if of what is read the content counts
abbrev pub ReadsAs : {A X C : Type 0} → (X → C) → (A → C → Type 0) → A → Result X TableFault → Type 0
ReadsAs content Says = Decodes (λ given read. Says given (content read)) (IsSaid Says)

-- a value that is its own content
abbrev pub itself : {X : Type 0} → X → X
itself x = x

-- ---- all rows

-- nothing says one of them, or memory was refused
abbrev pub FailsOne : {A : Type 0} → (A → Type 0) → List A → TableFault → Type 0
FailsOne {A} is_said given Damaged = (one : A) × Contains given one × ¬ is_said one
FailsOne is_said given Memory = Unit {0}
FailsOne is_said given Version = ⊥
FailsOne is_said given (Store error) = ⊥

-- what is read says them, one after the other
abbrev pub DecodesAll : {A X Z : Type 0} → (A → X → Type 0) → (A → Type 0) → List A → Result (Vec X Z) TableFault →
    Type 0
DecodesAll says is_said given (Ok read) = AllZip says given read.items
DecodesAll says is_said given (Err fault) = FailsOne is_said given fault

-- ---- all rows that a query shows

-- nothing says one of the first rows that it shows
abbrev pub ShowsUnsaid : (Row → Type 0) → List ℕ → State → State → Type 0
ShowsUnsaid is_said query old new =
    (first : List Row) × Begins query [] old first × IsUnchanged old new
    × (one : Row) × Contains first one × ¬ is_said one

-- what is read says the rows that it shows, one after the other
abbrev pub ReadsShown : {X Z : Type 0} → (Row → X → Type 0) → (Row → Type 0) → List ℕ → State → State →
    Result (Vec X Z) TableFault → Type 0
ReadsShown says is_said query old new (Ok read) =
    (answer : List Row) × Shown query [] old new answer × AllZip says answer read.items
ReadsShown says is_said query old new (Err fault) = IsOfStoreOr (ShowsUnsaid is_said query old new) fault
