-- Why a desk answered NotNow.
use Rattle.std.specs.Prelude.{◌≡◌, ℕ, List, Option, Some, Result, Ok, Err}
use Rattle.office_replies.specs.{declared.accounts.AccountAnswer.AccountAnswer, declared.deliver.Response.Response}
use Rattle.office_reports.specs.declared.query.NotNow.{NotNow as Unreported}
use Rattle.office_tables.specs.{Faults.{IsOfStore, IsOfStoreOr}, declared.table_fault.TableFault.TableFault, declared.table_fault.TableFault.TheVariants.Memory}
use Rattle.office_replies.specs.declared.accounts.AccountAnswer.TheVariants as account
use Rattle.office_replies.specs.declared.deliver.Response.TheVariants as response

-- what a call answered is handed on; or the fault that it met is kept, and who asked is told that it isn't now
abbrev pub Notes : {T : Type 0} → (met : Result T TableFault) → (old : Option TableFault) → Result T Unreported →
    (new : Option TableFault) → Type 0
Notes (Ok told) old (Ok given) new = (given ≡ told) × (new ≡ old)
Notes (Err fault) old (Err refusal) new = new ≡ Some fault
Notes met old given new = ⊥

-- there is one
abbrev pub HasFault : Option TableFault → Type 0
HasFault last = (fault : TableFault) × (last ≡ Some fault)

-- the desk has a fault after an answer NotNow, and after any other the one that it had
abbrev pub NotesFault : Response → (old new : Option TableFault) → Type 0
NotesFault response.NotNow old new = HasFault new
NotesFault given old new = new ≡ old

-- the same, if the one fault that can be met is that memory was refused
abbrev pub NotesMemory : Response → (old new : Option TableFault) → Type 0
NotesMemory response.NotNow old new = new ≡ Some Memory
NotesMemory given old new = new ≡ old

-- the same after the answer to an account that is to be added: the fault is one of the store, or of memory
abbrev pub NotesStore : AccountAnswer → (old new : Option TableFault) → Type 0
NotesStore account.NotNow old new = (fault : TableFault) × (new ≡ Some fault) × IsOfStore fault
NotesStore given old new = new ≡ old

-- the same after a report: it has a fault after one that can't be reported now
abbrev pub NotesLook : Result (Option (List ℕ)) Unreported → (old new : Option TableFault) → Type 0
NotesLook (Ok found) old new = new ≡ old
NotesLook (Err refusal) old new = HasFault new

-- and that fault is one of the store, or of memory, or this damage
abbrev pub NotesCause : (damage : Type 0) → Result (Option (List ℕ)) Unreported → (new : Option TableFault) → Type 0
NotesCause damage (Ok found) new = Unit {0}
NotesCause damage (Err refusal) new = (fault : TableFault) × (new ≡ Some fault) × IsOfStoreOr damage fault

-- the response isn't NotNow
abbrev pub IsNow : Response → Type 0
IsNow response.NotNow = ⊥
IsNow given = Unit {0}
