-- Where a file lies.
use Rattle.std.specs.Prelude.{◌≡◌, ◌≢◌, ◌<◌, ℕ, ◌++◌, List, ◌∷◌, length, get_or, Option, None, Some, Result, Ok, Err}
use Rattle.std.specs.declared.{fs.attrs.Metadata.Metadata, io.ErrorKind.ErrorKind}
use Rattle.std.specs.declared.io.ErrorKind.TheVariants.{NotFound, OutOfMemory}
use Rattle.sqlite.specs.declared.error.Error.{Error}
use Rattle.office_tables.specs.declared.table_fault.TableFault.{TableFault}
use Rattle.office_tables.specs.declared.table_fault.TableFault.TheVariants.{Memory, Store}

-- its folder, a slash and its name
abbrev pub path_of : Option (List ℕ) → List ℕ → List ℕ
path_of None name = name
path_of (Some folder) name = folder ++ (47 ∷ name)

-- none of its bytes is a slash
abbrev pub HasNoSlash : List ℕ → Type 0
HasNoSlash name = (i : ℕ) → i < length name → get_or name i 0 ≢ 47

-- it is the path of the file of that name in the folder of that file
pub record IsBeside (file name path : List ℕ) : Type 0 where
  pub folder : Option (List ℕ)
  pub own : List ℕ
  pub whole : path_of folder own ≡ file
  pub own_name : HasNoSlash own
  pub is : path ≡ path_of folder name

-- the name that a path ends with
pub record IsNameOf (path name : List ℕ) : Type 0 where
  pub folder : Option (List ℕ)
  pub whole : path_of folder name ≡ path
  pub is_name : HasNoSlash name

-- what a path that can't be looked at is answered with, by the kind of error: none if nothing is there, else that memory was
-- refused, or this error of the store
abbrev pub unfound : (no_store : Error) → ErrorKind → Result (Option Metadata) TableFault
unfound no_store NotFound = Ok None
unfound no_store OutOfMemory = Err Memory
unfound no_store kind = Err (Store no_store)
