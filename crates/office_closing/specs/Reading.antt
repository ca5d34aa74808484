-- What the columns of a register's rows say, and what reading them answers.
use Rattle.std.specs.{Prelude.{◌≡◌, ℕ, ◌<◌, ◌^◌, List, [], ◌∷◌, map, IfSome, IsUtf8, Option, Result, Ok, Err, String, string_bytes}, Option.option_map}
use Rattle.std.specs.List.{AllByRecursion}
use Rattle.sqlite.specs.{Order.Row, declared.types.Value.Value, declared.types.Value.TheVariants.Blob, Effect.Database}
use Rattle.office_rows.specs.Shown.{ShowsTable, columns_at}
use Rattle.office_tables.specs.{declared.table_fault.TableFault.TableFault, Faults.IsOfStoreOr}
use Rattle.office_closing.specs.{declared.register.Register.Register, declared.register.Segment.Segment, declared.register_rows.ClosedFor.ClosedFor}
use Rattle.office_closing.specs.{Lists.SettledListContent, Sound.IsSound, Register.{ArchiveContent, RegisterContent, register_content, SealedContent}}
use Rattle.office_closing.specs.Tables.{archive_table, segment_table, closed_for_table, Layout}
use Rattle.office_closing.specs.Stored.{ShowsLists, ShowsRegister, archive_values, segment_values, file_values, list_values, if_any, sealed_values}

-- ---- what no caller has to read: which rows fit the types of a record

pub record FitsArchive (archive : ArchiveContent) : Type 0 where
  pub place : archive.place < 2 ^ 16
  pub file : IsUtf8 archive.file
  pub visits : archive.visits < 2 ^ 32

pub record FitsSegment (segment : Segment) : Type 0 where
  pub partner : segment.partner < 2 ^ 16
  pub archive : segment.archive < 2 ^ 16
  pub last : segment.last < 2 ^ 32

pub record FitsList (list : SettledListContent) : Type 0 where
  pub vessel : IsUtf8 list.call.vessel
  pub voyage : IsUtf8 list.call.voyage
  pub archive : list.archive < 2 ^ 16
  pub lines : IsUtf8 list.lines

pub record FitsSealed (sealed : SealedContent) : Type 0 where
  pub archive : sealed.archive < 2 ^ 16
  pub terminal : IsUtf8 sealed.terminal

abbrev pub SaysArchive : Row → ArchiveContent → Type 0
SaysArchive row archive = (columns_at (0 ∷ 1 ∷ 2 ∷ []) row ≡ archive_values archive) × FitsArchive archive

abbrev pub SaysSegment : Row → Segment → Type 0
SaysSegment row segment = (columns_at (0 ∷ 1 ∷ 2 ∷ []) row ≡ segment_values segment) × FitsSegment segment

-- the file of the row that marks an archive
abbrev pub closed_for_file : ClosedFor → List ℕ
closed_for_file row = string_bytes row.file

abbrev pub SaysFile : Row → List ℕ → Type 0
SaysFile row file = (columns_at (0 ∷ []) row ≡ file_values file) × IsUtf8 file

abbrev pub SaysList : Row → SettledListContent → Type 0
SaysList row list = (columns_at (0 ∷ 1 ∷ 2 ∷ 3 ∷ 4 ∷ []) row ≡ list_values list) × FitsList list

abbrev pub SaysBytes : Value → List ℕ → Type 0
SaysBytes value bytes = value ≡ Blob bytes

abbrev pub SaysSealed : Row → SealedContent → Type 0
SaysSealed row sealed = (columns_at (0 ∷ 1 ∷ 2 ∷ []) row ≡ sealed_values sealed) × FitsSealed sealed

abbrev pub ShowsArchives : Database → List ArchiveContent → Type 0
ShowsArchives db archives = ShowsTable archive_table (0 ∷ 1 ∷ 2 ∷ []) (0 ∷ []) db (map archive_values archives)

abbrev pub ShowsSegments : Database → List Segment → Type 0
ShowsSegments db segments = ShowsTable segment_table (0 ∷ 1 ∷ 2 ∷ []) (1 ∷ 0 ∷ []) db (map segment_values segments)

abbrev pub ShowsFiles : Database → List (List ℕ) → Type 0
ShowsFiles db files = ShowsTable closed_for_table (0 ∷ []) (0 ∷ []) db (map file_values files)

-- the table names more than one file, or one that is no text; or the store failed, or memory
abbrev pub FailsMark : Database → TableFault → Type 0
FailsMark db fault = IsOfStoreOr ((file : Option (List ℕ)) → ShowsFiles db (if_any file) → ¬ IfSome file IsUtf8) fault

-- the one file that the table names, if any
abbrev pub ReadsMark : {Z : Type 0} → Database → Result (Option (String Z)) TableFault → Type 0
ReadsMark db (Ok file) = ShowsFiles db (if_any (option_map string_bytes file)) × IfSome (option_map string_bytes file) IsUtf8
ReadsMark db (Err fault) = FailsMark db fault

-- it fits the types of a register
pub record FitsRegister (content : RegisterContent) : Type 0 where
  pub archives : AllByRecursion FitsArchive content.archives
  pub segments : AllByRecursion FitsSegment content.segments
  pub closed_for : IfSome content.closed_for IsUtf8
  pub lists : AllByRecursion FitsList content.lists
  pub taken : AllByRecursion FitsSegment content.taken
  pub sealed : AllByRecursion FitsSealed content.sealed

-- no register that the tables show fits; or the store failed, or memory
abbrev pub FailsTables : Layout → Database → TableFault → Type 0
FailsTables layout db fault =
    IsOfStoreOr ((content : RegisterContent) → ShowsRegister layout content db → ¬ FitsRegister content) fault

-- what is read is what the tables show, and fits
abbrev pub ReadsTables : Layout → Database → Result Register TableFault → Type 0
ReadsTables layout db (Ok register) =
    ShowsRegister layout (register_content register) db × FitsRegister (register_content register)
ReadsTables layout db (Err fault) = FailsTables layout db fault

-- ---- what a caller reads

-- the tables show no sound register
abbrev pub ShowsNoSound : Layout → Database → Type 0
ShowsNoSound layout db = (content : RegisterContent) → ShowsRegister layout content db → ¬ IsSound content

-- what is read is what the tables show, and sound; or they show no sound register, or the store failed, or memory
abbrev pub ReadsRegister : Layout → Database → Result Register TableFault → Type 0
ReadsRegister layout db (Ok register) =
    ShowsRegister layout (register_content register) db × IsSound (register_content register)
ReadsRegister layout db (Err fault) = IsOfStoreOr (ShowsNoSound layout db) fault
