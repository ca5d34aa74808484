-- What the records of the set-up files hold.
use Rattle.std.specs.Prelude.{◌≡◌, ℕ, Bool, true, false, ◌&&◌, ◌||◌, ◌==◌, nat_le, List, [], ◌∷◌, length, Option, None, Some, codes, All, if◌then◌else◌}
use Rattle.std.specs.{Option.{option_and_then, option_map_or}, List.{filter_map, list_all}, Str.bytes_eq}
use Rattle.csv.specs.{Reading.{AreRecords, default_config, strip_bom}, Records.{AllText, field_at}}
use Rattle.edi_syntax.specs.Numbers.{number_of}
use Rattle.office_explain.specs.declared.records.Entry.{Entry}
use Rattle.csv.specs.declared.parser.State.TheVariants as state

abbrev pub Text : Type 0
Text = List ℕ

-- a record is its fields
abbrev pub Record : Type 0
Record = List Text

-- a name, and a value under it
abbrev pub NamedValue : Type 0
NamedValue = Text × Text

-- these are all the records of a file, its header among them
abbrev pub AreRows : Text → List Record → Type 0
AreRows file rows = AreRecords default_config state.StartRecord (strip_bom file) rows

-- a field of a record, empty if there is none
abbrev pub field : ℕ → Record → Text
field index row = option_map_or (λ (text : Text). text) (field_at row index) []

-- ---- the form of the files

abbrev pub is_partner_header : Record → Bool
is_partner_header row =
    (length row == 3) && bytes_eq (field 0 row) (codes "what") && bytes_eq (field 1 row) (codes "name")
    && bytes_eq (field 2 row) (codes "value")

abbrev pub is_kind_of_record : Text → Bool
is_kind_of_record what =
    bytes_eq what (codes "terminal") || bytes_eq what (codes "partner") || bytes_eq what (codes "code")
    || bytes_eq what (codes "limit")

abbrev pub is_partner_row : Record → Bool
is_partner_row row = (length row == 3) && is_kind_of_record (field 0 row)

-- a header, and then records of its kind
abbrev pub is_formed : (Record → Bool) → (Record → Bool) → List Record → Bool
is_formed is_header is_row [] = false
is_formed is_header is_row (header ∷ rows) = is_header header && list_all is_row rows

abbrev pub is_partner_file : List Record → Bool
is_partner_file rows = is_formed is_partner_header is_partner_row rows

abbrev pub is_block_header : Record → Bool
is_block_header row =
    (length row == 4) && bytes_eq (field 0 row) (codes "block") && bytes_eq (field 1 row) (codes "bays")
    && bytes_eq (field 2 row) (codes "rows") && bytes_eq (field 3 row) (codes "tiers")

abbrev pub is_block_row : Record → Bool
is_block_row row = length row == 4

abbrev pub is_block_file : List Record → Bool
is_block_file rows = is_formed is_block_header is_block_row rows

-- each field is UTF-8, and each file has its header and records of its kinds
pub record AreFiles (partners blocks : List Record) : Type 0 where
  pub partners_text : All AllText partners
  pub blocks_text : All AllText blocks
  pub partners_formed : is_partner_file partners ≡ true
  pub blocks_formed : is_block_file blocks ≡ true

-- ---- entries: the name and the value of records of partners

abbrev pub entry_content : Entry → NamedValue
entry_content entry = (entry.name.now, entry.value.now)

-- those of a record whose first field is this word
abbrev pub entry_of : Text → Record → Option (NamedValue)
entry_of what row = if bytes_eq (field 0 row) what then Some (field 1 row, field 2 row) else None

-- all whose first field is this word, in the order of the file; a header begins with none of the four
abbrev pub section : Text → List Record → List NamedValue
section what rows = filter_map (entry_of what) rows

-- ---- numbers

-- the number that 1 to 9 digits write, if it isn't above the greatest
abbrev pub count_said : ℕ → Text → Option ℕ
count_said greatest text =
    option_and_then (λ (n : ℕ). if nat_le n greatest then Some n else None) (number_of 9 text)
