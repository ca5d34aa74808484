-- Which record of the set-up files shows a fault.
use Rattle.std.specs.{Prelude.{◌≡◌, ◌⊎◌, ℕ, Bool, true, false, ◌≤◌, ◌-◌, ◌+◌, ◌++◌, List, [], ◌∷◌, length, take, Option, None, codes, All}, List.list_any}
use Rattle.std.specs.Str.{bytes_eq}
use Rattle.csv.specs.Records.{AllText}
use Rattle.office_explain.specs.{Entries.{Text, Record, AreRows, field, is_partner_file, is_block_file, section}, declared.setup_reading.SetupFault.SetupFault}
use Rattle.office_explain.specs.{Said.{AreCodes, AreNoBlocks, AreNoPartners, limit_said, terminal_said}, declared.setup_reading.SetupFile.SetupFile}
use Rattle.office_explain.specs.declared.setup_reading.SetupFault.TheVariants.{Csv, Terminal, Partner, Code, Limit, Block as BlockFault, Memory}
use Rattle.office_explain.specs.{declared.setup_reading.SetupFile.TheVariants.{Partners, Blocks}, declared.wrong_records.WrongRecord.WrongRecord}
use Rattle.office_explain.specs.declared.wrong_records.WrongRecord.TheVariants.{OfPartners, OfBlocks}

-- a record is of a kind, by its first field
abbrev pub is_of : Text → Record → Bool
is_of what row = bytes_eq (field 0 row) what

-- the first records of a file show a fault, and not because a record is missing
abbrev pub Shows : SetupFile → SetupFault → List Record → Type 0
Shows Partners Csv front = (1 ≤ length front) × (is_partner_file front ≡ false)
Shows Partners Terminal front =
    (list_any (is_of (codes "terminal")) front ≡ true) × (terminal_said (section (codes "terminal") front) ≡ None)
Shows Partners Partner front =
    (list_any (is_of (codes "partner")) front ≡ true) × AreNoPartners (section (codes "partner") front)
Shows Partners Code front = ¬ AreCodes (section (codes "code") front)
Shows Partners Limit front = limit_said (section (codes "limit") front) ≡ None
Shows Partners BlockFault front = ⊥
Shows Partners Memory front = ⊥
Shows Blocks Csv front = (1 ≤ length front) × (is_block_file front ≡ false)
Shows Blocks BlockFault front = (2 ≤ length front) × AreNoBlocks front
Shows Blocks other front = ⊥

-- the record of that number, the header's being 1, brings a fault: the records up to it show it, those before it don't
pub record Brings (Shown : List Record → Type 0) (rows : List Record) (number : ℕ) : Type 0 where
  pub there : (1 ≤ number) × (number ≤ length rows)
  pub shown : Shown (take number rows)
  pub before : ¬ Shown (take (number - 1) rows)

-- the record of that number is the first with a field that isn't UTF-8
pub record IsFirstNoText (rows : List Record) (number : ℕ) : Type 0 where
  pub front : List Record
  pub row : Record
  pub rest : List Record
  pub parts : rows ≡ front ++ row ∷ rest
  pub text : All AllText front
  pub no_text : ¬ AllText row
  pub place : number ≡ length front + 1

-- the record of a file that a person has to look at for a fault
abbrev pub IsWrong : SetupFile → SetupFault → List Record → ℕ → Type 0
IsWrong file fault rows number = Brings (Shows file fault) rows number ⊎ ((fault ≡ Csv) × IsFirstNoText rows number)

-- no record is: a file of text does not show the fault
abbrev pub IsRight : SetupFile → SetupFault → List Record → Type 0
IsRight file fault rows = All AllText rows → ¬ Shows file fault rows

-- one of the file of partners if there is one, else one of the file of blocks
abbrev pub IsWrongOf : SetupFault → List Record → List Record → WrongRecord → Type 0
IsWrongOf fault partner_rows block_rows (OfPartners number) = IsWrong Partners fault partner_rows number
IsWrongOf fault partner_rows block_rows (OfBlocks number) =
    IsRight Partners fault partner_rows × IsWrong Blocks fault block_rows number

-- what is reported of two files
pub record Tells (partners blocks : Text) (Told : List Record → List Record → Type 0) : Type 0 where
  pub partner_rows : List Record
  pub block_rows : List Record
  pub of_partners : AreRows partners partner_rows
  pub of_blocks : AreRows blocks block_rows
  pub told : Told partner_rows block_rows

-- an answer of yes or no
abbrev pub Decides : Bool → Type 0 → Type 0
Decides true Fact = Fact
Decides false Fact = ¬ Fact

-- there is none, or the first isn't text
abbrev pub BeginsNoText : List Record → Type 0
BeginsNoText [] = Unit {0}
BeginsNoText (row ∷ others) = ¬ AllText row

-- the records of a file up to the first that isn't text
pub record AreTexts (rows texts : List Record) : Type 0 where
  pub rest : List Record
  pub parts : rows ≡ texts ++ rest
  pub text : All AllText texts
  pub ends : BeginsNoText rest
