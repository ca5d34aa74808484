-- What a terminal's files say of its set-up, and why they may say none.
use Rattle.std.specs.Prelude.{◌≡◌, ℕ, Bool, true, not, ◌&&◌, ◌||◌, nat_le, List, [], ◌∷◌, length, map, drop, Option, None, Some, codes, ◌≤◌, if◌then◌else◌}
use Rattle.std.specs.{Option.{option_map, option_map_or, option_and_then}, List.{find, list_all, list_any}, List.Sorted.{IsNonDecreasingBy, IsPermutation}}
use Rattle.std.specs.Str.{bytes_eq}
use Rattle.edi_messages.specs.{CodeText.table_fault, Codes.table_texts, declared.codes.PartnerKind.PartnerKind}
use Rattle.edi_syntax.specs.Numbers.{number_of}
use Rattle.yard_core.specs.{declared.plan.Block.Block, Plan.IsPlan}
use Rattle.office_admission.specs.{Given.is_party_code, Kinds.kind_named, Limits.{most_partners, most_visits}, Setups.SetupContent}
use Rattle.office_explain.specs.Entries.{Text, Record, NamedValue, AreFiles, AreRows, field, section, count_said}
use Rattle.office_explain.specs.declared.setup_reading.SetupFault.{SetupFault}
use Rattle.office_explain.specs.declared.setup_reading.SetupFault.TheVariants.{Csv, Terminal, Partner, Code, Limit, Block as BlockFault, Memory}

-- no name stands twice
abbrev pub are_apart : List Text → Bool
are_apart [] = true
are_apart (name ∷ names) = not (list_any (λ (other : Text). bytes_eq other name) names) && are_apart names

abbrev pub names_of : List NamedValue → List Text
names_of entries = map (λ (entry : NamedValue). entry.0) entries

-- ---- the terminal: one entry, with a code and nothing more

abbrev pub terminal_said : List NamedValue → Option (Text)
terminal_said [] = None
terminal_said (entry ∷ []) = if is_party_code entry.0 && bytes_eq entry.1 [] then Some entry.0 else None
terminal_said (entry ∷ second ∷ others) = None

-- ---- the partners: 1 to 999, each with a code of its own and a kind

abbrev pub partner_said : NamedValue → Option (Text × PartnerKind)
partner_said entry =
    if is_party_code entry.0 then option_map (λ (kind : PartnerKind). (entry.0, kind)) (kind_named entry.1)
    else None

pub record ArePartners (entries : List NamedValue) (partners : List (Text × PartnerKind)) : Type 0 where
  pub counted : (1 ≤ length entries) × (length entries ≤ most_partners)
  pub apart : are_apart (names_of entries) ≡ true
  pub said : map partner_said entries ≡ map Some partners

-- the entries are those of no partners
abbrev pub AreNoPartners : List NamedValue → Type 0
AreNoPartners entries = (partners : List (Text × PartnerKind)) → ¬ ArePartners entries partners

-- ---- the codes of document names: those of the file, else the usual ones

abbrev pub is_code_name : Text → Bool
is_code_name name =
    bytes_eq name (codes "gate-in") || bytes_eq name (codes "gate-out") || bytes_eq name (codes "yard-move")
    || bytes_eq name (codes "discharge-list")
    || bytes_eq name (codes "load-list") || bytes_eq name (codes "discharge-report")
    || bytes_eq name (codes "load-report")

-- the value of the first entry with a name
abbrev pub value_of : List NamedValue → Text → Text → Text
value_of entries name usual =
    option_map_or (λ (entry : NamedValue). entry.1) (find (λ (entry : NamedValue). bytes_eq entry.0 name) entries) usual

-- in the order of the table
abbrev pub code_texts : List NamedValue → List Text
code_texts entries =
    value_of entries (codes "gate-in") (codes "34") ∷ value_of entries (codes "gate-out") (codes "36")
    ∷ value_of entries (codes "yard-move") (codes "YMV")
    ∷ value_of entries (codes "discharge-list") (codes "43") ∷ value_of entries (codes "load-list") (codes "45")
    ∷ value_of entries (codes "discharge-report") (codes "44") ∷ value_of entries (codes "load-report") (codes "46")
    ∷ []

-- each entry has a name of a code, no two the same, and the codes make a table
pub record AreCodes (entries : List NamedValue) : Type 0 where
  pub named : list_all is_code_name (names_of entries) ≡ true
  pub apart : are_apart (names_of entries) ≡ true
  pub table : table_fault (code_texts entries) ≡ None

-- ---- the limit of visits: at most one entry

-- from 1 to as many as there may be
abbrev pub limit_in : Option ℕ → Option ℕ
limit_in None = None
limit_in (Some number) = if nat_le 1 number && nat_le number most_visits then Some number else None

abbrev pub limit_said : List NamedValue → Option ℕ
limit_said [] = Some most_visits
limit_said (entry ∷ []) = if bytes_eq entry.0 (codes "visits") then limit_in (number_of 9 entry.1) else None
limit_said (entry ∷ second ∷ others) = None

-- ---- the blocks: a letter and three numbers, none above the most that a block may have

abbrev pub letter_said : Text → Option ℕ
letter_said (letter ∷ []) = Some letter
letter_said other = None

abbrev pub block_said : Record → Option Block
block_said row =
    option_and_then (λ (letter : ℕ).
    option_and_then (λ (bays : ℕ).
    option_and_then (λ (rows : ℕ).
    option_map (λ (tiers : ℕ). record { letter = letter; bays = bays; rows = rows; tiers = tiers })
    (count_said 6 (field 3 row)))
    (count_said 12 (field 2 row)))
    (count_said 40 (field 1 row)))
    (letter_said (field 0 row))

-- the blocks in the order of the file, which make a plan
pub record AreBlocks (rows : List Record) (blocks : List Block) : Type 0 where
  pub said : map block_said (drop 1 rows) ≡ map Some blocks
  pub plan : IsPlan blocks

-- the records are those of no blocks
abbrev pub AreNoBlocks : List Record → Type 0
AreNoBlocks rows = (blocks : List Block) → ¬ AreBlocks rows blocks

-- ---- the set-up

-- what the records of the two files say
pub record SaysSetup (partner_rows block_rows : List Record) (setup : SetupContent) : Type 0 where
  pub files : AreFiles partner_rows block_rows
  pub terminal : terminal_said (section (codes "terminal") partner_rows) ≡ Some setup.terminal
  pub partners : ArePartners (section (codes "partner") partner_rows) setup.partners
  pub coded : AreCodes (section (codes "code") partner_rows)
  pub table : table_texts setup.codes ≡ code_texts (section (codes "code") partner_rows)
  pub limit : limit_said (section (codes "limit") partner_rows) ≡ Some setup.visit_limit
  pub blocks : (blocks : List Block) × AreBlocks block_rows blocks × IsPermutation blocks setup.blocks
  pub by_letter : IsNonDecreasingBy (λ (block : Block). block.letter) setup.blocks

-- a fault applies to the records of the two files
abbrev pub Applies : List Record → List Record → SetupFault → Type 0
Applies partner_rows block_rows Csv = ¬ AreFiles partner_rows block_rows
Applies partner_rows block_rows Terminal = terminal_said (section (codes "terminal") partner_rows) ≡ None
Applies partner_rows block_rows Partner = AreNoPartners (section (codes "partner") partner_rows)
Applies partner_rows block_rows Code = ¬ AreCodes (section (codes "code") partner_rows)
Applies partner_rows block_rows Limit = limit_said (section (codes "limit") partner_rows) ≡ None
Applies partner_rows block_rows BlockFault = AreNoBlocks block_rows
Applies partner_rows block_rows Memory = Unit {0}

-- no fault below this one applies
abbrev pub NoneBelow : List Record → List Record → SetupFault → Type 0
NoneBelow p b Csv = Unit {0}
NoneBelow p b Terminal = ¬ Applies p b Csv
NoneBelow p b Partner = (¬ Applies p b Csv) × (¬ Applies p b Terminal)
NoneBelow p b Code = (¬ Applies p b Csv) × (¬ Applies p b Terminal) × (¬ Applies p b Partner)
NoneBelow p b Limit = (¬ Applies p b Csv) × (¬ Applies p b Terminal) × (¬ Applies p b Partner) × (¬ Applies p b Code)
NoneBelow p b BlockFault =
    (¬ Applies p b Csv) × (¬ Applies p b Terminal) × (¬ Applies p b Partner) × (¬ Applies p b Code)
    × (¬ Applies p b Limit)
NoneBelow p b Memory = Unit {0}

abbrev pub IsLowest : List Record → List Record → SetupFault → Type 0
IsLowest p b fault = Applies p b fault × NoneBelow p b fault

-- what two files say
abbrev pub SayFiles : Text → Text → SetupContent → Type 0
SayFiles partners blocks setup = (p b : List Record) × AreRows partners p × AreRows blocks b × SaysSetup p b setup

-- why they say nothing: the lowest fault of their records, or memory was refused
abbrev pub RefuseFiles : Text → Text → SetupFault → Type 0
RefuseFiles partners blocks Memory = Unit {0}
RefuseFiles partners blocks fault = (p b : List Record) × AreRows partners p × AreRows blocks b × IsLowest p b fault

-- the file of blocks that goes with a file of partners, and the file of partners where none is given
abbrev pub one_block : Text
one_block = codes "block,bays,rows,tiers\nA,1,1,1\n"

abbrev pub no_partners : Text
no_partners = codes "what,name,value\nterminal,TERM1,\npartner,HAULA,gate\n"

-- as the program prints it
abbrev pub fault_name : SetupFault → Text
fault_name Csv = codes "Csv"
fault_name Terminal = codes "Terminal"
fault_name Partner = codes "Partner"
fault_name Code = codes "Code"
fault_name Limit = codes "Limit"
fault_name BlockFault = codes "Block"
fault_name Memory = codes "Memory"
