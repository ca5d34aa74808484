-- Which rows, each table by its key from the least up, are those of an office: what opened tables are checked for.
use Rattle.std.specs.Prelude.{◌≡◌, ℕ, ◌+◌, ◌-◌, ◌<◌, ◌≤◌, true, false, List, [], ◌∷◌, ◌++◌, length, map, Contains, Option, None, Some, codes, decimal}
use Rattle.std.specs.List.{range_with_len}
use Rattle.edi_syntax.specs.Numbers.{last_number}
use Rattle.edi_messages.specs.{declared.codes.PartnerKind.PartnerKind, Codes.table_texts}
use Rattle.terminal_core.specs.{declared.visits.Departure.Departure, Rows.VisitContent, Changes.{TerminalRows, rows_of}, Forms.IsWellFormed}
use Rattle.terminal_core.specs.{OneByOne.GoOneByOne, State.{TerminalState, IsWhole}}
use Rattle.office_admission.specs.{Setups.SetupContent, Given.IsGiven}
use Rattle.office_rows.specs.{Rows.{Partner, Setting}, Opening.{setting_row, tables_version}, Opened.{NumberKept, OpenedRows}}
use Rattle.office_rows.specs.ByKey.{standing_by, lines_by, ArePlacedOnce, AreListedOnce}

-- ---- the set-up

-- the ten settings by their names, the codes of document names in the order of their table
abbrev pub settings_with : SetupContent → List (List ℕ) → List Setting
settings_with content
    (gate_in ∷ gate_out ∷ yard_move ∷ discharge_list ∷ load_list ∷ discharge_report ∷ load_report ∷ []) =
    setting_row (codes "discharge-list") discharge_list ∷ setting_row (codes "discharge-report") discharge_report
    ∷ setting_row (codes "gate-in") gate_in ∷ setting_row (codes "gate-out") gate_out
    ∷ setting_row (codes "load-list") load_list ∷ setting_row (codes "load-report") load_report
    ∷ setting_row (codes "terminal") content.terminal ∷ setting_row (codes "version") tables_version
    ∷ setting_row (codes "visits") (decimal content.visit_limit) ∷ setting_row (codes "yard-move") yard_move ∷ []
settings_with content others = []

abbrev pub settings_by_name : SetupContent → List Setting
settings_by_name content = settings_with content (table_texts content.codes)

-- ---- the accounts

-- these are the partners' accounts, numbered from that id on, each with a next number
abbrev pub AreAccounts : ℕ → List Partner → List (List ℕ × PartnerKind) → Type 0
AreAccounts id [] [] = Unit {0}
AreAccounts id [] (account ∷ accounts) = ⊥
AreAccounts id (partner ∷ partners) [] = ⊥
AreAccounts id (partner ∷ partners) (account ∷ accounts) =
    (partner.id ≡ id) × (partner.code ≡ account.0) × (partner.kind ≡ account.1)
    × (1 ≤ partner.next) × (partner.next ≤ 1000000000)
    × AreAccounts (id + 1) partners accounts

-- ---- the interchanges

-- each number below the next was taken
abbrev pub taken_numbers : Partner → List NumberKept
taken_numbers partner =
    map (λ number. record { partner = partner.id; number = number; is_taken = true })
    (range_with_len 1 (partner.next - 1))

-- these numbers of the partner wait: each is above that one and not taken, from the least up
abbrev pub AreWaiting : ℕ → ℕ → List NumberKept → Type 0
AreWaiting partner above [] = Unit {0}
AreWaiting partner above (n ∷ numbers) =
    (n.partner ≡ partner) × (n.is_taken ≡ false) × (above < n.number) × (n.number ≤ last_number)
    × AreWaiting partner n.number numbers

-- what is kept for a partner: the numbers below its next, and those that wait for it
pub record IsKeptFor (partner : Partner) (numbers : List NumberKept) : Type 0 where
  pub waiting : List NumberKept
  pub wait : AreWaiting partner.id partner.next waiting
  pub are : numbers ≡ taken_numbers partner ++ waiting

-- the interchanges of the partners, one partner's after the other's
abbrev pub AreKept : List Partner → List NumberKept → Type 0
AreKept [] numbers = numbers ≡ []
AreKept (partner ∷ partners) numbers =
    (own : List NumberKept) × (others : List NumberKept) × (numbers ≡ own ++ others) × IsKeptFor partner own
    × AreKept partners others

-- ---- the visits

abbrev pub HasLeftBy : ℕ → Option Departure → Type 0
HasLeftBy count None = Unit {0}
HasLeftBy count (Some departure) = departure.source.partner ≤ count

-- the partners by whose interchanges a visit was opened and closed have accounts
pub record HasAccounts (count : ℕ) (visit : VisitContent) : Type 0 where
  pub came : visit.arrival.source.partner ≤ count
  pub left : HasLeftBy count visit.departure

-- ---- all of them

abbrev pub opened_terminal : OpenedRows → TerminalRows
opened_terminal rows = record { visits = rows.visits; places = standing_by rows.places; lines = lines_by rows.lines }

-- these rows are those of that set-up and of that terminal
pub record IsOffice (rows : OpenedRows) (content : SetupContent) (state : TerminalState) : Type 0 where
  pub given : IsGiven content
  pub settings : rows.settings ≡ settings_by_name content
  pub blocks : rows.blocks ≡ content.blocks
  pub accounts : AreAccounts 1 rows.partners content.partners
  pub kept : AreKept rows.partners rows.numbers
  pub plan : state.yard.plan ≡ content.blocks
  pub limit : state.limit ≡ content.visit_limit
  pub whole : IsWhole state
  pub one_by_one : GoOneByOne 1 state.visits
  pub formed : IsWellFormed state
  pub accounted : (visit : VisitContent) → Contains state.visits visit → HasAccounts (length content.partners) visit
  pub placed_once : ArePlacedOnce rows.places
  pub listed_once : AreListedOnce rows.lines
  pub terminal : opened_terminal rows ≡ rows_of state
