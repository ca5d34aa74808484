-- Which rows, each table by its key from the least up, are a store's own, of which interchanges and visits were put away:
-- what the opened tables of any store are checked for.
use Rattle.std.specs.Prelude.{◌≡◌, ◌⊎◌, ◌↔◌, ℕ, ◌<◌, ◌≤◌, List, [], ◌∷◌, length, All, Contains}
use Rattle.edi_syntax.specs.Numbers.{last_number}
use Rattle.terminal_core.specs.{Rows.VisitContent, Changes.rows_of, Forms.IsWellFormed, State.{TerminalState, IsWhole}}
use Rattle.office_admission.specs.{Setups.SetupContent, Given.IsGiven}
use Rattle.office_rows.specs.{Rows.Partner, Opened.{NumberKept, OpenedRows}, ByKey.{ArePlacedOnce, AreListedOnce}}
use Rattle.office_rows.specs.Office.{settings_by_name, AreAccounts, HasAccounts, opened_terminal, IsOffice}
use Rattle.office_loading.specs.{Checks.{numbers_beyond, AreKeptBeyond, AreOwnVisits}, Closed.{ClosedContent, nothing_closed}}

-- ---- the interchanges

-- the last number that is closed is below the one that may be taken next
abbrev pub IsClosedBelow : (last_closed : ℕ → ℕ) → Partner → Type 0
IsClosedBelow last_closed partner = last_closed partner.id < partner.next

-- it has a higher number of that partner, or one from 1 on of a later one
abbrev pub ComesAfter : (partner number : ℕ) → NumberKept → Type 0
ComesAfter partner number n = ((n.partner ≡ partner) × (number < n.number)) ⊎ ((partner < n.partner) × (1 ≤ n.number))

-- it comes after, is of one of so many partners, and its number is one that there is
abbrev pub IsInOrder : (count partner number : ℕ) → NumberKept → Type 0
IsInOrder count partner number n = ComesAfter partner number n × (n.partner ≤ count) × (n.number ≤ last_number)

-- they stand by partner and number, none twice
abbrev pub AreInOrder : (count partner number : ℕ) → List NumberKept → Type 0
AreInOrder count partner number [] = Unit {0}
AreInOrder count partner number (n ∷ numbers) =
    IsInOrder count partner number n × AreInOrder count n.partner n.number numbers

-- They are the partners', in order. Of each partner no number from its next on is closed, and beyond those that are
-- closed each below its next was taken, and the others wait.
pub record AreOwnNumbers (last_closed : ℕ → ℕ) (partners : List Partner) (numbers : List NumberKept) : Type 0 where
  pub in_order : AreInOrder (length partners) 1 0 numbers
  pub below : All (IsClosedBelow last_closed) partners
  pub kept : AreKeptBeyond last_closed partners (numbers_beyond last_closed numbers)

-- ---- all of them

-- As `IsOffice`, but any interchange up to the last one that is closed may be gone, and any visit up to the newest closing.
pub record IsOwnOffice (closed : ClosedContent) (rows : OpenedRows) (content : SetupContent) (state : TerminalState) :
    Type 0 where
  pub given : IsGiven content
  pub settings : rows.settings ≡ settings_by_name content
  pub blocks : rows.blocks ≡ content.blocks
  pub accounts : AreAccounts 1 rows.partners content.partners
  pub own_numbers : AreOwnNumbers closed.last_closed rows.partners rows.numbers
  pub plan : state.yard.plan ≡ content.blocks
  pub limit : state.limit ≡ content.visit_limit
  pub whole : IsWhole state
  pub own_visits : AreOwnVisits closed.newest_closed state.visits
  pub formed : IsWellFormed state
  pub accounted : (visit : VisitContent) → Contains state.visits visit → HasAccounts (length content.partners) visit
  pub placed_once : ArePlacedOnce rows.places
  pub listed_once : AreListedOnce rows.lines
  pub terminal : opened_terminal rows ≡ rows_of state

-- where nothing is closed these are the rows of an office
abbrev pub NothingClosedIsAnOffice : Type 0
NothingClosedIsAnOffice = (rows : OpenedRows) (content : SetupContent) (state : TerminalState) →
    IsOwnOffice nothing_closed rows content state ↔ IsOffice rows content state
