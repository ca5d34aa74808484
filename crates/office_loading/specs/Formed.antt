-- The forms of rows: what the code relies on, and no caller has to read.
use Rattle.std.specs.{Prelude.{◌≡◌, ℕ, ◌+◌, ◌<◌, ◌≤◌, List, map, Option, None, Some, IsTrue, All}, List.Sorted.IsNonDecreasingBy}
use Rattle.box6346.specs.SlotName.{IsNamed}
use Rattle.yard_core.specs.declared.plan.Block.{Block}
use Rattle.edi_syntax.specs.Moments.{is_moment}
use Rattle.terminal_core.specs.{declared.visits.Arrival.Arrival, declared.visits.Departure.Departure, declared.change.Source.Source, Listings.line_content}
use Rattle.terminal_core.specs.{declared.lines.Listing.Listing, declared.change.Place.Place, declared.restoring.RestoreFault.RestoreFault, Restoring.AreRowsOf}
use Rattle.terminal_core.specs.{declared.restoring.RestoreFault.TheVariants.{Unsound, Memory}, declared.visits.Visit.Visit, Rows.{VisitContent, visit_content}}
use Rattle.terminal_core.specs.{Forms.{IsSource, IsFormedVisit, IsFormedLine}, State.TerminalState}
use Rattle.edi_messages.specs.Owned.{call_content}
use Rattle.office_rows.specs.Office.{HasAccounts}
use Rattle.office_loading.specs.Checks.{AreOwnVisits}

-- the source has its form, and its partner is among so many
abbrev pub IsSoundSource : ℕ → Source → Type 0
IsSoundSource count source = IsSource source × (source.partner ≤ count)

abbrev pub IsSoundArrival : ℕ → Arrival → Type 0
IsSoundArrival count arrival =
    IsSoundSource count arrival.source × IsTrue (is_moment arrival.moment) × IsNamed arrival.slot

abbrev pub IsSoundDeparture : ℕ → Departure → Type 0
IsSoundDeparture count departure = IsSoundSource count departure.source × IsTrue (is_moment departure.moment)

abbrev pub IsSoundExit : ℕ → Option Departure → Type 0
IsSoundExit count None = Unit {0}
IsSoundExit count (Some departure) = IsSoundDeparture count departure

-- the visit has its form, and those who opened and closed it are among so many partners
pub record IsSoundVisit (count : ℕ) (visit : VisitContent) : Type 0 where
  pub formed : IsFormedVisit visit
  pub accounted : HasAccounts count visit

abbrev pub IsSoundLine : Listing → Type 0
IsSoundLine line = IsFormedLine (call_content line.call) line.side line.container (line_content line)

abbrev pub AreSoundVisits : ℕ → List Visit → Type 0
AreSoundVisits count visits = All (λ (visit : Visit). IsSoundVisit count (visit_content visit)) visits

abbrev pub AreSoundLines : List Listing → Type 0
AreSoundLines lines = All IsSoundLine lines

-- the blocks stand by their letters
abbrev pub AreByLetter : List Block → Type 0
AreByLetter blocks = IsNonDecreasingBy (λ (block : Block). block.letter) blocks

-- a visit's number is above that of the visit before it, and beyond the newest closing the next one
abbrev pub MayFollow : (newest_closed before number : ℕ) → Type 0
MayFollow newest_closed before number = (before < number) × (newest_closed + 1 < number → number ≡ before + 1)

-- the rows of visits, places and lines are those of the state, visits and lines have their forms, and the numbers of
-- visits go on as a store's own do
pub record AreTerminal (newest_closed count limit : ℕ) (blocks : List Block) (visits : List Visit) (places : List Place)
    (lines : List Listing) (state : TerminalState) : Type 0 where
  pub visits_sound : AreSoundVisits count visits
  pub own_visits : AreOwnVisits newest_closed (map visit_content visits)
  pub lines_sound : AreSoundLines lines
  pub rows : AreRowsOf blocks limit visits places lines state

-- why they are not: they are those of no state, or memory was refused
abbrev pub RefusesTerminal : (newest_closed count limit : ℕ) → List Block → List Visit → List Place → List Listing →
    RestoreFault → Type 0
RefusesTerminal newest_closed count limit blocks visits places lines Unsound =
    (state : TerminalState) → ¬ AreTerminal newest_closed count limit blocks visits places lines state
RefusesTerminal newest_closed count limit blocks visits places lines Memory = Unit {0}
