-- The forms of what a terminal holds.
use Rattle.std.specs.Prelude.{◌≡◌, ℕ, ◌≤◌, List, [], Option, None, Some, IsTrue, Contains}
use Rattle.box6346.specs.{NumberText.is_number, SizeText.is_size, SlotName.IsNamed, declared.box_number.BoxNumber.BoxNumber}
use Rattle.edi_syntax.specs.{Moments.is_moment, Numbers.last_number}
use Rattle.edi_messages.specs.{Purposes.CallContent, Forms.{is_name_if_any, IsFormedCall, IsFormedOrder}, Orders.OrderContent}
use Rattle.yard_core.specs.{YardMap.{YardMap, placement_of}, declared.placements.Placement.Placement}
use Rattle.terminal_core.specs.{declared.visits.Departure.Departure, declared.lines.Side.Side, declared.lines.Side.TheVariants.{Load, Discharge}, Step.step_by}
use Rattle.terminal_core.specs.{declared.change.Source.Source, declared.change.Version.Version, Rows.VisitContent}
use Rattle.terminal_core.specs.State.{TerminalState, LineContent, line_of, empty_state, IsWhole}
use Rattle.std.specs.FinMap as finite_map

-- ---- numbers

-- the last id that a partner may have
abbrev pub last_partner : ℕ
last_partner = 999

-- a partner, and a number that an interchange may have
pub record IsSource (source : Source) : Type 0 where
  pub partner_low : 1 ≤ source.partner
  pub partner_high : source.partner ≤ last_partner
  pub number_low : 1 ≤ source.number
  pub number_high : source.number ≤ last_number

-- ---- rows

pub record IsFormedDeparture (departure : Departure) : Type 0 where
  pub source : IsSource departure.source
  pub moment : IsTrue (is_moment departure.moment)

-- none at all, or a whole one
abbrev pub IsFormedExit : Option Departure → Type 0
IsFormedExit None = Unit {0}
IsFormedExit (Some departure) = IsFormedDeparture departure

pub record IsFormedVisit (visit : VisitContent) : Type 0 where
  pub container : IsTrue (is_number visit.container)
  pub size_type : IsTrue (is_size visit.size_type)
  pub booking : IsTrue (is_name_if_any visit.booking)
  pub source : IsSource visit.arrival.source
  pub moment : IsTrue (is_moment visit.arrival.moment)
  pub slot : IsNamed visit.arrival.slot
  pub exit : IsFormedExit visit.departure
  pub kilos : visit.kilos ≤ 999999

-- a discharge list has no port
abbrev pub IsFormedPort : Side → List ℕ → Type 0
IsFormedPort Load port = IsTrue (is_name_if_any port)
IsFormedPort Discharge port = port ≡ []

pub record IsFormedLine (call : CallContent) (side : Side) (container : BoxNumber) (line : LineContent) : Type 0 where
  pub call_formed : IsFormedCall call
  pub container_formed : IsTrue (is_number container)
  pub port_formed : IsFormedPort side line.port

-- ---- states

-- each visit and each line has its form, and each container stands in a slot that has a name
pub record IsWellFormed (state : TerminalState) : Type 0 where
  pub visits : (visit : VisitContent) → Contains state.visits visit → IsFormedVisit visit
  pub lines : (call : CallContent) (side : Side) (container : BoxNumber) (line : LineContent) →
      line_of state call side container ≡ Some line → IsFormedLine call side container line
  pub slots : (container : BoxNumber) (s : Placement) → placement_of state.yard.boxes container ≡ Some s →
      IsNamed s.slot

-- ---- the laws

-- nothing has every form
abbrev pub EmptyIsWellFormed : Type 0
EmptyIsWellFormed = (yard : YardMap) (limit : ℕ) → yard.boxes ≡ finite_map.empty → IsWellFormed (empty_state yard limit)

-- a well-formed order leaves a well-formed state
abbrev pub StepsKeepForms : Type 0
StepsKeepForms =
    (version : Version) (state : TerminalState) (source : Source) (order : OrderContent) → IsWhole state →
    IsWellFormed state → IsSource source → IsFormedOrder order →
    IsWellFormed (step_by version state source order).state
