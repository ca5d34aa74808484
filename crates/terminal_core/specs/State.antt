-- What a terminal holds: its yard, every visit, and the lines of the vessels' lists.
use Rattle.std.specs.Prelude.{◌≡◌, ℕ, ◌<◌, ◌≤◌, Bool, true, List, [], ◌∷◌, length, filter, find, reverse, Contains, Option, Some, is_none, is_some, ◌&&◌}
use Rattle.std.specs.{Str.bytes_eq, Ordering.nat_cmp, Cmp.Lexicographic.slice_cmp}
use Rattle.box6346.specs.{SizeCode.length_of, declared.box_number.BoxNumber.BoxNumber, declared.slot.Slot.Slot}
use Rattle.edi_messages.specs.Purposes.{CallContent}
use Rattle.yard_core.specs.{YardMap.{YardMap, placement, placement_of, stowed}, declared.placements.Stowed.Stowed, SoundYard.IsSound, Plan.IsPlan}
use Rattle.terminal_core.specs.{declared.lines.LineState.LineState, declared.lines.Side.Side, declared.lines.Side.TheVariants.{Load, Discharge}}
use Rattle.terminal_core.specs.Rows.{VisitContent}
use Rattle.std.specs.FinMap as finite_map

-- ---- lists

-- a line's port, and whether it is done
pub record LineContent : Type 0 where
  pub port : List ℕ
  pub state : LineState

abbrev pub side_code : Side → ℕ
side_code Load = 1
side_code Discharge = 2

-- a line goes by its call, its side and its container: no list has one twice
abbrev pub LineKey : Type 0
LineKey = List (List ℕ)

abbrev pub line_key : CallContent → Side → BoxNumber → LineKey
line_key call side container = call.vessel ∷ call.voyage ∷ (side_code side ∷ []) ∷ container ∷ []

abbrev pub Lines : Type 0
Lines = finite_map.FinMap (slice_cmp (slice_cmp nat_cmp)) LineContent

-- ---- the state

pub record TerminalState : Type 0 where
  pub yard : YardMap
  pub limit : ℕ
  pub visits : List VisitContent
  pub lines : Lines

-- nothing came, nothing is listed
abbrev pub empty_state : YardMap → ℕ → TerminalState
empty_state yard limit = record { yard = yard; limit = limit; visits = []; lines = finite_map.empty }

abbrev pub line_of : TerminalState → CallContent → Side → BoxNumber → Option LineContent
line_of state call side container = finite_map.get state.lines (line_key call side container)

-- the container is in the yard
abbrev pub is_in : TerminalState → BoxNumber → Bool
is_in state container = is_some (finite_map.get state.yard.boxes container)

-- the container's visit that is open
abbrev pub is_open_visit : BoxNumber → VisitContent → Bool
is_open_visit container visit = bytes_eq visit.container container && is_none visit.departure

-- these are the visits that are open, in whatever order
pub record AreOpenOf (visits open_ones : List VisitContent) : Type 0 where
  pub each : (visit : VisitContent) → Contains visits visit → is_none visit.departure ≡ true → Contains open_ones visit
  pub only : (visit : VisitContent) → Contains open_ones visit → Contains visits visit × (is_none visit.departure ≡ true)

abbrev pub open_visit : TerminalState → BoxNumber → Option VisitContent
open_visit state container = find (is_open_visit container) state.visits

-- a visit of the container, open or closed
abbrev pub is_visit_of : BoxNumber → VisitContent → Bool
is_visit_of container visit = bytes_eq visit.container container

-- the container's last visit
abbrev pub last_visit : TerminalState → BoxNumber → Option VisitContent
last_visit state container = find (is_visit_of container) (reverse state.visits)

-- ---- whole states

-- each visit has a number above those before it, and above that one
abbrev pub AreNumbered : ℕ → List VisitContent → Type 0
AreNumbered above [] = Unit {0}
AreNumbered above (visit ∷ visits) = (above < visit.number) × AreNumbered visit.number visits

-- the number of the last of these visits, or that one if there is none
abbrev pub last_from : ℕ → List VisitContent → ℕ
last_from number [] = number
last_from number (visit ∷ visits) = last_from visit.number visits

-- the number of the newest visit, 0 if there is none
abbrev pub last_number : List VisitContent → ℕ
last_number visits = last_from 0 visits

-- how a container stands in a slot by its visit: as long as its size-type, and full or empty
abbrev pub stowed_by : VisitContent → Slot → Stowed
stowed_by visit slot = stowed (placement (length_of visit.size_type) slot) visit.is_laden

-- the container in the yard stands as its open visit tells
abbrev pub IsAsTold : TerminalState → BoxNumber → Type 0
IsAsTold state container =
    (w : Stowed) (visit : VisitContent) → finite_map.get state.yard.boxes container ≡ Some w →
    open_visit state container ≡ Some visit → w ≡ stowed_by visit w.placement.slot

-- The yard is sound, the numbers of visits rise within the limit, and the containers of the yard are exactly those with an
-- open visit, each having one and standing in its length, full or empty as it says.
pub record IsWhole (state : TerminalState) : Type 0 where
  pub plan : IsPlan state.yard.plan
  pub sound : IsSound state.yard.plan (placement_of state.yard.boxes)
  pub numbered : AreNumbered 0 state.visits
  pub within : last_number state.visits ≤ state.limit
  pub one_visit : (container : BoxNumber) → length (filter (is_open_visit container) state.visits) ≤ 1
  pub here : (container : BoxNumber) → is_in state container ≡ is_some (open_visit state container)
  pub as_told : (container : BoxNumber) → IsAsTold state container
