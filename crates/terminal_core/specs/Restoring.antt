-- Which rows are those of a state.
use Rattle.std.specs.{Prelude.{◌≡◌, ◌≢◌, ℕ, ◌<◌, ◌≤◌, List, length, slice_index, true, map, Some, Contains, count_by, is_none}, Str.bytes_eq}
use Rattle.box6346.specs.declared.box_number.BoxNumber.{BoxNumber}
use Rattle.edi_messages.specs.Purposes.{CallContent}
use Rattle.yard_core.specs.{declared.plan.Block.Block, declared.placements.Stowed.Stowed, declared.yard.YardFault.YardFault, Calls.{PutsBack, RefusesPutBack}}
use Rattle.yard_core.specs.{SoundYard.IsSound, YardMap.{Boxes, YardMap, placement_of}}
use Rattle.terminal_core.specs.{declared.lines.Listing.Listing, declared.restoring.RestoreFault.RestoreFault, declared.lines.Side.Side}
use Rattle.terminal_core.specs.{declared.restoring.RestoreFault.TheVariants.{Unsound, Memory}, declared.change.Place.Place, declared.visits.Visit.Visit}
use Rattle.terminal_core.specs.{Rows.{VisitContent, visit_content}, State.{TerminalState, is_open_visit, stowed_by, IsWhole}, Listings.{is_line, lines_of}}
use Rattle.std.specs.FinMap as finite_map
use Rattle.yard_core.specs.declared.yard.YardFault.TheVariants as yard

-- the visit has the number that the place names, and is its container's open one
pub record Names (visits : List VisitContent) (place : Place) (visit : VisitContent) : Type 0 where
  pub listed : Contains visits visit
  pub number : visit.number ≡ place.visit
  pub is_open : is_open_visit place.container visit ≡ true

-- the container stands in the place's slot, as the visit that the place names tells
pub record Stands (visits : List VisitContent) (boxes : Boxes) (place : Place) : Type 0 where
  pub visit : VisitContent
  pub names : Names visits place visit
  pub stands : finite_map.get boxes place.container ≡ Some (stowed_by visit place.slot)

-- the places are those where the yard's containers stand, each once
pub record ArePlacesOf (visits : List VisitContent) (boxes : Boxes) (places : List Place) : Type 0 where
  pub each : (place : Place) → Contains places place → Stands visits boxes place
  pub every : (container : BoxNumber) (w : Stowed) → finite_map.get boxes container ≡ Some w →
      (place : Place) × Contains places place × (place.container ≡ container)
  pub once : (container : BoxNumber) → count_by (λ place. bytes_eq place.container container) places ≤ 1

-- no line stands twice
abbrev pub AreOnce : List Listing → Type 0
AreOnce lines = (call : CallContent) (side : Side) (container : BoxNumber) →
    count_by (is_line call side container) lines ≤ 1

-- why lines are not restored: one stands twice, or memory was refused
abbrev pub RefusesLines : List Listing → RestoreFault → Type 0
RefusesLines lines Unsound = ¬ AreOnce lines
RefusesLines lines Memory = Unit {0}

-- these are the rows of that whole state
pub record AreRowsOf (plan : List Block) (limit : ℕ) (visits : List Visit) (places : List Place) (lines : List Listing)
    (state : TerminalState) : Type 0 where
  pub whole : IsWhole state
  pub plan_is : state.yard.plan ≡ plan
  pub limit_is : state.limit ≡ limit
  pub visits_are : state.visits ≡ map visit_content visits
  pub places_are : ArePlacesOf state.visits state.yard.boxes places
  pub lines_are : state.lines ≡ lines_of lines
  pub lines_once : AreOnce lines

-- why rows are not restored: they are those of no whole state, or memory was refused
abbrev pub RefusesRows : List Block → ℕ → List Visit → List Place → List Listing → RestoreFault → Type 0
RefusesRows plan limit visits places lines Unsound =
    (state : TerminalState) → ¬ AreRowsOf plan limit visits places lines state
RefusesRows plan limit visits places lines Memory = Unit {0}

-- ---- a part of it: the yard

-- the yard of a whole state with these visits, and no lines
abbrev pub without_lines : YardMap → ℕ → List VisitContent → TerminalState
without_lines yard limit visits = record { yard = yard; limit = limit; visits = visits; lines = finite_map.empty }

-- the places are those of that yard, beside these visits
pub record IsYardOf (plan : List Block) (limit : ℕ) (visits : List VisitContent) (places : List Place)
    (yard : YardMap) : Type 0 where
  pub whole : IsWhole (without_lines yard limit visits)
  pub plan_is : yard.plan ≡ plan
  pub places_are : ArePlacesOf visits yard.boxes places

abbrev pub RefusesYard : List Block → ℕ → List VisitContent → List Place → RestoreFault → Type 0
RefusesYard plan limit visits places Unsound = (yard : YardMap) → ¬ IsYardOf plan limit visits places yard
RefusesYard plan limit visits places Memory = Unit {0}

-- no sound yard has these places
abbrev pub RefusesPlaces : List Block → List VisitContent → List Place → RestoreFault → Type 0
RefusesPlaces plan visits places Unsound =
    (boxes : Boxes) → IsSound plan (placement_of boxes) → ¬ ArePlacesOf visits boxes places
RefusesPlaces plan visits places Memory = Unit {0}

-- the container of a place was put back in its slot, as the visit that the place names tells
pub record IsPut (visits : List VisitContent) (old new : YardMap) (place : Place) : Type 0 where
  pub visit : VisitContent
  pub names : Names visits place visit
  pub puts : PutsBack old new place.container (stowed_by visit place.slot)

-- a refusal other than of memory
abbrev pub cause_of : YardFault → RestoreFault
cause_of yard.Memory = Memory
cause_of yard.Present = Unsound
cause_of yard.Absent = Unsound
cause_of (yard.Buried blocker) = Unsound
cause_of yard.NoSlot = Unsound
cause_of yard.SlotKind = Unsound
cause_of yard.Taken = Unsound
cause_of yard.OnAir = Unsound
cause_of yard.OnEmpty = Unsound
cause_of yard.NoRoom = Unsound

-- why it was not
abbrev pub RefusesPut : List VisitContent → YardMap → Place → RestoreFault → Type 0
RefusesPut visits old place Unsound =
    (visit : VisitContent) → Names visits place visit
    → (fault : YardFault) × (fault ≢ yard.Memory)
    × RefusesPutBack old place.container (stowed_by visit place.slot) fault
RefusesPut visits old place Memory = Unit {0}

-- the numbers of visits, as they stand
abbrev pub numbers_of : List Visit → List ℕ
numbers_of visits = map (λ (visit : Visit). visit.number) visits

-- each number is below those after it
abbrev pub AreRising : List ℕ → Type 0
AreRising numbers = (i j : ℕ) → i < j → j < length numbers → slice_index numbers i < slice_index numbers j

-- a place names each open visit
abbrev pub AreNamed : List VisitContent → List Place → Type 0
AreNamed visits places =
    (visit : VisitContent) → Contains visits visit → is_none visit.departure ≡ true →
    (place : Place) × Contains places place × (place.visit ≡ visit.number)
