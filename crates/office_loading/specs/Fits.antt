-- What the types of a row that is read can hold: what the code relies on, and no caller has to read.
use Rattle.std.specs.Prelude.{◌≡◌, ◌^◌, ◌<◌, Option, Some, None, IsTrue, IsUtf8}
use Rattle.box6346.specs.{NumberText.is_number, SizeText.is_size, SlotName.{slot_of, slot_text}, declared.slot.Slot.Slot}
use Rattle.edi_syntax.specs.Moments.{CivilMoment, moment_of, moment_digits}
use Rattle.terminal_core.specs.{declared.visits.Arrival.Arrival, declared.visits.Departure.Departure, declared.change.Source.Source, Rows.VisitContent}
use Rattle.yard_core.specs.declared.plan.Block.{Block}
use Rattle.office_rows.specs.{Rows.{Partner, PlaceContent, ListingContent, Setting}, Opened.NumberKept}

-- ---- columns

-- it is read again from its name
abbrev pub IsSlot : Slot → Type 0
IsSlot slot = slot_of (slot_text slot) ≡ Some slot

-- it is read again from its digits
abbrev pub IsMoment : CivilMoment → Type 0
IsMoment moment = moment_of (moment_digits moment) ≡ Some moment

-- ---- rows

pub record FitsPartner (partner : Partner) : Type 0 where
  pub id : partner.id < 2 ^ 32
  pub code : IsUtf8 partner.code
  pub next : partner.next < 2 ^ 32

pub record FitsNumber (numbered : NumberKept) : Type 0 where
  pub partner : numbered.partner < 2 ^ 32
  pub number : numbered.number < 2 ^ 32

pub record FitsSource (source : Source) : Type 0 where
  pub partner : source.partner < 2 ^ 16
  pub number : source.number < 2 ^ 32

pub record FitsArrival (arrival : Arrival) : Type 0 where
  pub source : FitsSource arrival.source
  pub moment : IsMoment arrival.moment
  pub slot : IsSlot arrival.slot

pub record FitsDeparture (departure : Departure) : Type 0 where
  pub source : FitsSource departure.source
  pub moment : IsMoment departure.moment

-- none at all, or a whole one
abbrev pub FitsExit : Option Departure → Type 0
FitsExit None = Unit {0}
FitsExit (Some departure) = FitsDeparture departure

pub record FitsVisit (visit : VisitContent) : Type 0 where
  pub number : visit.number < 2 ^ 32
  pub container : IsTrue (is_number visit.container)
  pub size_type : IsTrue (is_size visit.size_type)
  pub booking : IsUtf8 visit.booking
  pub arrival : FitsArrival visit.arrival
  pub exit : FitsExit visit.departure
  pub kilos : visit.kilos < 2 ^ 32

pub record FitsPlace (place : PlaceContent) : Type 0 where
  pub container : IsTrue (is_number place.container)
  pub visit : place.visit < 2 ^ 32
  pub slot : IsSlot place.slot

pub record FitsLine (line : ListingContent) : Type 0 where
  pub vessel : IsUtf8 line.call.vessel
  pub voyage : IsUtf8 line.call.voyage
  pub container : IsTrue (is_number line.container)
  pub port : IsUtf8 line.port

pub record FitsSetting (setting : Setting) : Type 0 where
  pub name : IsUtf8 setting.name
  pub value : IsUtf8 setting.value

pub record FitsBlock (block : Block) : Type 0 where
  pub bays : block.bays < 2 ^ 8
  pub rows : block.rows < 2 ^ 8
  pub tiers : block.tiers < 2 ^ 8
