-- How a container comes or leaves (our own).
use Rattle.std.specs.Prelude.{ℕ, zero, suc, List, [], ◌∷◌, ◌++◌, ◌==◌, codes, decimal, if◌then◌else◌, map, slice_index_or, Option, None, Some}
use Rattle.edi_syntax.specs.Moments.{CivilMoment, moment_text}
use Rattle.terminal_core.specs.{declared.change.Source.Source, declared.visits.Departure.Departure, declared.visits.Way.Way, Rows.VisitContent}
use Rattle.terminal_core.specs.declared.visits.Way.TheVariants.{Gate, Ship}
use Rattle.office_admission.specs.Setups.{SetupContent}
use Rattle.office_reports.specs.{Names.line, declared.passages.Passage.Passage}

-- by which way, by which interchange of whom, and when
pub record PassageContent : Type 0 where
  pub way : Way
  pub partner : List ℕ
  pub number : ℕ
  pub moment : CivilMoment

-- the code of the partner with a number, from 1, and nothing if none has it
abbrev pub code_of : SetupContent → ℕ → List ℕ
code_of setup zero = []
code_of setup (suc place) = slice_index_or (map (λ partner. partner.0) setup.partners) place []

abbrev pub passage_by : SetupContent → Way → Source → CivilMoment → PassageContent
passage_by setup way source moment =
    record { way = way; partner = code_of setup source.partner; number = source.number; moment = moment }

-- by which the container of a visit came
abbrev pub arrival_by : SetupContent → VisitContent → PassageContent
arrival_by setup visit = passage_by setup visit.arrival.way visit.arrival.source visit.arrival.moment

-- by which it left, if it did
abbrev pub departure_by : SetupContent → Option Departure → Option PassageContent
departure_by setup None = None
departure_by setup (Some departure) = Some (passage_by setup departure.way departure.source departure.moment)

abbrev pub way_name : Way → List ℕ
way_name Gate = codes "GATE"
way_name Ship = codes "SHIP"

-- GATE PARTNER NUMBER MOMENT
abbrev pub passage_words : PassageContent → List (List ℕ)
passage_words passage =
    way_name passage.way ∷ passage.partner ∷ decimal passage.number ∷ moment_text passage.moment ∷ []

-- BOOKING B, if there is one
abbrev pub booking_words : List ℕ → List (List ℕ)
booking_words [] = []
booking_words (b ∷ bs) = codes "BOOKING" ∷ (b ∷ bs) ∷ []

-- GROSS W, the gross weight in kilograms, if one was stated
abbrev pub gross_words : ℕ → List (List ℕ)
gross_words kilos = if kilos == 0 then [] else codes "GROSS" ∷ decimal kilos ∷ []

-- a line of what it begins with, the booking and the gross weight of a visit, and what stands after
abbrev pub stay_line : (arrival booking : List ℕ) → (kilos : ℕ) → (behind : List ℕ) → List ℕ
stay_line arrival booking kilos behind =
    line (arrival ∷ booking_words booking ++ gross_words kilos ++ behind ∷ [])

-- ---- as the code has it

abbrev pub passage_content : Passage → PassageContent
passage_content passage = record {
  way = passage.way;
  partner = passage.partner.now;
  number = passage.number;
  moment = passage.moment;
}
