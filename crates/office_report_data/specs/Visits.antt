-- The report on a container's visits as JSON and as CSV.
use Rattle.std.specs.{Prelude.{◌≡◌, ℕ, ◌-ℤ◌, List, [], ◌∷◌, ◌++◌, codes, decimal, string_bytes, Option, None, Some}, Fmt.signed_decimal}
use Rattle.json.specs.Print.{quoted}
use Rattle.serde_json.specs.{Data.{Data, Members, string, number, unsigned, object, member, no_members, put}, Find.of_integer}
use Rattle.edi_syntax.specs.Moments.{CivilMoment, day_number, moment_text}
use Rattle.terminal_core.specs.{declared.visits.Departure.Departure, Rows.VisitContent}
use Rattle.office_admission.specs.Setups.{SetupContent}
use Rattle.office_reports.specs.{Names.slot_name, Passages.{PassageContent, arrival_by, departure_by}, Visits.VisitsContent}
use Rattle.office_report_data.specs.{Archives.{ToldContent, told_data}, Containers.passage_data, Rows.rows_data, Tables.table_text}
use Rattle.office_report_data.specs.declared.visits.{PassageFields.PassageFields, VisitFields.VisitFields}
use Rattle.office_report_data.specs.Words.{load_word, field_of, number_field, number_or_null, or_null, text_or_null, way_word}

-- the days from the date of entry to that of exit
abbrev pub days_data : (entry : CivilMoment) → Option Departure → Data
days_data entry departure = or_null (λ exit. number (of_integer (day_number exit.moment -ℤ day_number entry))) departure

unfoldable pub visit_data : SetupContent → VisitContent → Data
visit_data setup visit =
    object (member (codes "booking") (text_or_null visit.booking)
    (member (codes "days") (days_data visit.arrival.moment visit.departure)
    (member (codes "entry") (passage_data (arrival_by setup visit))
    (member (codes "exit") (or_null passage_data (departure_by setup visit.departure))
    (member (codes "gross") (number_or_null visit.kilos) (member (codes "load") (string (load_word visit.is_laden))
    (member (codes "size_type") (string visit.size_type) (member (codes "slot") (string (slot_name visit.arrival.slot))
    (member (codes "visit") (number (unsigned visit.number)) no_members)))))))))

abbrev pub visits_object : VisitsContent → ToldContent
visits_object report = record {
  key = codes "container";
  value = string report.container;
  others = member (codes "rows") (rows_data (visit_data report.setup) report.visits) no_members;
}

abbrev pub visits_data : VisitsContent → Data
visits_data report = told_data (visits_object report)

-- what stands before the rows
unfoldable pub visits_front : (container : List ℕ) → List ℕ
visits_front container = codes "{\"container\":" ++ quoted container ++ codes ",\"rows\":["

-- ---- as CSV

unfoldable pub visits_header : List (List ℕ)
visits_header =
    codes "visit" ∷ codes "size_type" ∷ codes "load" ∷ codes "entry_way" ∷ codes "entry_partner" ∷ codes "entry_number"
    ∷ codes "entry_moment" ∷ codes "slot" ∷ codes "booking" ∷ codes "gross" ∷ codes "exit_way" ∷ codes "exit_partner"
    ∷ codes "exit_number" ∷ codes "exit_moment" ∷ codes "days" ∷ []

-- way, partner, number and moment, if there is a passage
abbrev pub passage_fields : Option PassageContent → List (List ℕ)
passage_fields None = [] ∷ [] ∷ [] ∷ [] ∷ []
passage_fields (Some passage) =
    way_word passage.way ∷ passage.partner ∷ decimal passage.number ∷ moment_text passage.moment ∷ []

abbrev pub days_field : (entry : CivilMoment) → Option Departure → List ℕ
days_field entry departure = field_of (λ exit. signed_decimal (day_number exit.moment -ℤ day_number entry)) departure

-- the columns of a visit in their order, the passages by four each
unfoldable pub visit_record : (visit size_type load : List ℕ) → (entry : List (List ℕ)) → (slot booking gross : List ℕ)
    → (exit : List (List ℕ)) → (days : List ℕ) → List (List ℕ)
visit_record visit size_type load entry slot booking gross exit days =
    visit ∷ size_type ∷ load ∷ (entry ++ (slot ∷ booking ∷ gross ∷ (exit ++ (days ∷ []))))

unfoldable pub visit_fields : SetupContent → VisitContent → List (List ℕ)
visit_fields setup visit =
    visit_record (decimal visit.number) visit.size_type (load_word visit.is_laden) (passage_fields (Some (arrival_by setup visit)))
    (slot_name visit.arrival.slot) visit.booking (number_field visit.kilos)
    (passage_fields (departure_by setup visit.departure)) (days_field visit.arrival.moment visit.departure)

abbrev pub visits_table : VisitsContent → List ℕ
visits_table report = table_text visits_header (visit_fields report.setup) report.visits

-- ---- as the code has it

abbrev pub fields_content : PassageFields → List (List ℕ)
fields_content fields = string_bytes fields.way ∷ string_bytes fields.partner ∷ string_bytes fields.number ∷ string_bytes fields.moment ∷ []

-- each is what it says of the visit
pub record AreOfVisit (visit : VisitContent) (fields : VisitFields) : Type 0 where
  pub counted : string_bytes fields.number ≡ decimal visit.number
  pub size : string_bytes fields.size ≡ visit.size_type
  pub slot : string_bytes fields.slot ≡ slot_name visit.arrival.slot
  pub booking : string_bytes fields.booking ≡ visit.booking
  pub gross : string_bytes fields.gross ≡ number_field visit.kilos
  pub days : string_bytes fields.days ≡ days_field visit.arrival.moment visit.departure

abbrev pub record_of : VisitFields → (load : List ℕ) → (entry exit : PassageFields) → List (List ℕ)
record_of fields load entry exit =
    visit_record (string_bytes fields.number) (string_bytes fields.size) load (fields_content entry) (string_bytes fields.slot)
    (string_bytes fields.booking) (string_bytes fields.gross) (fields_content exit) (string_bytes fields.days)

-- an object's members, with these among them: what stays the same of a visit
unfoldable pub with_stay : VisitContent → Members → Members
with_stay visit members =
    put (codes "visit") (number (unsigned visit.number)) (put (codes "slot") (string (slot_name visit.arrival.slot))
    (put (codes "size_type") (string visit.size_type) (put (codes "load") (string (load_word visit.is_laden))
    (put (codes "gross") (number_or_null visit.kilos) (put (codes "booking") (text_or_null visit.booking) members)))))

-- with these among them: its passages
unfoldable pub with_passages : SetupContent → VisitContent → Members → Members
with_passages setup visit members =
    put (codes "exit") (or_null passage_data (departure_by setup visit.departure))
    (put (codes "entry") (passage_data (arrival_by setup visit))
    (put (codes "days") (days_data visit.arrival.moment visit.departure) members))
