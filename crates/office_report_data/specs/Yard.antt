-- The report on the yard as JSON and as CSV.
use Rattle.std.specs.{Prelude.{ℕ, List, [], ◌∷◌, ◌++◌, codes, encode_utf8_all}, List.flat_map, Map.values_of}
use Rattle.serde_json.specs.Data.{Data, string, object, member, no_members}
use Rattle.box6346.specs.SlotName.{slot_text}
use Rattle.office_reports.specs.{Names.slot_name, declared.yard.Standing.Standing}
use Rattle.office_report_data.specs.{Rows.rows_object, Tables.record_text, Words.load_word}

abbrev pub standing_data : Standing → Data
standing_data standing =
    object (member (codes "container") (string standing.container) (member (codes "load") (string (load_word standing.is_laden))
    (member (codes "size_type") (string standing.size_type) (member (codes "slot") (string (slot_name standing.slot)) no_members))))

abbrev pub yard_data : List (List ℕ × Standing) → Data
yard_data yard = rows_object standing_data (values_of yard)

-- ---- as CSV

-- slot, box, size-type, and full or empty
abbrev pub standing_fields : Standing → List (List ℕ)
standing_fields standing = slot_text standing.slot ∷ standing.container ∷ standing.size_type ∷ load_word standing.is_laden ∷ []

abbrev pub standing_record : Standing → List ℕ
standing_record standing = record_text (standing_fields standing)

abbrev pub header_record : List ℕ
header_record = record_text (codes "slot" ∷ codes "box" ∷ codes "size" ∷ codes "load" ∷ [])

-- a header, and a record for each container
abbrev pub export_text : List (List ℕ × Standing) → List ℕ
export_text yard = header_record ++ flat_map standing_record (values_of yard)

-- the same, each byte as the character of its number
abbrev pub yard_table : List (List ℕ × Standing) → List ℕ
yard_table yard = encode_utf8_all (export_text yard)
