-- The parts of a message: what stands before the equipment, and the group of each equipment.
use Rattle.std.specs.{Prelude.{ℕ, Bool, ◌&&◌, ◌||◌, List, [], ◌∷◌, codes, if◌then◌else◌}, Str.bytes_eq}
use Rattle.edi_syntax.specs.{Text.{Content, has_tag, component_of}, Frames.message_segments_left}
use Rattle.edi_messages.specs.declared.part.Part.{Part}

-- EQD
abbrev pub is_equipment : Content → Bool
is_equipment segment = has_tag (codes "EQD") segment

-- the next equipment, or a control total
abbrev pub ends_group : Content → Bool
ends_group segment = is_equipment segment || has_tag (codes "CNT") segment

-- the segments before the first that ends the group
abbrev pub before_end : List Content → List Content
before_end [] = []
before_end (segment ∷ segments) = if ends_group segment then [] else segment ∷ before_end segments

abbrev pub part_left : Part → List Content
part_left part = before_end (message_segments_left part.rest)

-- the header: what stands before the first equipment
abbrev pub heading : List Content → List Content
heading [] = []
heading (segment ∷ segments) = if is_equipment segment then [] else segment ∷ heading segments

-- an equipment and the segments that speak of it
pub record EquipmentGroup : Type 0 where
  pub equipment : Content
  pub details : List Content

-- Each equipment begins a group, which ends before the next equipment or control total.
abbrev pub groups_of : List Content → List EquipmentGroup
groups_of [] = []
groups_of (segment ∷ segments) =
    if is_equipment segment then record { equipment = segment; details = before_end segments } ∷ groups_of segments
    else groups_of segments

-- a segment with this tag whose first component is the qualifier
abbrev pub is_qualified : List ℕ → List ℕ → Content → Bool
is_qualified tag qualifier segment = has_tag tag segment && bytes_eq (component_of segment 1 1) qualifier

-- a date or time (DTM) in one of the formats (2379) that are read, 203 CCYYMMDDHHMM and 102 CCYYMMDD, whatever it
-- qualifies (2005)
abbrev pub states_moment : Content → Bool
states_moment segment =
    has_tag (codes "DTM") segment
    && (bytes_eq (component_of segment 1 3) (codes "203") || bytes_eq (component_of segment 1 3) (codes "102"))

-- a gross (6313 G) measurement (MEA) in kilograms (6411 KGM), whatever its purpose (6311)
abbrev pub states_weight : Content → Bool
states_weight segment =
    has_tag (codes "MEA") segment
    && bytes_eq (component_of segment 2 1) (codes "G") && bytes_eq (component_of segment 3 1) (codes "KGM")
