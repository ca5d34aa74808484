-- The open lines of the vessels' lists that name a container (our own).
use Rattle.std.specs.{Prelude.{ℕ, Bool, List, [], ◌∷◌, ◌++◌, ◌&&◌, filter, if◌then◌else◌}, List.flat_map, Ordering.{nat_cmp, is_gt}, Str.bytes_eq}
use Rattle.std.specs.Cmp.Lexicographic.{slice_cmp}
use Rattle.box6346.specs.declared.box_number.BoxNumber.{BoxNumber}
use Rattle.terminal_core.specs.{declared.lines.Side.TheVariants.{Load, Discharge}, Drop.{container_in, is_pending}}
use Rattle.terminal_core.specs.State.{LineContent, LineKey, Lines, side_code}
use Rattle.office_reports.specs.{Lists.{list_name, port_words}, Names.line}
use Rattle.std.specs.FinMap as finite_map

-- the line is open, and names the container
abbrev pub is_open_for : BoxNumber → LineKey × LineContent → Bool
is_open_for container entry = bytes_eq (container_in entry.0) container && is_pending entry.1.state

-- A map's entries stand by their keys, and a line's key is its vessel, its voyage, its side, load before discharge, and
-- its container.
abbrev pub open_lines : Lines → BoxNumber → List (LineKey × LineContent)
open_lines lines container = filter (is_open_for container) (finite_map.entries lines)

-- LOAD or DISCHARGE, by the side as it stands in a key
abbrev pub side_name : List ℕ → List ℕ
side_name side = if bytes_eq side (side_code Load ∷ []) then list_name Load else list_name Discharge

-- LOAD VESSEL VOYAGE, or DISCHARGE
abbrev pub line_words : LineKey → List (List ℕ)
line_words (vessel ∷ voyage ∷ side ∷ container ∷ []) = side_name side ∷ vessel ∷ voyage ∷ []
line_words other = []

-- the same, and the port if there is one
abbrev pub open_line : LineKey × LineContent → List ℕ
open_line entry = line (line_words entry.0 ++ port_words entry.1.port)

abbrev pub open_lines_text : Lines → BoxNumber → List ℕ
open_lines_text lines container = flat_map open_line (open_lines lines container)

-- ---- what the code goes by, and no caller has to read

-- the first key stands after the other
abbrev pub is_behind : LineKey → LineKey → Bool
is_behind key other = is_gt (slice_cmp (slice_cmp nat_cmp) key other)
