-- The rows of visits, places and lines by their keys, as the terminal's own rows.
use Rattle.std.specs.{Prelude.{◌≤◌, List, find, Option, count_by, map}, Option.option_map}
use Rattle.box6346.specs.declared.box_number.BoxNumber.{BoxNumber}
use Rattle.edi_messages.specs.Purposes.{CallContent}
use Rattle.terminal_core.specs.{declared.lines.Side.Side, Changes.{Standing, standing_in, TerminalRows}, State.{LineContent, LineKey, Lines, line_key}}
use Rattle.office_rows.specs.{Rows.{PlaceContent, ListingContent, Rows}, Effects.{stands_for, is_line}}
use Rattle.std.specs.FinMap as finite_map

-- where a container stands by the places: of two the first counts
abbrev pub standing_by : List PlaceContent → BoxNumber → Option Standing
standing_by places container =
    option_map (λ (place : PlaceContent). standing_in place.visit place.slot) (find (stands_for container) places)

abbrev pub line_entry : ListingContent → LineKey × LineContent
line_entry line = (line_key line.call line.side line.container, record { port = line.port; state = line.state })

-- the lines by call, side and container: of two the first counts
abbrev pub lines_by : List ListingContent → Lines
lines_by lines = finite_map.from_entries (map line_entry lines)

abbrev pub terminal_rows : Rows → TerminalRows
terminal_rows rows = record { visits = rows.visits; places = standing_by rows.places; lines = lines_by rows.lines }

-- no container has two places
abbrev pub ArePlacedOnce : List PlaceContent → Type 0
ArePlacedOnce places = (container : BoxNumber) → count_by (stands_for container) places ≤ 1

-- no line stands twice
abbrev pub AreListedOnce : List ListingContent → Type 0
AreListedOnce lines =
    (call : CallContent) (side : Side) (container : BoxNumber) → count_by (is_line call side container) lines ≤ 1
