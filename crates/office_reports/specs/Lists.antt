-- The report on a vessel's list (our own).
use Rattle.std.specs.Prelude.{◌≡◌, ℕ, Bool, true, false, List, [], ◌∷◌, ◌++◌, not, count_by, map, ◌&&◌, string_bytes, codes, decimal, Option, None, Some}
use Rattle.std.specs.{List.flat_map, Option.option_map, Str.bytes_eq}
use Rattle.box6346.specs.declared.box_number.BoxNumber.{BoxNumber}
use Rattle.edi_messages.specs.{Owned.call_content, Purposes.CallContent}
use Rattle.terminal_core.specs.{declared.lines.LineState.LineState, declared.lines.LineState.TheVariants.{Pending, Done}, declared.lines.Side.Side}
use Rattle.terminal_core.specs.{declared.lines.Side.TheVariants.{Load, Discharge}, declared.lines.Listing.Listing, Listings.is_side}
use Rattle.terminal_core.specs.State.{TerminalState, LineContent, line_of}
use Rattle.office_reports.specs.{declared.lists.ListReport.ListReport, declared.lists.ListedLine.ListedLine, Listed.AreListed, Names.line}

-- the line that a container has on a call's list
abbrev pub HasLine : TerminalState → CallContent → Side → BoxNumber → LineContent → Type 0
HasLine state call side container content = line_of state call side container ≡ Some content

-- ---- what the report tells

-- a call's list on one side: its lines, by their containers
pub record ListContent : Type 0 where
  pub call : CallContent
  pub side : Side
  pub lines : List (List ℕ × LineContent)

-- nothing of a list that has no line
abbrev pub list_by : CallContent → Side → List (List ℕ × LineContent) → Option ListContent
list_by call side [] = None
list_by call side (entry ∷ list) = Some (record { call = call; side = side; lines = entry ∷ list })

-- what was found is told of the lines of a call's list, by their containers
pub record IsOfLines {X : Type 0} (state : TerminalState) (call : CallContent) (side : Side)
    (told : List (List ℕ × LineContent) → Option X) (found : Option X) : Type 0 where
  pub list : List (List ℕ × LineContent)
  pub listed : AreListed (HasLine state call side) list
  pub is : found ≡ told list

-- ---- its text

abbrev pub list_name : Side → List ℕ
list_name Load = codes "LOAD"
list_name Discharge = codes "DISCHARGE"

abbrev pub is_done : LineState → Bool
is_done Done = true
is_done Pending = false

abbrev pub state_name : LineState → List ℕ
state_name Done = codes "DONE"
state_name Pending = codes "OPEN"

-- the port, if it is not empty
abbrev pub port_words : List ℕ → List (List ℕ)
port_words [] = []
port_words (b ∷ bs) = (b ∷ bs) ∷ []

-- BOX OPEN or BOX DONE, and the port
abbrev pub list_line : List ℕ × LineContent → List ℕ
list_line entry = line (entry.0 ∷ state_name entry.1.state ∷ port_words entry.1.port)

abbrev pub is_done_line : List ℕ × LineContent → Bool
is_done_line entry = is_done entry.1.state

-- LOAD or DISCHARGE, what the report is about, VESSEL VOYAGE
abbrev pub list_head : Side → (about : List ℕ) → CallContent → List ℕ
list_head side about call = line (list_name side ∷ about ∷ call.vessel ∷ call.voyage ∷ [])

-- a OPEN b DONE
abbrev pub list_end : List (List ℕ × LineContent) → List ℕ
list_end list = line
    (decimal (count_by (λ entry. not (is_done_line entry)) list) ∷ codes "OPEN" ∷ decimal (count_by is_done_line list)
    ∷ codes "DONE" ∷ [])

abbrev pub list_text : ListContent → List ℕ
list_text report =
    list_head report.side (codes "LIST") report.call ++ flat_map list_line report.lines ++ list_end report.lines

-- nothing if there is no line
abbrev pub list_found : CallContent → Side → List (List ℕ × LineContent) → Option (List ℕ)
list_found call side list = option_map list_text (list_by call side list)

-- the lines of a call's list, by their containers
pub record IsListReport (state : TerminalState) (call : CallContent) (side : Side)
    (found : Option (List ℕ)) : Type 0 where
  pub list : List (List ℕ × LineContent)
  pub listed : AreListed (HasLine state call side) list
  pub is : found ≡ list_found call side list

-- ---- rows

-- the row is on that call's list
abbrev pub is_on : CallContent → Side → Listing → Bool
is_on call side row =
    is_side row.side side && bytes_eq (string_bytes row.call.voyage) call.voyage
    && bytes_eq (string_bytes row.call.vessel) call.vessel

-- what a line says
abbrev pub shown_line : ListedLine → LineContent
shown_line listed = record { port = string_bytes listed.port; state = listed.state }

-- what lines say, by their containers
abbrev pub list_contents : List (List ℕ × ListedLine) → List (List ℕ × LineContent)
list_contents entries = map (λ entry. (entry.0, shown_line entry.1)) entries

abbrev pub list_content : ListReport → ListContent
list_content report = record {
  call = call_content report.call.now;
  side = report.side;
  lines = list_contents report.lines.entries;
}
