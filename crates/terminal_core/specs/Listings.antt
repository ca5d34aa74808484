-- The lines of the vessels' lists as rows.
use Rattle.std.specs.{Prelude.{◌≡◌, ℕ, ◌<◌, List, map, Bool, true, false, ◌&&◌, ◌==◌, Some, slice_get, string_bytes}, Str.bytes_eq}
use Rattle.box6346.specs.declared.box_number.BoxNumber.{BoxNumber}
use Rattle.edi_messages.specs.{Purposes.CallContent, Owned.call_content}
use Rattle.terminal_core.specs.{declared.lines.Listing.Listing, declared.lines.Side.Side, State.{LineContent, LineKey, Lines, line_key, side_code}}
use Rattle.std.specs.FinMap as finite_map

abbrev pub key_of : Listing → LineKey
key_of row = line_key (call_content row.call) row.side row.container

abbrev pub line_content : Listing → LineContent
line_content row = record { port = string_bytes row.port; state = row.state }

abbrev pub line_entry : Listing → LineKey × LineContent
line_entry row = (key_of row, line_content row)

abbrev pub is_side : Side → Side → Bool
is_side a b = side_code a == side_code b

-- the lines of rows: of two under one key the first counts
abbrev pub lines_of : List Listing → Lines
lines_of rows = finite_map.from_entries (map line_entry rows)

-- the row is the line of that call, side and container
abbrev pub is_line : CallContent → Side → BoxNumber → Listing → Bool
is_line call side container row =
    bytes_eq row.container container && is_side row.side side && bytes_eq (string_bytes row.call.voyage) call.voyage
    && bytes_eq (string_bytes row.call.vessel) call.vessel

-- no row before that place is
abbrev pub NoneBefore : CallContent → Side → BoxNumber → List Listing → ℕ → Type 0
NoneBefore call side container rows place =
    (k : ℕ) (row : Listing) → k < place → slice_get rows k ≡ Some row → is_line call side container row ≡ false

-- the row at that place is, and none before
pub record IsFirstAt (call : CallContent) (side : Side) (container : BoxNumber) (rows : List Listing)
    (place : ℕ) : Type 0 where
  pub row : Listing
  pub at : slice_get rows place ≡ Some row
  pub is : is_line call side container row ≡ true
  pub before : NoneBefore call side container rows place
