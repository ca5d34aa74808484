-- Where the lines of the vessels' lists are found: what the code relies on, and no caller has to read.
use Rattle.std.specs.Prelude.{◌≡◌, ◌≢◌, ◌⊎◌, ◌<◌, ◌-◌, suc, length, ℕ, Bool, ◌&&◌, ◌==◌, List, Option, None, Some, string_bytes, slice_get, if◌then◌else◌}
use Rattle.std.specs.{Str.bytes_eq, Map.lookup, HashMap.HashMap, declared.hash.FoldHasher.FoldHasher, declared.hash.BuildHasherDefault.BuildHasherDefault}
use Rattle.box6346.specs.declared.box_number.BoxNumber.{BoxNumber}
use Rattle.edi_messages.specs.{Purposes.CallContent, Owned.call_content, declared.call.Call.Call}
use Rattle.terminal_core.specs.{declared.lines.Listing.Listing, declared.lines.Side.Side, State.side_code}

-- indexes of a call's lines, by list and container
abbrev pub CallIndexes : Type 0
CallIndexes = HashMap (ℕ × List ℕ) ℕ (BuildHasherDefault FoldHasher)

abbrev pub AllIndexes : Type 0
AllIndexes = HashMap Call CallIndexes (BuildHasherDefault FoldHasher)

abbrev pub is_call : CallContent → Call → Bool
is_call call other = bytes_eq call.vessel (string_bytes other.vessel)
    && bytes_eq call.voyage (string_bytes other.voyage)

abbrev pub is_key : Side → BoxNumber → ℕ × List ℕ → Bool
is_key side container key = side_code side == key.0 && bytes_eq container key.1

-- the indexes of a call's lines
abbrev pub indexes_of : AllIndexes → CallContent → Option CallIndexes
indexes_of indexes call = lookup (is_call call) indexes.entries

abbrev pub index_by : Option CallIndexes → Side → BoxNumber → Option ℕ
index_by None side container = None
index_by (Some of_call) side container = lookup (is_key side container) of_call.entries

-- where a line is said to stand
abbrev pub index_in : AllIndexes → CallContent → Side → BoxNumber → Option ℕ
index_in indexes call side container = index_by (indexes_of indexes call) side container

-- each line has the index that it had
abbrev pub SameIndexes : AllIndexes → AllIndexes → Type 0
SameIndexes old new =
    (call : Call) (side : Side) (container : BoxNumber) →
    index_in new (call_content call) side container ≡ index_in old (call_content call) side container

-- two lines go by one key
abbrev pub is_same_line : CallContent → Side → BoxNumber → Call → Side → BoxNumber → Bool
is_same_line call side container other_call other_side other =
    is_call call other_call && (side_code side == side_code other_side && bytes_eq container other)

-- the line has that index, and each other the one that it had
abbrev pub NotesIndex : AllIndexes → AllIndexes → CallContent → Side → BoxNumber → ℕ → Type 0
NotesIndex old new call side container row_index =
    (other_call : Call) (other_side : Side) (other : BoxNumber)
    → index_in new (call_content other_call) other_side other
    ≡ (if is_same_line call side container other_call other_side other then Some row_index
    else index_in old (call_content other_call) other_side other)

-- each line is said to stand where it stands
abbrev pub AreNoted : List Listing → AllIndexes → Type 0
AreNoted rows indexes =
    (k : ℕ) (row : Listing) → slice_get rows k ≡ Some row →
    index_in indexes (call_content row.call) row.side row.container ≡ Some k

-- the row at that place is gone, and the last one stands there
pub record IsWithout (old new : List Listing) (place : ℕ) : Type 0 where
  pub kept : (k : ℕ) (row : Listing) → slice_get new k ≡ Some row →
      ((k ≢ place) × (suc k < length old) × (slice_get old k ≡ Some row)) ⊎ ((k ≡ place) × (suc place < length old) × (slice_get old (length old - 1) ≡ Some row))
  pub there : (k : ℕ) (row : Listing) → slice_get old k ≡ Some row → k ≢ place →
      (j : ℕ) × (slice_get new j ≡ Some row)
