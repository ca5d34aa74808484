-- How reports write lines, slots and loads.
use Rattle.std.specs.{Prelude.{ℕ, Bool, List, ◌++◌, if◌then◌else◌, codes, encode_utf8_all}, List.join_by}
use Rattle.box6346.specs.{SlotName.slot_text, declared.slot.Slot.Slot}

-- the text of a slot, each byte as the character of its number: that of a slot with a name is its name
abbrev pub slot_name : Slot → List ℕ
slot_name slot = encode_utf8_all (slot_text slot)

abbrev pub load_name : Bool → List ℕ
load_name is_laden = if is_laden then codes "FULL" else codes "EMPTY"

-- words with a space between each two
unfoldable pub phrase : List (List ℕ) → List ℕ
phrase words = join_by (λ word. word) (codes " ") words

-- a line of these words, which ends with LF
unfoldable pub line : List (List ℕ) → List ℕ
line words = phrase words ++ codes "\n"
