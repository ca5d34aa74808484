-- The names of the yard's slots: block letter, bay of three digits, row of two, tier of one.
use Rattle.std.specs.Prelude.{◌≡◌, ◌==◌, ◌<◌, IsTrue, ℕ, ◌+◌, ◌-◌, ◌*◌, ◌/◌, ◌%◌, Bool, ◌&&◌, if◌then◌else◌, List, [], ◌∷◌, length, slice_index, Option, Some, None}
use Rattle.std.specs.{Char.{is_ascii_uppercase, is_ascii_digit}, List.list_all}
use Rattle.box6346.specs.{Characters.digit_zero, declared.slot.Slot.Slot}

-- a bay's three digits, a row's two and a tier's one
abbrev pub are_six_digits : List ℕ → Bool
are_six_digits text = length text == 6 && list_all is_ascii_digit text

-- the digit at a position
abbrev pub digit : List ℕ → ℕ → ℕ
digit digits position = slice_index digits position - digit_zero

-- what six digits after a letter name
abbrev pub slot_at : ℕ → List ℕ → Slot
slot_at letter digits = record {
  block = letter;
  bay = 100 * digit digits 0 + 10 * digit digits 1 + digit digits 2;
  row = 10 * digit digits 3 + digit digits 4;
  tier = digit digits 5;
}

-- the slot with this name, only by its form
unfoldable pub slot_of : List ℕ → Option Slot
slot_of [] = None
slot_of (letter ∷ digits) =
    if is_ascii_uppercase letter && are_six_digits digits then Some (slot_at letter digits) else None

-- a slot's name; of a number that doesn't fit its digits, the lowest
abbrev pub slot_text : Slot → List ℕ
slot_text slot =
    slot.block
    ∷ (digit_zero + slot.bay / 100 % 10) ∷ (digit_zero + slot.bay / 10 % 10) ∷ (digit_zero + slot.bay % 10)
    ∷ (digit_zero + slot.row / 10 % 10) ∷ (digit_zero + slot.row % 10)
    ∷ (digit_zero + slot.tier % 10) ∷ []

-- A slot with a capital for its block and numbers that fit their digits is read again from its name.
pub record IsNamed (slot : Slot) : Type 0 where
  pub block : IsTrue (is_ascii_uppercase slot.block)
  pub bay : slot.bay < 1000
  pub row : slot.row < 100
  pub tier : slot.tier < 10

abbrev pub NamesAreReadAgain : Type 0
NamesAreReadAgain = (slot : Slot) → IsNamed slot → slot_of (slot_text slot) ≡ Some slot
