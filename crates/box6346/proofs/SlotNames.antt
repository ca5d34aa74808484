-- A slot's name is read as the slot again.
use Rattle.std.{specs.{Char.is_ascii_digit, List.list_all}, proofs.Common.{◌≡◌, ℕ, ◌+◌, ◌-◌, ◌*◌, ◌/◌, ◌%◌, ◌<◌, true, drop, refl, arith}}
use Rattle.std.proofs.lemmas.Bool.{and_from, le-leb}
use Rattle.box6346.specs.{declared.slot.Slot.Slot, SlotName.{IsNamed, NamesAreReadAgain, slot_of, slot_text, slot_at}}

-- the three digits of a number below a thousand
three_digits : (n : ℕ) → n < 1000 → 100 * (48 + n / 100 % 10 - 48) + 10 * (48 + n / 10 % 10 - 48) + (48 + n % 10 - 48) ≡ n
three_digits n small = omega arith

two_digits : (n : ℕ) → n < 100 → 10 * (48 + n / 10 % 10 - 48) + (48 + n % 10 - 48) ≡ n
two_digits n small = omega arith

one_digit : (n : ℕ) → n < 10 → 48 + n % 10 - 48 ≡ n
one_digit n small = omega arith

digit_shown : (n : ℕ) → is_ascii_digit (48 + n % 10) ≡ true
digit_shown n = and_from _ _ (le-leb 48 (48 + n % 10) (omega arith)) (le-leb (48 + n % 10) 57 (omega arith))

digits_shown : (slot : Slot) → list_all is_ascii_digit (drop 1 (slot_text slot)) ≡ true
digits_shown slot =
    rw (digit_shown (slot.bay / 100), digit_shown (slot.bay / 10), digit_shown slot.bay, digit_shown (slot.row / 10), digit_shown slot.row, digit_shown slot.tier) refl

numbers_kept : (slot : Slot) → IsNamed slot → slot_at slot.block (drop 1 (slot_text slot)) ≡ slot
numbers_kept slot named =
    rw (three_digits slot.bay named.bay, two_digits slot.row named.row, one_digit slot.tier named.tier) refl

pub names_are_read_again_lem : NamesAreReadAgain
unfolding slot_of
names_are_read_again_lem slot named = rw (named.block, digits_shown slot, numbers_kept slot named) refl
