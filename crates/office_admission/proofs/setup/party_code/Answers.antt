use Rattle.std.{specs.{Prelude.{◌&&◌, nat_le}, List.list_all, Str.{IsAscii, IsUtf8}}, proofs.{lemmas.Bool.and_parts, lemmas.Bool.Decides.nat_tests}}
use Rattle.std.proofs.{Common.{◌≡◌, ℕ, ◌<◌, List, [], ◌∷◌, length, Bool, true, false, refl, arith}, lemmas.Str.IsUtf8-from_ascii}
use Rattle.std.proofs.lemmas.Str.Ascii.{IsAscii-cons, IsAscii-nil}
use Rattle.office_admission.specs.PartyCodes.{is_party_byte, is_party_code}
use Rattle.office_admission.proofs.setup.party_code.Goals as goal

byte_low : (c : ℕ) → is_party_byte c ≡ true → c < 128
byte_low c e = grind (arith, nat_tests)

bytes_low : (bytes : List ℕ) → list_all is_party_byte bytes ≡ true → IsAscii bytes
bytes_low [] e = IsAscii-nil
bytes_low (b ∷ bytes) e = let parts = and_parts (is_party_byte b) (list_all is_party_byte bytes) e in IsAscii-cons b bytes (byte_low b parts.0) (bytes_low bytes parts.1)

no_code : (bytes : List ℕ) → (IsUtf8 bytes → ⊥) → (is : Bool) → is_party_code bytes ≡ is → is ≡ false
no_code bytes other false e = refl
no_code bytes other true e =
    let parts = and_parts (nat_le 1 (length bytes) && nat_le (length bytes) 35) (list_all is_party_byte bytes) e in
    absurd (other (IsUtf8-from_ascii bytes (bytes_low bytes parts.1)))

pub returns-in_default : goal.returns-in_default
returns-in_default c = no_code c.args.bytes.now c.in_default.ensures.cases.0 (is_party_code c.args.bytes.now) refl
