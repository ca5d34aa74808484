-- Bytes that are a text.
use Rattle.std.{specs.Str.{IsUtf8, is_utf8}, proofs.{Common.{◌≡◌, ℕ, List, Option, None, Some, inl, inr, refl}, lemmas.{Bool.cases_Bool, Str.{IsUtf8-from_is_utf8, is_utf8-from_IsUtf8}}}}
use Rattle.office_pages.specs.Typed.{text_by}

pub is_text : (bytes text : List ℕ) → text ≡ bytes → IsUtf8 bytes → Some text ≡ text_by bytes
is_text bytes text is utf8 = rw (is, is_utf8-from_IsUtf8 bytes utf8) refl

pub is_no_text : (bytes : List ℕ) → (IsUtf8 bytes → ⊥) → text_by bytes ≡ None
is_no_text bytes none = elim (cases_Bool (is_utf8 bytes)) [
  | inl is ↦ absurd (none (IsUtf8-from_is_utf8 bytes is))
  | inr not ↦ rw not refl
]
