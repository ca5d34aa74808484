-- Texts of plain characters only stand as they are.
use Rattle.std.{specs.List.list_all, proofs.Common.{◌≡◌, ℕ, List, [], ◌∷◌, ◌++◌, ◌==◌, nat_lt, true, refl, inl, inr}}
use Rattle.std.proofs.lemmas.Bool.{and_parts, cases_Bool, false≢true}
use Rattle.office_reports.specs.{Fields.{character_text, field_text}, Markup.is_plain}

plain_character : (c : ℕ) → is_plain c ≡ true → character_text c ≡ c ∷ []
plain_character c bare = elim (cases_Bool (nat_lt c 128)) [
  | inr high ↦ absurd (false≢true (rw high at bare))
  | inl low ↦ elim (cases_Bool (c == 38)) [
    | inl e ↦ absurd (false≢true (rw (low, e) at bare))
    | inr a ↦ elim (cases_Bool (c == 60)) [
      | inl e ↦ absurd (false≢true (rw (low, a, e) at bare))
      | inr l ↦ elim (cases_Bool (c == 62)) [
        | inl e ↦ absurd (false≢true (rw (low, a, l, e) at bare))
        | inr g ↦ elim (cases_Bool (c == 34)) [
          | inl e ↦ absurd (false≢true (rw (low, a, l, g, e) at bare))
          | inr q ↦ elim (cases_Bool (c == 39)) [
            | inl e ↦ absurd (false≢true (rw (low, a, l, g, q, e) at bare))
            | inr p ↦ rw (a, l, g, q, p, low) refl
          ]
        ]
      ]
    ]
  ]
]

pub plain_field : (bytes : List ℕ) → list_all is_plain bytes ≡ true → field_text bytes ≡ bytes
plain_field [] all = refl
plain_field (c ∷ bytes) all =
    let parts = and_parts (is_plain c) (list_all is_plain bytes) all in
    λ i. plain_character c parts.0 i ++ plain_field bytes parts.1 i
