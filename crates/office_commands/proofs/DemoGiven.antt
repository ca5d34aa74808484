-- Set-up files could give the demonstration's set-up.
use Rattle.std.{specs.{Prelude.slice_get, Str.bytes_eq}, proofs.lemmas.Bool.and_parts}
use Rattle.std.proofs.Common.{◌≡◌, ℕ, zero, suc, Bool, true, false, not, ◌&&◌, List, [], ◌∷◌, None, Some, refl, sym, ap, subst, ◌∙◌, arith, rules}
use Rattle.edi_messages.specs.{CodeText.table_fault, Codes.table_texts, declared.code.CodeTable.CodeTable, declared.codes.PartnerKind.PartnerKind}
use Rattle.terminal_core.proofs.Open.{same_self}
use Rattle.yard_core.specs.Plan.{AreApart}
use Rattle.office_admission.specs.{Given.{IsGiven, AreDistinct}, Setups.SetupContent}
use Rattle.office_commands.specs.Demo.{IsDemo, demo_content, demo_partners, demo_blocks}

-- the name is that of none of these
abbrev is_none_of : List ℕ → List (List ℕ × PartnerKind) → Bool
is_none_of name [] = true
is_none_of name (x ∷ xs) = not (bytes_eq name x.0) && is_none_of name xs

abbrev are_apart : List (List ℕ × PartnerKind) → Bool
are_apart [] = true
are_apart (x ∷ xs) = is_none_of x.0 xs && are_apart xs

not_itself : (b : Bool) → not b ≡ true → b ≡ true → ⊥
not_itself true e f = absurd cc
not_itself false e f = absurd cc

some_is : (x y : List ℕ × PartnerKind) → Some x ≡ Some y → x ≡ y
some_is x y e = cc

none_at : (name : List ℕ) (xs : List (List ℕ × PartnerKind)) (j : ℕ) (b : List ℕ × PartnerKind) → is_none_of name xs ≡ true → slice_get xs j ≡ Some b → name ≡ b.0 → ⊥
none_at name [] j b none at same = absurd cc
none_at name (x ∷ xs) zero b none at same =
    let is : name ≡ x.0 = same ∙ sym (ap (λ (p : List ℕ × PartnerKind). p.0) (some_is x b at)) in
    not_itself (bytes_eq name x.0) (and_parts _ _ none).0 (subst (λ other. bytes_eq name other ≡ true) is (same_self name))
none_at name (x ∷ xs) (suc j) b none at same = none_at name xs j b (and_parts _ _ none).1 at same

distinct : (xs : List (List ℕ × PartnerKind)) → are_apart xs ≡ true → AreDistinct xs
distinct [] apart i j a b e f same = absurd cc
distinct (x ∷ xs) apart zero zero a b e f same = refl
distinct (x ∷ xs) apart zero (suc j) a b e f same =
    absurd (none_at x.0 xs j b (and_parts _ _ apart).0 f (ap (λ (p : List ℕ × PartnerKind). p.0) (some_is x a e) ∙ same))
distinct (x ∷ xs) apart (suc i) zero a b e f same =
    absurd (none_at x.0 xs i a (and_parts _ _ apart).0 e (ap (λ (p : List ℕ × PartnerKind). p.0) (some_is x b f) ∙ sym same))
distinct (x ∷ xs) apart (suc i) (suc j) a b e f same = ap suc (distinct xs (and_parts _ _ apart).1 i j a b e f same)

one_block : AreApart demo_blocks
one_block zero zero a b e f same = refl
one_block zero (suc j) a b e f same = absurd cc
one_block (suc i) j a b e f same = absurd cc

content_given : (table : CodeTable) → table_fault (table_texts table) ≡ None → IsGiven (demo_content table)
content_given table fine = record {
  terminal = search rules;
  counted = (omega arith, omega arith);
  coded = search rules;
  distinct = distinct demo_partners refl;
  codes = fine;
  plan = record { counted = (omega arith, omega arith); lettered = search rules; apart = one_block; sized = search rules };
  by_letter = search rules;
  limit = (omega arith, omega arith);
}

pub demo_given : (content : SetupContent) → IsDemo content → IsGiven content
demo_given content demo = subst IsGiven (sym demo.is) (content_given content.codes (ap table_fault demo.codes_are ∙ refl))
