-- Which set-ups the set-up files can give.
use Rattle.std.specs.{Prelude.{◌≡◌, ℕ, ◌≤◌, List, length, slice_get, Some, None, All, IsTrue}, List.Sorted.IsNonDecreasingBy}
use Rattle.edi_messages.specs.{CodeText.table_fault, Codes.table_texts, declared.codes.PartnerKind.PartnerKind}
use Rattle.yard_core.specs.{declared.plan.Block.Block, Plan.IsPlan}
use Rattle.office_admission.specs.{Limits.{most_partners, most_visits}, Setups.SetupContent}
pub use Rattle.office_admission.specs.PartyCodes.{is_party_byte, is_party_code}

-- no two partners have one code
abbrev pub AreDistinct : List (List ℕ × PartnerKind) → Type 0
AreDistinct partners =
    (i j : ℕ) (a b : List ℕ × PartnerKind) → slice_get partners i ≡ Some a → slice_get partners j ≡ Some b → a.0 ≡ b.0 →
    i ≡ j

pub record IsGiven (setup : SetupContent) : Type 0 where
  pub terminal : IsTrue (is_party_code setup.terminal)
  pub counted : (1 ≤ length setup.partners) × (length setup.partners ≤ most_partners)
  pub coded : All (λ (partner : List ℕ × PartnerKind). IsTrue (is_party_code partner.0)) setup.partners
  pub distinct : AreDistinct setup.partners
  pub codes : table_fault (table_texts setup.codes) ≡ None
  pub plan : IsPlan setup.blocks
  pub by_letter : IsNonDecreasingBy (λ (block : Block). block.letter) setup.blocks
  pub limit : (1 ≤ setup.visit_limit) × (setup.visit_limit ≤ most_visits)
