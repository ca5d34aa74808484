use Rattle.std.proofs.Common.{All, IsTrue, List, ℕ, subst, sym}
use Rattle.edi_messages.specs.declared.codes.PartnerKind.{PartnerKind}
use Rattle.office_admission.specs.Given.{is_party_code}
use Rattle.office_loading.proofs.Offices.{all_coded}
use Rattle.office_loading.proofs.numbers.accounts_of.Goals as goal

pub of-requires : goal.of-requires
of-requires c =
    let P : List (List ℕ × PartnerKind) → Type 0 = All (λ (partner : List ℕ × PartnerKind). IsTrue (is_party_code partner.0)) in
    subst P (sym c.in_ok-list.ensures) (all_coded c.args.partners.items c.requires)
