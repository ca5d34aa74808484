-- What follows where two set-ups say the same.
use Rattle.std.proofs.{Common.{◌≡◌, ℕ, List, map, string_bytes, sym, ap, ◌∙◌}, lemmas.Simd.map-map}
use Rattle.edi_messages.specs.declared.codes.PartnerKind.{PartnerKind}
use Rattle.office_admission.specs.{declared.setup.Account.Account, declared.setup.Setup.Setup, Parties.{partner_codes, partner_kinds, parties_of}}
use Rattle.office_admission.specs.Setups.{account_contents, setup_content}

abbrev codes_in : List (List ℕ × PartnerKind) → List (List ℕ)
codes_in contents = map (λ content. content.0) contents

abbrev kinds_in : List (List ℕ × PartnerKind) → List PartnerKind
kinds_in contents = map (λ content. content.1) contents

pub same_codes : (a b : List Account) → account_contents a ≡ account_contents b → partner_codes a ≡ partner_codes b
same_codes a b same = sym (map-map _ _ a) ∙ ap codes_in same ∙ map-map _ _ b

pub same_kinds : (a b : List Account) → account_contents a ≡ account_contents b → partner_kinds a ≡ partner_kinds b
same_kinds a b same = sym (map-map _ _ a) ∙ ap kinds_in same ∙ map-map _ _ b

pub same_parties : (a b : Setup) → setup_content a ≡ setup_content b → parties_of a ≡ parties_of b
same_parties a b same =
    ap (λ terminal. record { terminal = terminal; partners = partner_codes a.partners.items }) (ap (λ content. content.terminal) same)
    ∙ ap (λ partners. record { terminal = string_bytes b.terminal; partners = partners }) (same_codes a.partners.items b.partners.items (ap (λ content. content.partners) same))
