-- The accounts of those who sent what came last.
use Rattle.std.proofs.Common.{◌≡◌, ◌≤◌, ℕ, suc, List, length, map, None, Some, option_map, slice_get, string_bytes, refl, sym, ap, ◌∙◌}
use Rattle.std.proofs.lemmas.Option.{slice_get-map, slice_get_past}
use Rattle.edi_messages.specs.declared.codes.PartnerKind.{PartnerKind}
use Rattle.office_admission.specs.{Setups.setup_content, declared.setup.Account.Account, declared.setup.Setup.Setup}
use Rattle.office_reports.specs.Last.{account_of}

abbrev content_of : Account → List ℕ × PartnerKind
content_of account = (string_bytes account.code, account.kind)

-- the account of a number
pub account_found : (setup : Setup) (number place : ℕ) (account : Account) → number ≡ suc place →
    slice_get setup.partners.items place ≡ Some account →
    account_of (setup_content setup) number ≡ Some (string_bytes account.code, account.kind)
account_found setup number place account e at =
    ap (account_of (setup_content setup)) e ∙ slice_get-map content_of setup.partners.items place ∙ ap (option_map content_of) at

-- there is none behind the last
pub account_missing : (setup : Setup) (number place : ℕ) → number ≡ suc place → length setup.partners.items ≤ place →
    account_of (setup_content setup) number ≡ None
account_missing setup number place e past =
    ap (account_of (setup_content setup)) e ∙ slice_get-map content_of setup.partners.items place
    ∙ ap (option_map content_of) (slice_get_past setup.partners.items place past)
