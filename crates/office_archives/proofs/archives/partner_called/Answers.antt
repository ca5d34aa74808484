use Rattle.std.proofs.Common.{◌≡◌, ◌≤◌, length, refl, sym, ap, subst, ◌∙◌, arith}
use Rattle.std.proofs.lemmas.List.{length-map}
use Rattle.office_admission.specs.Limits.{most_partners}
use Rattle.office_admission.specs.Setups.{account_contents}
use Rattle.office_admission.specs.declared.setup.Setup.{Setup}
use Rattle.office_admission.specs.Parties.{partner_codes, partner_from}
use Rattle.office_desk.proofs.Faults.{called}
use Rattle.office_archives.proofs.archives.partner_called.Goals as goal

-- The desk has no more accounts than there may be.
pub partner_called-requires : goal.partner_called-requires
partner_called-requires g c =
    let desk = c.args.desk.now in
    let items = desk.setup.partners.items in
    let counted = desk.given.counted.1 in
    let many : length (account_contents items) ≡ length items = length-map items _ in
    subst (λ (s : Setup). length s.partners.items ≤ most_partners) (sym c.setup.ensures) (omega (arith, counted, many))

-- The first account with a code is the one that has it.
pub returns : goal.returns
returns g c =
    let desk = c.args.desk.now in
    let code = c.args.code.now in
    sym (called desk.setup code code c.partner_called.result (c.partner_called.ensures ∙ ap (λ (s : Setup). partner_from 1 code (partner_codes s.partners.items)) c.setup.ensures) refl)
