use Rattle.std.proofs.Common.{◌≡◌, ap, ◌∙◌}
use Rattle.office_admission.{specs.SetupAccounts.{index_in, partner_codes, partner_from}, proofs.Named.found_within}
use Rattle.office_admission.proofs.setup.Accounts.index_called.Goals as goal

pub returns-clause-within : goal.returns-clause-within
returns-clause-within c =
    let accounts = c.self.inside.list.items in
    let is : c.copied.result ≡ partner_from 0 c.args.code.now (partner_codes accounts) =
    c.copied.ensures ∙ c.get.ensures.value ∙ ap (index_in c.self.inside.indexes) c.as_bytes.ensures.value ∙ c.self.invariant.1 c.args.code.now in
    rw (← c.self.view_is) (found_within accounts c.args.code.now c.copied.result is)
