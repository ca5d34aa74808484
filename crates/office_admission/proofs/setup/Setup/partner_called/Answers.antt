use Rattle.std.{specs.Option.option_map, proofs.Common.{◌+◌, ap, sym, ◌∙◌}}
use Rattle.office_admission.{specs.SetupAccounts.partner_codes, proofs.Named.one_further}
use Rattle.office_admission.proofs.setup.Setup.partner_called.Goals as goal

pub returns-in-Some : goal.returns-in-Some
returns-in-Some c =
    ap (option_map (λ index. index + 1)) (sym c.in-Some.is ∙ c.index_called.ensures.index)
    ∙ one_further 0 c.args.code.now (partner_codes c.args.self.now.partners.items)

pub returns-in-None : goal.returns-in-None
returns-in-None c =
    ap (option_map (λ index. index + 1)) (sym c.in-None.is ∙ c.index_called.ensures.index)
    ∙ one_further 0 c.args.code.now (partner_codes c.args.self.now.partners.items)
