use Rattle.std.{specs.Option.option_map, proofs.Common.{◌+◌, ap, ◌∙◌}}
use Rattle.edi_syntax.specs.Segment.{value}
use Rattle.office_admission.{specs.SetupAccounts.partner_codes, proofs.Named.one_further}
use Rattle.office_admission.proofs.setup.Setup.index_of.Goals as goal

pub returns-clause-number : goal.returns-clause-number
returns-clause-number c =
    ap (option_map (λ index. index + 1)) c.index_of.ensures.index
    ∙ one_further 0 (value c.args.code) (partner_codes c.args.self.now.partners.items)
