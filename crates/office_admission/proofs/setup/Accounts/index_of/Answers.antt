use Rattle.std.proofs.Common.{◌≡◌, ap, sym, ◌∙◌}
use Rattle.edi_syntax.specs.Segment.{value}
use Rattle.office_admission.{specs.SetupAccounts.{index_in, partner_codes, partner_from}, proofs.Named.{found_within, none_longer}}
use Rattle.office_admission.proofs.setup.Accounts.index_of.Goals as goal

pub returns-in-Some-clause-within : goal.returns-in-Some-clause-within
returns-in-Some-clause-within c =
    let accounts = c.self.inside.list.items in
    let text = c.in-Some.text.items in
    let is : c.copied.result ≡ partner_from 0 text (partner_codes accounts) =
    c.copied.ensures ∙ c.get.ensures.value ∙ ap (index_in c.self.inside.indexes) c.as_slice.ensures.value ∙ c.self.invariant.1 text in
    rw (← c.self.view_is) (found_within accounts text c.copied.result is)

pub returns-in-Some-clause-index : goal.returns-in-Some-clause-index
returns-in-Some-clause-index c =
    rw (← c.self.view_is)
    (c.copied.ensures ∙ c.get.ensures.value ∙ ap (index_in c.self.inside.indexes) (c.as_slice.ensures.value ∙ c.in-Some.ensures)
    ∙ c.self.invariant.1 (value c.args.code))

pub returns-in-None-clause-index : goal.returns-in-None-clause-index
returns-in-None-clause-index c =
    rw (← c.self.view_is) (sym (none_longer c.self.inside.list.items c.self.invariant.0 (value c.args.code) c.in-None.ensures 0))
