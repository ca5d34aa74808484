use Rattle.std.proofs.Common.{◌∙◌, ap}
use Rattle.office_admission.proofs.Takings.{copied_machine, same_count}
use Rattle.office_admission.proofs.machine.TerminalMachineMachine.copy.Goals as goal

pub returns : goal.returns
returns c =
    copied_machine c.in_ok-setup.setup c.self.inside.setup c.in_ok-terminal.terminal c.self.inside.terminal c.in_ok-setup.ensures c.in_ok-terminal.ensures.same
    ∙ c.self.view_is

pub invariant_of-result : goal.invariant_of-result
invariant_of-result c =
    (same_count c.in_ok-setup.setup.partners.items c.self.inside.setup.partners.items (ap (λ content. content.partners) c.in_ok-setup.ensures) c.self.inside.few, tt)
