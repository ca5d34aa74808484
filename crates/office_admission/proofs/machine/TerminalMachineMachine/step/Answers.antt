use Rattle.std.proofs.Common.{sym, ap, ◌∙◌, string_bytes}
use Rattle.office_admission.{specs.Taking.{interchange_taken, machine_of}, proofs.{Takings.{step_is, not_for, nothing_now, on_ok}, Adding.ok_weaker}}
use Rattle.office_admission.proofs.machine.TerminalMachineMachine.step.Goals as goal

pub returns-in_default-clause-state : goal.returns-in_default-clause-state
returns-in_default-clause-state c =
    on_ok c.reply.result _
    (sym (ap (λ pair. pair.0) (nothing_now c.self.inside.setup c.self.inside.terminal c.args.self.now c.args.partner c.args.text.now c.self.view_is (ap (λ p. interchange_taken (machine_of c.self.inside.setup c.self.inside.terminal) p c.args.text.now) (sym c.get.ensures.number) ∙ not_for (machine_of c.self.inside.setup c.self.inside.terminal) c.get.result c.args.text.now c.in_default.ensures.none))))

pub returns-in_default-clause-reply : goal.returns-in_default-clause-reply
returns-in_default-clause-reply c =
    ok_weaker c.reply.result _ _
    (λ reply is. is
    ∙ sym (ap (λ pair. pair.1) (nothing_now c.self.inside.setup c.self.inside.terminal c.args.self.now c.args.partner c.args.text.now c.self.view_is (ap (λ p. interchange_taken (machine_of c.self.inside.setup c.self.inside.terminal) p c.args.text.now) (sym c.get.ensures.number) ∙ not_for (machine_of c.self.inside.setup c.self.inside.terminal) c.get.result c.args.text.now c.in_default.ensures.none))))
    c.reply.ensures

pub returns-clause-state : goal.returns-clause-state
returns-clause-state c =
    sym (ap (λ pair. pair.0)
    (step_is c.self.inside.setup c.in_ok-terminal.terminal c.self.inside.terminal c.take.new.terminal c.args.self.now c.args.partner c.in-Some.admitted.partner c.args.text.now (string_bytes c.in_ok-reply.reply)
    c.in_ok-terminal.ensures.same c.self.view_is (c.in-Some.ensures.partner ∙ c.get.ensures.number) (c.in_ok-reply.ensures.taken c.args.text.now c.in-Some.ensures.admitted)))

pub returns-clause-reply : goal.returns-clause-reply
returns-clause-reply c =
    sym (ap (λ pair. pair.1)
    (step_is c.self.inside.setup c.in_ok-terminal.terminal c.self.inside.terminal c.take.new.terminal c.args.self.now c.args.partner c.in-Some.admitted.partner c.args.text.now (string_bytes c.in_ok-reply.reply)
    c.in_ok-terminal.ensures.same c.self.view_is (c.in-Some.ensures.partner ∙ c.get.ensures.number) (c.in_ok-reply.ensures.taken c.args.text.now c.in-Some.ensures.admitted)))
