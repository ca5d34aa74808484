use Rattle.std.proofs.{Common.subst, lemmas.Result.IfOk-weaker}
use Rattle.office_admission.specs.Taking.{machine_of}
use Rattle.office_tables.specs.{Taken.taken_content, Taking.IsTaken}
use Rattle.office_tables.proofs.running.take_text.Goals as goal

pub returns-in-Some : goal.returns-in-Some
returns-in-Some c =
    let a = c.args in
    IfOk-weaker c.take_admitted.result _ _
    (λ taken is. subst (λ p. IsTaken p a.number a.text.now (machine_of a.setup.now a.terminal.now) (taken_content taken) (machine_of a.setup.now c.take_admitted.new.terminal))
    c.in-Some.ensures.partner (is a.text.now c.in-Some.ensures.admitted))
    c.take_admitted.ensures.taken
