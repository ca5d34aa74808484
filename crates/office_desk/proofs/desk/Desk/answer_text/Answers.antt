use Rattle.std.proofs.Common.{subst}
use Rattle.office_admission.specs.Outcomes.{IsRefused}
use Rattle.office_desk.proofs.desk.Desk.answer_text.Goals as goal

pub returns-in-Ok : goal.returns-in-Ok
returns-in-Ok g c = record { leads = c.take_admitted.ensures.leads c.args.delivered.now c.interchange_text-text.ensures.exact }

pub returns-in-Err : goal.returns-in-Err
returns-in-Err g c = record { leads = c.refuse.ensures.leads c.args.delivered.now (subst (λ text. IsRefused c.args.self.now.setup text c.in-Err.refusal) c.interchange_text-text.ensures.exact c.in-Err.ensures.err) }
