-- The control total is compared with all equipment of the message.
use Rattle.std.proofs.Common.{refl}
use Rattle.edi_messages.proofs.faults.miscounts_equipment.Goals as goal

pub returns-in-Some : goal.returns-in-Some
returns-in-Some c =
    let survey = c.args.survey.now in
    let counted = rw c.requires at survey.equipped in
    rw (c.is_count.ensures, c.component.ensures, counted, ← survey.controlled, c.in-Some.is) refl

pub returns-in-None : goal.returns-in-None
returns-in-None c =
    let none = rw (c.requires, c.in-None.is) at c.args.survey.now.controlled in
    rw (← none) refl
