use Rattle.std.proofs.Common.{option_map, sym, ap, ◌∙◌}
use Rattle.office_report_data.specs.Told.{shown}
use Rattle.office_desk.proofs.Faults.{no_ticket, ticket_there}
use Rattle.office_report_data.specs.Told as value
use Rattle.office_desk.proofs.answers.tell_ticket.Goals as goal

pub returns-then-was_taken-clause-told : goal.returns-then-was_taken-clause-told
returns-then-was_taken-clause-told g c clean rows has once =
    ticket_there rows c.args.partner c.args.number once c.args.code.now c.args.terminal.now.visits c.in_ok-kept.field-0 _ (c.in_ok-kept.ensures.answer clean rows has)
    (sym c.was_taken.ensures ∙ c.if-was_taken.true) c.args.view
    (c.in_ok-show_ticket.ensures ∙ ap (λ told. shown c.args.view (value.ticket told)) c.in_ok-report.ensures)

pub returns-clause-told : goal.returns-clause-told
returns-clause-told g c clean rows has once =
    ap (option_map (shown c.args.view))
    (no_ticket rows c.args.partner c.args.number once c.args.code.now c.args.terminal.now.visits c.in_ok-kept.field-0 (c.in_ok-kept.ensures.answer clean rows has)
    (sym c.was_taken.ensures ∙ c.if-was_taken.false))
