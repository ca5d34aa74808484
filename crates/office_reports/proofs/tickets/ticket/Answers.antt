use Rattle.std.proofs.{Common.{ap, ◌∙◌}, lemmas.Result.IfOk-weaker}
use Rattle.office_reports.{specs.Tickets.told_text, proofs.Standings.ticket_stays}
use Rattle.office_reports.proofs.tickets.ticket.Goals as goal

pub returns : goal.returns
returns c =
    IfOk-weaker c.ticket_text.result _ _
    (λ text e. e ∙ ap told_text c.in_ok-report.ensures ∙ ticket_stays (record { partner = c.args.partner; number = c.args.number }) c.args.code.now c.args.terminal.now.visits)
    c.ticket_text.ensures
