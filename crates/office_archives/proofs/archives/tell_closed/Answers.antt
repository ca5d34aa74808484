use Rattle.std.proofs.Common.{Some, string_bytes, refl, sym, subst}
use Rattle.office_archives.specs.Telling.{ClosedTells}
use Rattle.office_archives.proofs.archives.tell_closed.Goals as goal

pub returns-in_ok-ticket-in-Ticket-clause-told : goal.returns-in_ok-ticket-in-Ticket-clause-told
returns-in_ok-ticket-in-Ticket-clause-told g c sound list are closed =
    let ticket = string_bytes c.in_ok-ticket-in-Ticket.field-0 in
    subst (λ asked. ClosedTells list asked c.args.query.now.view c.args.code.now c.args.partner c.args.number (Some ticket)) (sym c.in-Ticket.is) (ticket, c.in_ok-ticket-in-Ticket.ensures.ticket sound list are, refl)
