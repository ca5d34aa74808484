use Rattle.std.proofs.Common.{not, string_bytes, ap, ◌∙◌}
use Rattle.sqlite.specs.Held.{state}
use Rattle.office_rows.specs.{Rows.Rows, Stored.HasRows}
use Rattle.office_history.specs.After.{AreKeptOnce}
use Rattle.office_archives.{specs.Keeping.IsTicketOf, proofs.Looking.ok_committed}
use Rattle.office_archives.proofs.looked.Looked.ticket.Goals as goal

pub returns-clause-ticket : goal.returns-clause-ticket
returns-clause-ticket g c clean =
    ok_committed (state g.S.Store c.args.self.now.conn) (state g.S.Store c.ticket_by.new.conn) (λ is_open. c.is_autocommit-is_idle.ensures.settled (c.is_autocommit-is_idle.ensures.value ∙ ap not c.args.self.now.idle) is_open)
    (λ db ticket. (rows : Rows) → HasRows rows db → AreKeptOnce rows.interchanges → IsTicketOf rows c.args.code.now c.args.partner c.args.number c.args.view (string_bytes ticket)) c.ticket_by.result
    (c.ticket_by.ensures.reads.unchanged clean) (c.ticket_by.ensures.ticket clean)
