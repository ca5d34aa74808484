use Rattle.std.proofs.Common.{string_bytes, sym, ◌∙◌}
use Rattle.office_rows.proofs.Creating.{if_ok}
use Rattle.office_history.specs.After.{AreKeptOnce}
use Rattle.office_closing.specs.{Register.register_content, Seals.HasSealOf}
use Rattle.office_archives.specs.Keeping.{IsTicketOf}
use Rattle.office_archives.proofs.Rising.{archive_there, told_archive}
use Rattle.office_archives.proofs.many_archives.ManyArchivesArchives.ticket.Goals as goal

pub returns-clause-ticket : goal.returns-clause-ticket
returns-clause-ticket g c = λ last.
    if_ok c.ticket_at.result (λ ticket told list are low archive reached.
    let self = c.args.self.now in
    let at = archive_there g.S.Store g.F.Shelf.is_known g.F.Shelf.holds list self.shelf self.register self.opened.items c.args.partner c.args.number c.in-Some.place archive low are (sym c.archive_of.ensures ∙ c.in-Some.is) reached in
    let both : (HasSealOf (register_content self.register) c.in-Some.place c.args.partner c.args.number archive.rows × IsTicketOf archive.rows c.args.code.now c.args.partner c.args.number c.args.view (string_bytes ticket)) × AreKeptOnce archive.rows.interchanges =
    told_archive g.S.Store g.F.Shelf.is_known g.F.Shelf.holds list self.shelf self.register self.opened.items c.ticket_at.new.self.opened.items c.in-Some.place (λ rows. HasSealOf (register_content self.register) c.in-Some.place c.args.partner c.args.number rows × IsTicketOf rows c.args.code.now c.args.partner c.args.number c.args.view (string_bytes ticket)) archive told last are at
    in
    both.0.1)
    c.ticket_at.ensures.told
