use Rattle.std.proofs.Common.{[], ◌∷◌, Ok}
use Rattle.sqlite.specs.Held.{state}
use Rattle.office_rows.{specs.Opening.{interchange_row, with_interchanges}, proofs.Creating.on_ok}
use Rattle.office_tables.specs.Writes.{Writes}
use Rattle.office_loading.proofs.StandingLemmas.{at_ok}
use Rattle.office_loading.proofs.copying.copy_interchange.Goals as goal

pub returns-clause-adds : goal.returns-clause-adds
returns-clause-adds g c =
    let old = state g.T.Store c.args.tx.now.conn.now in
    let new = state g.T.Store c.insert_interchange.new.tx.conn.now in
    let kept = c.in_ok-kept.kept in
    let read = c.in_ok-kept.ensures.ok in
    let one = interchange_row c.in_ok-partner.partner c.in_ok-number.number kept.text.items c.reply_of-reply.result.now in
    let said = c.reply_of-reply.ensures read.1.0 read.1.2 in
    let writes = rw c.as_slice.ensures.value at c.insert_interchange.ensures.writes in
    on_ok c.insert_interchange.result (λ (is : Writes {T = Unit {0}} (with_interchanges (one ∷ [])) old new (Ok tt)). record {
      one = one;
      shows = record { body = read.0; reply = rw said at read.1.1; partner = c.in_ok-partner.ensures.ok.1; number = c.in_ok-number.ensures.ok.1 };
      writes = is;
    }) (at_ok (Writes (with_interchanges (one ∷ [])) old new) c.insert_interchange.result writes)
