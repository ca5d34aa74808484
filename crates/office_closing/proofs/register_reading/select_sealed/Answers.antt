use Rattle.sqlite.specs.Held.{state}
use Rattle.office_rows.proofs.Creating.{if_ok}
use Rattle.office_closing.proofs.{Committing.lists_sealed, WriteTexts.sealed_shows}
use Rattle.office_closing.proofs.register_reading.select_sealed.Goals as goal

pub select-requires : goal.select-requires
select-requires g c = sealed_shows

pub returns-clause-shown : goal.returns-clause-shown
returns-clause-shown g c clean is =
    let old = state g.S.Store c.args.conn.now in
    let new = state g.S.Store c.select.new.conn in
    if_ok c.select.result (λ answer shown. lists_sealed old new is answer.items shown) (c.select.ensures.shown clean)
