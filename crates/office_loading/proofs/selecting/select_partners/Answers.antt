use Rattle.sqlite.specs.Held.{state}
use Rattle.office_rows.proofs.{Listed.lists_partner, Creating.if_ok}
use Rattle.office_loading.proofs.LackingLemmas.{partner_shows}
use Rattle.office_loading.proofs.selecting.select_partners.Goals as goal

pub select-requires : goal.select-requires
select-requires g c = partner_shows

pub returns-clause-shown : goal.returns-clause-shown
returns-clause-shown g c clean layout is =
    let old = state g.S.Store c.args.conn.now in
    let new = state g.S.Store c.select.new.conn in
    if_ok c.select.result (λ answer shown. lists_partner old new answer.items layout is shown) (c.select.ensures.shown clean)
