use Rattle.sqlite.specs.Held.{state}
use Rattle.office_rows.proofs.{Listed.lists_place, Creating.if_ok}
use Rattle.office_loading.proofs.LackingLemmas.{place_shows}
use Rattle.office_loading.proofs.selecting.select_places.Goals as goal

pub select-requires : goal.select-requires
select-requires g c = place_shows

pub returns-clause-shown : goal.returns-clause-shown
returns-clause-shown g c clean layout is =
    let old = state g.S.Store c.args.conn.now in
    let new = state g.S.Store c.select.new.conn in
    if_ok c.select.result (λ answer shown. lists_place old new answer.items layout is shown) (c.select.ensures.shown clean)
