use Rattle.std.proofs.{Common.{[], append_assoc, refl, ap, rules}, lemmas.List.append-nil}
use Rattle.sqlite.specs.Held.{state}
use Rattle.office_loading.specs.Contents.{place_content}
use Rattle.office_rows.specs.Opening.{with_places}
use Rattle.office_tables.proofs.WritesLemmas.{none_written, one_more_written, taken_more}
use Rattle.office_loading.proofs.migrating.write_places.Goals as goal

pub loop-row-init : goal.loop-row-init
loop-row-init g c = (refl, none_written (with_places []) (state g.S.Store c.args.tx.now.conn.now) (λ rows. ap (λ l. record rows { places = l }) (append-nil rows.places)))

pub loop-row-preserved : goal.loop-row-preserved
loop-row-preserved g c =
    let all = c.args.rows.now in
    let more = taken_more place_content all c.loop-row.row-index c.row-item.result c.loop-row-test.true c.row-item.is in
    (search rules, one_more_written with_places (λ done added rows. ap (λ l. record rows { places = l }) (append_assoc rows.places done added)) _ _ (place_content c.row-item.result) more _ _ _ c.loop-row.invariant.1 c.in_ok-insert_place.ensures.writes)
