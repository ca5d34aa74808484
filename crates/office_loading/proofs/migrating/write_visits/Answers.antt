use Rattle.std.proofs.{Common.{[], append_assoc, refl, ap, rules}, lemmas.List.append-nil}
use Rattle.sqlite.specs.Held.{state}
use Rattle.terminal_core.specs.Rows.{visit_content}
use Rattle.office_rows.specs.Opening.{with_visits}
use Rattle.office_tables.proofs.WritesLemmas.{none_written, one_more_written, taken_more}
use Rattle.office_loading.proofs.migrating.write_visits.Goals as goal

pub loop-row-init : goal.loop-row-init
loop-row-init g c = (refl, none_written (with_visits []) (state g.S.Store c.args.tx.now.conn.now) (λ rows. ap (λ l. record rows { visits = l }) (append-nil rows.visits)))

pub loop-row-preserved : goal.loop-row-preserved
loop-row-preserved g c =
    let all = c.args.rows.now in
    let more = taken_more visit_content all c.loop-row.row-index c.row-item.result c.loop-row-test.true c.row-item.is in
    (search rules, one_more_written with_visits (λ done added rows. ap (λ l. record rows { visits = l }) (append_assoc rows.visits done added)) _ _ (visit_content c.row-item.result) more _ _ _ c.loop-row.invariant.1 c.in_ok-insert_visit.ensures.writes)
