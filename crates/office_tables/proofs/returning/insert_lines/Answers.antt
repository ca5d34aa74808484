use Rattle.std.proofs.{Common.{[], append_assoc, refl, ap, rules}, lemmas.List.append-nil}
use Rattle.sqlite.specs.Held.{state}
use Rattle.office_rows.specs.{Rows.listing_content, Opening.with_lines}
use Rattle.office_tables.proofs.WritesLemmas.{none_written, one_more_written, taken_more}
use Rattle.office_tables.proofs.returning.insert_lines.Goals as goal

pub loop-line-init : goal.loop-line-init
loop-line-init g c = (refl, none_written (with_lines []) (state g.S.Store c.args.tx.now.conn.now) (λ rows. ap (λ l. record rows { lines = l }) (append-nil rows.lines)))

pub loop-line-preserved : goal.loop-line-preserved
loop-line-preserved g c =
    let all = c.args.lines.now in
    let more = taken_more listing_content all c.loop-line.line-index c.line-item.result c.loop-line-test.true c.line-item.is in
    (search rules, one_more_written with_lines (λ done added rows. ap (λ l. record rows { lines = l }) (append_assoc rows.lines done added)) _ _ (listing_content c.line-item.result) more _ _ _ c.loop-line.invariant.1 c.in_ok-insert_one.ensures.writes)
