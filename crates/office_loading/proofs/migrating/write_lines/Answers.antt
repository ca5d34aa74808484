use Rattle.std.proofs.{Common.{[], ◌∷◌, Ok, append_assoc, refl, ap, rules}, lemmas.List.append-nil}
use Rattle.sqlite.specs.Held.{state}
use Rattle.office_rows.specs.{Rows.listing_content, Opening.with_lines}
use Rattle.office_tables.{specs.Writes.Writes, proofs.WritesLemmas.{none_written, one_more_written, taken_more}}
use Rattle.office_loading.proofs.migrating.write_lines.Goals as goal

pub loop-row-init : goal.loop-row-init
loop-row-init g c = (refl, none_written (with_lines []) (state g.S.Store c.args.tx.now.conn.now) (λ rows. ap (λ l. record rows { lines = l }) (append-nil rows.lines)))

pub loop-row-preserved : goal.loop-row-preserved
loop-row-preserved g c =
    let written : Writes {T = Unit {0}} (with_lines (listing_content c.row-item.result ∷ [])) (state g.S.Store c.loop-row.tx.conn.now) (state g.S.Store c.insert_listing.new.tx.conn.now) (Ok tt) = rw c.as_str.ensures.value at c.in_ok-insert_listing.ensures.writes in
    let all = c.args.rows.now in
    let more = taken_more listing_content all c.loop-row.row-index c.row-item.result c.loop-row-test.true c.row-item.is in
    (search rules, one_more_written with_lines (λ done added rows. ap (λ l. record rows { lines = l }) (append_assoc rows.lines done added)) _ _ (listing_content c.row-item.result) more _ _ _ c.loop-row.invariant.1 written)
