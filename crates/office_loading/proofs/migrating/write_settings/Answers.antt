use Rattle.std.proofs.{Common.{[], ◌∷◌, Ok, append_assoc, refl, ap, rules}, lemmas.List.append-nil}
use Rattle.sqlite.specs.Held.{state}
use Rattle.office_loading.specs.Contents.{setting_content}
use Rattle.office_rows.specs.Opening.{with_settings}
use Rattle.office_tables.{specs.Writes.Writes, proofs.WritesLemmas.{none_written, one_more_written, taken_more}}
use Rattle.office_loading.proofs.migrating.write_settings.Goals as goal

pub loop-row-init : goal.loop-row-init
loop-row-init g c = (refl, none_written (with_settings []) (state g.S.Store c.args.tx.now.conn.now) (λ rows. ap (λ l. record rows { settings = l }) (append-nil rows.settings)))

pub loop-row-preserved : goal.loop-row-preserved
loop-row-preserved g c =
    let written : Writes {T = Unit {0}} (with_settings (setting_content c.row-item.result ∷ [])) (state g.S.Store c.loop-row.tx.conn.now) (state g.S.Store c.insert_setting.new.tx.conn.now) (Ok tt) = rw (c.as_str.ensures.value, c.as_bytes.ensures.value) at c.in_ok-insert_setting.ensures.writes in
    let all = c.args.rows.now in
    let more = taken_more setting_content all c.loop-row.row-index c.row-item.result c.loop-row-test.true c.row-item.is in
    (search rules, one_more_written with_settings (λ done added rows. ap (λ l. record rows { settings = l }) (append_assoc rows.settings done added)) _ _ (setting_content c.row-item.result) more _ _ _ c.loop-row.invariant.1 written)
