use Rattle.std.proofs.{Common.{◌≡◌, ◌+◌, ap, refl, append_assoc, rules, take, [], ◌∷◌, ◌++◌}, lemmas.List.append-nil}
use Rattle.sqlite.specs.Held.{state}
use Rattle.edi_messages.specs.Codes.{table_texts}
use Rattle.office_rows.{specs.Opening.{code_names, code_settings, setting_row, with_settings}, proofs.Creating.{take_at, setting_at}}
use Rattle.office_tables.proofs.WritesLemmas.{none_written, one_more_written}
use Rattle.office_tables.proofs.settings.insert_codes.Goals as goal

pub loop-place-init : goal.loop-place-init
loop-place-init g c = (refl, none_written (with_settings []) (state g.S.Store c.args.tx.now.conn.now) (λ rows. ap (λ l. record rows { settings = l }) (append-nil rows.settings)))

pub loop-place-preserved : goal.loop-place-preserved
loop-place-preserved g c =
    let i = c.loop-place.place in
    let n = c.code_name.result.now in
    let v = c.code.result.now in
    let all = code_settings c.args.codes.now in
    let more : take (i + 1) all ≡ take i all ++ setting_row n v ∷ [] = take_at all i (setting_row n v) (setting_at code_names (table_texts c.args.codes.now) i n v c.code_name.ensures c.code.ensures) in
    (search rules, one_more_written with_settings (λ done added rows. ap (λ l. record rows { settings = l }) (append_assoc rows.settings done added)) _ _ (setting_row n v) more _ _ _ c.loop-place.invariant.1 c.in_ok-insert_setting.ensures.writes)
