use Rattle.std.proofs.Common.{◌≡◌, [], ◌∷◌, ◌++◌, Ok, codes, decimal, ap, ◌∙◌, append_assoc, string_bytes}
use Rattle.sqlite.specs.Held.{state}
use Rattle.office_rows.specs.{Rows.Rows, Opening.{code_settings, setting_row, settings_of, tables_version, with_settings}}
use Rattle.office_admission.specs.Setups.{setup_content}
use Rattle.office_tables.{specs.Writes.Writes, proofs.WritesLemmas.{writes_then, writes_then_if_open, writes_same}}
use Rattle.office_tables.proofs.settings.insert_settings.Goals as goal

pub returns-clause-writes : goal.returns-clause-writes
returns-clause-writes g c =
    let s0 = state g.S.Store c.args.tx.now.conn.now in
    let s1 = state g.S.Store c.insert_setting.new.tx.conn.now in
    let s2 = state g.S.Store c.insert_setting-2.new.tx.conn.now in
    let s3 = state g.S.Store c.insert_setting-3.new.tx.conn.now in
    let s4 = state g.S.Store c.insert_codes.new.tx.conn.now in
    let setup = c.args.setup.now in
    let version = setting_row (codes "version") tables_version in
    let terminal = setting_row (codes "terminal") (string_bytes setup.terminal) in
    let limit = setting_row (codes "visits") (decimal setup.visit_limit) in
    let rest = code_settings setup.codes in
    let first : Writes (with_settings (version ∷ [])) s0 s1 (Ok tt) = c.in_ok-insert_setting.ensures.writes in
    let second : Writes (with_settings (terminal ∷ [])) s1 s2 (Ok tt) = rw c.as_bytes.ensures.value at c.in_ok-insert_setting-2.ensures.writes in
    let third : Writes (with_settings (limit ∷ [])) s2 s3 (Ok tt) = rw (c.as_bytes-2.ensures.value, c.format.ensures.text) at c.in_ok-insert_setting-3.ensures.writes in
    let two = writes_then (with_settings (version ∷ [])) (with_settings (terminal ∷ [])) s0 s1 s2 tt (Ok tt) first second in
    let three = writes_then (λ rows. with_settings (terminal ∷ []) (with_settings (version ∷ []) rows)) (with_settings (limit ∷ [])) s0 s2 s3 tt (Ok tt) two third in
    let added = λ (rows : Rows). with_settings (limit ∷ []) (with_settings (terminal ∷ []) (with_settings (version ∷ []) rows)) in
    let same : (rows : Rows) → with_settings rest (added rows) ≡ with_settings (version ∷ terminal ∷ limit ∷ rest) rows = λ rows. ap (λ l. record rows { settings = l })
    (append_assoc ((rows.settings ++ version ∷ []) ++ terminal ∷ []) (limit ∷ []) rest ∙ append_assoc (rows.settings ++ version ∷ []) (terminal ∷ []) (limit ∷ rest) ∙ append_assoc rows.settings (version ∷ []) (terminal ∷ limit ∷ rest)) in
    writes_same (λ rows. with_settings rest (added rows)) (with_settings (settings_of (setup_content setup))) s0 s4 c.insert_codes.result same
    (writes_then_if_open added (with_settings rest) s0 s3 s4 tt c.insert_codes.result three c.insert_codes.ensures.writes)
