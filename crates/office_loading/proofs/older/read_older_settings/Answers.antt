use Rattle.std.proofs.{Common.{◌≡◌, Ok, Err, true, false, [], ◌∷◌, map, refl, sym, ap, ◌∙◌}, lemmas.Result.err_from_is_err_and}
use Rattle.sqlite.specs.Held.{state}
use Rattle.office_rows.specs.{Tables.setting_table, Values.setting_values}
use Rattle.office_loading.specs.{Contents.setting_content, Columns.{is_older, SaysSetting}, Decoded.IsSaid, Fits.FitsSetting, Older.{HasOlder, NamesOlder}}
use Rattle.office_loading.specs.Tables.{FailsTable, ShowsSettings}
use Rattle.office_loading.proofs.VersionLemmas.{reads_table, older_there, older_absent, names_older, names_no_older, fails_named, decoding_tells}
use Rattle.office_tables.specs.declared.table_fault.TableFault.TheVariants.{Damaged}
use Rattle.office_loading.proofs.older.read_older_settings.Goals as goal

pub returns-then-not-is_older-clause-read : goal.returns-then-not-is_older-clause-read
returns-then-not-is_older-clause-read g c clean layout is =
    let old = state g.S.Store c.args.conn.now in
    let none : is_older c.in_ok-rows.rows.items ≡ false = sym (ap is_older c.deref.ensures.value) ∙ sym c.is_older.ensures ∙ c.if-not-is_older.true in
    older_absent old.now c.in_ok-rows.rows.items (c.in_ok-rows.ensures.shown clean layout is) none

pub returns-in_err-settings-clause-read : goal.returns-in_err-settings-clause-read
returns-in_err-settings-clause-read g c clean layout is =
    let old = state g.S.Store c.args.conn.now in
    let rows = c.in_ok-rows.rows.items in
    let shown = c.in_ok-rows.ensures.shown clean layout is in
    let some : is_older rows ≡ true = sym (ap is_older c.deref.ensures.value) ∙ sym c.is_older.ensures ∙ c.if-not-is_older.false in
    let fails = reads_table (0 ∷ 1 ∷ []) (0 ∷ 1 ∷ []) (λ r. refl) setting_table (0 ∷ []) (λ r. refl) old.now rows shown (Unit {0}) setting_content setting_values FitsSetting
    c.deref-2.result.now c.deref-2.ensures.value (Err c.in_err-settings.field-0.0) c.in_err-settings.ensures in
    let p = err_from_is_err_and c.from_residual-in_err-settings.result c.from_residual-in_err-settings.ensures.1 in
    rw (p.1, p.2) (fails_named (HasOlder old.now) (FailsTable FitsSetting (ShowsSettings old.now) Damaged) c.in_err-settings.field-0.0 (older_there old.now rows shown some) fails)

pub returns-clause-read : goal.returns-clause-read
returns-clause-read g c clean layout is =
    let old = state g.S.Store c.args.conn.now in
    let rows = c.in_ok-rows.rows.items in
    let shown = c.in_ok-rows.ensures.shown clean layout is in
    let some : is_older rows ≡ true = sym (ap is_older c.deref.ensures.value) ∙ sym c.is_older.ensures ∙ c.if-not-is_older.false in
    let read = reads_table (0 ∷ 1 ∷ []) (0 ∷ 1 ∷ []) (λ r. refl) setting_table (0 ∷ []) (λ r. refl) old.now rows shown _ setting_content setting_values FitsSetting
    c.deref-2.result.now c.deref-2.ensures.value (Ok c.in_ok-settings.settings) c.in_ok-settings.ensures in
    (older_there old.now rows shown some, map setting_content c.in_ok-settings.settings.items, c.in_ok-migrated_settings.ensures, read.0, read.1)

-- ---- under any schema

pub returns-then-not-is_older-clause-missing : goal.returns-then-not-is_older-clause-missing
returns-then-not-is_older-clause-missing g c clean none = absurd (c.in_ok-rows.ensures.missing clean none)

pub returns-in_err-settings-clause-missing : goal.returns-in_err-settings-clause-missing
returns-in_err-settings-clause-missing g c clean none = absurd (c.in_ok-rows.ensures.missing clean none)

pub returns-clause-missing : goal.returns-clause-missing
returns-clause-missing g c clean none = absurd (c.in_ok-rows.ensures.missing clean none)

pub returns-then-not-is_older-clause-version : goal.returns-then-not-is_older-clause-version
returns-then-not-is_older-clause-version g c clean tree has =
    let old = state g.S.Store c.args.conn.now in
    let rows = c.in_ok-rows.rows.items in
    let none : is_older rows ≡ false = sym (ap is_older c.deref.ensures.value) ∙ sym c.is_older.ensures ∙ c.if-not-is_older.true in
    names_no_older old.now tree rows (c.in_ok-rows.ensures.there clean tree has) none

pub returns-in_err-settings-clause-version : goal.returns-in_err-settings-clause-version
returns-in_err-settings-clause-version g c clean tree has =
    let old = state g.S.Store c.args.conn.now in
    let rows = c.in_ok-rows.rows.items in
    let some : is_older rows ≡ true = sym (ap is_older c.deref.ensures.value) ∙ sym c.is_older.ensures ∙ c.if-not-is_older.false in
    let named = names_older old.now tree rows (c.in_ok-rows.ensures.there clean tree has) some in
    let p = err_from_is_err_and c.from_residual-in_err-settings.result c.from_residual-in_err-settings.ensures.1 in
    rw (p.1, p.2) (decoding_tells (Unit {0}) (IsSaid SaysSetting) c.deref-2.result.now (NamesOlder (old.now.trees tree)) c.in_err-settings.field-0.0 named c.in_err-settings.ensures)

pub returns-clause-version : goal.returns-clause-version
returns-clause-version g c clean tree has =
    let old = state g.S.Store c.args.conn.now in
    let rows = c.in_ok-rows.rows.items in
    let some : is_older rows ≡ true = sym (ap is_older c.deref.ensures.value) ∙ sym c.is_older.ensures ∙ c.if-not-is_older.false in
    names_older old.now tree rows (c.in_ok-rows.ensures.there clean tree has) some
