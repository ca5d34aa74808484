use Rattle.std.{specs.List.list_any, proofs.Common.{◌≡◌, true, false, [], ◌∷◌, refl, sym, ap, ◌∙◌}}
use Rattle.sqlite.specs.Held.{state}
use Rattle.office_rows.specs.{Tables.setting_table, Layouts.weighed, Opening.tables_version, Values.setting_values}
use Rattle.office_loading.specs.{Contents.setting_content, Columns.names_version, Fits.FitsSetting, Tables.NamesVersion}
use Rattle.office_loading.proofs.VersionLemmas.{reads_table, version_there, version_absent, reads_settings, names_this, names_none, decoded_tells}
use Rattle.office_loading.proofs.older.read_settings.Goals as goal

pub returns-then-not-has_version-clause-read : goal.returns-then-not-has_version-clause-read
returns-then-not-has_version-clause-read g c clean is =
    let old = state g.S.Store c.args.conn.now in
    let none : list_any (names_version tables_version) c.in_ok-stored.stored.items ≡ false = sym (ap (list_any (names_version tables_version)) c.deref.ensures.value) ∙ sym c.has_version.ensures ∙ c.if-not-has_version.true in
    version_absent old.now c.in_ok-stored.stored.items (c.in_ok-stored.ensures.shown clean weighed is) tables_version none

pub returns-clause-read : goal.returns-clause-read
returns-clause-read g c clean is =
    let old = state g.S.Store c.args.conn.now in
    let rows = c.in_ok-stored.stored.items in
    let shown = c.in_ok-stored.ensures.shown clean weighed is in
    let some : list_any (names_version tables_version) rows ≡ true = sym (ap (list_any (names_version tables_version)) c.deref.ensures.value) ∙ sym c.has_version.ensures ∙ c.if-not-has_version.false in
    reads_settings setting_content old.now c.read_all.result (version_there old.now rows shown tables_version some)
    (reads_table (0 ∷ 1 ∷ []) (0 ∷ 1 ∷ []) (λ r. refl) setting_table (0 ∷ []) (λ r. refl) old.now rows shown _ setting_content setting_values FitsSetting
    c.deref-2.result.now c.deref-2.ensures.value c.read_all.result c.read_all.ensures)

-- ---- under any schema

pub returns-then-not-has_version-clause-missing : goal.returns-then-not-has_version-clause-missing
returns-then-not-has_version-clause-missing g c clean none = absurd (c.in_ok-stored.ensures.missing clean none)

pub returns-clause-missing : goal.returns-clause-missing
returns-clause-missing g c clean none = absurd (c.in_ok-stored.ensures.missing clean none)

pub returns-then-not-has_version-clause-version : goal.returns-then-not-has_version-clause-version
returns-then-not-has_version-clause-version g c clean tree has =
    let old = state g.S.Store c.args.conn.now in
    let none : list_any (names_version tables_version) c.in_ok-stored.stored.items ≡ false = sym (ap (list_any (names_version tables_version)) c.deref.ensures.value) ∙ sym c.has_version.ensures ∙ c.if-not-has_version.true in
    names_none old.now tree c.in_ok-stored.stored.items (c.in_ok-stored.ensures.there clean tree has) tables_version none

pub returns-clause-version : goal.returns-clause-version
returns-clause-version g c clean tree has =
    let old = state g.S.Store c.args.conn.now in
    let rows = c.in_ok-stored.stored.items in
    let some : list_any (names_version tables_version) rows ≡ true = sym (ap (list_any (names_version tables_version)) c.deref.ensures.value) ∙ sym c.has_version.ensures ∙ c.if-not-has_version.false in
    decoded_tells _ _ _ (NamesVersion (old.now.trees tree)) c.read_all.result (names_this old.now tree rows (c.in_ok-stored.ensures.there clean tree has) tables_version some) c.read_all.ensures
