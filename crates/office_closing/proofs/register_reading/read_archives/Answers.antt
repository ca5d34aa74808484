use Rattle.std.proofs.Common.{[], ◌∷◌, refl}
use Rattle.sqlite.specs.Held.{state}
use Rattle.office_loading.proofs.VersionLemmas.{reads_table}
use Rattle.office_closing.specs.{Reading.FitsArchive, Register.archive_content, Stored.archive_values, Tables.archive_table}
use Rattle.office_closing.proofs.register_reading.read_archives.Goals as goal

pub returns-clause-read : goal.returns-clause-read
returns-clause-read g c clean layout is =
    let old = state g.S.Store c.args.conn.now in
    reads_table (0 ∷ 1 ∷ 2 ∷ []) (0 ∷ 1 ∷ 2 ∷ []) (λ r. refl) archive_table (0 ∷ []) (λ r. refl) old.now c.in_ok-rows.rows.items (c.in_ok-rows.ensures.shown clean layout is) _ archive_content archive_values FitsArchive
    c.deref.result.now c.deref.ensures.value c.read_all.result c.read_all.ensures

pub returns-clause-missing : goal.returns-clause-missing
returns-clause-missing g c clean none = absurd (c.in_ok-rows.ensures.missing clean none)
