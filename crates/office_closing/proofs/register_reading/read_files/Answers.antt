use Rattle.std.{specs.Prelude.IsUtf8, proofs.Common.{[], ◌∷◌, refl}}
use Rattle.sqlite.specs.Held.{state}
use Rattle.office_loading.proofs.VersionLemmas.{reads_table}
use Rattle.office_closing.specs.{Reading.closed_for_file, Stored.file_values, Tables.closed_for_table}
use Rattle.office_closing.proofs.register_reading.read_files.Goals as goal

pub returns-clause-read : goal.returns-clause-read
returns-clause-read g c clean layout is =
    let old = state g.S.Store c.args.conn.now in
    reads_table (0 ∷ []) (0 ∷ []) (λ r. refl) closed_for_table (0 ∷ []) (λ r. refl) old.now c.in_ok-rows.rows.items (c.in_ok-rows.ensures.shown clean layout is) _ closed_for_file file_values IsUtf8
    c.deref.result.now c.deref.ensures.value c.read_all.result c.read_all.ensures
