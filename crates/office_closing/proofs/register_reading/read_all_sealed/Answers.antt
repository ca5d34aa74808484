use Rattle.std.proofs.Common.{[], ◌∷◌, refl}
use Rattle.sqlite.specs.Held.{state}
use Rattle.office_loading.proofs.VersionLemmas.{reads_table}
use Rattle.office_closing.specs.{Reading.FitsSealed, Register.sealed_content, Stored.sealed_values, Tables.sealed_table}
use Rattle.office_closing.proofs.register_reading.read_all_sealed.Goals as goal

pub returns-clause-read : goal.returns-clause-read
returns-clause-read g c clean is =
    let old = state g.S.Store c.args.conn.now in
    reads_table (0 ∷ 1 ∷ 2 ∷ []) (0 ∷ 1 ∷ 2 ∷ []) (λ r. refl) sealed_table (0 ∷ []) (λ r. refl) old.now c.in_ok-rows.rows.items (c.in_ok-rows.ensures.shown clean is) _ sealed_content sealed_values FitsSealed
    c.deref.result.now c.deref.ensures.value c.read_all.result c.read_all.ensures
