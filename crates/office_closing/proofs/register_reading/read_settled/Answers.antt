use Rattle.std.proofs.Common.{[], ◌∷◌, refl}
use Rattle.sqlite.specs.Held.{state}
use Rattle.office_loading.proofs.VersionLemmas.{reads_table}
use Rattle.office_closing.specs.{Lists.list_content, Reading.FitsList, Stored.list_values, Tables.settled_table}
use Rattle.office_closing.proofs.register_reading.read_settled.Goals as goal

pub returns-clause-read : goal.returns-clause-read
returns-clause-read g c clean layout there is =
    let old = state g.S.Store c.args.conn.now in
    reads_table (0 ∷ 1 ∷ 2 ∷ 3 ∷ 4 ∷ []) (0 ∷ 1 ∷ 2 ∷ 3 ∷ 4 ∷ []) (λ r. refl) settled_table (0 ∷ 1 ∷ 2 ∷ 3 ∷ []) (λ r. refl) old.now c.in_ok-rows.rows.items (c.in_ok-rows.ensures.shown clean layout there is) _ list_content list_values FitsList
    c.deref.result.now c.deref.ensures.value c.read_all.result c.read_all.ensures
