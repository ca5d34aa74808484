use Rattle.std.proofs.Common.{[], ◌∷◌, refl}
use Rattle.sqlite.specs.Held.{state}
use Rattle.office_loading.{specs.Decoded.itself, proofs.VersionLemmas.reads_table}
use Rattle.office_closing.specs.{Reading.FitsSegment, Stored.segment_values, Tables.taken_table}
use Rattle.office_closing.proofs.register_reading.read_all_taken.Goals as goal

pub returns-clause-read : goal.returns-clause-read
returns-clause-read g c clean layout there is =
    let old = state g.S.Store c.args.conn.now in
    reads_table (0 ∷ 1 ∷ 2 ∷ []) (0 ∷ 1 ∷ 2 ∷ []) (λ r. refl) taken_table (1 ∷ 0 ∷ []) (λ r. refl) old.now c.in_ok-rows.rows.items (c.in_ok-rows.ensures.shown clean layout there is) _ itself segment_values FitsSegment
    c.deref.result.now c.deref.ensures.value c.read_all.result c.read_all.ensures
