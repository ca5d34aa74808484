use Rattle.office_rows.specs.{Bare.weighed_in, Tables.block_table, Values.block_values}
use Rattle.std.proofs.Common.{[], ◌∷◌, refl}
use Rattle.sqlite.specs.Held.{state}
use Rattle.office_loading.{specs.{Decoded.itself, Fits.FitsBlock}, proofs.VersionLemmas.reads_table}
use Rattle.office_loading.proofs.table_reading.read_blocks.Goals as goal

pub returns-clause-read : goal.returns-clause-read
returns-clause-read g c clean layout is =
    let old = state g.S.Store c.args.conn.now in
    reads_table (0 ∷ 1 ∷ 2 ∷ 3 ∷ []) (0 ∷ 1 ∷ 2 ∷ 3 ∷ []) (λ r. refl) block_table (0 ∷ []) (λ r. refl) (weighed_in layout old.now) c.in_ok-rows.rows.items (c.in_ok-rows.ensures.shown clean layout is) _ itself block_values FitsBlock
    c.deref.result.now c.deref.ensures.value c.read_all.result c.read_all.ensures
