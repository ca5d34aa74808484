use Rattle.office_rows.specs.{Bare.weighed_in, Tables.place_table, Values.place_values}
use Rattle.std.proofs.Common.{[], ◌∷◌, refl}
use Rattle.sqlite.specs.Held.{state}
use Rattle.office_loading.{specs.{Contents.place_content, Fits.FitsPlace}, proofs.VersionLemmas.reads_table}
use Rattle.office_loading.proofs.table_reading.read_places.Goals as goal

pub returns-clause-read : goal.returns-clause-read
returns-clause-read g c clean layout is =
    let old = state g.S.Store c.args.conn.now in
    reads_table (0 ∷ 1 ∷ 2 ∷ []) (0 ∷ 1 ∷ 2 ∷ []) (λ r. refl) place_table (0 ∷ []) (λ r. refl) (weighed_in layout old.now) c.in_ok-rows.rows.items (c.in_ok-rows.ensures.shown clean layout is) _ place_content place_values FitsPlace
    c.deref.result.now c.deref.ensures.value c.read_all.result c.read_all.ensures
