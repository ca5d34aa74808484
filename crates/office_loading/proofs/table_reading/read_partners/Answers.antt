use Rattle.office_rows.specs.{Bare.weighed_in, Tables.partner_table, Values.partner_values}
use Rattle.std.proofs.Common.{[], ◌∷◌, refl}
use Rattle.sqlite.specs.Held.{state}
use Rattle.office_loading.{specs.{Contents.partner_content, Fits.FitsPartner}, proofs.VersionLemmas.reads_table}
use Rattle.office_loading.proofs.table_reading.read_partners.Goals as goal

pub returns-clause-read : goal.returns-clause-read
returns-clause-read g c clean layout is =
    let old = state g.S.Store c.args.conn.now in
    reads_table (0 ∷ 1 ∷ 2 ∷ 3 ∷ []) (0 ∷ 1 ∷ 2 ∷ 3 ∷ []) (λ r. refl) partner_table (0 ∷ []) (λ r. refl) (weighed_in layout old.now) c.in_ok-rows.rows.items (c.in_ok-rows.ensures.shown clean layout is) _ partner_content partner_values FitsPartner
    c.deref.result.now c.deref.ensures.value c.read_all.result c.read_all.ensures
