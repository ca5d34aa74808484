use Rattle.std.proofs.Common.{[], ◌∷◌, refl}
use Rattle.sqlite.specs.Held.{state}
use Rattle.office_loading.specs.{Contents.number_content, declared.numbers.NumberRow.NumberRow, Columns.SaysNumbered, Decoded.IsSaid, Fits.FitsNumber}
use Rattle.office_loading.{specs.Tables.ReadsTable, proofs.{LackingLemmas.interchange_shows, RowLemmas.{whole_interchange, from_shown}}}
use Rattle.office_loading.proofs.VersionLemmas.{reads_numbers, store_fails}
use Rattle.office_rows.{specs.{Tables.interchange_table, Bare.weighed_in, Opened.ShowsNumbers, Shown.ShowsTable}, proofs.Listed.lists_interchange}
use Rattle.office_rows.proofs.Reading as texts
use Rattle.office_loading.proofs.table_reading.read_numbers.Goals as goal

pub read_shown-requires : goal.read_shown-requires
read_shown-requires g c = interchange_shows

pub returns-clause-read : goal.returns-clause-read
returns-clause-read g c clean layout is =
    let old = state g.S.Store c.args.conn.now in
    let new = state g.S.Store c.read_shown.new.conn in
    let db = weighed_in layout old.now in
    from_shown _ (λ row (read : NumberRow). SaysNumbered row (number_content read)) (IsSaid SaysNumbered) texts.select_interchange old new (whole_interchange old new layout is)
    (ShowsTable interchange_table (0 ∷ 1 ∷ 3 ∷ []) (0 ∷ 1 ∷ []) db) (λ answer shown. lists_interchange old new answer layout is shown)
    (ReadsTable number_content FitsNumber (ShowsNumbers db)) (λ answer it result all. reads_numbers db answer it _ number_content answer refl result all)
    (store_fails FitsNumber (ShowsNumbers db)) c.read_shown.result (c.read_shown.ensures.read clean)
