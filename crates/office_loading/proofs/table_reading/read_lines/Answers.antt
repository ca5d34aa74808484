use Rattle.std.proofs.Common.{[], ◌∷◌, refl}
use Rattle.sqlite.specs.Held.{state}
use Rattle.terminal_core.specs.declared.lines.Listing.{Listing}
use Rattle.office_rows.{specs.{Rows.listing_content, Tables.listing_table, Bare.weighed_in, Shown.ShowsTable, Values.line_values}, proofs.Listed.lists_listed}
use Rattle.office_loading.{specs.{Columns.SaysLine, Decoded.IsSaid, Fits.FitsLine, Tables.{ReadsTable, ShowsLines}}, proofs.LackingLemmas.listed_shows}
use Rattle.office_loading.proofs.{RowLemmas.{whole_listed, from_shown}, VersionLemmas.{reads_table, store_fails}}
use Rattle.office_rows.proofs.Reading as texts
use Rattle.office_loading.proofs.table_reading.read_lines.Goals as goal

pub read_shown-requires : goal.read_shown-requires
read_shown-requires g c = listed_shows

pub returns-clause-read : goal.returns-clause-read
returns-clause-read g c clean layout is =
    let old = state g.S.Store c.args.conn.now in
    let new = state g.S.Store c.read_shown.new.conn in
    let db = weighed_in layout old.now in
    from_shown _ (λ row (read : Listing). SaysLine row (listing_content read)) (IsSaid SaysLine) texts.select_listed old new (whole_listed old new layout is)
    (ShowsTable listing_table (0 ∷ 1 ∷ 2 ∷ 3 ∷ 4 ∷ 5 ∷ []) (0 ∷ 1 ∷ 2 ∷ 3 ∷ []) db) (λ answer shown. lists_listed old new answer layout is shown)
    (ReadsTable listing_content FitsLine (ShowsLines db))
    (λ answer it result all. reads_table (0 ∷ 1 ∷ 2 ∷ 3 ∷ 4 ∷ 5 ∷ []) (0 ∷ 1 ∷ 2 ∷ 3 ∷ 4 ∷ 5 ∷ []) (λ r. refl) listing_table (0 ∷ 1 ∷ 2 ∷ 3 ∷ []) (λ r. refl) db answer it _ listing_content line_values FitsLine answer refl result all)
    (store_fails FitsLine (ShowsLines db)) c.read_shown.result (c.read_shown.ensures.read clean)
