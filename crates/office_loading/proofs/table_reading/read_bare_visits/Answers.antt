use Rattle.std.proofs.Common.{[], ◌∷◌, refl}
use Rattle.sqlite.specs.Held.{state}
use Rattle.terminal_core.specs.{declared.visits.Visit.Visit, Rows.visit_content}
use Rattle.office_rows.specs.{Tables.visit_table, Bare.with_weights, Layouts.bare_schema, Shown.ShowsTable, Values.visit_values}
use Rattle.office_rows.proofs.Listed.{lists_bare_visit}
use Rattle.office_loading.{specs.{Columns.SaysVisit, Decoded.IsSaid, Fits.FitsVisit, Tables.{ReadsTable, ShowsVisits}}, proofs.LackingLemmas.bare_visit_shows}
use Rattle.office_loading.proofs.{RowLemmas.{whole_answer, from_shown}, VersionLemmas.{reads_table, store_fails}}
use Rattle.office_rows.proofs.BareReading as texts
use Rattle.office_loading.proofs.table_reading.read_bare_visits.Goals as goal

pub read_shown-requires : goal.read_shown-requires
read_shown-requires g c = bare_visit_shows

pub returns-clause-read : goal.returns-clause-read
returns-clause-read g c clean is =
    let old = state g.S.Store c.args.conn.now in
    let new = state g.S.Store c.read_shown.new.conn in
    let db = with_weights old.now in
    from_shown _ (λ row (read : Visit). SaysVisit row (visit_content read)) (IsSaid SaysVisit) texts.select_visit old new (whole_answer texts.select_visit old new bare_schema is _ _ texts.select_visit_is.0)
    (ShowsTable visit_table (0 ∷ 1 ∷ 2 ∷ 3 ∷ 4 ∷ 5 ∷ 6 ∷ 7 ∷ 8 ∷ 9 ∷ 10 ∷ 11 ∷ 12 ∷ 13 ∷ 14 ∷ []) (0 ∷ []) db) (λ answer shown. lists_bare_visit old new answer is shown)
    (ReadsTable visit_content FitsVisit (ShowsVisits db))
    (λ answer it result all. reads_table (0 ∷ 1 ∷ 2 ∷ 3 ∷ 4 ∷ 5 ∷ 6 ∷ 7 ∷ 8 ∷ 9 ∷ 10 ∷ 11 ∷ 12 ∷ 13 ∷ 14 ∷ []) (0 ∷ 1 ∷ 2 ∷ 3 ∷ 4 ∷ 5 ∷ 6 ∷ 7 ∷ 8 ∷ 9 ∷ 10 ∷ 11 ∷ 12 ∷ 13 ∷ 14 ∷ []) (λ r. refl) visit_table (0 ∷ []) (λ r. refl) db answer it _ visit_content visit_values FitsVisit answer refl result all)
    (store_fails FitsVisit (ShowsVisits db)) c.read_shown.result (c.read_shown.ensures.read clean)
