use Rattle.std.{specs.List.AllByRecursion, proofs.{Common.{Ok, refl, subst}, lemmas.Result.err_from_is_err_and}}
use Rattle.sqlite.specs.{Effect.Database, Held.state}
use Rattle.terminal_core.specs.Rows.{visit_content}
use Rattle.office_rows.specs.{Rows.listing_content, Bare.weighed_in, Layouts.schema_in, Opened.{OpenedRows, ShowsNumbers}}
use Rattle.office_loading.specs.{Contents.{number_content, place_content}, Decoded.itself}
use Rattle.office_loading.specs.Fits.{FitsPartner, FitsNumber, FitsVisit, FitsPlace, FitsLine, FitsBlock}
use Rattle.office_loading.specs.Tables.{ReadsTable, ShowsPartners, ShowsVisits, ShowsPlaces, ShowsLines, ShowsBlocks, layout_with}
use Rattle.office_loading.proofs.VersionLemmas.{from_first, later_fails, one_fails, same_items}
use Rattle.office_tables.proofs.MadeLemmas.{◌then◌, clean_first, reads_on, reads_stopped}
use Rattle.office_loading.proofs.table_reading.read_others.Goals as goal

pub returns-in_err-partners-clause-read : goal.returns-in_err-partners-clause-read
returns-in_err-partners-clause-read g c clean is =
    let layout = layout_with c.args.weights in
    let p = err_from_is_err_and c.from_residual.result c.from_residual.ensures.1 in
    let db = weighed_in layout (state g.S.Store c.args.conn.now).now in
    rw (p.1, p.2) (one_fails FitsPartner (ShowsPartners db) (λ (rows : OpenedRows). rows.partners) db (λ rows shown. shown.partners) (λ rows fit. fit.partners) c.in_err-partners.field-0.0 (c.in_err-partners.ensures.read clean layout is))

pub returns-in_err-partners-clause-reads : goal.returns-in_err-partners-clause-reads
returns-in_err-partners-clause-reads g c = reads_stopped _ c.from_residual.ensures.0 c.in_err-partners.ensures.reads

pub returns-in_err-numbers-clause-read : goal.returns-in_err-numbers-clause-read
returns-in_err-numbers-clause-read g c clean is =
    let layout = layout_with c.args.weights in
    let p = err_from_is_err_and c.from_residual-in_err-numbers.result c.from_residual-in_err-numbers.ensures.1 in
    rw (p.1, p.2) (later_fails FitsNumber ShowsNumbers (λ (rows : OpenedRows). rows.numbers) layout (λ db rows shown. shown.numbers) (λ rows fit. fit.numbers) c.in_err-numbers.field-0.0
    c.in_ok-partners.ensures.reads c.in_err-numbers.ensures.reads (λ k i. c.in_err-numbers.ensures.read k layout i) clean is)

pub returns-in_err-numbers-clause-reads : goal.returns-in_err-numbers-clause-reads
returns-in_err-numbers-clause-reads g c = reads_stopped _ c.from_residual-in_err-numbers.ensures.0 (c.in_ok-partners.ensures.reads then c.in_err-numbers.ensures.reads)

pub returns-in_err-visits-clause-read : goal.returns-in_err-visits-clause-read
returns-in_err-visits-clause-read g c clean is =
    let layout = layout_with c.args.weights in
    let p = err_from_is_err_and c.from_residual-in_err-visits.result c.from_residual-in_err-visits.ensures.1 in
    rw (p.1, p.2) (later_fails FitsVisit ShowsVisits (λ (rows : OpenedRows). rows.visits) layout (λ db rows shown. shown.visits) (λ rows fit. fit.visits) c.in_err-visits.field-0.0
    (c.in_ok-partners.ensures.reads then c.in_ok-numbers.ensures.reads) c.in_err-visits.ensures.reads c.in_err-visits.ensures.read clean is)

pub returns-in_err-visits-clause-reads : goal.returns-in_err-visits-clause-reads
returns-in_err-visits-clause-reads g c = reads_stopped _ c.from_residual-in_err-visits.ensures.0 (c.in_ok-partners.ensures.reads then c.in_ok-numbers.ensures.reads then c.in_err-visits.ensures.reads)

pub returns-in_err-places-clause-read : goal.returns-in_err-places-clause-read
returns-in_err-places-clause-read g c clean is =
    let layout = layout_with c.args.weights in
    let p = err_from_is_err_and c.from_residual-in_err-places.result c.from_residual-in_err-places.ensures.1 in
    rw (p.1, p.2) (later_fails FitsPlace ShowsPlaces (λ (rows : OpenedRows). rows.places) layout (λ db rows shown. shown.places) (λ rows fit. fit.places) c.in_err-places.field-0.0
    (c.in_ok-partners.ensures.reads then c.in_ok-numbers.ensures.reads then c.in_ok-visits.ensures.reads) c.in_err-places.ensures.reads (λ k i. c.in_err-places.ensures.read k layout i) clean is)

pub returns-in_err-places-clause-reads : goal.returns-in_err-places-clause-reads
returns-in_err-places-clause-reads g c = reads_stopped _ c.from_residual-in_err-places.ensures.0 (c.in_ok-partners.ensures.reads then c.in_ok-numbers.ensures.reads then c.in_ok-visits.ensures.reads then c.in_err-places.ensures.reads)

pub returns-in_err-lines-clause-read : goal.returns-in_err-lines-clause-read
returns-in_err-lines-clause-read g c clean is =
    let layout = layout_with c.args.weights in
    let p = err_from_is_err_and c.from_residual-in_err-lines.result c.from_residual-in_err-lines.ensures.1 in
    rw (p.1, p.2) (later_fails FitsLine ShowsLines (λ (rows : OpenedRows). rows.lines) layout (λ db rows shown. shown.lines) (λ rows fit. fit.lines) c.in_err-lines.field-0.0
    (c.in_ok-partners.ensures.reads then c.in_ok-numbers.ensures.reads then c.in_ok-visits.ensures.reads then c.in_ok-places.ensures.reads) c.in_err-lines.ensures.reads (λ k i. c.in_err-lines.ensures.read k layout i) clean is)

pub returns-in_err-lines-clause-reads : goal.returns-in_err-lines-clause-reads
returns-in_err-lines-clause-reads g c = reads_stopped _ c.from_residual-in_err-lines.ensures.0 (c.in_ok-partners.ensures.reads then c.in_ok-numbers.ensures.reads then c.in_ok-visits.ensures.reads then c.in_ok-places.ensures.reads then c.in_err-lines.ensures.reads)

pub returns-in_err-blocks-clause-read : goal.returns-in_err-blocks-clause-read
returns-in_err-blocks-clause-read g c clean is =
    let layout = layout_with c.args.weights in
    let p = err_from_is_err_and c.from_residual-in_err-blocks.result c.from_residual-in_err-blocks.ensures.1 in
    rw (p.1, p.2) (later_fails FitsBlock ShowsBlocks (λ (rows : OpenedRows). rows.blocks) layout (λ db rows shown. shown.blocks) (λ rows fit. fit.blocks) c.in_err-blocks.field-0.0
    (c.in_ok-partners.ensures.reads then c.in_ok-numbers.ensures.reads then c.in_ok-visits.ensures.reads then c.in_ok-places.ensures.reads then c.in_ok-lines.ensures.reads) c.in_err-blocks.ensures.reads (λ k i. c.in_err-blocks.ensures.read k layout i) clean is)

pub returns-in_err-blocks-clause-reads : goal.returns-in_err-blocks-clause-reads
returns-in_err-blocks-clause-reads g c = reads_stopped _ c.from_residual-in_err-blocks.ensures.0 (c.in_ok-partners.ensures.reads then c.in_ok-numbers.ensures.reads then c.in_ok-visits.ensures.reads then c.in_ok-places.ensures.reads then c.in_ok-lines.ensures.reads then c.in_err-blocks.ensures.reads)

pub returns-clause-read : goal.returns-clause-read
returns-clause-read g c clean is =
    let layout = layout_with c.args.weights in
    let schema = schema_in layout in
    let db = weighed_in layout (state g.S.Store c.args.conn.now).now in
    let a1 = c.in_ok-partners.ensures.reads in
    let a2 = a1 then c.in_ok-numbers.ensures.reads in
    let a3 = a2 then c.in_ok-visits.ensures.reads in
    let a4 = a3 then c.in_ok-places.ensures.reads in
    let a5 = a4 then c.in_ok-lines.ensures.reads in
    let d5 = clean_first c.in_ok-blocks.ensures.reads clean in
    let d4 = clean_first c.in_ok-lines.ensures.reads d5 in
    let d3 = clean_first c.in_ok-places.ensures.reads d4 in
    let d2 = clean_first c.in_ok-visits.ensures.reads d3 in
    let d1 = clean_first c.in_ok-numbers.ensures.reads d2 in
    let r1 = c.in_ok-partners.ensures.read d1 layout is in
    let r2 = from_first (λ (d : Database). ReadsTable number_content FitsNumber (ShowsNumbers (weighed_in layout d)) (Ok c.in_ok-numbers.numbers)) schema a1 c.in_ok-numbers.ensures.reads (λ k i. c.in_ok-numbers.ensures.read k layout i) d2 is in
    let r3 = from_first (λ (d : Database). ReadsTable visit_content FitsVisit (ShowsVisits (weighed_in layout d)) (Ok c.in_ok-visits.visits)) schema a2 c.in_ok-visits.ensures.reads c.in_ok-visits.ensures.read d3 is in
    let r4 = from_first (λ (d : Database). ReadsTable place_content FitsPlace (ShowsPlaces (weighed_in layout d)) (Ok c.in_ok-places.places)) schema a3 c.in_ok-places.ensures.reads (λ k i. c.in_ok-places.ensures.read k layout i) d4 is in
    let r5 = from_first (λ (d : Database). ReadsTable listing_content FitsLine (ShowsLines (weighed_in layout d)) (Ok c.in_ok-lines.lines)) schema a4 c.in_ok-lines.ensures.reads (λ k i. c.in_ok-lines.ensures.read k layout i) d5 is in
    let r6 = from_first (λ (d : Database). ReadsTable itself FitsBlock (ShowsBlocks (weighed_in layout d)) (Ok c.in_ok-blocks.blocks)) schema a5 c.in_ok-blocks.ensures.reads (λ k i. c.in_ok-blocks.ensures.read k layout i) clean is in
    let blocks = same_items c.in_ok-blocks.blocks.items in (
      refl,
      λ all shown fit. (
        record { partners = r1.0; numbers = r2.0; visits = r3.0; places = r4.0; lines = r5.0; settings = shown; blocks = subst (ShowsBlocks db) blocks r6.0 },
        record { partners = r1.1; numbers = r2.1; visits = r3.1; places = r4.1; lines = r5.1; settings = fit; blocks = subst (AllByRecursion FitsBlock) blocks r6.1 },
      ),
    )

pub returns-clause-reads : goal.returns-clause-reads
returns-clause-reads g c =
    reads_on (Ok _) (c.in_ok-partners.ensures.reads then c.in_ok-numbers.ensures.reads then c.in_ok-visits.ensures.reads then c.in_ok-places.ensures.reads then c.in_ok-lines.ensures.reads then c.in_ok-blocks.ensures.reads)
