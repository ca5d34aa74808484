use Rattle.std.{specs.List.AllByRecursion, proofs.{Common.{Ok, subst}, lemmas.Result.err_from_is_err_and}}
use Rattle.sqlite.specs.{Effect.Database, Held.state}
use Rattle.office_tables.proofs.MadeLemmas.{◌then◌, clean_first, reads_on, reads_stopped}
use Rattle.office_loading.{specs.{Decoded.itself, Tables.{FailsTable, ReadsTable}}, proofs.VersionLemmas.{from_first, same_items}}
use Rattle.office_closing.specs.{Lists.list_content, Reading.{FitsSealed, FitsSegment, FitsList, ShowsSegments, FailsMark, ReadsMark}, Register.sealed_content}
use Rattle.office_closing.specs.{Stored.{ShowsLists, ShowsSealed, ShowsTaken}, Tables.schema_in}
use Rattle.office_closing.proofs.WriteTexts.{archives_fail, segments_fail, files_fail, lists_fail, taken_fails, sealed_fails}
use Rattle.office_closing.proofs.register_reading.read_tables.Goals as goal

pub returns-in_err-archives-clause-read : goal.returns-in_err-archives-clause-read
returns-in_err-archives-clause-read g c clean layout is =
    let p = err_from_is_err_and c.from_residual.result c.from_residual.ensures.1 in
    rw (p.1, p.2) (archives_fail layout (state g.S.Store c.args.conn.now).now c.in_err-archives.field-0.0 (c.in_err-archives.ensures.read clean layout is))

pub returns-in_err-archives-clause-reads : goal.returns-in_err-archives-clause-reads
returns-in_err-archives-clause-reads g c = reads_stopped _ c.from_residual.ensures.0 c.in_err-archives.ensures.reads

pub returns-in_err-segments-clause-read : goal.returns-in_err-segments-clause-read
returns-in_err-segments-clause-read g c clean layout is =
    let p = err_from_is_err_and c.from_residual-in_err-segments.result c.from_residual-in_err-segments.ensures.1 in
    let db = (state g.S.Store c.args.conn.now).now in
    rw (p.1, p.2) (segments_fail layout db c.in_err-segments.field-0.0
    (from_first (λ (d : Database). FailsTable FitsSegment (ShowsSegments d) c.in_err-segments.field-0.0) (schema_in layout) c.in_ok-archives.ensures.reads c.in_err-segments.ensures.reads (λ last. c.in_err-segments.ensures.read last layout) clean is))

pub returns-in_err-segments-clause-reads : goal.returns-in_err-segments-clause-reads
returns-in_err-segments-clause-reads g c = reads_stopped _ c.from_residual-in_err-segments.ensures.0 (c.in_ok-archives.ensures.reads then c.in_err-segments.ensures.reads)

pub returns-in_err-closed_for-clause-read : goal.returns-in_err-closed_for-clause-read
returns-in_err-closed_for-clause-read g c clean layout is =
    let p = err_from_is_err_and c.from_residual-in_err-closed_for.result c.from_residual-in_err-closed_for.ensures.1 in
    let db = (state g.S.Store c.args.conn.now).now in
    rw (p.1, p.2) (files_fail layout db c.in_err-closed_for.field-0.0
    (from_first (λ (d : Database). FailsMark d c.in_err-closed_for.field-0.0) (schema_in layout) (c.in_ok-archives.ensures.reads then c.in_ok-segments.ensures.reads) c.in_err-closed_for.ensures.reads (λ last. c.in_err-closed_for.ensures.read last layout) clean is))

pub returns-in_err-closed_for-clause-reads : goal.returns-in_err-closed_for-clause-reads
returns-in_err-closed_for-clause-reads g c = reads_stopped _ c.from_residual-in_err-closed_for.ensures.0 (c.in_ok-archives.ensures.reads then c.in_ok-segments.ensures.reads then c.in_err-closed_for.ensures.reads)

pub returns-in_err-lists-clause-read : goal.returns-in_err-lists-clause-read
returns-in_err-lists-clause-read g c clean layout is =
    let p = err_from_is_err_and c.from_residual-in_err-lists.result c.from_residual-in_err-lists.ensures.1 in
    let db = (state g.S.Store c.args.conn.now).now in
    rw (p.1, p.2) (lists_fail layout db c.in_err-lists.field-0.0
    (from_first (λ (d : Database). FailsTable FitsList (ShowsLists layout d) c.in_err-lists.field-0.0) (schema_in layout) (c.in_ok-archives.ensures.reads then c.in_ok-segments.ensures.reads then c.in_ok-closed_for.ensures.reads) c.in_err-lists.ensures.reads (λ last. c.in_err-lists.ensures.read last layout) clean is))

pub returns-in_err-lists-clause-reads : goal.returns-in_err-lists-clause-reads
returns-in_err-lists-clause-reads g c = reads_stopped _ c.from_residual-in_err-lists.ensures.0 (c.in_ok-archives.ensures.reads then c.in_ok-segments.ensures.reads then c.in_ok-closed_for.ensures.reads then c.in_err-lists.ensures.reads)

pub returns-in_err-taken-clause-read : goal.returns-in_err-taken-clause-read
returns-in_err-taken-clause-read g c clean layout is =
    let p = err_from_is_err_and c.from_residual-in_err-taken.result c.from_residual-in_err-taken.ensures.1 in
    let db = (state g.S.Store c.args.conn.now).now in
    rw (p.1, p.2) (taken_fails layout db c.in_err-taken.field-0.0
    (from_first (λ (d : Database). FailsTable FitsSegment (ShowsTaken layout d) c.in_err-taken.field-0.0) (schema_in layout) (c.in_ok-archives.ensures.reads then c.in_ok-segments.ensures.reads then c.in_ok-closed_for.ensures.reads then c.in_ok-lists.ensures.reads) c.in_err-taken.ensures.reads (λ last. c.in_err-taken.ensures.read last layout) clean is))

pub returns-in_err-taken-clause-reads : goal.returns-in_err-taken-clause-reads
returns-in_err-taken-clause-reads g c = reads_stopped _ c.from_residual-in_err-taken.ensures.0 (c.in_ok-archives.ensures.reads then c.in_ok-segments.ensures.reads then c.in_ok-closed_for.ensures.reads then c.in_ok-lists.ensures.reads then c.in_err-taken.ensures.reads)

pub returns-in_err-sealed-clause-read : goal.returns-in_err-sealed-clause-read
returns-in_err-sealed-clause-read g c clean layout is =
    let p = err_from_is_err_and c.from_residual-in_err-sealed.result c.from_residual-in_err-sealed.ensures.1 in
    let db = (state g.S.Store c.args.conn.now).now in
    rw (p.1, p.2) (sealed_fails layout db c.in_err-sealed.field-0.0
    (from_first (λ (d : Database). FailsTable FitsSealed (ShowsSealed layout d) c.in_err-sealed.field-0.0) (schema_in layout) (c.in_ok-archives.ensures.reads then c.in_ok-segments.ensures.reads then c.in_ok-closed_for.ensures.reads then c.in_ok-lists.ensures.reads then c.in_ok-taken.ensures.reads) c.in_err-sealed.ensures.reads (λ last. c.in_err-sealed.ensures.read last layout) clean is))

pub returns-in_err-sealed-clause-reads : goal.returns-in_err-sealed-clause-reads
returns-in_err-sealed-clause-reads g c = reads_stopped _ c.from_residual-in_err-sealed.ensures.0 (c.in_ok-archives.ensures.reads then c.in_ok-segments.ensures.reads then c.in_ok-closed_for.ensures.reads then c.in_ok-lists.ensures.reads then c.in_ok-taken.ensures.reads then c.in_err-sealed.ensures.reads)

pub returns-clause-read : goal.returns-clause-read
returns-clause-read g c clean layout is =
    let db = (state g.S.Store c.args.conn.now).now in
    let schema = schema_in layout in
    let a1 = c.in_ok-archives.ensures.reads in
    let a2 = a1 then c.in_ok-segments.ensures.reads in
    let a3 = a1 then c.in_ok-segments.ensures.reads then c.in_ok-closed_for.ensures.reads in
    let a4 = a1 then c.in_ok-segments.ensures.reads then c.in_ok-closed_for.ensures.reads then c.in_ok-lists.ensures.reads in
    let a5 = a1 then c.in_ok-segments.ensures.reads then c.in_ok-closed_for.ensures.reads then c.in_ok-lists.ensures.reads then c.in_ok-taken.ensures.reads in
    let d5 = clean_first c.in_ok-sealed.ensures.reads clean in
    let d4 = clean_first c.in_ok-taken.ensures.reads d5 in
    let d3 = clean_first c.in_ok-lists.ensures.reads d4 in
    let d2 = clean_first c.in_ok-closed_for.ensures.reads d3 in
    let d1 = clean_first c.in_ok-segments.ensures.reads d2 in
    let r1 = c.in_ok-archives.ensures.read d1 layout is in
    let r2 = from_first (λ (d : Database). ReadsTable itself FitsSegment (ShowsSegments d) (Ok c.in_ok-segments.segments)) schema a1 c.in_ok-segments.ensures.reads (λ last. c.in_ok-segments.ensures.read last layout) d2 is in
    let r3 = from_first (λ (d : Database). ReadsMark d (Ok c.in_ok-closed_for.closed_for)) schema a2 c.in_ok-closed_for.ensures.reads (λ last. c.in_ok-closed_for.ensures.read last layout) d3 is in
    let r4 = from_first (λ (d : Database). ReadsTable list_content FitsList (ShowsLists layout d) (Ok c.in_ok-lists.lists)) schema a3 c.in_ok-lists.ensures.reads (λ last. c.in_ok-lists.ensures.read last layout) d4 is in
    let r5 = from_first (λ (d : Database). ReadsTable itself FitsSegment (ShowsTaken layout d) (Ok c.in_ok-taken.taken)) schema a4 c.in_ok-taken.ensures.reads (λ last. c.in_ok-taken.ensures.read last layout) d5 is in
    let r6 = from_first (λ (d : Database). ReadsTable sealed_content FitsSealed (ShowsSealed layout d) (Ok c.in_ok-sealed.sealed)) schema a5 c.in_ok-sealed.ensures.reads (λ last. c.in_ok-sealed.ensures.read last layout) clean is in
    let also = same_items c.in_ok-taken.taken.items in
    let same = same_items c.in_ok-segments.segments.items in (
      record { archives = r1.0; segments = subst (ShowsSegments db) same r2.0; closed_for = r3.0; lists = r4.0; taken = subst (ShowsTaken layout db) also r5.0; sealed = r6.0 },
      record { archives = r1.1; segments = subst (AllByRecursion FitsSegment) same r2.1; closed_for = r3.1; lists = r4.1; taken = subst (AllByRecursion FitsSegment) also r5.1; sealed = r6.1 },
    )

pub returns-clause-reads : goal.returns-clause-reads
returns-clause-reads g c = reads_on (Ok _) (c.in_ok-archives.ensures.reads then c.in_ok-segments.ensures.reads then c.in_ok-closed_for.ensures.reads then c.in_ok-lists.ensures.reads then c.in_ok-taken.ensures.reads then c.in_ok-sealed.ensures.reads)

pub returns-clause-missing : goal.returns-clause-missing
returns-clause-missing g c clean none =
    let d5 = clean_first c.in_ok-sealed.ensures.reads clean in
    let d4 = clean_first c.in_ok-taken.ensures.reads d5 in
    let d3 = clean_first c.in_ok-lists.ensures.reads d4 in
    let d2 = clean_first c.in_ok-closed_for.ensures.reads d3 in
    let d1 = clean_first c.in_ok-segments.ensures.reads d2 in
    c.in_ok-archives.ensures.missing d1 none
