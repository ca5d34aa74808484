use Rattle.std.{specs.List.AllByRecursion, proofs.{Common.{◌≡◌, List, true, false, sym, ◌∙◌, Ok, rules}, lemmas.Result.err_from_is_err_and}}
use Rattle.sqlite.specs.{Effect.Database, Held.state}
use Rattle.office_tables.proofs.{WritesLemmas.of_store_or, MadeLemmas.{◌then◌, clean_first, reads_on, reads_stopped}}
use Rattle.office_loading.{specs.{Decoded.itself, Tables.ReadsTable}, proofs.VersionLemmas.from_first}
use Rattle.office_closing.specs.{declared.register.Segment.Segment, Reading.FitsSegment, Stored.ShowsTaken, Tables.{has_table, whole, schema_in}}
use Rattle.office_closing.proofs.WriteTexts.{taken_read_in, taken_missing}
use Rattle.office_closing.specs.declared.register_reading.Later.TheVariants as later
use Rattle.office_closing.proofs.register_reading.read_taken.Goals as goal

pub returns-in_err-there-clause-read : goal.returns-in_err-there-clause-read
returns-in_err-there-clause-read g c clean layout is =
    let p = err_from_is_err_and c.from_residual.result c.from_residual.ensures.1 in
    let db = (state g.S.Store c.args.conn.now).now in
    rw (p.1, p.2) (of_store_or ((all : List Segment) → ShowsTaken layout db all → ¬ AllByRecursion FitsSegment all) c.in_err-there.field-0.0 c.in_err-there.ensures.fault)

pub returns-in_err-there-clause-reads : goal.returns-in_err-there-clause-reads
returns-in_err-there-clause-reads g c = reads_stopped _ c.from_residual.ensures.0 c.in_err-there.ensures.reads

pub returns-then-there-clause-read : goal.returns-then-there-clause-read
returns-then-there-clause-read g c clean layout is =
    let db = (state g.S.Store c.args.conn.now).now in
    let has : has_table later.Taken layout ≡ true = sym (c.in_ok-there.ensures.layout (clean_first c.read_all_taken.ensures.reads clean) layout is) ∙ c.if-there.true in
    taken_read_in itself layout db c.read_all_taken.result has
    (from_first (λ (d : Database). ReadsTable itself FitsSegment (ShowsTaken whole d) c.read_all_taken.result) (schema_in layout) c.in_ok-there.ensures.reads c.read_all_taken.ensures.reads (λ last. c.read_all_taken.ensures.read last layout has) clean is)

pub returns-then-there-clause-reads : goal.returns-then-there-clause-reads
returns-then-there-clause-reads g c = c.in_ok-there.ensures.reads then c.read_all_taken.ensures.reads

pub returns-else-there-clause-read : goal.returns-else-there-clause-read
returns-else-there-clause-read g c clean layout is =
    let off : c.in_ok-there.there ≡ false = search rules in
    taken_missing itself layout (state g.S.Store c.args.conn.now).now c.new.result (search rules) (sym (c.in_ok-there.ensures.layout clean layout is) ∙ off)

pub returns-else-there-clause-reads : goal.returns-else-there-clause-reads
returns-else-there-clause-reads g c = reads_on (Ok _) c.in_ok-there.ensures.reads
