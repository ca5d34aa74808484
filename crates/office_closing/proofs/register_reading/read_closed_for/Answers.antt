use Rattle.sqlite.specs.Held.{state}
use Rattle.std.proofs.lemmas.Result.{err_from_is_err_and}
use Rattle.office_tables.proofs.MadeLemmas.{reads_on, reads_stopped}
use Rattle.office_closing.specs.Reading.{closed_for_file}
use Rattle.office_closing.proofs.WriteTexts.{reads_mark, mark_fails}
use Rattle.office_closing.proofs.register_reading.read_closed_for.Goals as goal

pub returns-in_err-rows-clause-read : goal.returns-in_err-rows-clause-read
returns-in_err-rows-clause-read g c clean layout is =
    let p = err_from_is_err_and c.from_residual.result c.from_residual.ensures.1 in
    rw (p.1, p.2) (mark_fails (state g.S.Store c.args.conn.now).now c.in_err-rows.field-0.0 (c.in_err-rows.ensures.read clean layout is))

pub returns-in_err-rows-clause-reads : goal.returns-in_err-rows-clause-reads
returns-in_err-rows-clause-reads g c = reads_stopped _ c.from_residual.ensures.0 c.in_err-rows.ensures.reads

pub returns-clause-read : goal.returns-clause-read
returns-clause-read g c clean layout is =
    let read = c.in_ok-rows.ensures.read clean layout is in
    reads_mark (state g.S.Store c.args.conn.now).now closed_for_file c.in_ok-rows.rows.items read.0 read.1 c.one_at_most.result c.one_at_most.ensures.ok c.one_at_most.ensures.err

pub returns-clause-reads : goal.returns-clause-reads
returns-clause-reads g c = reads_on c.one_at_most.result c.in_ok-rows.ensures.reads
