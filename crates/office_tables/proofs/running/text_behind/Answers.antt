use Rattle.std.proofs.Common.{◌+◌}
use Rattle.sqlite.specs.Held.{state}
use Rattle.office_tables.proofs.{MadeLemmas.{reads_on, reads_stopped}, WriteLemmas.{no_text, nothing_read, one_read, text_kept}}
use Rattle.office_tables.proofs.running.text_behind.Goals as goal

pub returns-in-Some-clause-text : goal.returns-in-Some-clause-text
returns-in-Some-clause-text g c clean rows has numbered =
    text_kept c.args.partner (c.args.number + 1) rows c.in-Some.field-0 numbered.kept_once (rw c.in-Some.is at (c.in_ok-text.ensures.answer clean rows has))

pub returns-clause-text : goal.returns-clause-text
returns-clause-text g c clean rows has numbered = no_text c.args.partner (c.args.number + 1) rows (rw c.in-None.is at (c.in_ok-text.ensures.answer clean rows has))

pub returns-then-number-eq-LAST_NUMBER-clause-reads : goal.returns-then-number-eq-LAST_NUMBER-clause-reads
returns-then-number-eq-LAST_NUMBER-clause-reads g c = nothing_read (state g.S.Store c.args.conn.now) _

pub returns-in_err-text-clause-reads : goal.returns-in_err-text-clause-reads
returns-in_err-text-clause-reads g c = one_read (reads_stopped _ c.from_residual.ensures.0 c.kept.ensures.reads)

pub returns-in-Some-clause-reads : goal.returns-in-Some-clause-reads
returns-in-Some-clause-reads g c = one_read (reads_on _ c.in_ok-text.ensures.reads)

pub returns-clause-reads : goal.returns-clause-reads
returns-clause-reads g c = one_read (reads_on _ c.in_ok-text.ensures.reads)
