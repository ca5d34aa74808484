use Rattle.sqlite.specs.Held.{state}
use Rattle.office_tables.proofs.WriteLemmas.{nothing_read, only_on, only_stopped}
use Rattle.office_closing.proofs.seals.has_seals.Goals as goal

pub returns-in_default-clause-reads : goal.returns-in_default-clause-reads
returns-in_default-clause-reads g c = nothing_read (state g.S.Store c.args.conn.now) _

pub returns-in_err-closing-clause-reads : goal.returns-in_err-closing-clause-reads
returns-in_err-closing-clause-reads g c = nothing_read (state g.S.Store c.args.conn.now) _

pub returns-in_err-seals-clause-reads : goal.returns-in_err-seals-clause-reads
returns-in_err-seals-clause-reads g c = only_stopped _ c.from_residual-in_err-seals.ensures.0 c.in_err-seals.ensures.reads

pub returns-clause-reads : goal.returns-clause-reads
returns-clause-reads g c = only_on _ c.in_ok-seals.ensures.reads
