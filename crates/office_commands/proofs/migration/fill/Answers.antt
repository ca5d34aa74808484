use Rattle.std.proofs.lemmas.Result.{err_from_is_err_and}
use Rattle.office_tables.proofs.MadeLemmas.{reads_on, reads_stopped}
use Rattle.office_commands.proofs.migration.fill.Goals as goal

-- the fault is that of the migration
pub returns-in_err-migrate-clause-no_damage : goal.returns-in_err-migrate-clause-no_damage
returns-in_err-migrate-clause-no_damage g c =
    let p = err_from_is_err_and c.from_residual.result c.from_residual.ensures.1 in
    λ clean version content es held. rw (p.1, p.2) (c.in_err-migrate.ensures.no_damage clean version content es held)

pub returns-in_err-migrate-clause-reads : goal.returns-in_err-migrate-clause-reads
returns-in_err-migrate-clause-reads g c = reads_stopped _ c.from_residual.ensures.0 c.migrate.ensures.reads

pub returns-clause-reads : goal.returns-clause-reads
returns-clause-reads g c = reads_on _ c.in_ok-migrate.ensures.reads
