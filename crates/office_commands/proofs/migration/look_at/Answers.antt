use Rattle.std.proofs.{Common.{not, ap, ◌∙◌}, lemmas.Result.err_from_is_err_and}
use Rattle.office_tables.proofs.MadeLemmas.{reads_on, reads_stopped}
use Rattle.office_commands.proofs.migration.look_at.Goals as goal

-- Looking at the office changes nothing.
pub returns-clause-looked : goal.returns-clause-looked
returns-clause-looked g c =
    let reads = c.in_ok-load_old.ensures.reads in
    record {
      reads = reads_on _ reads;
      settled = λ clean. c.is_autocommit-is_idle.ensures.settled (c.is_autocommit-is_idle.ensures.value ∙ ap not c.requires.idle) (reads.unchanged clean).0.was_open;
    }

pub returns-clause-reads : goal.returns-clause-reads
returns-clause-reads g c = reads_on _ c.in_ok-load_old.ensures.reads

pub returns-in_err-load_old-clause-reads : goal.returns-in_err-load_old-clause-reads
returns-in_err-load_old-clause-reads g c = reads_stopped _ c.from_residual.ensures.0 c.load_old.ensures.reads

pub returns-in_err-load_old-clause-refused : goal.returns-in_err-load_old-clause-refused
returns-in_err-load_old-clause-refused g c =
    let p = err_from_is_err_and c.from_residual.result c.from_residual.ensures.1 in
    λ clean schema. rw (p.1, p.2) (c.in_err-load_old.ensures.refused clean schema)
