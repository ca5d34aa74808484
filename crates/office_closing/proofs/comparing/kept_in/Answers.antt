use Rattle.office_closing.proofs.JudgeLemmas.{read_err, read_ok}
use Rattle.office_closing.proofs.comparing.kept_in.Goals as goal

pub returns-in-Ok-clause-reads : goal.returns-in-Ok-clause-reads
returns-in-Ok-clause-reads g c = read_ok _ c.in-Ok.ensures.reads

pub returns-in-Err-clause-reads : goal.returns-in-Err-clause-reads
returns-in-Err-clause-reads g c = read_err _ c.in-Err.ensures.reads
