use Rattle.office_closing.proofs.JudgeLemmas.{read_err, read_ok}
use Rattle.office_closing.proofs.judging.register_of.Goals as goal

pub returns-in-Ok-clause-read : goal.returns-in-Ok-clause-read
returns-in-Ok-clause-read g c = read_ok _ c.in-Ok.ensures.reads

pub returns-in-Err-clause-read : goal.returns-in-Err-clause-read
returns-in-Err-clause-read g c = read_err _ c.in-Err.ensures.reads
