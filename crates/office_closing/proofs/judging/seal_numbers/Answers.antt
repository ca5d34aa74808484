use Rattle.office_tables.proofs.WritesLemmas.{of_store_weaker}
use Rattle.office_closing.{specs.{Comparing.HasUnfitAmong, Refusing.HasUnfit}, proofs.{FileLemmas.has_unfit, JudgeLemmas.{if_open_err, if_open_ok}}}
use Rattle.office_closing.proofs.judging.seal_numbers.Goals as goal

pub returns-in-Ok-clause-archive_read : goal.returns-in-Ok-clause-archive_read
returns-in-Ok-clause-archive_read g c = if_open_ok _ c.in-Ok.ensures.reads

pub returns-in-Err-clause-archive_read : goal.returns-in-Err-clause-archive_read
returns-in-Err-clause-archive_read g c = if_open_err _ c.in-Err.ensures.reads

pub returns-in-Err-clause-fault : goal.returns-in-Err-clause-fault
returns-in-Err-clause-fault g c there own copy copy_has =
    of_store_weaker (HasUnfitAmong c.args.numbers.now copy) (HasUnfit copy) (has_unfit c.args.numbers.now copy) _ (c.in-Err.ensures.fault there copy copy_has)
