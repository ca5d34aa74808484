use Rattle.std.proofs.{Common.arith, lemmas.Grind.common_steps, lemmas.List.Folds.list_any-append}
use Rattle.office_pages.proofs.work_rows.wanted_numbers.Goals as goal

pub loop-job-preserved : goal.loop-job-preserved
loop-job-preserved c = λ container. grind (arith, common_steps, list_any-append, c.loop-job.invariant container)
