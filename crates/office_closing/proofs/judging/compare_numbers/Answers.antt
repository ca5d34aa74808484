use Rattle.office_closing.proofs.{FileLemmas.{either_more, has_unfit}, JudgeLemmas.{if_open_failed, if_open_passed}}
use Rattle.office_closing.proofs.judging.compare_numbers.Goals as goal

pub returns-in-Ok-Alike-clause-compared : goal.returns-in-Ok-Alike-clause-compared
returns-in-Ok-Alike-clause-compared g c here there own copy own_has copy_has own_once copy_once =
    rw c.in-Ok-Alike.field-0-is at (c.in-Ok-Alike.ensures.compared here there own copy own_has copy_has own_once copy_once)

pub returns-in-Ok-Alike-clause-store_read : goal.returns-in-Ok-Alike-clause-store_read
returns-in-Ok-Alike-clause-store_read g c = if_open_passed _ c.in-Ok-Alike.ensures.store_reads

pub returns-in-Ok-Alike-clause-archive_read : goal.returns-in-Ok-Alike-clause-archive_read
returns-in-Ok-Alike-clause-archive_read g c = if_open_passed _ c.in-Ok-Alike.ensures.archive_reads

pub returns-in-Ok-Differs-clause-store_read : goal.returns-in-Ok-Differs-clause-store_read
returns-in-Ok-Differs-clause-store_read g c = if_open_failed _ c.in-Ok-Differs.ensures.store_reads

pub returns-in-Ok-Differs-clause-archive_read : goal.returns-in-Ok-Differs-clause-archive_read
returns-in-Ok-Differs-clause-archive_read g c = if_open_failed _ c.in-Ok-Differs.ensures.archive_reads

pub returns-in-Err-clause-store_read : goal.returns-in-Err-clause-store_read
returns-in-Err-clause-store_read g c = if_open_failed _ c.in-Err.ensures.store_reads

pub returns-in-Err-clause-archive_read : goal.returns-in-Err-clause-archive_read
returns-in-Err-clause-archive_read g c = if_open_failed _ c.in-Err.ensures.archive_reads

pub returns-in-Ok-Differs-clause-fault : goal.returns-in-Ok-Differs-clause-fault
returns-in-Ok-Differs-clause-fault g c here there own copy own_has copy_has own_once copy_once =
    (rw c.in-Ok-Differs.field-0-is at (c.in-Ok-Differs.ensures.compared here there own copy own_has copy_has own_once copy_once)).1

pub returns-in-Err-clause-fault : goal.returns-in-Err-clause-fault
returns-in-Err-clause-fault g c here there own copy own_has copy_has own_once copy_once =
    either_more (has_unfit c.args.numbers.now own) (has_unfit c.args.numbers.now copy) _ _ (c.in-Err.ensures.fault here there own copy own_has copy_has)

pub returns-in-Ok-Alike-clause-sealed : goal.returns-in-Ok-Alike-clause-sealed
returns-in-Ok-Alike-clause-sealed g c here there =
    rw c.in-Ok-Alike.field-0-is at (c.in-Ok-Alike.ensures.sealed here there)
