use Rattle.partner_core.proofs.Orders.{used_within_run, free_after_run, beyond_run}
use Rattle.partner_core.proofs.laws.unbroken_run.Goals as goal

pub returns-clause-used : goal.returns-clause-used
returns-clause-used c = used_within_run

pub returns-clause-free_after : goal.returns-clause-free_after
returns-clause-free_after c = free_after_run

pub returns-clause-free_beyond : goal.returns-clause-free_beyond
returns-clause-free_beyond c = beyond_run
