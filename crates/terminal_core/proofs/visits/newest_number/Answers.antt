use Rattle.std.proofs.Common.{sym}
use Rattle.terminal_core.proofs.Whole.{last_at}
use Rattle.terminal_core.proofs.visits.newest_number.Goals as goal

pub returns-in-Some : goal.returns-in-Some
returns-in-Some c = sym (last_at 0 c.args.visits.now c.in-Some.visit.now (sym c.in-Some.ensures.value))
