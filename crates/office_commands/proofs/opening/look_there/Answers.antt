use Rattle.office_commands.proofs.OpenedLemmas.{shown_by}
use Rattle.office_commands.proofs.opening.look_there.Goals as goal

pub returns-clause-found : goal.returns-clause-found
returns-clause-found g c = shown_by _ c.in_ok-conn.conn c.new.result.conn c.new.ensures c.in_ok-conn.ensures.found
