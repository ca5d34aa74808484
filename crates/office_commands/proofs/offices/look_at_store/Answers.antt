use Rattle.office_commands.proofs.OpenedLemmas.{shown_by}
use Rattle.office_commands.proofs.offices.look_at_store.Goals as goal

pub returns-in-Ok-clause-found : goal.returns-in-Ok-clause-found
returns-in-Ok-clause-found g c = shown_by _ c.in-Ok.conn c.new.result.inner.conn c.new.ensures c.in-Ok.ensures.found
