use Rattle.office_commands.proofs.OpenedLemmas.{shows_held, shows_none, shows_no_tables}
use Rattle.office_commands.proofs.opening.open_found.Goals as goal

pub returns-in-Ok-clause-opened : goal.returns-in-Ok-clause-opened
returns-in-Ok-clause-opened g c clean = (c.in-Ok.ensures.opened clean).0

pub returns-in-Ok-clause-found : goal.returns-in-Ok-clause-found
returns-in-Ok-clause-found g c clean db schema =
    shows_held _ c.in-Ok.conn (c.in-Ok.ensures.opened clean) (c.in-Ok.ensures.found clean) db schema

pub returns-in-Ok-clause-empty : goal.returns-in-Ok-clause-empty
returns-in-Ok-clause-empty g c clean =
    shows_no_tables _ c.in-Ok.conn
    (shows_none _ c.in-Ok.conn (c.in-Ok.ensures.opened clean) (c.in-Ok.ensures.found clean))
    (shows_held _ c.in-Ok.conn (c.in-Ok.ensures.opened clean) (c.in-Ok.ensures.found clean))
