use Rattle.std.proofs.Common.{inl, rules}
use Rattle.office_commands.proofs.telling.demonstrate.Goals as goal

pub returns-in-Ok : goal.returns-in-Ok
returns-in-Ok g c =
    inl (c.in-Ok.worst, c.status_of.ensures, (search rules), c.in-Ok.ensures.sound.0, c.in-Ok.ensures.sound.1, c.in-Ok.ensures.ok)
