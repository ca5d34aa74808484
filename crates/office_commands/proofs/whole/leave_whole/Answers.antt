use Rattle.office_commands.proofs.WholeLemmas.{copied_whole}
use Rattle.office_commands.proofs.whole.leave_whole.Goals as goal

pub returns-in-Ok : goal.returns-in-Ok
returns-in-Ok g c =
    record { whole = λ clean. copied_whole g.D.Disk c.args.conn c.in-Ok.files (c.in-Ok.ensures.copied clean); kept = tt }
