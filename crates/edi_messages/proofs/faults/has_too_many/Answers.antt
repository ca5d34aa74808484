-- All were counted.
use Rattle.std.proofs.Common.{nat_lt, ap}
use Rattle.edi_messages.proofs.faults.has_too_many.Goals as goal

pub returns : goal.returns
returns c =
    let counted = rw c.requires at c.args.survey.now.contained in
    ap (nat_lt 999) counted
