use Rattle.std.proofs.Common.{refl}
use Rattle.edi_syntax.proofs.PositionLemmas.{holds_nothing}
use Rattle.edi_syntax.proofs.cutter.Cutter.stop.Goals as goal

pub invariant_of-self-2 : goal.invariant_of-self-2
invariant_of-self-2 c = holds_nothing _ _ refl c.clear.ensures.items
