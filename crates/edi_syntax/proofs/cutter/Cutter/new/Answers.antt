use Rattle.std.proofs.Common.{refl}
use Rattle.edi_syntax.proofs.PositionLemmas.{holds_nothing}
use Rattle.edi_syntax.proofs.cutter.Cutter.new.Goals as goal

pub invariant_of-result-2 : goal.invariant_of-result-2
invariant_of-result-2 c = holds_nothing _ _ refl c.new.ensures.items
