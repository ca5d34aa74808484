use Rattle.edi_syntax.proofs.FrontLemmas.{Filled}
use Rattle.edi_syntax.proofs.cutter.read_front.Given as goal

abbrev pub invariant-loop-i : goal.invariant-loop-i
invariant-loop-i l = Filled l.text l.piece l.front l.i l.reading
