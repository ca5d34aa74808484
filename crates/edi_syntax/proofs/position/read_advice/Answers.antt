-- The characters of a whole advice, or those that hold before one is whole.
use Rattle.std.proofs.Common.{refl}
use Rattle.edi_syntax.proofs.CutLemmas.{in_advice, behind_whole_advice}
use Rattle.edi_syntax.proofs.position.read_advice.Goals as goal

pub returns-then-text-lt9-clause-ok : goal.returns-then-text-lt9-clause-ok
returns-then-text-lt9-clause-ok c = in_advice c.args.text.now _ refl c.requires.within c.if-text-lt9.true

pub returns-in-Ok-clause-ok : goal.returns-in-Ok-clause-ok
returns-in-Ok-clause-ok c = behind_whole_advice c.args.text.now c.in-Ok.service c.requires.within c.if-text-lt9.false c.in-Ok.ensures.ok.0 c.in-Ok.ensures.ok.1
