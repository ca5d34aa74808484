use Rattle.std.proofs.Common.{arith}
use Rattle.edi_syntax.{specs.Segment.segments_left, proofs.BlockLemmas.length-messages_in}
use Rattle.edi_syntax.proofs.envelope.Envelope.frames.Goals as goal

pub returns-clause-few : goal.returns-clause-few
returns-clause-few c = omega (arith, length-messages_in (segments_left c.args.self.now.head.rest), c.args.self.now.head.bounded)
