use Rattle.edi_syntax.{specs.Segment.content, proofs.BlockLemmas.control_number_within}
use Rattle.edi_syntax.proofs.head.Head.number.Goals as goal

pub returns-clause-first : goal.returns-clause-first
returns-clause-first c = (control_number_within (content c.args.self.now.header) c.args.self.now.number c.args.self.now.numbered).0

pub returns-clause-last : goal.returns-clause-last
returns-clause-last c = (control_number_within (content c.args.self.now.header) c.args.self.now.number c.args.self.now.numbered).1
