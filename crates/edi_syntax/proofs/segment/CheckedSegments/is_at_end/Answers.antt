use Rattle.std.proofs.Common.{◌∙◌}
use Rattle.edi_syntax.proofs.SegmentsLemmas.{at_end_is}
use Rattle.edi_syntax.proofs.segment.CheckedSegments.is_at_end.Goals as goal

pub returns : goal.returns
returns c = c.is_empty.ensures ∙ at_end_is c.args.self.now.table.now.service c.args.self.now.rest.now
