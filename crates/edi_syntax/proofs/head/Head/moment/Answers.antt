use Rattle.edi_syntax.{specs.Heads.head_segments, proofs.BlockLemmas.{header_found, some_from}}
use Rattle.edi_syntax.proofs.head.Head.moment.Goals as goal

pub unwrap-requires : goal.unwrap-requires
unwrap-requires c = rw c.preparation.ensures (some_from _ (header_found (head_segments c.args.self.now) c.args.self.now.faultless).dated)
