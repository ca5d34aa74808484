use Rattle.std.{specs.List.list_any, proofs.Common.{◌≡◌, ◌∷◌, ◌||◌}}
use Rattle.edi_syntax.specs.{Segment.{content, segments_left}, Envelope.{last_of, is_of_functional_group}}
use Rattle.edi_syntax.proofs.faults.ends.Given as goal

abbrev pub invariant-loop-segment : goal.invariant-loop-segment
invariant-loop-segment l = record {
  last : last_of (content l.header) (segments_left l.rest) ≡ last_of (content l.last) (segments_left l.segment-iterator);
  group : list_any is_of_functional_group (content l.header ∷ segments_left l.rest) ≡ (l.has_functional_group || list_any is_of_functional_group (segments_left l.segment-iterator));
}
