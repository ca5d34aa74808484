use Rattle.std.{specs.{List.find, Option.option_map}, proofs.Common.{◌≡◌, length, codes}}
use Rattle.edi_syntax.specs.{Segment.{content, value}, Text.component_of, Frames.message_segments_left}
use Rattle.edi_messages.specs.{Kept.moment_kept, Orders.moment_stated, Parts.{before_end, is_qualified, states_moment, states_weight}, Walks.from_end}
use Rattle.edi_messages.proofs.{SurveyLemmas.first_in, DetailLemmas.kept_in}
use Rattle.edi_messages.proofs.line.Group.of.Given as goal

abbrev pub invariant-loop-segment : goal.invariant-loop-segment
invariant-loop-segment l =
    let all = before_end (message_segments_left l.segments) in
    let left = before_end (message_segments_left l.behind) in
    record {
      moment : option_map moment_stated (find states_moment all)
          ≡ kept_in (option_map moment_kept l.moment) moment_stated states_moment left;
      slot : find (is_qualified (codes "LOC") (codes "ZZZ")) all
          ≡ first_in (option_map content l.slot) (is_qualified (codes "LOC") (codes "ZZZ")) left;
      port : find (is_qualified (codes "LOC") (codes "11")) all
          ≡ first_in (option_map content l.port) (is_qualified (codes "LOC") (codes "11")) left;
      booking : option_map (λ segment. component_of segment 1 2) (find (is_qualified (codes "RFF") (codes "BN")) all)
          ≡ kept_in (option_map value l.booking) (λ segment. component_of segment 1 2)
          (is_qualified (codes "RFF") (codes "BN")) left;
      weight : find states_weight all ≡ first_in (option_map content l.weight) states_weight left;
      behind : from_end (message_segments_left l.behind) ≡ from_end (message_segments_left l.segments);
    }

abbrev pub decreases-loop-segment : goal.decreases-loop-segment
decreases-loop-segment l = length (message_segments_left l.behind)
