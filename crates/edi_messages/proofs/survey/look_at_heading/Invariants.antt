use Rattle.std.{specs.Option.option_map, proofs.Common.{◌≡◌, ◌≤◌, length, count_by, codes}}
use Rattle.edi_syntax.specs.{Text.has_tag, Segment.content, Frames.{message, message_segments_left}}
use Rattle.edi_messages.specs.{Faults.{beginning, transport, control, is_container}, Parts.{is_equipment, is_qualified, heading, groups_of}, Walks.counted_on}
use Rattle.edi_messages.proofs.SurveyLemmas.{first_in}
use Rattle.edi_messages.proofs.survey.look_at_heading.Given as goal

abbrev pub invariant-loop-segment : goal.invariant-loop-segment
invariant-loop-segment l =
    let all = message l.fn.frame in
    let left = message_segments_left l.rest in
    record {
      beginning : beginning all ≡ first_in (option_map content l.beginning) (has_tag (codes "BGM")) (heading left);
      transport : transport all
          ≡ first_in (option_map content l.transport) (is_qualified (codes "TDT") (codes "20")) (heading left);
      control : control all
          ≡ first_in (option_map content l.control) (is_qualified (codes "CNT") (codes "16")) left;
      equipments : count_by is_equipment all.segments ≡ counted_on 0 is_equipment left;
      containers : count_by is_container all.segments ≡ counted_on 0 is_container left;
      groups : groups_of left ≡ groups_of all.segments;
      few : length left ≤ length all.segments;
    }

abbrev pub decreases-loop-segment : goal.decreases-loop-segment
decreases-loop-segment l = length (message_segments_left l.rest)
