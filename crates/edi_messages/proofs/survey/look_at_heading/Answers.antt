-- One segment more of the heading.
use Rattle.std.proofs.Common.{sym, ap, ◌∙◌, arith, codes, length}
use Rattle.edi_syntax.specs.{Text.has_tag, Segment.content, Frames.message_segments_left}
use Rattle.edi_messages.{specs.{Faults.is_container, Parts.{is_equipment, is_qualified}}, proofs.SurveyLemmas.first_step}
use Rattle.edi_messages.proofs.WalkLemmas.{heading_goes_on, no_container, uncounted, groups_after}
use Rattle.edi_messages.proofs.survey.look_at_heading.Goals as goal

pub loop-segment-preserved : goal.loop-segment-preserved
loop-segment-preserved c =
    let i = c.loop-segment.invariant in
    let segment = content c.in-Some.segment in
    let left = c.in-Some.ensures.left in
    let other = c.in-Some.ensures.inside in
    let within =
    heading_goes_on segment (message_segments_left c.loop-segment.rest) (message_segments_left c.next_of_heading.new.rest)
    other left in
    record {
      beginning = i.beginning
          ∙ first_step _ _ (has_tag (codes "BGM")) _ segment _ _ c.keep_first.ensures c.has_tag.ensures within;
      transport = i.transport
          ∙ first_step _ _ (is_qualified (codes "TDT") (codes "20")) _ segment _ _
          c.keep_first-in-Some.ensures c.is_qualified.ensures within;
      control = i.control
          ∙ first_step _ _ (is_qualified (codes "CNT") (codes "16")) _ segment _ _
          c.keep_first-in-Some-2.ensures c.is_control.ensures left;
      equipments = i.equipments ∙ uncounted 0 is_equipment segment _ _ other left;
      containers = i.containers ∙ uncounted 0 is_container segment _ _ (no_container segment other) left;
      groups = sym (groups_after segment _ _ other left) ∙ i.groups;
      few = omega (arith, i.few, ap length left);
    }
