-- One segment more of the group.
use Rattle.std.proofs.Common.{sym, ◌∙◌, refl, codes}
use Rattle.edi_syntax.specs.{Segment.content, Text.component_of, Frames.message_segments_left}
use Rattle.edi_messages.{specs.{Orders.moment_stated, Parts.{is_qualified, states_moment, states_weight}}, proofs.SurveyLemmas.{first_step, group_goes_on}}
use Rattle.edi_messages.proofs.{DetailLemmas.kept_step, WalkLemmas.goes_on_to_end}
use Rattle.edi_messages.proofs.line.Group.of.Goals as goal

pub loop-segment-preserved : goal.loop-segment-preserved
loop-segment-preserved c =
    let i = c.loop-segment.invariant in
    let segment = content c.in-Some.segment in
    let left = c.in-Some.ensures.left in
    let inside = c.in-Some.ensures.inside in
    let within =
    group_goes_on segment (message_segments_left c.loop-segment.behind) (message_segments_left c.next_of_group.new.rest)
    inside left in
    record {
      moment = i.moment
          ∙ kept_step _ _ moment_stated states_moment segment _ _ c.keep_moment.ensures within;
      slot = i.slot
          ∙ first_step _ _ (is_qualified (codes "LOC") (codes "ZZZ")) _ segment _ _
          c.keep_first_places.ensures.slot refl within;
      port = i.port
          ∙ first_step _ _ (is_qualified (codes "LOC") (codes "11")) _ segment _ _
          c.keep_first_places.ensures.port refl within;
      booking = i.booking
          ∙ kept_step _ _ (λ segment. component_of segment 1 2) (is_qualified (codes "RFF") (codes "BN")) segment _ _
          c.keep_booking.ensures within;
      weight = i.weight
          ∙ first_step _ _ states_weight _ segment _ _ c.keep_first.ensures c.states_weight.ensures within;
      behind = sym (goes_on_to_end segment _ _ inside left) ∙ i.behind;
    }
