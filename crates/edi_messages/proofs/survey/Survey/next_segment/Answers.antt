-- One segment more, which is counted.
use Rattle.std.proofs.Common.{◌+◌, ◌≤◌, sym, ap, ◌∙◌, arith, codes, length}
use Rattle.edi_syntax.specs.{Segment.{content, segments_left}, Frames.{message, message_segments_left}}
use Rattle.edi_messages.specs.{Faults.is_container, Parts.{is_equipment, is_qualified}}
use Rattle.edi_messages.proofs.SurveyLemmas.{first_step, count_step, one_if, one_at_most, few_before_trailer}
use Rattle.edi_messages.proofs.survey.Survey.next_segment.Goals as goal

pub overflow_add-self : goal.overflow_add-self
overflow_add-self c =
    let survey = c.args.self.now in
    let one = one_at_most _ _ (one_if _ _ _ c.from.ensures c.is_equipment.ensures) in
    let few : survey.equipments + length (message_segments_left survey.rest) ≤ length (message survey.frame).segments =
    survey.few_equipments in
    omega (arith, one, few, ap length c.in_ok-segment.ensures.steps, few_before_trailer (segments_left survey.frame.behind), survey.frame.bounded)

pub overflow_add-self-2 : goal.overflow_add-self-2
overflow_add-self-2 c =
    let survey = c.args.self.now in
    let one = one_at_most _ _ (one_if _ _ _ c.from-2.ensures c.is_container-is_container.ensures) in
    let few : survey.containers + length (message_segments_left survey.rest) ≤ length (message survey.frame).segments =
    survey.few_containers in
    omega (arith, one, few, ap length c.in_ok-segment.ensures.steps, few_before_trailer (segments_left survey.frame.behind), survey.frame.bounded)

pub invariant_of-self : goal.invariant_of-self
invariant_of-self c =
    let survey = c.args.self.now in
    let segment = content c.in_ok-segment.segment in
    let left = c.in_ok-segment.ensures.steps in
    let equips = one_if _ _ (is_equipment segment) c.from.ensures c.is_equipment.ensures in
    let contains = one_if _ _ (is_container segment) c.from-2.ensures c.is_container-is_container.ensures in
    record {
      typed = survey.typed;
      begun = survey.begun;
      carried = survey.carried;
      controlled =
          sym (first_step _ _ (is_qualified (codes "CNT") (codes "16")) _ segment _ _ c.keep_first.ensures c.is_control.ensures left)
          ∙ survey.controlled;
      equipped = sym (count_step _ _ is_equipment segment _ _ equips left) ∙ survey.equipped;
      contained = sym (count_step _ _ is_container segment _ _ contains left) ∙ survey.contained;
      few_equipments = omega (arith, survey.few_equipments, one_at_most _ _ equips, ap length left);
      few_containers = omega (arith, survey.few_containers, one_at_most _ _ contains, ap length left);
    }
