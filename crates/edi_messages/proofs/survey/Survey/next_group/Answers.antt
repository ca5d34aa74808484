-- The segments that are passed are no equipment and no control total.
use Rattle.std.{specs.{Option.{option_map, option_or}, List.find}, proofs.Common.{List, Option, length, codes, ap, ◌∙◌, arith}}
use Rattle.edi_syntax.specs.{Text.Content, Segment.content, Frames.message_segments_left}
use Rattle.edi_messages.specs.{Faults.is_container, Parts.{is_equipment, is_qualified, groups_of}, Walks.counted_on}
use Rattle.edi_messages.proofs.WalkLemmas.{no_equipment, no_container, no_control, counted_behind, found_behind, groups_behind, no_more_behind}
use Rattle.edi_messages.proofs.survey.Survey.next_group.Goals as goal

pub invariant_of-self : goal.invariant_of-self
invariant_of-self c =
    let survey = c.args.self.now in
    let left = message_segments_left survey.rest in
    let behind = c.of-group.ensures.behind in
    record {
      typed = survey.typed;
      begun = survey.begun;
      carried = survey.carried;
      controlled =
          ap (λ (rest : List Content). option_or (option_map content survey.control) (find (is_qualified (codes "CNT") (codes "16")) rest)) behind
          ∙ ap (λ (found : Option Content). option_or (option_map content survey.control) found) (found_behind (is_qualified (codes "CNT") (codes "16")) no_control left)
          ∙ survey.controlled;
      equipped = ap (counted_on survey.equipments is_equipment) behind
          ∙ counted_behind survey.equipments is_equipment no_equipment left ∙ survey.equipped;
      contained = ap (counted_on survey.containers is_container) behind
          ∙ counted_behind survey.containers is_container (λ segment inside. no_container segment (no_equipment segment inside)) left
          ∙ survey.contained;
      few_equipments = omega (arith, survey.few_equipments, ap length behind, no_more_behind left);
      few_containers = omega (arith, survey.few_containers, ap length behind, no_more_behind left);
    }

pub returns-clause-others : goal.returns-clause-others
returns-clause-others c = ap groups_of c.of-group.ensures.behind ∙ groups_behind (message_segments_left c.args.self.now.rest)

pub returns-clause-shorter : goal.returns-clause-shorter
returns-clause-shorter c = omega (arith, ap length c.of-group.ensures.behind, no_more_behind (message_segments_left c.args.self.now.rest))
