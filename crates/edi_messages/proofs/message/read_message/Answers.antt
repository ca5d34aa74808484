-- What was found is of the message.
use Rattle.std.{specs.Option.option_map, proofs.Common.{◌≡◌, Some, None, Ok, refl, sym, ap, ◌∙◌}}
use Rattle.edi_syntax.specs.{Frames.{message, message_segments_left}, declared.frames.Frame.Frame}
use Rattle.edi_messages.specs.{Faults.{purpose_of, replaces_list}, Message.lines_of, Owned.message_content, Spans.purpose_spanned}
use Rattle.edi_messages.{specs.Walks.{heading_fault_of, equipment_fault_of}, proofs.SurveyLemmas.purpose_there}
use Rattle.edi_messages.proofs.WalkLemmas.{rejected_by_heading, rejected_by_equipment, read_for, line_contents, built_of, lines_same}
use Rattle.edi_messages.proofs.message.read_message.Goals as goal

pub returns-in-Some-clause-err : goal.returns-in-Some-clause-err
returns-in-Some-clause-err c =
    let codes = c.args.codes.now in
    let found : heading_fault_of codes (message c.args.frame.now) ≡ Some c.in-Some.fault =
    ap (λ (f : Frame). heading_fault_of codes (message f)) (sym c.look_at_heading-survey.ensures.same)
    ∙ sym c.heading_fault.ensures ∙ c.in-Some.is in
    rw (rejected_by_heading codes c.args.opened (message c.args.frame.now) c.in-Some.fault found) refl

pub returns-in_default-purpose-clause-err : goal.returns-in_default-purpose-clause-err
returns-in_default-purpose-clause-err c =
    let codes = c.args.codes.now in
    let same = c.look_at_heading-survey.ensures.same in
    let none : heading_fault_of codes (message c.args.frame.now) ≡ None =
    ap (λ (f : Frame). heading_fault_of codes (message f)) (sym same) ∙ sym c.heading_fault.ensures ∙ c.in_default.is in
    let there = purpose_there codes (message c.args.frame.now) none in
    let clash : None ≡ Some there.0 =
    sym (ap (option_map purpose_spanned) c.in_default-purpose.is) ∙ c.purpose.ensures
    ∙ ap (λ (f : Frame). purpose_of codes (message f)) same ∙ there.1 in
    absurd cc

pub returns-in-Some-equipment_fault-clause-err : goal.returns-in-Some-equipment_fault-clause-err
returns-in-Some-equipment_fault-clause-err c =
    let codes = c.args.codes.now in
    let same = c.look_at_heading-survey.ensures.same in
    let none : heading_fault_of codes (message c.args.frame.now) ≡ None =
    ap (λ (f : Frame). heading_fault_of codes (message f)) (sym same) ∙ sym c.heading_fault.ensures ∙ c.in_default.is in
    let found : equipment_fault_of (message c.args.frame.now) ≡ Some c.in-Some-equipment_fault.fault =
    ap (λ (f : Frame). equipment_fault_of (message f)) (sym (c.read_lines-lines.ensures.same ∙ same))
    ∙ sym c.equipment_fault.ensures ∙ c.in-Some-equipment_fault.is in
    rw (rejected_by_equipment codes c.args.opened (message c.args.frame.now) c.in-Some-equipment_fault.fault none found) refl

pub returns-in-Some-build-clause-ok : goal.returns-in-Some-build-clause-ok
returns-in-Some-build-clause-ok c =
    let codes = c.args.codes.now in
    let m = message c.args.frame.now in
    let p = purpose_spanned c.in-Some-purpose.purpose in
    let same = c.look_at_heading-survey.ensures.same in
    let none : heading_fault_of codes m ≡ None =
    ap (λ (f : Frame). heading_fault_of codes (message f)) (sym same) ∙ sym c.heading_fault.ensures ∙ c.in_default.is in
    let faultless : equipment_fault_of m ≡ None =
    ap (λ (f : Frame). equipment_fault_of (message f)) (sym (c.read_lines-lines.ensures.same ∙ same))
    ∙ sym c.equipment_fault.ensures ∙ c.in_default-equipment_fault.is in
    let is_for : purpose_of codes m ≡ Some p =
    ap (λ (f : Frame). purpose_of codes (message f)) (sym same) ∙ sym c.purpose.ensures ∙ ap (option_map purpose_spanned) c.in-Some-purpose.is in
    let replaces : c.replaces_list.result ≡ replaces_list m =
    c.replaces_list.ensures ∙ ap (λ (f : Frame). replaces_list (message f)) (c.read_lines-lines.ensures.same ∙ same) in
    read_for codes c.args.opened m p none faultless is_for
    ∙ ap Ok (sym (built_of line_contents c.read_lines-lines.result (message_content c.in-Some-build.message) p
    c.replaces_list.result (replaces_list m)
    (lines_of p c.args.opened (message_segments_left c.look_at_heading-survey.result.rest)) (lines_of p c.args.opened m.segments)
    c.read_lines-lines.ensures.lines (lines_same p c.args.opened (message_segments_left c.look_at_heading-survey.result.rest) m.segments
    c.look_at_heading-survey.ensures.groups) replaces
    c.in-Some-build.ensures))

pub returns-in-None-clause-err : goal.returns-in-None-clause-err
returns-in-None-clause-err c =
    let codes = c.args.codes.now in
    let m = message c.args.frame.now in
    let p = purpose_spanned c.in-Some-purpose.purpose in
    let same = c.look_at_heading-survey.ensures.same in
    let none : heading_fault_of codes m ≡ None =
    ap (λ (f : Frame). heading_fault_of codes (message f)) (sym same) ∙ sym c.heading_fault.ensures ∙ c.in_default.is in
    let faultless : equipment_fault_of m ≡ None =
    ap (λ (f : Frame). equipment_fault_of (message f)) (sym (c.read_lines-lines.ensures.same ∙ same))
    ∙ sym c.equipment_fault.ensures ∙ c.in_default-equipment_fault.is in
    let is_for : purpose_of codes m ≡ Some p =
    ap (λ (f : Frame). purpose_of codes (message f)) (sym same) ∙ sym c.purpose.ensures ∙ ap (option_map purpose_spanned) c.in-Some-purpose.is in
    rw (read_for codes c.args.opened m p none faultless is_for) refl
