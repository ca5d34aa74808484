-- The lines that were kept, and those of the segments that are left.
use Rattle.std.proofs.Common.{◌≡◌, ◌∷◌, List, sym, ap, ◌∙◌}
use Rattle.edi_syntax.specs.{Segment.content, Frames.message_segments_left}
use Rattle.edi_messages.specs.{Message.{LineContent, line_of, lines_of}, Parts.{EquipmentGroup, before_end}, Spans.{group_content, purpose_spanned}}
use Rattle.edi_messages.proofs.WalkLemmas.{lines_with, lines_without, lines_same, line_contents, lines_more, lines_still, lines_all}
use Rattle.edi_messages.proofs.message.read_lines.Goals as goal

pub loop-counted-preserved-then-counted : goal.loop-counted-preserved-then-counted
loop-counted-preserved-then-counted c =
    let i = c.loop-counted.invariant in
    let p = purpose_spanned c.args.purpose in
    let segment = content c.in-Some.counted.segment in
    let left = message_segments_left c.loop-counted.survey.rest in
    let behind = message_segments_left c.next_segment.new.self.rest in
    let further = message_segments_left c.next_group-group.new.self.rest in
    let one : lines_of p c.args.opened left
    ≡ line_of p c.args.opened (group_content c.next_group-group.result) ∷ lines_of p c.args.opened further =
    lines_with p c.args.opened segment left behind (sym c.in-Some.ensures.container ∙ c.if-counted.true) c.in-Some.ensures.left
    ∙ ap (λ (lines : List LineContent). line_of p c.args.opened (record { equipment = segment; details = before_end behind }) ∷ lines)
    (sym (lines_same p c.args.opened further behind c.next_group-group.ensures.others))
    ∙ ap (λ (group : EquipmentGroup). line_of p c.args.opened group ∷ lines_of p c.args.opened further)
    (sym c.next_group-group.ensures.group) in
    record {
      lines = lines_more line_contents c.loop-counted.lines c.with_line-lines.result
          (lines_of p c.args.opened (message_segments_left c.args.survey.now.rest)) (lines_of p c.args.opened left)
          (lines_of p c.args.opened further) (line_of p c.args.opened (group_content c.next_group-group.result))
          i.lines c.with_line-lines.ensures one;
      same = c.next_group-group.ensures.same ∙ c.in-Some.ensures.same ∙ i.same;
    }

pub loop-counted-preserved : goal.loop-counted-preserved
loop-counted-preserved c =
    let i = c.loop-counted.invariant in
    let p = purpose_spanned c.args.purpose in
    let segment = content c.in-Some.counted.segment in
    let left = message_segments_left c.loop-counted.survey.rest in
    let behind = message_segments_left c.next_segment.new.self.rest in
    record {
      lines = lines_still line_contents c.loop-counted.lines
          (lines_of p c.args.opened (message_segments_left c.args.survey.now.rest)) (lines_of p c.args.opened left)
          (lines_of p c.args.opened behind) i.lines
          (lines_without p c.args.opened segment left behind
          (sym c.in-Some.ensures.container ∙ c.if-counted.false) c.in-Some.ensures.left);
      same = c.in-Some.ensures.same ∙ i.same;
    }

pub returns-clause-lines : goal.returns-clause-lines
returns-clause-lines c =
    let p = purpose_spanned c.args.purpose in
    lines_all line_contents c.loop-counted.lines (lines_of p c.args.opened (message_segments_left c.args.survey.now.rest))
    (lines_of p c.args.opened (message_segments_left c.loop-counted.survey.rest)) c.loop-counted.invariant.lines
    (ap (lines_of p c.args.opened) c.in_default.ensures.left.0)
