use Rattle.std.proofs.Common.{◌≡◌, List, length, sym, ap, ◌∙◌}
use Rattle.edi_syntax.specs.{Spelling.Writing, Text.Content, Envelope.header_of, Frames.messages_left, Envelopes.envelope_segments, Heads.head_segments}
use Rattle.edi_syntax.specs.Messages.{Message}
use Rattle.edi_messages.{specs.Contrl.contrl_text, proofs.SurveyLemmas.contrl_written}
use Rattle.edi_messages.proofs.contrl.write_contrl.Goals as goal

pub returns : goal.returns
returns c =
    let header = header_of (head_segments c.head-head.result) in
    let messages = messages_left c.frames-frames.result in
    let verdicts = c.args.verdicts.now in
    let same : length verdicts ≡ length messages = c.requires ∙ ap length (sym c.frames-frames.ensures.messages) in
    c.into_text.ensures ∙ ap (λ (w : Writing). w.text) c.in_ok-write_closing.ensures
    ∙ contrl_written header messages verdicts _ _ _ same c.new-writer.ensures c.in_ok-write_opening.ensures c.in_ok-write_message_responses.ensures.written
    ∙ ap (λ (segments : List Content). contrl_text (header_of segments) messages verdicts) c.head-head.ensures
    ∙ ap (λ (some : List Message). contrl_text (header_of (envelope_segments c.args.envelope.now)) some verdicts) c.frames-frames.ensures.messages
