use Rattle.std.proofs.Common.{ap, ◌∙◌}
use Rattle.edi_syntax.specs.{Spelling.Writing, Envelope.header_of, Heads.head_segments}
use Rattle.edi_messages.proofs.SurveyLemmas.{rejection_written}
use Rattle.edi_messages.proofs.contrl.write_rejection.Goals as goal

pub returns : goal.returns
returns c =
    c.into_text.ensures ∙ ap (λ (w : Writing). w.text) c.in_ok-write_closing.ensures
    ∙ rejection_written (header_of (head_segments c.args.head.now)) c.args.code _ _ c.new-writer.ensures c.in_ok-write_opening.ensures
