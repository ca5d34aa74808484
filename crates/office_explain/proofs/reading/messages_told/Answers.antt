-- The messages are read by the moment of the header.
use Rattle.std.proofs.Common.{List, ap, sym, subst, ◌∙◌}
use Rattle.edi_syntax.specs.{Text.Content, Envelope.header_of, Header.preparation, Messages.Message}
use Rattle.office_explain.specs.{InOrder.InOrder, Messages.IsToldOf}
use Rattle.office_explain.proofs.reading.messages_told.Goals as goal

pub returns : goal.returns
returns c = (
  c.moment-opened.result,
  ap (λ (segments : List Content). preparation (header_of segments)) (sym c.head-head.ensures) ∙ c.moment-opened.ensures,
  subst (λ (messages : List Message).
      InOrder (IsToldOf c.args.codes.now c.moment-opened.result c.args.text.now) 1 messages c.in_ok-told.told.items)
      c.frames-frames.ensures.messages c.in_ok-told.ensures,
)
