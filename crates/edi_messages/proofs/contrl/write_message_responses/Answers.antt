-- Where no message is left, no verdict is written.
use Rattle.std.{specs.Prelude.zip, proofs.Common.{◌≡◌, List, [], ◌∷◌, map, refl, sym, ap, ◌∙◌, drop}}
use Rattle.edi_syntax.specs.{Text.Content, Written.with_segments, Messages.Message, Frames.messages_left}
use Rattle.edi_messages.specs.{Contrl.ucm, declared.message.Verdict.Verdict}
use Rattle.edi_messages.proofs.contrl.write_message_responses.Goals as goal

no_messages : (verdicts : List Verdict) → map ucm (zip verdicts []) ≡ []
no_messages [] = refl
no_messages (verdict ∷ verdicts) = refl

pub returns-in-None-clause-written : goal.returns-in-None-clause-written
returns-in-None-clause-written c =
    let verdicts = drop c.loop-verdict.verdict-index c.args.verdicts.now in
    let nothing : map ucm (zip verdicts (messages_left c.loop-verdict.frames)) ≡ [] =
    ap (λ (messages : List Message). map ucm (zip verdicts messages)) c.in-None.ensures.steps.0 ∙ no_messages verdicts in
    ap (λ (segments : List Content). with_segments c.loop-verdict.writer segments) (sym nothing) ∙ c.loop-verdict.invariant.whole
