-- What is left after the advice, under the service characters of the text.
use Rattle.std.proofs.Common.{◌≡◌, List, true, arith, sym, ap, subst, ◌∙◌}
use Rattle.edi_syntax.specs.{Text.Content, Advice.service_at, Reading.{segments_of, are_segments}, Interchange.{InterchangeText, segments_in, is_segment_text}}
use Rattle.edi_syntax.{specs.declared.characters.Service.Service, proofs.{SegmentsLemmas.length-segments, AdviceLemmas.interchange_sound}}
use Rattle.edi_syntax.proofs.segments.SegmentCheck.of.Goals as goal

pub returns-clause-fewer : goal.returns-clause-fewer
returns-clause-fewer c =
    omega (arith, length-segments c.new.result.service c.behind_advice.result.now 0, c.behind_advice.ensures.shorter)

pub returns-clause-spelled : goal.returns-clause-spelled
returns-clause-spelled c =
    λ valid.
    let text = c.args.text.now in
    let service_is : c.new.result.service ≡ service_at text = c.new.ensures ∙ c.in_ok-service.ensures.ok.1 in
    let read : segments_of c.new.result.service c.behind_advice.result.now ≡ segments_in text =
    ap (λ (s : Service). segments_of s c.behind_advice.result.now) service_is ∙ ap (segments_of (service_at text)) c.behind_advice.ensures.behind in
    let sound : is_segment_text text ≡ true =
    sym (ap (λ (s : Service). are_segments s c.behind_advice.result.now) service_is ∙ ap (are_segments (service_at text)) c.behind_advice.ensures.behind) ∙ valid in
    subst (λ (segments : List Content). InterchangeText segments text) (sym read) (interchange_sound text c.in_ok-service.ensures.ok.0 sound)
