-- What is read is a text of the segments, and the only one.
use Rattle.std.proofs.{Common.{◌≡◌, arith, List, true, sym, ap, subst, ◌∙◌}, lemmas.Bool.{false≢true, true≢false}}
use Rattle.edi_syntax.specs.{Text.Content, Advice.service_at, Reading.{are_segments, segments_of}, Interchange.{InterchangeText, segments_in, is_segment_text}}
use Rattle.edi_syntax.{specs.declared.characters.Service.Service, proofs.SegmentsLemmas.length-segments}
use Rattle.edi_syntax.proofs.AdviceLemmas.{interchange_sound, interchange_complete}
use Rattle.edi_syntax.proofs.segments.Segments.read.Goals as goal

pub returns-in_err-service-clause-only : goal.returns-in_err-service-clause-only
returns-in_err-service-clause-only c segments spelled =
    absurd (true≢false (sym c.in_err-service.ensures.err.1 ∙ (interchange_complete segments c.args.text.now spelled).0))

-- the bytes after the advice, under the service characters of the text
is_read : (c : goal.After-result-1) → segments_of c.in_ok-service.service c.behind_advice-rest.result.now ≡ segments_in c.args.text.now
is_read c =
    ap (λ (s : Service). segments_of s c.behind_advice-rest.result.now) c.in_ok-service.ensures.ok.1 ∙ ap (segments_of (service_at c.args.text.now)) c.behind_advice-rest.ensures.behind

pub returns-then-are_segments-clause-spelled : goal.returns-then-are_segments-clause-spelled
returns-then-are_segments-clause-spelled c =
    let text = c.args.text.now in
    let sound : is_segment_text text ≡ true =
    sym (ap (λ (s : Service). are_segments s c.behind_advice-rest.result.now) c.in_ok-service.ensures.ok.1 ∙ ap (are_segments (service_at text)) c.behind_advice-rest.ensures.behind)
    ∙ sym c.if-are_segments.ensures in
    subst (λ (segments : List Content). InterchangeText segments text) (sym (is_read c)) (interchange_sound text c.in_ok-service.ensures.ok.0 sound)

pub returns-then-are_segments-clause-only : goal.returns-then-are_segments-clause-only
returns-then-are_segments-clause-only c segments spelled = is_read c ∙ (interchange_complete segments c.args.text.now spelled).2

pub returns-else-are_segments-clause-only : goal.returns-else-are_segments-clause-only
returns-else-are_segments-clause-only c segments spelled =
    let text = c.args.text.now in
    let unsound =
    ap (λ (s : Service). are_segments s c.behind_advice-rest.result.now) c.in_ok-service.ensures.ok.1 ∙ ap (are_segments (service_at text)) c.behind_advice-rest.ensures.behind in
    absurd (false≢true (c.if-are_segments.ensures ∙ unsound ∙ (interchange_complete segments text spelled).1))

pub returns-then-are_segments-clause-fewer : goal.returns-then-are_segments-clause-fewer
returns-then-are_segments-clause-fewer c =
    omega (arith, length-segments c.in_ok-service.service c.behind_advice-rest.result.now 0, c.behind_advice-rest.ensures.shorter)
