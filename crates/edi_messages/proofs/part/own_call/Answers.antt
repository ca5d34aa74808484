-- The names of a call are kept as they are.
use Rattle.std.{specs.Prelude.string_bytes, proofs.{Common.{◌≡◌, ℕ, List, true, refl, ap, ◌∙◌}, lemmas.Bool.and_parts}}
use Rattle.edi_syntax.specs.Segment.{content}
use Rattle.edi_messages.specs.{Texts.is_name, Faults.{vessel_of, voyage_of}, Orders.name_kept}
use Rattle.edi_messages.proofs.part.own_call.Goals as goal

named_so : (text : List ℕ) → is_name text ≡ true → name_kept text ≡ text
named_so text named = rw named refl

pub returns : goal.returns
returns c =
    let segment = content c.args.call.transport in
    let names = and_parts (is_name (voyage_of segment)) (is_name (vessel_of segment)) c.args.call.named in
    let vessel : string_bytes c.in_ok-vessel.vessel ≡ vessel_of segment =
    c.in_ok-vessel.ensures ∙ ap name_kept c.component.ensures ∙ named_so (vessel_of segment) names.1 in
    let voyage : string_bytes c.in_ok-voyage.voyage ≡ voyage_of segment =
    c.in_ok-voyage.ensures ∙ ap name_kept c.component-2.ensures ∙ named_so (voyage_of segment) names.0 in
    rw (vessel, voyage) refl
