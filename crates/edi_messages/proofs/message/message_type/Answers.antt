-- The values of the second element, one after the other.
use Rattle.std.proofs.Common.{ℕ, List, [], ◌∷◌, refl, sym, ap, ◌∙◌}
use Rattle.edi_syntax.specs.Segment.{content, value}
use Rattle.edi_messages.proofs.DetailLemmas.{two_values, three_values, four_values, type_by_values, type_of_no_agency}
use Rattle.edi_messages.proofs.message.message_type.Goals as goal

pub returns-in_err-name : goal.returns-in_err-name
returns-in_err-name c =
    rw c.from_residual.ensures
    (sym (type_of_no_agency (content c.args.header.now) [] (sym c.components-identity.ensures ∙ c.in_err-name.ensures.steps.0) refl))

pub returns-in_err-version : goal.returns-in_err-version
returns-in_err-version c =
    rw c.from_residual-in_err-version.ensures
    (sym (type_of_no_agency (content c.args.header.now) _
    (sym c.components-identity.ensures ∙ c.in_ok-name.ensures.steps
    ∙ ap (λ (v : List (List ℕ)). value c.in_ok-name.name ∷ v) c.in_err-version.ensures.steps.0) refl))

pub returns-in_err-release : goal.returns-in_err-release
returns-in_err-release c =
    rw c.from_residual-in_err-release.ensures
    (sym (type_of_no_agency (content c.args.header.now) _
    (two_values _ _ _ _ _ (sym c.components-identity.ensures ∙ c.in_ok-name.ensures.steps) c.in_ok-version.ensures.steps
    ∙ ap (λ (v : List (List ℕ)). value c.in_ok-name.name ∷ value c.in_ok-version.version ∷ v) c.in_err-release.ensures.steps.0) refl))

pub returns-in_err-agency : goal.returns-in_err-agency
returns-in_err-agency c =
    rw c.from_residual-in_err-agency.ensures
    (sym (type_of_no_agency (content c.args.header.now) _
    (three_values _ _ _ _ _ _ _ (sym c.components-identity.ensures ∙ c.in_ok-name.ensures.steps) c.in_ok-version.ensures.steps c.in_ok-release.ensures.steps
    ∙ ap (λ (v : List (List ℕ)). value c.in_ok-name.name ∷ value c.in_ok-version.version ∷ value c.in_ok-release.release ∷ v)
    c.in_err-agency.ensures.steps.0) refl))

pub returns : goal.returns
returns c =
    c.type_identified.ensures
    ∙ sym (type_by_values (content c.args.header.now) _
    (four_values _ _ _ _ _ _ _ _ _ (sym c.components-identity.ensures ∙ c.in_ok-name.ensures.steps) c.in_ok-version.ensures.steps
    c.in_ok-release.ensures.steps c.in_ok-agency.ensures.steps))
