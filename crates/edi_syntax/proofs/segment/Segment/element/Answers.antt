-- What follows the separator has the other parts.
use Rattle.std.{specs.Prelude.min, proofs.Common.{◌≡◌, ℕ, List, [], ◌∷◌, length, take, drop, ◌-◌, get_or, false, sym, ap, ◌∙◌, arith}}
use Rattle.std.proofs.lemmas.List.{drop_min, take_all, length-drop}
use Rattle.edi_syntax.{specs.Parts.parts_of, proofs.PartLemmas.parts_behind_first}
use Rattle.edi_syntax.proofs.segment.Segment.element.Goals as goal

pub returns-in-Some : goal.returns-in-Some
returns-in-Some c =
    let s = c.args.self.now.service in
    let body = c.args.self.now.body.now in
    let at : c.min.result ≡ min 3 (length body) = omega (arith, c.min.ensures) in
    let whole : take (length body - c.min.result) (drop c.min.result body) ≡ drop c.min.result body =
    take_all (length body - c.min.result) (drop c.min.result body) (omega (arith, length-drop c.min.result body)) in
    let all : drop 3 body ≡ c.in-Some.first.now ∷ c.in-Some.rest.now =
    sym (whole ∙ ap (λ (n : ℕ). drop n body) at ∙ drop_min 3 body) ∙ c.in-Some.ensures.cases.0 in
    c.part.ensures
    ∙ sym (parts_behind_first s s.element c.in-Some.first.now c.in-Some.rest.now c.args.element c.if-first-separator.true c.requires)
    ∙ ap (λ (t : List ℕ). get_or (parts_of s s.element false t) c.args.element []) (sym all)
