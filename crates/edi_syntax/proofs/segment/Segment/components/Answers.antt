-- The values are those of the element's text.
use Rattle.std.proofs.{Common.{◌≡◌, ◌-◌, ℕ, List, [], ◌∷◌, false, drop, get_or, map, sym, ap, ◌∙◌, arith}, lemmas.List.get_or-drop}
use Rattle.edi_syntax.{specs.{Reading.elements_of, Parts.{parts_of, value_of}}, proofs.PartLemmas.element_by_parts}
use Rattle.edi_syntax.proofs.segment.Segment.components.Goals as goal

pub returns : goal.returns
returns c =
    let s = c.args.self.now.service in
    let body = c.args.self.now.body.now in
    let i = c.args.element in
    let behind_first : get_or (drop 1 (elements_of s false (drop 3 body))) (i - 1) ([] ∷ []) ≡ get_or (elements_of s false (drop 3 body)) i ([] ∷ []) =
    get_or-drop 1 (elements_of s false (drop 3 body)) (i - 1) ([] ∷ []) ∙ ap (λ (n : ℕ). get_or (elements_of s false (drop 3 body)) n ([] ∷ [])) (omega (arith, c.requires)) in
    c.new.ensures ∙ ap (λ (t : List ℕ). map (value_of s false) (parts_of s s.component false t)) c.element.ensures
    ∙ sym (element_by_parts s (drop 3 body) i) ∙ sym behind_first
