-- The value is found by its place among the parts.
use Rattle.std.proofs.{Common.{◌≡◌, ◌-◌, ℕ, List, [], false, drop, get_or, sym, ap, ◌∙◌, arith}, lemmas.List.get_or-drop}
use Rattle.edi_syntax.{specs.{Reading.elements_of, Parts.{parts_of, value_of}}, proofs.PartLemmas.component_by_parts}
use Rattle.edi_syntax.proofs.segment.Segment.component.Goals as goal

pub returns : goal.returns
returns c =
    let s = c.args.self.now.service in
    let body = c.args.self.now.body.now in
    let i = c.args.element in
    let k = c.args.component - 1 in
    let behind_first : get_or (drop 1 (elements_of s false (drop 3 body))) (i - 1) [] ≡ get_or (elements_of s false (drop 3 body)) i [] =
    get_or-drop 1 (elements_of s false (drop 3 body)) (i - 1) [] ∙ ap (λ (n : ℕ). get_or (elements_of s false (drop 3 body)) n []) (omega (arith, c.requires.first_element)) in
    c.new.ensures ∙ ap (value_of s false) (c.part.ensures ∙ ap (λ (t : List ℕ). get_or (parts_of s s.component false t) k []) c.element-values.ensures)
    ∙ sym (component_by_parts s (drop 3 body) i k)
    ∙ ap (λ (e : List (List ℕ)). get_or e k []) (sym behind_first)
