-- One part less to pass over.
use Rattle.std.{specs.Option.option_map_or, proofs.Common.{◌≡◌, ◌+◌, ◌-◌, ℕ, suc, List, [], ◌∷◌, Option, false, get_or, refl, sym, ap, ◌∙◌, arith}}
use Rattle.std.proofs.lemmas.List.{get_or_past}
use Rattle.edi_syntax.{specs.{Parts.{parts_of, split_of}, declared.characters.Service.Service}, proofs.PartLemmas.parts_split}
use Rattle.edi_syntax.proofs.part.part.Goals as goal

found : (s : Service) (separator : ℕ) (bytes : List ℕ) (o : Option (List ℕ × List ℕ)) → o ≡ split_of s separator bytes → parts_of s separator false bytes ≡ option_map_or (λ (p : List ℕ × List ℕ). p.0 ∷ parts_of s separator false p.1) o (bytes ∷ [])
found s separator bytes o e = parts_split s separator bytes ∙ ap (λ (o : Option (List ℕ × List ℕ)). option_map_or (λ (p : List ℕ × List ℕ). p.0 ∷ parts_of s separator false p.1) o (bytes ∷ [])) (sym e)

pub returns-in-None : goal.returns-in-None
returns-in-None c =
    let rest = c.loop.rest.now in
    sym (c.loop.invariant ∙ ap (λ (p : List (List ℕ)). get_or p (c.args.index - c.loop.counter) []) (found c.args.service c.args.separator rest _ c.in-None.ensures)
    ∙ get_or_past (rest ∷ []) (c.args.index - c.loop.counter) [] (omega arith))

pub loop-preserved : goal.loop-preserved
loop-preserved c =
    let one_less : c.args.index - c.loop.counter ≡ suc (c.args.index - (c.loop.counter + 1)) = omega arith in
    c.loop.invariant ∙ ap (λ (p : List (List ℕ)). get_or p (c.args.index - c.loop.counter) []) (found c.args.service c.args.separator c.loop.rest.now _ c.in-Some.ensures)
    ∙ rw one_less refl

pub returns-in-Some-split_once : goal.returns-in-Some-split_once
returns-in-Some-split_once c =
    let none_less : c.args.index - c.loop.counter ≡ 0 = omega arith in
    sym (c.loop.invariant ∙ ap (λ (p : List (List ℕ)). get_or p (c.args.index - c.loop.counter) []) (found c.args.service c.args.separator c.loop.rest.now _ c.in-Some-split_once.ensures)
    ∙ rw none_less refl)

pub returns-in-None-split_once : goal.returns-in-None-split_once
returns-in-None-split_once c =
    let none_less : c.args.index - c.loop.counter ≡ 0 = omega arith in
    sym (c.loop.invariant ∙ ap (λ (p : List (List ℕ)). get_or p (c.args.index - c.loop.counter) []) (found c.args.service c.args.separator c.loop.rest.now _ c.in-None-split_once.ensures)
    ∙ rw none_less refl)
