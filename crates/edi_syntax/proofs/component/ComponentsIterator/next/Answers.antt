-- The first value that is left, and those after it.
use Rattle.std.{specs.Option.option_map_or, proofs.Common.{◌≡◌, ℕ, List, [], ◌∷◌, false, length, map, Option, sym, ap, ◌∙◌, arith}}
use Rattle.edi_syntax.{specs.{Parts.{value_of, parts_of, split_of}, Segment.{value, components_left}}, proofs.PartLemmas.values_split}
use Rattle.edi_syntax.proofs.component.ComponentsIterator.next.Goals as goal

some_left : (c : goal.After-new) → components_left c.args.self.now ≡ value c.new.result ∷ map (value_of c.args.self.now.service false) (parts_of c.args.self.now.service c.args.self.now.service.component false c.in-Some.behind.now)
some_left c =
    let s = c.args.self.now.service in
    let text = c.in_ok-text.text.now in
    let split = λ (o : Option (List ℕ × List ℕ)). option_map_or (λ (p : List ℕ × List ℕ). value_of s false p.0 ∷ map (value_of s false) (parts_of s s.component false p.1)) o (value_of s false text ∷ []) in
    let left : components_left c.args.self.now ≡ split (split_of s s.component text) = rw c.in_ok-text.was (values_split s text) in
    left ∙ ap split (sym c.in-Some.ensures) ∙ ap (λ (v : List ℕ). v ∷ map (value_of s false) (parts_of s s.component false c.in-Some.behind.now)) (sym c.new.ensures)

pub returns-in-Some-clause-steps : goal.returns-in-Some-clause-steps
returns-in-Some-clause-steps c = some_left c

pub returns-in-Some-clause-goes : goal.returns-in-Some-clause-goes
returns-in-Some-clause-goes c =
    let shorter = ap length (some_left c) in
    record { on = λ finite. (tt, tt, omega arith); keeps = tt; rests = λ finite. tt }

none_left : (c : goal.After-new-in-None) → components_left c.args.self.now ≡ value c.new-in-None.result ∷ []
none_left c =
    let s = c.args.self.now.service in
    let text = c.in_ok-text.text.now in
    let split = λ (o : Option (List ℕ × List ℕ)). option_map_or (λ (p : List ℕ × List ℕ). value_of s false p.0 ∷ map (value_of s false) (parts_of s s.component false p.1)) o (value_of s false text ∷ []) in
    let left : components_left c.args.self.now ≡ split (split_of s s.component text) = rw c.in_ok-text.was (values_split s text) in
    left ∙ ap split (sym c.in-None.ensures) ∙ ap (λ (v : List ℕ). v ∷ []) (sym c.new-in-None.ensures)

pub returns-in-None-clause-steps : goal.returns-in-None-clause-steps
returns-in-None-clause-steps c = none_left c

pub returns-in-None-clause-goes : goal.returns-in-None-clause-goes
returns-in-None-clause-goes c =
    let shorter = ap length (none_left c) in
    record { on = λ finite. (tt, tt, omega arith); keeps = tt; rests = λ finite. tt }
