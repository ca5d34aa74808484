use Rattle.std.proofs.{Common.{ℕ, List, Option, option_map, Bor, ap, sym, lit<, ◌∙◌}, lemmas.Str.Pattern.split_parts}
use Rattle.office_reports.{specs.Keys.three_parts, proofs.Parting.{one_part_of, three_parts_of}}
use Rattle.office_reports.proofs.keys.three_parts.Goals as goal

pub returns-in-None : goal.returns-in-None
returns-in-None c =
    let none = rw c.in-None.is at (split_parts 47 c.args.key.now c.split_once.result c.split_once.ensures.cases (lit< tt)) in
    sym (ap three_parts (one_part_of c.args.key.now none))

pub returns-in-Some-two_parts : goal.returns-in-Some-two_parts
returns-in-Some-two_parts c =
    let split = rw c.in-Some.is at (split_parts 47 c.args.key.now c.split_once.result c.split_once.ensures.cases (lit< tt)) in
    sym (three_parts_of c.args.key.now _ _ split.0 split.1 ∙ ap (λ (p : Option (List ℕ × List ℕ)). option_map (λ (q : List ℕ × List ℕ). (c.in-Some.first.now, q.0, q.1)) p) (sym c.two_parts.ensures ∙ ap (λ (r : Option (Bor (List ℕ) × Bor (List ℕ))). option_map (λ p. (p.0.now, p.1.now)) r) c.in-Some-two_parts.is))

pub returns-in-None-two_parts : goal.returns-in-None-two_parts
returns-in-None-two_parts c =
    let split = rw c.in-Some.is at (split_parts 47 c.args.key.now c.split_once.result c.split_once.ensures.cases (lit< tt)) in
    sym (three_parts_of c.args.key.now _ _ split.0 split.1 ∙ ap (λ (p : Option (List ℕ × List ℕ)). option_map (λ (q : List ℕ × List ℕ). (c.in-Some.first.now, q.0, q.1)) p) (sym c.two_parts.ensures ∙ ap (λ (r : Option (Bor (List ℕ) × Bor (List ℕ))). option_map (λ p. (p.0.now, p.1.now)) r) c.in-None-two_parts.is))
