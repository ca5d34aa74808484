use Rattle.std.proofs.{Common.{ℕ, List, Option, option_map, Bor, ap, sym, lit<, ◌∙◌}, lemmas.Str.Pattern.split_parts}
use Rattle.office_reports.{specs.Keys.two_parts, proofs.Parting.{one_part_of, two_parts_of}}
use Rattle.office_reports.proofs.keys.two_parts.Goals as goal

pub returns-in-None : goal.returns-in-None
returns-in-None c =
    let none = rw c.in-None.is at (split_parts 47 c.args.key.now c.split_once.result c.split_once.ensures.cases (lit< tt)) in
    sym (ap two_parts (one_part_of c.args.key.now none))

pub returns-in-Some-one_part : goal.returns-in-Some-one_part
returns-in-Some-one_part c =
    let split = rw c.in-Some.is at (split_parts 47 c.args.key.now c.split_once.result c.split_once.ensures.cases (lit< tt)) in
    sym (two_parts_of c.args.key.now _ _ split.0 split.1 ∙ ap (λ (p : Option (List ℕ)). option_map (λ (q : List ℕ). (c.in-Some.first.now, q)) p) (sym c.one_part.ensures ∙ ap (λ (r : Option (Bor (List ℕ))). option_map (λ p. p.now) r) c.in-Some-one_part.is))

pub returns-in-None-one_part : goal.returns-in-None-one_part
returns-in-None-one_part c =
    let split = rw c.in-Some.is at (split_parts 47 c.args.key.now c.split_once.result c.split_once.ensures.cases (lit< tt)) in
    sym (two_parts_of c.args.key.now _ _ split.0 split.1 ∙ ap (λ (p : Option (List ℕ)). option_map (λ (q : List ℕ). (c.in-Some.first.now, q)) p) (sym c.one_part.ensures ∙ ap (λ (r : Option (Bor (List ℕ))). option_map (λ p. p.now) r) c.in-None-one_part.is))
