-- One segment more: what is left is nothing but segments where what was left before is.
use Rattle.std.{specs.Option.option_map_or, proofs.{Common.{◌≡◌, ℕ, List, length, sym, ap, ◌∙◌, false, Option}, lemmas.Bool.{eqb-true, eqb-false}}}
use Rattle.edi_syntax.specs.{Text.Content, Reading.are_segments, declared.characters.Service.Service}
use Rattle.edi_syntax.proofs.SegmentsLemmas.{next_of_are_segments, nothing_is_segments}
use Rattle.edi_syntax.proofs.reader.are_segments.Goals as goal

pub loop-rest-preserved : goal.loop-rest-preserved
loop-rest-preserved c =
    let some : length c.loop-rest.rest.now ≡ 0 → ⊥ = eqb-false _ _ (sym c.loop-rest-test.ensures) in
    c.loop-rest.invariant ∙ next_of_are_segments c.new-table.result.service c.loop-rest.rest.now some
    ∙ ap (λ (o : Option (Content × List ℕ)). option_map_or (λ (x : Content × List ℕ). are_segments c.new-table.result.service x.1) o false) (sym c.in-Some.ensures.exact)

pub returns-in-None : goal.returns-in-None
returns-in-None c =
    let some : length c.loop-rest.rest.now ≡ 0 → ⊥ = eqb-false _ _ (sym c.loop-rest-test.ensures) in
    sym (ap (λ (s : Service). are_segments s c.args.bytes.now) (sym c.new-table.ensures) ∙ c.loop-rest.invariant ∙ next_of_are_segments c.new-table.result.service c.loop-rest.rest.now some
    ∙ ap (λ (o : Option (Content × List ℕ)). option_map_or (λ (x : Content × List ℕ). are_segments c.new-table.result.service x.1) o false) (sym c.in-None.ensures.exact))

pub returns : goal.returns
returns c =
    let none : length c.loop-rest.rest.now ≡ 0 = eqb-true _ _ (sym c.loop-rest-test.ensures) in
    sym (ap (λ (s : Service). are_segments s c.args.bytes.now) (sym c.new-table.ensures) ∙ c.loop-rest.invariant ∙ nothing_is_segments c.new-table.result.service c.loop-rest.rest.now none)
