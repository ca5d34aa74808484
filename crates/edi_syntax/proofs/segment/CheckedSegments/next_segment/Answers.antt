-- The first segment that is left, and what stands after it.
use Rattle.std.{specs.Option.option_map_or, proofs.Common.{◌≡◌, ℕ, List, [], ◌∷◌, length, false, sym, ap, ◌∙◌, arith, Option}}
use Rattle.edi_syntax.specs.{Text.Content, Reading.{segments_of, are_segments}, Checks.checked_left}
use Rattle.edi_syntax.proofs.SegmentsLemmas.{next_of_segments, next_of_are_segments}
use Rattle.edi_syntax.proofs.segment.CheckedSegments.next_segment.Goals as goal

pub returns-in_err-segment-clause-left : goal.returns-in_err-segment-clause-left
returns-in_err-segment-clause-left c =
    let s = c.args.self.now.table.now.service in
    let none : checked_left c.args.self.now ≡ [] =
    next_of_segments s c.args.self.now.rest.now
    ∙ ap (λ (o : Option (Content × List ℕ)). option_map_or (λ (x : Content × List ℕ). x.0 ∷ segments_of s x.1) o []) (sym c.in_err-segment.ensures.exact) in
    rw c.from_residual.ensures none

pub returns-clause-left : goal.returns-clause-left
returns-clause-left c =
    let s = c.args.self.now.table.now.service in
    next_of_segments s c.args.self.now.rest.now
    ∙ ap (λ (o : Option (Content × List ℕ)). option_map_or (λ (x : Content × List ℕ). x.0 ∷ segments_of s x.1) o []) (sym c.in_ok-segment.ensures.exact)

pub returns-clause-all : goal.returns-clause-all
returns-clause-all c =
    let s = c.args.self.now.table.now.service in
    let some : length c.args.self.now.rest.now ≡ 0 → ⊥ = λ none. omega (arith, none, c.in_ok-segment.ensures.shorter) in
    next_of_are_segments s c.args.self.now.rest.now some
    ∙ ap (λ (o : Option (Content × List ℕ)). option_map_or (λ (x : Content × List ℕ). are_segments s x.1) o false) (sym c.in_ok-segment.ensures.exact)
