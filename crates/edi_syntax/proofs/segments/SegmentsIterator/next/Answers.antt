-- The first segment that is left, or nothing is left.
use Rattle.std.{specs.Option.option_map_or, proofs.Common.{◌≡◌, ℕ, List, [], ◌∷◌, length, sym, ap, ◌∙◌, arith, Option}}
use Rattle.edi_syntax.{specs.{Text.Content, Reading.segments_of, Segment.{segments_left, content}}, proofs.SegmentsLemmas.next_of_segments}
use Rattle.edi_syntax.proofs.segments.SegmentsIterator.next.Goals as goal

pub returns-in_err-segment-clause-steps : goal.returns-in_err-segment-clause-steps
returns-in_err-segment-clause-steps c =
    let s = c.args.self.now.service in
    let none : segments_left c.args.self.now ≡ [] =
    next_of_segments s c.args.self.now.rest.now
    ∙ ap (λ (o : Option (Content × List ℕ)). option_map_or (λ (x : Content × List ℕ). x.0 ∷ segments_of s x.1) o []) (sym c.in_err-segment.ensures.exact) in
    rw c.from_residual.ensures (none, none)

first_left : (c : goal.After-rest-2-1) → segments_left c.args.self.now ≡ content c.in_ok-segment.segment ∷ segments_of c.args.self.now.service c.in_ok-segment.rest.now
first_left c =
    let s = c.args.self.now.service in
    next_of_segments s c.args.self.now.rest.now
    ∙ ap (λ (o : Option (Content × List ℕ)). option_map_or (λ (x : Content × List ℕ). x.0 ∷ segments_of s x.1) o []) (sym c.in_ok-segment.ensures.exact)

pub returns-clause-steps : goal.returns-clause-steps
returns-clause-steps c = first_left c

pub returns-clause-goes : goal.returns-clause-goes
returns-clause-goes c =
    let shorter = ap length (first_left c) in
    record { on = λ finite. (tt, tt, omega arith); keeps = tt; rests = λ finite. tt }
