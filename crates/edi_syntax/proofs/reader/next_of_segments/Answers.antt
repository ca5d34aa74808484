-- The first terminator that is not released ends the first segment.
use Rattle.std.proofs.{Common.{◌≡◌, ◌-◌, ℕ, length, take, drop, sym, ap, ◌∙◌}, lemmas.List.take_rest}
use Rattle.edi_syntax.{specs.{Parts.split_of, Reading.{breaks_len, are_segments}}, proofs.ReaderLemmas.{none_short, IsFirst, first_is, not_none}}
use Rattle.edi_syntax.proofs.reader.next_of_segments.Goals as goal

pub returns-then-bytes-lt3-clause-exact : goal.returns-then-bytes-lt3-clause-exact
returns-then-bytes-lt3-clause-exact c = none_short c.args.service c.args.bytes.now c.if-bytes-lt3.true

pub returns-in_err-before-clause-exact : goal.returns-in_err-before-clause-exact
returns-in_err-before-clause-exact c =
    let s = c.args.service in
    absurd (not_none s c.args.bytes.now c.requires c.if-bytes-lt3.false (c.in_err-before.ensures ∙ ap (split_of s s.terminator) (take_rest c.args.bytes.now 3)))

first : (c : goal.After-result-1) → IsFirst c.args.service c.args.bytes.now c.in_ok-before.before.now c.in_ok-before.behind.now
first c =
    let s = c.args.service in
    first_is s c.args.bytes.now c.in_ok-before.before.now c.in_ok-before.behind.now c.requires c.if-bytes-lt3.false (c.in_ok-before.ensures ∙ ap (split_of s s.terminator) (take_rest c.args.bytes.now 3))

-- what stands after the line breaks
behind_is : (c : goal.After-result-1) → take (length c.in_ok-before.behind.now - c.len_of_breaks.result) (drop c.len_of_breaks.result c.in_ok-before.behind.now) ≡ drop (breaks_len c.in_ok-before.behind.now) c.in_ok-before.behind.now
behind_is c =
    take_rest c.in_ok-before.behind.now c.len_of_breaks.result ∙ ap (λ (n : ℕ). drop n c.in_ok-before.behind.now) c.len_of_breaks.ensures.found

pub returns-clause-exact : goal.returns-clause-exact
returns-clause-exact c = rw (behind_is c, c.new-segment.ensures) (sym (first c).at)

pub returns-clause-others : goal.returns-clause-others
returns-clause-others c = ap (are_segments c.args.service) (behind_is c) ∙ (first c).others
