-- The next byte of the value, after a release character or not.
use Rattle.std.proofs.{Common.{◌≡◌, ℕ, List, [], ◌∷◌, length, false, true, ap, ◌∙◌, arith}, lemmas.List.nil_from_length}
use Rattle.edi_syntax.specs.{Tokens.{token_of, releases}, Parts.value_of, Segment.bytes_left}
use Rattle.edi_syntax.proofs.PartLemmas.{value_nothing, value_plain, value_cut, value_released}
use Rattle.edi_syntax.proofs.component.BytesIterator.next.Goals as goal

pub returns-in_err-first-clause-steps : goal.returns-in_err-first-clause-steps
returns-in_err-first-clause-steps c =
    let s = c.args.self.now.service in
    let none : bytes_left c.args.self.now ≡ [] = ap (value_of s false) (nil_from_length c.args.self.now.text.now c.in_err-first.ensures.cases) ∙ value_nothing s in
    rw c.from_residual.ensures (none, none)

pub returns-in_err-second-clause-steps : goal.returns-in_err-second-clause-steps
returns-in_err-second-clause-steps c =
    let s = c.args.self.now.service in
    let b = c.in_ok-first.first.now in
    let hides : releases (token_of s false b) ≡ true = rw (← c.releases.ensures) c.if-releases.true in
    let text_is : c.args.self.now.text.now ≡ b ∷ [] = c.in_ok-first.ensures.cases.0 ∙ ap (λ (t : List ℕ). b ∷ t) (nil_from_length c.in_ok-first.rest.now c.in_err-second.ensures.cases) in
    let none : bytes_left c.args.self.now ≡ [] = ap (value_of s false) text_is ∙ value_cut s b hides in
    rw c.from_residual-in_err-second.ensures (none, none)

second_left : (c : goal.After-row_known-then-releases-1) → bytes_left c.args.self.now ≡ c.in_ok-second.second.now ∷ value_of c.args.self.now.service false c.in_ok-second.rest.now
second_left c =
    let s = c.args.self.now.service in
    let b = c.in_ok-first.first.now in
    let hides : releases (token_of s false b) ≡ true = rw (← c.releases.ensures) c.if-releases.true in
    let text_is : c.args.self.now.text.now ≡ b ∷ c.in_ok-second.second.now ∷ c.in_ok-second.rest.now = c.in_ok-first.ensures.cases.0 ∙ ap (λ (t : List ℕ). b ∷ t) c.in_ok-second.ensures.cases.0 in
    ap (value_of s false) text_is ∙ value_released s b c.in_ok-second.second.now c.in_ok-second.rest.now hides

pub returns-in_ok-second-clause-steps : goal.returns-in_ok-second-clause-steps
returns-in_ok-second-clause-steps c = second_left c

pub returns-in_ok-second-clause-goes : goal.returns-in_ok-second-clause-goes
returns-in_ok-second-clause-goes c =
    let shorter = ap length (second_left c) in
    record { on = λ finite. (tt, tt, omega arith); keeps = tt; rests = λ finite. tt }

pub returns-else-releases-clause-steps : goal.returns-else-releases-clause-steps
returns-else-releases-clause-steps c =
    let s = c.args.self.now.service in
    let b = c.in_ok-first.first.now in
    let shows : releases (token_of s false b) ≡ false = rw (← c.releases.ensures) c.if-releases.false in
    ap (value_of s false) c.in_ok-first.ensures.cases.0 ∙ value_plain s b c.in_ok-first.rest.now shows

pub returns-else-releases-clause-goes : goal.returns-else-releases-clause-goes
returns-else-releases-clause-goes c =
    let s = c.args.self.now.service in
    let b = c.in_ok-first.first.now in
    let shows : releases (token_of s false b) ≡ false = rw (← c.releases.ensures) c.if-releases.false in
    let shorter = ap length (ap (value_of s false) c.in_ok-first.ensures.cases.0 ∙ value_plain s b c.in_ok-first.rest.now shows) in
    record { on = λ finite. (tt, tt, omega arith); keeps = tt; rests = λ finite. tt }
