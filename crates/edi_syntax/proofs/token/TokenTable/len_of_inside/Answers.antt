-- One byte to four more that stay inside.
use Rattle.std.{specs.Option.option_map, proofs.Common.{◌≡◌, ◌+◌, ◌<◌, ℕ, Bool, true, false, List, length, get_or, drop, sym, ◌∙◌, arith}}
use Rattle.edi_syntax.{specs.{Reading.end_of, Tokens.{token_of, stays_unreleased}, declared.characters.Service.Service, declared.token.Token.Token}, proofs.SegmentsLemmas.end_passed}
use Rattle.edi_syntax.proofs.token.TokenTable.len_of_inside.Goals as goal

-- one byte more
further : (s : Service) (bytes : List ℕ) (at next : ℕ) (token : Token) (stays : Bool) → next ≡ at + 1 → at < length bytes →
    token ≡ token_of s false (get_or bytes at 0) → stays ≡ stays_unreleased token → stays ≡ true →
    option_map (λ n. at + n) (end_of s false (drop at bytes)) ≡ option_map (λ n. next + n) (end_of s false (drop next bytes))
further s bytes at next token stays after here is test kept = rw after (end_passed s bytes at token here is (sym test ∙ kept))

pub returns-then-not-stays_unreleased-clause-passes : goal.returns-then-not-stays_unreleased-clause-passes
returns-then-not-stays_unreleased-clause-passes c = c.loop-at.invariant.passed

pub returns-then-not-stays_unreleased-2-clause-passes : goal.returns-then-not-stays_unreleased-2-clause-passes
returns-then-not-stays_unreleased-2-clause-passes c =
    let s = c.args.self.now.service in
    let bytes = c.args.bytes.now in
    let at = c.loop-at.at in
    c.loop-at.invariant.passed
    ∙ further s bytes at (at + 1) _ _ (omega arith) (omega arith) c.token.ensures c.stays_unreleased.ensures c.if-not-stays_unreleased.false

pub returns-then-not-stays_unreleased-3-clause-passes : goal.returns-then-not-stays_unreleased-3-clause-passes
returns-then-not-stays_unreleased-3-clause-passes c =
    let s = c.args.self.now.service in
    let bytes = c.args.bytes.now in
    let at = c.loop-at.at in
    c.loop-at.invariant.passed
    ∙ further s bytes at (at + 1) _ _ (omega arith) (omega arith) c.token.ensures c.stays_unreleased.ensures c.if-not-stays_unreleased.false
    ∙ further s bytes (at + 1) (at + 2) _ _ (omega arith) (omega arith) c.token-in-loop-at.ensures c.stays_unreleased-in-loop-at.ensures
    c.if-not-stays_unreleased-2.false

pub returns-then-not-stays_unreleased-4-clause-passes : goal.returns-then-not-stays_unreleased-4-clause-passes
returns-then-not-stays_unreleased-4-clause-passes c =
    let s = c.args.self.now.service in
    let bytes = c.args.bytes.now in
    let at = c.loop-at.at in
    c.loop-at.invariant.passed
    ∙ further s bytes at (at + 1) _ _ (omega arith) (omega arith) c.token.ensures c.stays_unreleased.ensures c.if-not-stays_unreleased.false
    ∙ further s bytes (at + 1) (at + 2) _ _ (omega arith) (omega arith) c.token-in-loop-at.ensures c.stays_unreleased-in-loop-at.ensures
    c.if-not-stays_unreleased-2.false
    ∙ further s bytes (at + 2) (at + 3) _ _ (omega arith) (omega arith) c.token-in-loop-at-2.ensures c.stays_unreleased-in-loop-at-2.ensures
    c.if-not-stays_unreleased-3.false

pub loop-at-preserved : goal.loop-at-preserved
loop-at-preserved c =
    let s = c.args.self.now.service in
    let bytes = c.args.bytes.now in
    let at = c.loop-at.at in
    record {
      within = omega arith;
      passed = c.loop-at.invariant.passed
          ∙ further s bytes at (at + 1) _ _ (omega arith) (omega arith) c.token.ensures c.stays_unreleased.ensures c.if-not-stays_unreleased.false
          ∙ further s bytes (at + 1) (at + 2) _ _ (omega arith) (omega arith) c.token-in-loop-at.ensures c.stays_unreleased-in-loop-at.ensures
          c.if-not-stays_unreleased-2.false
          ∙ further s bytes (at + 2) (at + 3) _ _ (omega arith) (omega arith) c.token-in-loop-at-2.ensures c.stays_unreleased-in-loop-at-2.ensures
          c.if-not-stays_unreleased-3.false
          ∙ further s bytes (at + 3) (at + 4) _ _ (omega arith) (omega arith) c.token-in-loop-at-3.ensures c.stays_unreleased-in-loop-at-3.ensures
          c.if-not-stays_unreleased-4.false;
    }

pub returns-clause-passes : goal.returns-clause-passes
returns-clause-passes c = c.loop-at.invariant.passed
