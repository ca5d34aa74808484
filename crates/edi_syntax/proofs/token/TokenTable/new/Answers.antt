-- Data everywhere, and over it what is stored.
use Rattle.std.{specs.List.range_with_len, proofs.Common.{rules, ◌≡◌, ℕ, ◌+◌, arith, cond, eqb, nat_lt, sym, ◌∙◌, false, subst, List, map}}
use Rattle.std.proofs.{lemmas.List.FromFn.fill_by_all, lemmas.List.{length-replicate, get_or-replicate}, lemmas.Bool.Decides.nat_tests}
use Rattle.edi_syntax.specs.{declared.characters.Service.Service, declared.token.Token.Token, Tokens.token_of}
use Rattle.edi_syntax.specs.declared.token.Token.TheVariants.{Data, Component, Element, Terminator, Release, Invalid}
use Rattle.edi_syntax.proofs.{TokenLemmas.{IsTableOf, stored, marked, token_unreleasing, token_releasing}, token.TokenTable.new.Goals.{in-Some, in_default}}
use Rattle.edi_syntax.proofs.token.TokenTable.new.Goals as goal

-- no byte is before the first
none_before : (k : ℕ) (t d : Token) → d ≡ cond (nat_lt k 0) t d
none_before k t d = grind (arith, nat_tests)

pub loop-byte-init : goal.loop-byte-init
loop-byte-init c = record {
  long = length-replicate 256 Data;
  written = λ k h. get_or-replicate 256 k Data Data h ∙ none_before k Invalid Data;
}

-- one byte more is before the end
one_more : (k n : ℕ) (t d : Token) → cond (eqb k n) t (cond (nat_lt k n) t d) ≡ cond (nat_lt k (n + 1)) t d
one_more k n t d = grind (arith, nat_tests)

pub loop-byte-preserved : goal.loop-byte-preserved
loop-byte-preserved c =
    let next = stored _ c.loop-byte.tokens c.loop-byte.byte Invalid (omega arith) c.loop-byte.invariant in
    record { long = next.long; written = λ k h. next.written k h ∙ one_more k c.loop-byte.byte Invalid Data }

-- the table is that of the service characters
table : (s : Service) (f : ℕ → Token) (tokens written : List Token) → tokens ≡ written → IsTableOf f written → ((k : ℕ) → f k ≡ token_of s false k) → tokens ≡ map (token_of s false) (range_with_len 0 256)
table s f tokens written same is means = same ∙ fill_by_all (token_of s false) written 256 Data is.long (λ k h. is.written k h ∙ means k)

pub invariant_of-result : goal.invariant_of-result
invariant_of-result c =
    let s = c.args.service in
    let tokens = c.loop-byte.tokens in
    let all_met : c.loop-byte.byte ≡ 32 = omega arith in
    let ground = stored _ tokens 127 Invalid (omega arith) (subst (λ n. IsTableOf (λ k. cond (nat_lt k n) Invalid Data) tokens) all_met c.loop-byte.invariant) in
    let all : IsTableOf (marked s) _ = stored _ _ s.component Component (omega arith) (stored _ _ s.element Element (omega arith) (stored _ _ s.terminator Terminator (omega arith) ground)) in
    elim c.match-service.branch [
      | in-Some w ↦ record { exact = table s _ _ _ w.tokens-is (stored _ _ w.in-Some.release Release (search rules) all) (λ k. sym (token_releasing s k w.in-Some.release w.in-Some.is)) }
      | in_default w ↦ record { exact = table s _ _ _ w.tokens-is all (λ k. sym (token_unreleasing s k w.in_default.is)) }
    ]
