-- A table of what each byte is, written place by place: of two stores at one byte the later stands, as of the tests of
-- `token_of` the first decides.
use Rattle.std.proofs.Common.{◌≡◌, ℕ, ◌<◌, length, cond, eqb, nat_lt, nat_le, not, ◌&&◌, Option, Some, None, Bool, true, false, get_or, set, List, refl, sym, ap, ◌∙◌, arith}
use Rattle.std.proofs.{lemmas.List.{length-set, get_or-set_other}, lemmas.Grind.get_or-set_at, lemmas.Bool.{eqb-true, eqb-false}, lemmas.Bool.Decides.nat_tests}
use Rattle.edi_syntax.specs.{declared.characters.Service.Service, declared.token.Token.Token, Characters.{is_release, is_data_byte}, Tokens.token_of}
use Rattle.edi_syntax.specs.declared.token.Token.TheVariants.{Data, Component, Element, Terminator, Release, Invalid}

-- the table has 256 tokens, that function's at each byte
pub record IsTableOf (f : ℕ → Token) (tokens : List Token) : Type 0 where
  pub long : length tokens ≡ 256
  pub written : (k : ℕ) → k < 256 → get_or tokens k Data ≡ f k

-- one token is stored
pub stored : (f : ℕ → Token) (tokens : List Token) (i : ℕ) (t : Token) → i < 256 → IsTableOf f tokens → IsTableOf (λ k. cond (eqb k i) t (f k)) (set tokens i t)
stored f tokens i t low is = record {
  long = length-set tokens i t ∙ is.long;
  written = λ k h. at k h (eqb k i) refl;
} where
  at : (k : ℕ) → k < 256 → (same : Bool) → eqb k i ≡ same → get_or (set tokens i t) k Data ≡ cond same t (f k)
  at k h true e = get_or-set_at tokens i k t Data (eqb-true k i e) (omega (arith, is.long))
  at k h false e = get_or-set_other tokens i k t Data (eqb-false k i e) ∙ is.written k h

-- what a byte is that is no service character
abbrev pub plain : ℕ → Token
plain k = cond (eqb k 127) Invalid (cond (nat_lt k 32) Invalid Data)

-- what it is where no release character is used
abbrev pub marked : Service → ℕ → Token
marked s k = cond (eqb k s.component) Component (cond (eqb k s.element) Element (cond (eqb k s.terminator) Terminator (plain k)))

plain_is : (k : ℕ) → cond (is_data_byte k) Data Invalid ≡ plain k
plain_is k = at (nat_le 32 k) (nat_lt k 32) (grind (arith, nat_tests)) (eqb k 127)
  where
    at : (from_space before_space : Bool) → before_space ≡ not from_space → (deletes : Bool) → cond (from_space && not deletes) Data Invalid ≡ cond deletes Invalid (cond before_space Invalid Data)
    at true before e true = refl
    at true before e false = ap (λ b. cond b Invalid Data) (sym e)
    at false before e true = refl
    at false before e false = ap (λ b. cond b Invalid Data) (sym e)

abbrev with_plain : (s : Service) (k : ℕ) (o : Option ℕ) → Token
with_plain s k o = cond (is_release o k) Release (cond (eqb k s.component) Component (cond (eqb k s.element) Element (cond (eqb k s.terminator) Terminator (cond (is_data_byte k) Data Invalid))))

pub token_unreleasing : (s : Service) (k : ℕ) → s.release ≡ None → token_of s false k ≡ marked s k
unfolding token_of
token_unreleasing s k none =
    ap (with_plain s k) none
    ∙ ap (λ t. cond (eqb k s.component) Component (cond (eqb k s.element) Element (cond (eqb k s.terminator) Terminator t))) (plain_is k)

pub token_releasing : (s : Service) (k r : ℕ) → s.release ≡ Some r → token_of s false k ≡ cond (eqb k r) Release (marked s k)
unfolding token_of
token_releasing s k r some =
    ap (with_plain s k) some
    ∙ ap (λ t. cond (eqb k r) Release (cond (eqb k s.component) Component (cond (eqb k s.element) Element (cond (eqb k s.terminator) Terminator t)))) (plain_is k)
