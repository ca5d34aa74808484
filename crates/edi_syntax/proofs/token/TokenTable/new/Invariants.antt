-- the bytes before space that were met are invalid, the others data
use Rattle.std.proofs.Common.{cond, nat_lt}
use Rattle.edi_syntax.{specs.declared.token.Token.TheVariants.{Data, Invalid}, proofs.TokenLemmas.IsTableOf}
use Rattle.edi_syntax.proofs.token.TokenTable.new.Given as goal

abbrev pub invariant-loop-byte : goal.invariant-loop-byte
invariant-loop-byte l = IsTableOf (λ k. cond (nat_lt k l.byte) Invalid Data) l.tokens
