-- The token stands at the place of its byte.
use Rattle.std.proofs.{Common.{ap, ◌∙◌, get_or, false, List, arith}, lemmas.List.FromFn.get_or-map-range_with_len}
use Rattle.edi_syntax.specs.{Tokens.token_of, declared.token.Token.Token, declared.token.Token.TheVariants.Data}
use Rattle.edi_syntax.proofs.token.TokenTable.token.Goals as goal

pub returns : goal.returns
returns c =
    let table = c.args.self.now in
    ap (λ (tokens : List Token). get_or tokens c.args.byte Data) table.exact
    ∙ get_or-map-range_with_len (token_of table.service false) 0 256 c.args.byte c.args.byte Data (omega (arith, c.ranges.byte.fits)) (omega arith)
