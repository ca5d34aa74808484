use Rattle.std.proofs.Common.{◌≡◌, [], ◌∷◌, IfOk, string_bytes, codes, encode_utf8_all, decimal, subst, ◌∙◌, rules}
use Rattle.office_reports.specs.{Names.phrase, Blocks.cell_count}
use Rattle.office_reports.proofs.blocks.size_text.Goals as goal

pub returns : goal.returns
returns c =
    let letter : c.as_str.result.now ≡ encode_utf8_all (c.args.block.letter ∷ []) = c.as_str.ensures.value ∙ c.in_ok-letter.ensures in
    let bays : c.as_str-2.result.now ≡ decimal c.args.block.bays = search rules in
    let rows : c.as_str-3.result.now ≡ decimal c.args.block.rows = search rules in
    let tiers : c.as_str-4.result.now ≡ decimal c.args.block.tiers = search rules in
    let cells : c.as_str-5.result.now ≡ decimal (cell_count c.args.block) = search rules in
    subst (λ words. IfOk c.phrase.result (λ text. string_bytes text ≡ phrase words))
    (λ i. letter i ∷ codes "BAYS" ∷ bays i ∷ codes "ROWS" ∷ rows i ∷ codes "TIERS" ∷ tiers i ∷ codes "CELLS" ∷ cells i ∷ [])
    c.phrase.ensures
