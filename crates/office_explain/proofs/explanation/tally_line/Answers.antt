-- What is written is the line, by what each of its pieces is.
use Rattle.std.proofs.{Common.{◌≡◌, ℕ, List, ◌++◌, ◌∙◌, codes, decimal, length, string_bytes}, lemmas.Result.IfOk-weaker}
use Rattle.office_explain.specs.Tallies.{tally_line}
use Rattle.office_explain.proofs.explanation.tally_line.Goals as goal

abbrev written : (total : ℕ) (plural : List ℕ) (faultless faulty refused cut : ℕ) → List ℕ
written total plural faultless faulty refused cut =
    decimal total ++ (codes " interchange" ++ (plural ++ (codes ": "
    ++ (decimal faultless ++ (codes " without a fault, "
    ++ (decimal faulty ++ (codes " with faults, "
    ++ (decimal refused ++ (codes " refused, "
    ++ (decimal cut ++ codes " cut\n"))))))))))

pub returns : goal.returns
unfolding tally_line
returns c =
    let blocks = c.args.blocks.now in
    let is : written (length blocks) c.plural-plural.result.now c.faultless_count-faultless.result c.faulty_count-faulty.result c.refused_count-refused.result c.cut_count-cut.result ≡ tally_line blocks =
    (λ i. written (length blocks) (c.plural-plural.ensures i) (c.faultless_count-faultless.ensures i) (c.faulty_count-faulty.ensures i) (c.refused_count-refused.ensures i) (c.cut_count-cut.ensures i)) in
    IfOk-weaker c.format.result
    (λ line. string_bytes line ≡ written (length blocks) c.plural-plural.result.now c.faultless_count-faultless.result c.faulty_count-faulty.result c.refused_count-refused.result c.cut_count-cut.result)
    (λ line. string_bytes line ≡ tally_line blocks) (λ line says. says ∙ is) c.format.ensures.ok
