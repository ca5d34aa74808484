use Rattle.std.proofs.Common.{◌≡◌, None, sym, ◌∙◌}
use Rattle.csv.specs.Records.{fields_of}
use Rattle.office_explain.{specs.Said.block_said, proofs.Givens.none_said}
use Rattle.office_explain.proofs.files.blocks_among.Goals as goal

pub returns-in_default : goal.returns-in_default
returns-in_default c =
    let none : block_said (fields_of c.row-item.result) ≡ None = sym c.block_of.ensures ∙ c.in_default.is in
    none_said fields_of block_said c.args.rows.now c.loop-row.row-index c.row-item.result c.row-item.result c.loop-row-test.true c.row-item.is none
