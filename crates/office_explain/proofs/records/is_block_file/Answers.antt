use Rattle.std.proofs.Common.{◌∙◌, sym}
use Rattle.csv.specs.Records.{fields_of}
use Rattle.office_explain.{specs.Entries.{is_block_header, is_block_row}, proofs.Givens.formed}
use Rattle.office_explain.proofs.records.is_block_file.Goals as goal

pub returns-then-is_block_header : goal.returns-then-is_block_header
returns-then-is_block_header c =
    c.are_block_rows.ensures
    ∙ formed fields_of is_block_header is_block_row c.args.rows.now c.header-item.result c.in-len1-up.len_at_least c.header-item.is (sym c.is_block_header.ensures ∙ c.if-is_block_header.true)
