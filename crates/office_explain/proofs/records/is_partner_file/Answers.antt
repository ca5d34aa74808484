use Rattle.std.proofs.Common.{◌∙◌, sym}
use Rattle.csv.specs.Records.{fields_of}
use Rattle.office_explain.{specs.Entries.{is_partner_header, is_partner_row}, proofs.Givens.formed}
use Rattle.office_explain.proofs.records.is_partner_file.Goals as goal

pub returns-then-is_partner_header : goal.returns-then-is_partner_header
returns-then-is_partner_header c =
    c.are_partner_rows.ensures
    ∙ formed fields_of is_partner_header is_partner_row c.args.rows.now c.header-item.result c.in-len1-up.len_at_least c.header-item.is (sym c.is_partner_header.ensures ∙ c.if-is_partner_header.true)
