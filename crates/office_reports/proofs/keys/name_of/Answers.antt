use Rattle.std.proofs.Common.{sym, ap, ◌≡◌, ◌∙◌, true}
use Rattle.edi_messages.specs.Texts.{is_name}
use Rattle.office_reports.proofs.Parting.{name_text}
use Rattle.office_reports.proofs.keys.name_of.Goals as goal

pub returns : goal.returns
returns c =
    let named : is_name c.args.bytes.items ≡ true = ap is_name (sym c.as_slice.ensures.value) ∙ sym c.if-not-is_name.ensures in
    let refused = c.in-Err.ensures.succeeds (name_text c.args.bytes.items named) in cc
