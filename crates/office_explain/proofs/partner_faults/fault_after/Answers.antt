use Rattle.std.{specs.Option.option_map, proofs.Common.{◌≡◌, List, map, sym, ap, ◌∙◌}}
use Rattle.csv.specs.Records.{fields_of}
use Rattle.office_explain.{specs.{Entries.entry_content, PartnerFaults.fault_of_partner, declared.records.Entry.Entry}, proofs.Givens.fault_read}
use Rattle.office_explain.proofs.partner_faults.fault_after.Goals as goal

pub returns : goal.returns
returns c =
    fault_read fields_of c.split_at.result.0.now c.split_at.result.1.now c.args.texts.now c.args.before c.row-item.result
    (entry_content c.in-Some.partner) (map entry_content c.in_ok-others.others.items) c.fault_of.result
    c.split_at.ensures.front c.split_at.ensures.back c.in-len1-up.len_at_least c.row-item.is c.in_ok-others.ensures
    (sym c.entry_of.ensures ∙ ap (option_map entry_content) c.in-Some.is)
    (c.fault_of.ensures ∙ ap (λ (o : List Entry). fault_of_partner (map entry_content o) (entry_content c.in-Some.partner)) c.deref.ensures.value)
