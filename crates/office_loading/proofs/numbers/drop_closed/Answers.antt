use Rattle.std.specs.Prelude.{not, nat_le}
use Rattle.std.proofs.Common.{rules, map, ap, sym, ◌∙◌}
use Rattle.std.proofs.lemmas.Fn.{filter_same}
use Rattle.office_loading.{specs.{Closed.last_closed, Contents.number_content, declared.numbers.NumberRow.NumberRow}, proofs.Keyed.beyond_rows}
use Rattle.office_loading.proofs.numbers.drop_closed.Goals as goal

pub returns : goal.returns
returns c =
    let kept = filter_same _ (λ (row : NumberRow). not (nat_le row.number (last_closed c.args.closed.now row.partner))) _ (λ x b f' k. search rules) _ _ c.retain.ensures.filtered in
    ap (map number_content) kept ∙ sym (beyond_rows (last_closed c.args.closed.now) c.args.numbers.now.items)
