use Rattle.std.proofs.{Common.{◌++◌, sym, ◌∙◌, string_bytes}, lemmas.Result.on_ok_weaker}
use Rattle.office_pages.{specs.Wanted.wanted_line, proofs.Sides.side_again}
use Rattle.office_pages.proofs.wanted.push_list_row.Goals as goal

pub returns : goal.returns
returns c =
    let side = sym (side_again c.args.line.now.side) in
    on_ok_weaker c.push_wanted_line.result
    (λ e. e ∙ (λ i. string_bytes c.args.page.now
    ++ wanted_line (c.as_str.ensures.value i) (c.as_str-2.ensures.value i) (side i) (c.as_str-3.ensures.value i)))
    c.push_wanted_line.ensures
