use Rattle.std.proofs.{Common.{◌++◌, ◌∙◌, flat_map, map, string_bytes}, lemmas.Result.on_ok_weaker}
use Rattle.office_reports.{specs.Partners.row_content, proofs.Markup.onto}
use Rattle.office_pages.specs.Start.{missing}
use Rattle.office_pages.proofs.start.push_attention_list.Goals as goal

pub returns : goal.returns
returns c =
    let front = string_bytes c.args.page.now in
    let page1 = string_bytes c.push_pieces.new.page in
    let page2 = string_bytes c.push_missing.new.page in
    let page3 = string_bytes c.push_nearly_full.new.page in
    let is2 = onto front _ _ page1 page2 c.in_ok-push_pieces.ensures
    (c.in_ok-push_missing.ensures ∙ (λ i. page1 ++ flat_map missing (map row_content (c.deref.ensures.value i)))) in
    let is3 = onto front _ _ page2 page3 is2 c.in_ok-push_nearly_full.ensures in
    on_ok_weaker c.push_pieces-2.result
    (λ e. onto front _ _ page3 (string_bytes c.push_pieces-2.new.page) is3 e)
    c.push_pieces-2.ensures
