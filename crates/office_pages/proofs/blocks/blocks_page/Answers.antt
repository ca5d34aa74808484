use Rattle.std.proofs.Common.{◌++◌, ◌∷◌, [], ◌∙◌, ap, codes, false, string_bytes}
use Rattle.office_reports.{specs.Blocks.blocks_content, proofs.Markup.onto}
use Rattle.office_pages.specs.{Blocks.blocks_section, Fixed.foot, Frame.page_top, Pieces.{Markup, pieces_text}}
use Rattle.office_pages.proofs.blocks.blocks_page.Goals as goal

pub returns : goal.returns
returns c =
    let top = page_top (codes "/pages/blocks") false (Markup (codes "Blocks") ∷ []) in
    let head = pieces_text (Markup (codes "<h1>Blocks</h1>\n") ∷ []) in
    let section = blocks_section (blocks_content c.args.report.now) in
    let one = string_bytes c.push_top.new.page in
    let two = string_bytes c.push_pieces.new.page in
    let three = string_bytes c.push_blocks.new.page in
    let b = onto [] top head one two (c.in_ok-push_top.ensures ∙ ap (λ t. t ++ top) c.new-page.ensures.bytes) c.in_ok-push_pieces.ensures in
    let d = onto [] (top ++ head) section two three b c.in_ok-push_blocks.ensures in
    onto [] (top ++ head ++ section) foot three (string_bytes c.push_str.new.self) d
    (c.in_ok-push_str.ensures.bytes ∙ ap (λ t. three ++ t) c.foot.ensures)
