use Rattle.std.proofs.Common.{◌++◌, ap, ◌∙◌, codes, flat_map, string_bytes}
use Rattle.office_reports.{specs.{Fixed.legend, Picture.page_head, Views.{block_view, index}}, proofs.Markup.onto}
use Rattle.office_reports.proofs.drawing.push_page.Goals as goal

pub returns : goal.returns
returns c =
    let front = string_bytes c.args.text.now in
    let top = page_head c.args.name.now c.args.standings.now in
    let links = index c.args.blocks.now in
    let blocks = flat_map (block_view c.args.standings.now) c.args.blocks.now in
    let headed = string_bytes c.push_page_head.new.text in
    let linked = string_bytes c.push_index.new.text in
    let explained = string_bytes c.push_str.new.self in
    let drawn = string_bytes c.push_blocks.new.text in
    let a = onto front top links headed linked c.in_ok-push_page_head.ensures c.in_ok-push_index.ensures in
    let b = onto front (top ++ links) legend linked explained a (c.in_ok-push_str.ensures.bytes ∙ ap (λ t. linked ++ t) c.legend.ensures) in
    let d = onto front (top ++ links ++ legend) blocks explained drawn b c.in_ok-push_blocks.ensures in
    onto front (top ++ links ++ legend ++ blocks) (codes "</main>\n</body>\n</html>\n") drawn (string_bytes c.push_str-2.new.self) d
    c.in_ok-push_str-2.ensures.bytes
