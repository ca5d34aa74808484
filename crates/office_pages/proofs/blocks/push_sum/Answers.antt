use Rattle.std.proofs.{Common.{◌++◌, ◌∷◌, [], ◌∙◌, codes, string_bytes}, lemmas.Result.on_ok_weaker}
use Rattle.office_reports.{specs.Blocks.used_cells, proofs.Markup.onto}
use Rattle.office_pages.specs.{Blocks.{use_cells, used_cell}, Pieces.{Markup, pieces_text}}
use Rattle.office_pages.proofs.blocks.push_sum.Goals as goal

pub returns : goal.returns
returns c =
    let front = string_bytes c.args.page.now in
    let used = c.args.used in
    let opens = pieces_text (Markup (codes "</tbody>\n<tfoot><tr><th>All</th>") ∷ []) in
    let cell = used_cell (used_cells used) c.args.cells in
    let one = string_bytes c.push_pieces.new.page in
    let two = string_bytes c.push_used.new.page in
    let three = string_bytes c.push_use.new.page in
    let b = onto front opens cell one two c.in_ok-push_pieces.ensures
    (c.in_ok-push_used.ensures ∙ (λ i. one ++ used_cell (c.used_cells.ensures.value i) (c.from.ensures i))) in
    let d = onto front (opens ++ cell) (use_cells used) two three b c.in_ok-push_use.ensures in
    on_ok_weaker c.push_pieces-2.result
    (λ last. onto front (opens ++ cell ++ use_cells used) _ three (string_bytes c.push_pieces-2.new.page) d last)
    c.push_pieces-2.ensures
