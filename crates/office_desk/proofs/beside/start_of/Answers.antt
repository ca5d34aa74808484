use Rattle.std.proofs.Common.{◌≡◌, length, sym, ap, ◌∙◌}
use Rattle.std.proofs.lemmas.List.{length-map}
use Rattle.terminal_core.specs.{Rows.visit_content, State.last_number}
use Rattle.office_rows.proofs.Creating.{if_ok}
use Rattle.office_pages.specs.Start.{office_page}
use Rattle.office_reports.specs.Blocks.{blocks_content}
use Rattle.office_desk.proofs.beside.start_of.Goals as goal

pub returns : goal.returns
returns c =
    let state = c.args.terminal.now in
    let rows = c.visits-visits.result.now in
    let told = c.visits-visits.ensures.told in
    let many : length rows ≡ length state.visits = sym (length-map rows visit_content) ∙ ap length told in
    let ever = c.newest_number.ensures ∙ ap last_number told in
    let blocks = blocks_content c.in_ok-blocks_of.field-0 in
    if_ok c.office_page.result (λ page is. (
      blocks,
      c.in_ok-blocks_of.ensures,
      is ∙ (λ i. office_page (c.as_str.ensures.value i) (record {
        visits = many i;
        visits_ever = ever i;
        limit = c.args.setup.now.visit_limit;
        partners = c.in_ok-partners_of.ensures i;
        lists = c.in_ok-calls_of.ensures i;
        blocks = blocks;
      })),
    ))
    c.office_page.ensures
