use Rattle.std.proofs.Common.{Bor, string_bytes}
use Rattle.office_reports.proofs.Standings.{next_row}
use Rattle.office_pages.specs.Wanted.{wanted_row}
use Rattle.terminal_core.specs.{Listings.line_entry, declared.lines.Listing.Listing}
use Rattle.office_pages.proofs.wanted.push_list_rows.Goals as goal

pub loop-list-preserved : goal.loop-list-preserved
loop-list-preserved c =
    (next_row wanted_row (λ (line : Bor Listing). line_entry line.now) (string_bytes c.args.page.now) c.args.lists.now
    c.loop-list.list-index c.list-item.result (string_bytes c.loop-list.page) (string_bytes c.push_list_row.new.page)
    c.loop-list-test.true c.list-item.is (record { is = c.loop-list.invariant }) c.in_ok-push_list_row.ensures).is
