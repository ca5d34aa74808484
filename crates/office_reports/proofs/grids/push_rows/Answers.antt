use Rattle.std.proofs.Common.{◌+◌, string_bytes}
use Rattle.office_reports.{specs.Views.row_view, proofs.Markup.next}
use Rattle.office_reports.proofs.grids.push_rows.Goals as goal

pub loop-n-preserved : goal.loop-n-preserved
loop-n-preserved c = next (λ n. row_view c.args.block.now c.args.standings.now (n + 1)) c.loop-n.n (string_bytes c.args.text.now) (string_bytes c.loop-n.text) (string_bytes c.push_row.new.text) c.loop-n.invariant c.in_ok-push_row.ensures
