use Rattle.std.proofs.Common.{string_bytes}
use Rattle.office_reports.{specs.Views.part_view, proofs.Markup.next}
use Rattle.office_reports.proofs.grids.push_parts.Goals as goal

pub loop-part-preserved : goal.loop-part-preserved
loop-part-preserved c = next (part_view c.args.block.now c.args.row) c.loop-part.part (string_bytes c.args.text.now) (string_bytes c.loop-part.text) (string_bytes c.push_part.new.text) c.loop-part.invariant c.in_ok-push_part.ensures
