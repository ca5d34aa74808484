use Rattle.std.proofs.Common.{◌+◌, ◌*◌, ◌++◌, ap, ◌∙◌, string_bytes}
use Rattle.office_reports.{specs.Views.bay_label, proofs.Markup.next}
use Rattle.office_reports.proofs.grids.push_bay_labels.Goals as goal

pub loop-n-preserved : goal.loop-n-preserved
loop-n-preserved c = next (λ n. bay_label (2 * n + 1)) c.loop-n.n (string_bytes c.args.text.now) (string_bytes c.loop-n.text) (string_bytes c.push_bay_label.new.text) c.loop-n.invariant (c.in_ok-push_bay_label.ensures ∙ ap (λ bay. string_bytes c.loop-n.text ++ bay_label bay) c.odd_bay.ensures)
