use Rattle.std.proofs.Common.{◌+◌, string_bytes}
use Rattle.office_reports.{specs.Views.tier_label, proofs.Markup.next}
use Rattle.office_reports.proofs.grids.push_tier_labels.Goals as goal

pub loop-n-preserved : goal.loop-n-preserved
loop-n-preserved c = next (λ n. tier_label (n + 1)) c.loop-n.n (string_bytes c.args.text.now) (string_bytes c.loop-n.text) (string_bytes c.push_tier_label.new.text) c.loop-n.invariant c.in_ok-push_tier_label.ensures
