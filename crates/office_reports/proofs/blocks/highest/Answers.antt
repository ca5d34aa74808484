use Rattle.std.proofs.Common.{ℕ, max, ap, ◌∙◌}
use Rattle.office_reports.proofs.CallLemmas.{next_highest}
use Rattle.office_reports.proofs.blocks.highest.Goals as goal

pub loop-standing-preserved : goal.loop-standing-preserved
loop-standing-preserved c =
    next_highest c.args.standings.now c.loop-standing.standing-index c.standing-item.result c.higher-highest.result c.loop-standing-test.true c.standing-item.is
    (c.higher-highest.ensures ∙ ap (λ (h : ℕ). max h c.standing-item.result.slot.tier) c.loop-standing.invariant)
