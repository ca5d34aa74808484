use Rattle.std.proofs.Common.{map, take}
use Rattle.terminal_core.specs.Rows.{visit_content}
use Rattle.office_closing.{specs.Visits.AreAlike, proofs.ClearLemmas.AreGone}
use Rattle.office_closing.proofs.visits.visits_to_go.Given as goal

abbrev pub invariant-loop-visit : goal.invariant-loop-visit
invariant-loop-visit l =
    AreGone l.newest (map visit_content l.copy) (map visit_content (take l.visit-index l.own)) l.gone.items
    × AreAlike (map visit_content (take l.visit-index l.own)) (map visit_content l.copy)
