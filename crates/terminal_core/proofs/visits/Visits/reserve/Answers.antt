use Rattle.std.{specs.Prelude.map, proofs.Common.ap}
use Rattle.terminal_core.{specs.Rows.visit_content, proofs.Noted.kept_found}
use Rattle.terminal_core.proofs.visits.Visits.reserve.Goals as goal

pub invariant_of-self-in_err-reserve-3 : goal.invariant_of-self-in_err-reserve-3
invariant_of-self-in_err-reserve-3 c =
    kept_found (map visit_content c.self.inside.rows.items) (map visit_content c.reserve.new.self.items) c.self.inside.open_indexes.entries c.reserve-2.new.self.entries c.self.inside.last_indexes.entries c.reserve-3.new.self.entries
    (ap (map visit_content) c.reserve.ensures.items) c.reserve-2.ensures.entries.2 c.reserve-3.ensures.entries.2 c.self.invariant

pub invariant_of-self-2 : goal.invariant_of-self-2
invariant_of-self-2 c =
    kept_found (map visit_content c.self.inside.rows.items) (map visit_content c.reserve.new.self.items) c.self.inside.open_indexes.entries c.reserve-2.new.self.entries c.self.inside.last_indexes.entries c.reserve-3.new.self.entries
    (ap (map visit_content) c.reserve.ensures.items) c.reserve-2.ensures.entries.2 c.reserve-3.ensures.entries.2 c.self.invariant
