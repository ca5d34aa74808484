use Rattle.std.proofs.Common.{List, sym, subst}
use Rattle.terminal_core.{specs.{declared.lines.Listing.Listing, Restoring.AreOnce}, proofs.Noted.once_noted}
use Rattle.terminal_core.proofs.lists.Lists.rows.Goals as goal

pub returns-clause-once : goal.returns-clause-once
returns-clause-once c =
    let P : List Listing → Type 0 = AreOnce in
    subst P (sym c.deref.ensures.value) (once_noted c.self.inside.rows.items c.self.inside.indexes c.self.invariant)
