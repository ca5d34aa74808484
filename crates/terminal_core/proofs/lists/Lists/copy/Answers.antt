use Rattle.std.{specs.Prelude.map, proofs.Common.{◌≡◌, List, sym, ap, ◌∙◌, subst}}
use Rattle.terminal_core.specs.{declared.lines.Listing.Listing, declared.restoring.RestoreFault.RestoreFault, Listings.line_entry}
use Rattle.terminal_core.{specs.Restoring.{AreOnce, RefusesLines}, proofs.Noted.{copy_noted, once_noted}}
use Rattle.terminal_core.proofs.lists.Lists.copy.Goals as goal

pub unreachable-requires : goal.unreachable-requires
unreachable-requires c =
    let P : List Listing → Type 0 = AreOnce in
    let Q : RestoreFault → Type 0 = RefusesLines c.deref-2.result.now in
    let same : map line_entry c.in_ok-rows.rows.items ≡ map line_entry c.self.inside.rows.items = c.in_ok-rows.ensures ∙ ap (map line_entry) c.deref.ensures.value in
    let once = once_noted c.in_ok-rows.rows.items c.self.inside.indexes (copy_noted c.self.inside.rows.items c.in_ok-rows.rows.items c.self.inside.indexes c.self.invariant same) in
    subst Q c.in-Err-Unsound.field-0-is c.in-Err-Unsound.ensures (subst P (sym c.deref-2.ensures.value) once)
