use Rattle.std.proofs.Common.{List, refl, subst}
use Rattle.terminal_core.specs.{declared.lines.Listing.Listing, Restoring.AreOnce}
use Rattle.terminal_core.proofs.lists.Lists.restore.Goals as goal

pub returns : goal.returns
returns c = let P : List Listing → Type 0 = AreOnce in (subst P c.deref.ensures.value c.in_ok-indexes.ensures.0, refl)
