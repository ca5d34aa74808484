use Rattle.std.proofs.Common.{◌≡◌, List, Option, drop, map, ℕ}
use Rattle.office_parts.specs.Archives.{Archive}
use Rattle.office_closing.specs.Register.{archive_content, register_content}
use Rattle.office_archives.specs.{declared.passing.Rest.Rest, Texts.{AreAdded, OpensOn}}
use Rattle.office_archives.proofs.texts.write_archives.Given as goal

-- Whatever the archives that are left make of what is written so far is what all make.
abbrev pub invariant-loop-archive : goal.invariant-loop-archive
invariant-loop-archive g l =
    let names = register_content l.register in
    let opens = OpensOn g.T.Store g.F.Shelf.is_known g.F.Shelf.holds l.fn.shelf in
    ((list : List Archive) → g.F.Shelf.holds list l.fn.shelf → g.F.Shelf.holds list l.shelf)
    × (l.writer.failed ≡ l.fn.writer.failed)
    × ((new : Option (List ℕ)) (left : Rest) → AreAdded g.T.Store opens names (map archive_content (drop l.archive-index l.register.archives.items)) l.rest (g.W.Write.contents l.writer.inner) new left
    → AreAdded g.T.Store opens names (map archive_content l.register.archives.items) l.fn.first (g.W.Write.contents l.fn.writer.inner) new left)
