use Rattle.std.specs.Io.KnownBytes.{Appends}
use Rattle.std.proofs.Common.{◌≡◌, ◌∙◌, ◌++◌, ◌+◌, ℕ, List, Option, arith, subst, sym, take, drop}
use Rattle.std.proofs.{Math.Seq.take-add, KnownBytes.Appends-trans}
use Rattle.office.proofs.copying.copy_parts.Goals as goal

-- what was appended twice is the front of the file up to the end of the second part
appended : (old mid new : Option (List ℕ)) (seen now : List ℕ) (at count : ℕ) → now ≡ seen →
    Appends old mid (take at seen) → Appends mid new (take count (drop at now)) → Appends old new (take (at + count) seen)
appended old mid new seen now at count same first second =
    let P : List ℕ → Type 0 = λ bytes. Appends old new bytes in
    let Q : List ℕ → Type 0 = λ file. Appends mid new (take count (drop at file)) in
    subst P (sym (take-add at count seen)) (Appends-trans old mid new _ _ first (subst Q same second))

pub loop-at-preserved : goal.loop-at-preserved
loop-at-preserved g c =
    let i = c.loop-at.invariant in
    let e = c.in_ok-copy_part.ensures in (
      grind (arith, c.min-count.ensures, c.loop-at-test.true),
      e.usable,
      e.stays ∙ i.2,
      λ clean. i.3 (e.clean clean),
      λ clean. appended _ _ _ _ _ _ _ i.2 (i.4 (e.clean clean)) (e.copied clean),
      λ left may. i.5 left (e.leaves left may),
    )
