use Rattle.std.proofs.Common.{◌≡◌, drop, map}
use Rattle.office_pages.specs.Meanings.{meaning_of, meant}
use Rattle.office_pages.proofs.meanings.meaning_of.Given as goal

abbrev pub invariant-loop-meaning : goal.invariant-loop-meaning
invariant-loop-meaning l = meaning_of (map meant (drop l.meaning-index l.meanings)) l.name ≡ meaning_of (map meant l.meanings) l.name
