-- what is written and the composite of what is left are the composite of all
use Rattle.std.proofs.Common.{◌≡◌, ◌++◌, ℕ, List, map, drop}
use Rattle.edi_syntax.specs.Spelling.{composite}
use Rattle.edi_syntax.proofs.writing.write_composite.Given as goal

abbrev pub invariant-loop-i : goal.invariant-loop-i
invariant-loop-i g l = record {
  whole : l.fn.out.items ++ composite (map g.V.Spell.bytes_of l.values) ≡ l.out.items ++ composite (map g.V.Spell.bytes_of (drop l.i l.values));
  grown : (written : List ℕ) × (l.out.items ≡ l.fn.out.items ++ written);
}
