use Rattle.std.{specs.List.list_all, proofs.Common.{◌≡◌, ◌++◌, ℕ, List, IsTrue, length}}
use Rattle.edi_syntax.specs.{Characters.is_break, Advice.without_breaks, Interchange.without_breaks_at_end}
use Rattle.edi_syntax.proofs.interchange.interchange_text.Given as goal

abbrev pub invariant-loop-last : goal.invariant-loop-last
invariant-loop-last l = record {
  left : without_breaks_at_end (without_breaks l.delivered) ≡ without_breaks_at_end l.rest;
  taken : (front back : List ℕ) × IsTrue (list_all is_break front) × IsTrue (list_all is_break back) × (l.delivered ≡ front ++ (l.rest ++ back));
}

abbrev pub decreases-loop-last : goal.decreases-loop-last
decreases-loop-last l = length l.rest
