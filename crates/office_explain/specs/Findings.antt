-- Where a fault stands in a text.
use Rattle.std.specs.Prelude.{◌≡◌, ◌≤◌, ℕ, List, length, Option}
use Rattle.office_explain.specs.{declared.finding.Finding.Finding, declared.finding.Subject.Subject, declared.segments.Span.Span}

-- the stretch lies within the text
abbrev pub IsWithin : List ℕ → Span → Type 0
IsWithin text span = (span.begin ≤ span.end) × (span.end ≤ length text)

-- what is found in the text has that fault, is told by that CONTRL, and stands within the text
pub record IsFound (text : List ℕ) (what : Subject) (code : Option ℕ) (finding : Finding) : Type 0 where
  pub named : finding.subject ≡ what
  pub coded : finding.contrl ≡ code
  pub place : IsWithin text finding.span
