-- What one look at the segments of an interchange finds: what the code relies on, and no caller has to read.
use Rattle.std.specs.{Prelude.{◌≡◌, true, ◌∷◌}, List.list_any}
use Rattle.edi_syntax.specs.{Text.Content, Segment.content, Checks.{checked_left, are_all}, declared.segment.CheckedSegments.CheckedSegments}
use Rattle.edi_syntax.specs.{Envelope.{last_of, is_of_functional_group}, TallyValues.tally_in, declared.faults.Survey.Survey}

-- of a header and nothing but segments after it
pub record IsSurvey (header : Content) (rest : CheckedSegments) (survey : Survey) : Type 0 where
  pub all : are_all rest ≡ true
  pub last : content survey.trailer ≡ last_of header (checked_left rest)
  pub group : survey.has_functional_group ≡ list_any is_of_functional_group (header ∷ checked_left rest)
  pub tally : survey.tally ≡ tally_in (checked_left rest)
