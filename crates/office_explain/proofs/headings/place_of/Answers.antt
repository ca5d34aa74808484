use Rattle.office_explain.specs.Headings.{place_said}
use Rattle.office_explain.proofs.headings.place_of.Goals as goal

pub returns : goal.returns
unfolding place_said
returns c = c.format.ensures.ok
