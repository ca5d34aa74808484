-- What holds for an opening set-up that says the same as that of the files.
use Rattle.office_admission.specs.Setups.{SetupContent}
use Rattle.office_history.specs.After.{SaysSame}

pub record Alike (content : SetupContent) (Holds : SetupContent → Type 0) : Type 0 where
  pub opening : SetupContent
  pub says : SaysSame opening content
  pub holds : Holds opening
