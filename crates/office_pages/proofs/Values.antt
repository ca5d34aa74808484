-- The values of a list are read again from it.
use Rattle.std.proofs.Common.{◌≡◌, List, [], ◌∷◌, refl, ap}
use Rattle.serde_json.specs.{Data.Data, View.items_of}
use Rattle.office_pages.specs.ReplyValues.{values_of}

pub values_again : (values : List Data) → values_of (items_of values) ≡ values
values_again [] = refl
values_again (value ∷ values) = ap (λ others. value ∷ others) (values_again values)
