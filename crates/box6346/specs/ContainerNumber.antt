-- Container numbers (ISO 6346) as they are read.
use Rattle.std.specs.Prelude.{ℕ, if◌then◌else◌, List, Result, Ok, Err}
use Rattle.box6346.specs.{NumberText.{has_form, is_checked}, declared.box_number.NumberFault.NumberFault, declared.box_number.BoxNumber.BoxNumber}
use Rattle.box6346.specs.declared.box_number.NumberFault.TheVariants.{Form, CheckDigit}

-- the number with this text, or the first fault
unfoldable pub number_of : List ℕ → Result BoxNumber NumberFault
number_of text = if has_form text then (if is_checked text then Ok text else Err CheckDigit) else Err Form
