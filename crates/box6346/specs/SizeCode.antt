-- Size-type codes (ISO 6346) as they are read.
use Rattle.std.specs.Prelude.{ℕ, ◌==◌, if◌then◌else◌, List, slice_index, Result, Ok, Err}
use Rattle.box6346.specs.{SizeText.{has_form, has_length}, declared.size_type.Length.Length, declared.size_type.Length.TheVariants.{Twenty, Forty}}
use Rattle.box6346.specs.{declared.size_type.SizeFault.SizeFault, declared.size_type.SizeType.SizeType}
use Rattle.box6346.specs.declared.size_type.SizeFault.TheVariants as fault

-- the code with this text, or the first fault
unfoldable pub size_of : List ℕ → Result SizeType SizeFault
size_of text = if has_form text then (if has_length text then Ok text else Err fault.Length) else Err fault.Form

-- what a code of the yard covers
abbrev pub length_of : List ℕ → Length
length_of text = if slice_index text 0 == 50 then Twenty else Forty
