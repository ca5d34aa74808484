-- What values say in JSON and CSV: words in small letters, and nothing for what there is not.
use Rattle.std.specs.{Prelude.{ℕ, ◌==◌, Bool, List, [], ◌∷◌, codes, decimal, Option, None, Some, if◌then◌else◌}, Str.bytes_eq}
use Rattle.serde_json.specs.Data.{Data, null, string, number, unsigned}
use Rattle.box6346.specs.declared.box_number.BoxNumber.{BoxNumber}
use Rattle.edi_messages.specs.declared.codes.PartnerKind.{PartnerKind}
use Rattle.terminal_core.specs.{declared.lines.LineState.LineState, declared.lines.LineState.TheVariants.{Pending, Done}, declared.lines.Side.TheVariants.Load}
use Rattle.terminal_core.specs.{declared.visits.Way.Way, declared.visits.Way.TheVariants.{Gate, Ship}, State.side_code}
use Rattle.edi_messages.specs.declared.codes.PartnerKind.TheVariants as kind

-- ---- words

abbrev pub load_word : Bool → List ℕ
load_word is_laden = if is_laden then codes "full" else codes "empty"

abbrev pub way_word : Way → List ℕ
way_word Gate = codes "gate"
way_word Ship = codes "ship"

-- by the side as it stands in a key
abbrev pub side_word : List ℕ → List ℕ
side_word side = if bytes_eq side (side_code Load ∷ []) then codes "load" else codes "discharge"

abbrev pub state_word : LineState → List ℕ
state_word Pending = codes "open"
state_word Done = codes "done"

abbrev pub kind_word : PartnerKind → List ℕ
kind_word kind.Gate = codes "gate"
kind_word kind.Line = codes "line"
kind_word kind.Quay = codes "quay"
kind_word kind.Yard = codes "yard"

-- ---- in JSON: null for nothing

abbrev pub or_null : {X : Type 0} → (X → Data) → Option X → Data
or_null shown None = null
or_null shown (Some thing) = shown thing

abbrev pub text_or_null : List ℕ → Data
text_or_null [] = null
text_or_null (b ∷ bs) = string (b ∷ bs)

abbrev pub number_or_null : ℕ → Data
number_or_null n = if n == 0 then null else number (unsigned n)

abbrev pub container_or_null : Option BoxNumber → Data
container_or_null container = or_null (λ number. string number) container

-- ---- in CSV: an empty field for nothing

abbrev pub field_of : {X : Type 0} → (X → List ℕ) → Option X → List ℕ
field_of shown None = []
field_of shown (Some thing) = shown thing

abbrev pub number_field : ℕ → List ℕ
number_field n = if n == 0 then [] else decimal n

abbrev pub container_field : Option BoxNumber → List ℕ
container_field container = field_of (λ number. number) container
