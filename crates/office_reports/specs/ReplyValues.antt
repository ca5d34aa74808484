-- What stands in the JSON of a reply that is kept.
use Rattle.std.specs.{Prelude.{ℕ, List, [], ◌∷◌, Option, None, Some, option_and_then}, Option.unwrap_or}
use Rattle.serde_json.specs.{Data.{Data, Items, no_items, item, null}, Find.{as_array, as_number, as_str, as_u64, get}, Read.read}

-- the JSON of a reply; null if the text is no JSON
abbrev pub reply_in : List ℕ → Data
reply_in reply = unwrap_or (read reply) null

abbrev pub values_of : Items → List Data
values_of no_items = []
values_of (item one others) = one ∷ values_of others

abbrev pub items_by : Option Items → List Data
items_by None = []
items_by (Some list) = values_of list

-- the values of a member that is a list, the text of one that is a text, the number of one that is a number
abbrev pub items_in : List ℕ → Data → List Data
items_in name value = items_by (option_and_then as_array (get name value))

abbrev pub text_in : List ℕ → Data → List ℕ
text_in name value = unwrap_or (option_and_then as_str (get name value)) []

abbrev pub number_in : List ℕ → Data → ℕ
number_in name value = unwrap_or (option_and_then as_u64 (option_and_then as_number (get name value))) 0
