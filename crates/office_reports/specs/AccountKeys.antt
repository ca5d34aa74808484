-- The keys under which accounts are added, and interchanges of one partner delivered.
use Rattle.std.specs.{Prelude.{ℕ, List, Option, option_map, unwrap_or}, Option.option_and_then}
use Rattle.office_reports.specs.{Escapes.decoded_part, Keys.{name_in, key_parts, two_parts}, declared.keys.AccountKey.AccountKey}

-- The bytes that a part stands for. One that can't be decoded stands for itself: its `%` is in no code and in no kind.
abbrev pub part_bytes : List ℕ → List ℕ
part_bytes part = unwrap_or (decoded_part part) part

-- CODE/KIND
abbrev pub account_in : List ℕ → Option (List ℕ × List ℕ)
account_in key = option_map (λ p. (part_bytes p.0, part_bytes p.1)) (two_parts (key_parts key))

-- what a key names, as bytes
abbrev pub account_named : AccountKey → List ℕ × List ℕ
account_named key = (key.code.items, key.kind.items)

-- CODE/interchanges: the partner whose interchanges are delivered
abbrev pub sender_in : List ℕ → Option (List ℕ)
sender_in key = option_and_then (λ p. name_in p.0) (two_parts (key_parts key))
