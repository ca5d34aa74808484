-- How the bytes of a field are written in the page, so that no markup comes of them.
use Rattle.std.specs.{Prelude.{ℕ, List, [], ◌∷◌, ◌++◌, ◌==◌, nat_lt, if◌then◌else◌, codes, decimal}, List.flat_map}

-- & < > " ' by their names, and a byte from 0x80 by its number
abbrev pub character_text : ℕ → List ℕ
character_text c =
    if c == 38 then codes "&amp;" else if c == 60 then codes "&lt;" else if c == 62 then codes "&gt;"
    else if c == 34 then codes "&quot;" else if c == 39 then codes "&apos;"
    else if nat_lt c 128 then c ∷ [] else codes "&#" ++ decimal c ++ codes ";"

abbrev pub field_text : List ℕ → List ℕ
field_text bytes = flat_map character_text bytes

-- pieces, one after the other
unfoldable pub joined_pieces : List (List ℕ) → List ℕ
joined_pieces pieces = flat_map (λ piece. piece) pieces
