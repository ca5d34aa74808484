-- The parts of a segment, as places in its text.
use Rattle.std.specs.{Prelude.{ℕ, suc, Bool, false, not, ◌&&◌, ◌==◌, List, [], ◌∷◌, take, drop, ◌+◌, Option, None, Some, if◌then◌else◌}, Option.option_map}
use Rattle.std.specs.List.{list_any}
use Rattle.edi_syntax.specs.{Characters.is_release, Tokens.{token_of, releases}, declared.characters.Service.Service}

-- the byte is the separator, and not released
abbrev pub separates : ℕ → Bool → ℕ → Bool
separates separator released b = not released && b == separator

-- one byte more in front of the first part
abbrev pub push_front : ℕ → List (List ℕ) → List (List ℕ)
push_front b [] = []
push_front b (part ∷ parts) = (b ∷ part) ∷ parts

-- the parts between separators
unfoldable pub parts_of : Service → ℕ → Bool → List ℕ → List (List ℕ)
parts_of s separator released [] = [] ∷ []
parts_of s separator released (b ∷ bytes) =
    if separates separator released b then [] ∷ parts_of s separator false bytes
    else push_front b (parts_of s separator (releases (token_of s released b)) bytes)

-- where the first separator stands
unfoldable pub separator_of : Service → ℕ → Bool → List ℕ → Option ℕ
separator_of s separator released [] = None
separator_of s separator released (b ∷ bytes) =
    if separates separator released b then Some 0
    else option_map suc (separator_of s separator (releases (token_of s released b)) bytes)

-- what stands before and after the first separator
abbrev pub split_of : Service → ℕ → List ℕ → Option (List ℕ × List ℕ)
split_of s separator bytes =
    option_map (λ n. (take n bytes, drop (n + 1) bytes)) (separator_of s separator false bytes)

-- a release character stands in the text
abbrev pub has_release : Service → List ℕ → Bool
has_release s text = list_any (is_release s.release) text

-- the value that bytes spell: without the release characters
unfoldable pub value_of : Service → Bool → List ℕ → List ℕ
value_of s released [] = []
value_of s released (b ∷ bytes) =
    let token = token_of s released b in
    let value = value_of s (releases token) bytes in if releases token then value else b ∷ value
