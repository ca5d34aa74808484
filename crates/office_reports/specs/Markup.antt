-- What a browser takes for markup, and which characters a text shows.
use Rattle.std.specs.Prelude.{◌≡◌, ℕ, Bool, true, List, [], ◌∷◌, ◌++◌, ◌==◌, ◌&&◌, not, nat_lt, if◌then◌else◌, codes, decimal}

-- ---- where a byte stands

-- between tags, in a tag, or in a value of a tag, which stands between single or double quotes
pub data Place : Type 0 where
  Between : Place
  Tag : Place
  SingleQuoted : Place
  DoubleQuoted : Place

-- where the next byte stands: < begins a tag and > ends it; within a tag ' and " begin a value, which ends at its next
abbrev pub place_after : Place → ℕ → Place
place_after Between c = if c == 60 then Tag else Between
place_after Tag c = if c == 62 then Between else if c == 39 then SingleQuoted else if c == 34 then DoubleQuoted else Tag
place_after SingleQuoted c = if c == 39 then Tag else SingleQuoted
place_after DoubleQuoted c = if c == 34 then Tag else DoubleQuoted

-- where the byte after a text stands
abbrev pub place_after_all : Place → List ℕ → Place
place_after_all place [] = place
place_after_all place (c ∷ text) = place_after_all (place_after place c) text

-- the tags of a text, each with its values, and nothing of what is between them
abbrev pub tags : Place → List ℕ → List ℕ
tags place [] = []
tags Between (c ∷ text) = if c == 60 then c ∷ tags Tag text else tags Between text
tags Tag (c ∷ text) = c ∷ tags (place_after Tag c) text
tags SingleQuoted (c ∷ text) = c ∷ tags (place_after SingleQuoted c) text
tags DoubleQuoted (c ∷ text) = c ∷ tags (place_after DoubleQuoted c) text

-- ---- what a text shows

-- a character of ASCII, but & < > " '
abbrev pub is_plain : ℕ → Bool
is_plain c = nat_lt c 128 && not (c == 38) && not (c == 60) && not (c == 62) && not (c == 34) && not (c == 39)

-- a reference to a character
pub data Refers : List ℕ → ℕ → Type 0 where
  amp : Refers (codes "&amp;") 38
  lt : Refers (codes "&lt;") 60
  gt : Refers (codes "&gt;") 62
  quot : Refers (codes "&quot;") 34
  apos : Refers (codes "&apos;") 39
  numbered : (c : ℕ) → Refers (codes "&#" ++ decimal c ++ codes ";") c

-- a text of plain characters and references, and the characters that it shows
pub data Shows : List ℕ → List ℕ → Type 0 where
  nothing : Shows [] []
  plain : (c : ℕ) (text shown : List ℕ) → is_plain c ≡ true → Shows text shown → Shows (c ∷ text) (c ∷ shown)
  reference : (name : List ℕ) (c : ℕ) (text shown : List ℕ) → Refers name c → Shows text shown → Shows (name ++ text) (c ∷ shown)
