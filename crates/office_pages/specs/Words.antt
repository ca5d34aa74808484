-- The lines and words of the picture.
use Rattle.std.specs.{Prelude.{ℕ, ◌==◌, List, [], map, slice_index_or}, Borrow.Bor, List.slice_split}

-- they stand between LFs
abbrev pub lines : List ℕ → List (List ℕ)
lines text = slice_split (λ b. b == 10) text

-- they stand between spaces
abbrev pub words : List ℕ → List (List ℕ)
words line = slice_split (λ b. b == 32) line

-- the word at a place, counted from 0; nothing after the last
abbrev pub word_at : List (List ℕ) → ℕ → List ℕ
word_at words place = slice_index_or words place []

-- ---- words as the code has them

abbrev pub texts_of : List (Bor (List ℕ)) → List (List ℕ)
texts_of words = map (λ word. word.now) words
