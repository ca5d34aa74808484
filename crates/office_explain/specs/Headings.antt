-- What comes before all else that is said of an interchange, and in which order.
use Rattle.std.specs.Prelude.{◌≡◌, ◌++◌, ◌+◌, ℕ, List, [], ◌∷◌, codes, decimal}
use Rattle.office_explain.specs.{declared.explaining.Block.Block, declared.explaining.Told.Told}
use Rattle.office_explain.specs.declared.explaining.Told.TheVariants.{Cut, Refused, Read}

-- how an interchange fares; of one that is read with the number that its sender gave it
abbrev pub faring_said : Told → List ℕ
faring_said (Cut finding) = codes "cut, and nothing after it is read\n"
faring_said (Refused finding) = codes "refused, and nothing of it is kept\n"
faring_said (Read reading) = codes "number " ++ decimal reading.number ++ codes " of "

-- its number in the file, and at which byte it begins, counted from 1
unfoldable pub place_said : Block → List ℕ
place_said block =
    codes "interchange " ++ (decimal block.number ++ (codes ", from byte " ++ (decimal (block.before + 1) ++ codes ": ")))

abbrev pub heading_said : Block → List ℕ
heading_said block = place_said block ++ faring_said block.told

-- The text has of each of these blocks, in order, its heading and what is told after that; and then it ends so.
abbrev pub ListsBlocks : List Block → (end text : List ℕ) → Type 0
ListsBlocks [] end text = text ≡ end
ListsBlocks (block ∷ blocks) end text =
    (more rest : List ℕ) × (text ≡ heading_said block ++ more ++ rest) × ListsBlocks blocks end rest

-- a block is told after what was told before
abbrev pub TellsBlock : Block → (old new : List ℕ) → Type 0
TellsBlock block old new = (more : List ℕ) × (new ≡ old ++ heading_said block ++ more)
