-- What is told of a file: of each of its interchanges, one after the other.
use Rattle.std.specs.{Prelude.{◌≡◌, ◌<◌, ◌≤◌, ℕ, ◌+◌, Bool, List, [], ◌∷◌, length, take, drop, slice_range, codes, string_bytes}, List.list_all}
use Rattle.edi_syntax.specs.Reading.{breaks_len}
use Rattle.office_explain.specs.{Headings.ListsBlocks, Tallies.tally_said, Told.{Explains, is_faultless}, declared.explaining.Block.Block, declared.explaining.Told.Told}
use Rattle.office_explain.specs.{declared.explaining.Told.TheVariants.{Cut, Refused, Read}, declared.explanation.Explanation.Explanation}
use Rattle.office_explain.specs.declared.partners.Partners.{Partners}

-- what can't be told apart is all that is left
abbrev pub IsAllIfCut : Told → (end all : ℕ) → Type 0
IsAllIfCut (Cut finding) end all = end ≡ all
IsAllIfCut (Refused finding) end all = Unit {0}
IsAllIfCut (Read reading) end all = Unit {0}

-- it can be told apart
abbrev pub IsApart : Told → Type 0
IsApart (Cut finding) = ⊥
IsApart (Refused finding) = Unit {0}
IsApart (Read reading) = Unit {0}

-- The block has that number, and is of what stands in the file from a byte on, after CR and LF: of the bytes up to the
-- end of an interchange, or of all that is left if none can be told apart. What is told of them is what explains them.
pub record IsBlock (partners : Partners) (file : List ℕ) (from number : ℕ) (block : Block) : Type 0 where
  pub numbered : block.number ≡ number
  pub before : block.before ≡ from + breaks_len (drop from file)
  pub some : block.before < block.end
  pub within : block.end ≤ length file
  pub bytes : block.text.now ≡ slice_range file block.before block.end
  pub told : Explains partners block.text.now block.told
  pub all : IsAllIfCut block.told block.end (length file)

-- So many bytes at the front of a text are some, and what is told explains them; all of them if they can't be told apart.
abbrev pub IsToldFirst : Partners → List ℕ → ℕ → Told → Type 0
IsToldFirst partners text len told =
    (0 < len) × (len ≤ length text) × Explains partners (take len text) told × IsAllIfCut told len (length text)

-- Nothing stands in the file from a byte on but CR and LF.
abbrev pub HasOnlyBreaks : List ℕ → ℕ → Type 0
HasOnlyBreaks file from = from + breaks_len (drop from file) ≡ length file

-- These are the blocks of a file from a byte on, numbered from a number: each begins where the one before ends, and after
-- the last nothing stands but CR and LF.
abbrev pub AreBlocks : Partners → List ℕ → (from number : ℕ) → List Block → Type 0
AreBlocks partners file from number [] = HasOnlyBreaks file from
AreBlocks partners file from number (block ∷ blocks) =
    IsBlock partners file from number block × AreBlocks partners file block.end (number + 1) blocks

abbrev pub are_faultless : List Block → Bool
are_faultless blocks = list_all (λ (block : Block). is_faultless block.told) blocks

-- what is printed of a file that has no interchange
abbrev pub none_said : List ℕ → List ℕ
none_said [] = codes "no interchange: the file is empty\n"
none_said (byte ∷ file) = codes "no interchange: only CR and LF stand in the file\n"

-- where a file has no blocks, the text is what is printed of such a file; else it has the blocks in order, and ends with how many of
-- them fare how
abbrev pub Says : List ℕ → List Block → List ℕ → Type 0
Says file [] text = text ≡ none_said file
Says file (block ∷ blocks) text = ListsBlocks (block ∷ blocks) (tally_said (block ∷ blocks)) text

-- It is made of the blocks of the file, and says that no fault was found exactly if none is told in one of them. Its text says
-- if there are none, and else of each its number, where it begins and how it fares, and last how many fare how.
abbrev pub IsExplanation : Partners → List ℕ → Explanation → Type 0
IsExplanation partners file explanation =
    (blocks : List Block) × AreBlocks partners file 0 1 blocks × (explanation.is_faultless ≡ are_faultless blocks)
    × Says file blocks (string_bytes explanation.text)
