-- How many interchanges of a file fare how: the last line that is printed of a file, and of several what to do with them.
use Rattle.std.specs.Prelude.{◌==◌, ◌++◌, ℕ, Bool, true, false, count_by, not, nat_lt, List, codes, decimal, length, if◌then◌else◌}
use Rattle.office_explain.specs.{Messages.are_faultless, Told.is_faultless, declared.explaining.Block.Block, declared.explaining.Told.Told}
use Rattle.office_explain.specs.declared.explaining.Told.TheVariants.{Cut, Refused, Read}

abbrev pub is_cut : Told → Bool
is_cut (Cut finding) = true
is_cut (Refused finding) = false
is_cut (Read reading) = false

abbrev pub is_refused : Told → Bool
is_refused (Cut finding) = false
is_refused (Refused finding) = true
is_refused (Read reading) = false

-- it is read, and has a fault
abbrev pub is_faulty : Told → Bool
is_faulty (Cut finding) = false
is_faulty (Refused finding) = false
is_faulty (Read reading) = not (are_faultless reading.messages.items)

-- how many of the blocks fare so
abbrev pub count_of : (fares : Told → Bool) → List Block → ℕ
count_of fares blocks = count_by (λ (block : Block). fares block.told) blocks

-- the ending of a word that stands after a number
abbrev pub plural : ℕ → List ℕ
plural count = if count == 1 then codes "" else codes "s"

-- how many there are, and how many fare how
unfoldable pub tally_line : List Block → List ℕ
tally_line blocks =
    decimal (length blocks) ++ (codes " interchange" ++ (plural (length blocks) ++ (codes ": "
    ++ (decimal (count_of is_faultless blocks) ++ (codes " without a fault, "
    ++ (decimal (count_of is_faulty blocks) ++ (codes " with faults, "
    ++ (decimal (count_of is_refused blocks) ++ (codes " refused, "
    ++ (decimal (count_of is_cut blocks) ++ codes " cut\n"))))))))))

-- what is told of several
abbrev pub advice_for : List Block → List ℕ
advice_for blocks =
    if nat_lt 1 (length blocks) then codes "a POST takes one interchange: send each by itself\n" else codes ""

-- what stands after the blocks of a file
abbrev pub tally_said : List Block → List ℕ
tally_said blocks = tally_line blocks ++ advice_for blocks
