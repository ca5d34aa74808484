-- What is kept of the bytes of an interchange: what the code relies on, and no caller has to read.
use Rattle.std.specs.Prelude.{◌≡◌, ℕ, ◌≤◌, false, List, ◌++◌, length, take, None}
use Rattle.edi_syntax.specs.{Reading.breaks_len, Advice.service_at, Cuts.{position_of, breaks_advice, fault_of, is_whole, IsOpenBefore, Faults}}
use Rattle.edi_syntax.specs.{declared.cutter.CutFault.CutFault, declared.position.Reading.Reading}

-- the service characters and the position are those of the bytes
abbrev pub IsReadingOf : Reading → List ℕ → Type 0
IsReadingOf reading text =
    (reading.service ≡ service_at text) × (reading.position ≡ position_of text) × (breaks_advice text ≡ false)

-- the bytes of an interchange so far, which has not ended before, and what is read of them
pub record Holds (text : List ℕ) (reading : Reading) : Type 0 where
  pub reads : IsReadingOf reading text
  pub front : breaks_len text ≡ 0
  pub before : IsOpenBefore text
  pub none : fault_of text ≡ None

-- So many bytes of a piece were read after a text: as far as the end of the interchange, or all of them.
pub record IsReadOn (text piece : List ℕ) (used : ℕ) (reading : Reading) : Type 0 where
  pub within : used ≤ length piece
  pub holds : Holds (text ++ take used piece) reading
  pub all : is_whole (text ++ take used piece) ≡ false → used ≡ length piece

-- One of the bytes of a piece after a text leads to that fault, and none before.
abbrev pub IsRefusedBehind : List ℕ → List ℕ → CutFault → Type 0
IsRefusedBehind text piece fault = (n : ℕ) × (n ≤ length piece) × Faults (text ++ take n piece) fault
