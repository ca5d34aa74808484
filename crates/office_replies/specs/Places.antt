-- Where a stream stands, and where it is cut. Counts go as far as 64 bits.
use Rattle.std.specs.{Prelude.{◌≡◌, ◌≢◌, ℕ, ◌+◌, ◌-◌, ◌^◌, min, Bool, List, [], Option, None, Some, length, if◌then◌else◌}, Io.KnownBytes.Consumes}
use Rattle.edi_syntax.specs.{Reading.breaks_len, Streams.CutsFrom, declared.cutter.CutFault.CutFault}
use Rattle.office_replies.specs.{Pieces.LeavesOver, Streams.EndsAs, declared.line.Cut.Cut as StreamCut, declared.line.Place.Place}
use Rattle.office_replies.specs.{declared.stream.StreamEnd.StreamEnd, declared.stream.StreamEnd.TheVariants.{Whole, Open, Cut}}

abbrev pub capped_count : ℕ → ℕ
capped_count n = min n (2 ^ 64 - 1)

-- Before a piece: if nothing is pending, an interchange begins after the CR and LF at its front.
abbrev pub with_piece : Place → List ℕ → (at_rest : Bool) → Place
with_piece place piece at_rest =
    if at_rest then record place { begun = capped_count (place.passed + breaks_len piece) } else place

-- so many bytes were passed
abbrev pub with_passed : Place → ℕ → Place
with_passed place bytes = record place { passed = capped_count (place.passed + bytes) }

-- so many bytes completed an interchange
abbrev pub with_whole : Place → ℕ → Place
with_whole place bytes =
    record place { whole = capped_count (place.whole + 1); passed = capped_count (place.passed + bytes) }

abbrev pub cut_for : Place → Option CutFault → StreamCut
cut_for place fault =
    record { interchange = capped_count (place.whole + 1); byte = capped_count (place.begun + 1); fault = fault }

-- the cut of a stream that ends so, if it is cut
abbrev pub cut_by : Place → StreamEnd → Option StreamCut
cut_by place Whole = None
cut_by place Open = Some (cut_for place None)
cut_by place (Cut fault) = Some (cut_for place (Some fault))

-- ---- the place of a stream

-- this is left over, and the stream ends so
abbrev pub IsOver : List ℕ → StreamEnd → List ℕ → Type 0
IsOver rest end over = (over ≡ rest) × EndsAs end over

-- The cut of a stream that ends so after so many interchanges, with so many bytes before what is left over: the
-- interchange that comes next, and its first byte.
abbrev pub cut_behind : StreamEnd → (interchanges bytes : ℕ) → Option StreamCut
cut_behind Whole interchanges bytes = None
cut_behind Open interchanges bytes =
    Some (record { interchange = capped_count (interchanges + 1); byte = capped_count (bytes + 1); fault = None })
cut_behind (Cut fault) interchanges bytes =
    Some (record { interchange = capped_count (interchanges + 1); byte = capped_count (bytes + 1); fault = Some fault })

-- These bytes were read, and cut into interchanges to their end. The cut is that of what is left over, if there is one.
pub record CutsAt (left left' : Option (List ℕ)) (cut : Option StreamCut) : Type 0 where
  pub bytes : List ℕ
  pub texts : List (List ℕ)
  pub rest : List ℕ
  pub end : StreamEnd
  pub reads : Consumes left left' bytes
  pub cuts : CutsFrom (IsOver rest end) bytes texts
  pub cut_is : cut ≡ cut_behind end (length texts) (length bytes - length rest)

-- ---- how it is followed

-- These bytes were passed: interchanges, and after them less than one, which is pending. The place has counted them.
pub record Follows (place : Place) (bytes pending : List ℕ) : Type 0 where
  pub texts : List (List ℕ)
  pub cuts : CutsFrom (LeavesOver pending) bytes texts
  pub whole : place.whole ≡ capped_count (length texts)
  pub passed : place.passed ≡ capped_count (length bytes)
  pub begun : pending ≢ [] → place.begun ≡ capped_count (length bytes - length pending)

-- These bytes were read: interchanges, and what is left over at such an end. The place has counted those, and the bytes
-- before that.
pub record StopsAt (end : StreamEnd) (place : Place) (bytes : List ℕ) : Type 0 where
  pub texts : List (List ℕ)
  pub rest : List ℕ
  pub cuts : CutsFrom (IsOver rest end) bytes texts
  pub whole : place.whole ≡ capped_count (length texts)
  pub begun : place.begun ≡ capped_count (length bytes - length rest)

-- a piece was passed, or the stream can't be cut further
abbrev pub PassesPiece : Option CutFault → Place → (bytes pending : List ℕ) → Type 0
PassesPiece None place bytes pending = Follows place bytes pending
PassesPiece (Some fault) place bytes pending = StopsAt (Cut fault) place bytes
