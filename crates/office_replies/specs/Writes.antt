-- The writes that are made of a writer: `takes old bytes result new` is one of them.
use Rattle.std.specs.{Prelude.{flat_map, ◌≡◌, ◌≢◌, ℕ, ◌-◌, ◌^◌, ◌<◌, ◌⊎◌, List, [], ◌∷◌, ◌++◌, length, drop, Result, Ok, Err}, List.concat, Borrow.Bor}
use Rattle.std.specs.{declared.io.Error.Error, declared.io.ErrorKind.TheVariants.{Interrupted, WriteZero}, IoError.error_kind}

-- what a write leaves of the bytes that it was given
abbrev pub left_of : List ℕ → Result ℕ Error → List ℕ
left_of bytes (Ok count) = drop count bytes
left_of bytes (Err error) = bytes

-- what is left is written by another one: it took something, or was interrupted
abbrev pub GoesOn : Result ℕ Error → Type 0
GoesOn (Ok count) = 0 < count
GoesOn (Err error) = error_kind error ≡ Interrupted

-- none follows it, and this error is reported: its own, or that it took nothing
abbrev pub FailsWith : Error → Result ℕ Error → Type 0
FailsWith error (Ok count) = (count ≡ 0) × (error_kind error ≡ WriteZero)
FailsWith error (Err own) = (own ≡ error) × (error_kind error ≢ Interrupted)

-- the bytes of parts, one after the other
abbrev pub joined_parts : List (Bor (List ℕ)) → List ℕ
joined_parts parts = flat_map (λ part. part.now) parts

module _ {W : Type 0} (takes : W → List ℕ → Result ℕ Error → W → Type 0) where
  -- Writes with these results were made one after the other, each of what those before had left of the bytes.
  unfoldable pub WritesOn : W → List ℕ → List (Result ℕ Error) → W → List ℕ → Type 0
  WritesOn old bytes [] new left = (new ≡ old) × (left ≡ bytes)
  WritesOn old bytes (result ∷ results) new left =
      (next : W) × takes old bytes result next × GoesOn result × WritesOn next (left_of bytes result) results new left

  -- Nothing is left of the bytes; or one more write failed, or there were as many as are made at most.
  abbrev pub EndsWriting : W → List ℕ → List (Result ℕ Error) → Result (Unit {0}) Error → W → Type 0
  EndsWriting old left results (Ok value) new = (left ≡ []) × (new ≡ old)
  EndsWriting old left results (Err error) new =
      ((last : Result ℕ Error) × takes old left last new × FailsWith error last)
      ⊎ ((length results ≡ 2 ^ 64 - 1) × (new ≡ old))

  -- Bytes were written in as many writes as it took, each of all that was left.
  pub record WritesOut (old : W) (bytes : List ℕ) (result : Result (Unit {0}) Error) (new : W) : Type 0 where
    pub results : List (Result ℕ Error)
    pub left : List ℕ
    pub mid : W
    pub went_on : WritesOn old bytes results mid left
    pub ended : EndsWriting mid left results result new

  -- These pieces were written out one after the other, each whole.
  unfoldable pub WritesEach : W → List (List ℕ) → W → Type 0
  WritesEach old [] new = new ≡ old
  WritesEach old (piece ∷ pieces) new = (next : W) × WritesOut old piece (Ok tt) next × WritesEach next pieces new

  -- They are all of the bytes; or a piece after them was not written out.
  abbrev pub EndsPieces : W → List ℕ → List (List ℕ) → Result (Unit {0}) Error → W → Type 0
  EndsPieces old bytes pieces (Ok value) new = (bytes ≡ concat pieces) × (new ≡ old)
  EndsPieces old bytes pieces (Err error) new =
      (piece : List ℕ) × (behind : List ℕ) × (bytes ≡ concat pieces ++ (piece ++ behind))
      × WritesOut old piece (Err error) new

  -- Bytes were written in pieces, each of them out, until one failed.
  pub record WritesPieces (old : W) (bytes : List ℕ) (result : Result (Unit {0}) Error) (new : W) : Type 0 where
    pub pieces : List (List ℕ)
    pub mid : W
    pub each : WritesEach old pieces mid
    pub ended : EndsPieces mid bytes pieces result new
