-- A stream that is fed in pieces, and its interchanges.
use Rattle.std.specs.{Prelude.{◌≡◌, ℕ, List, [], ◌∷◌, ◌++◌, take, drop, None, Some}, List.flat_map}
use Rattle.edi_syntax.specs.{Advice.without_breaks, Cuts.{Cutting, pending_bytes, interchange, IsInterchange, Answers}}

-- no front of the bytes is an interchange
abbrev pub HasNone : List ℕ → Type 0
HasNone bytes = (n : ℕ) → IsInterchange (take n bytes) → ⊥

-- A stream begins with these interchanges, each after any number of CR and LF. What is left over after them, without
-- the CR and LF at its front, ends so.
abbrev pub CutsFrom : (List ℕ → Type 0) → List ℕ → List (List ℕ) → Type 0
CutsFrom Ends stream [] = Ends (without_breaks stream)
CutsFrom Ends stream (first ∷ others) =
    (behind : List ℕ) × IsInterchange first × (without_breaks stream ≡ first ++ behind) × CutsFrom Ends behind others

-- with that rest, of which no front is an interchange
abbrev pub EndsWith : List ℕ → List ℕ → Type 0
EndsWith rest over = (rest ≡ over) × HasNone rest

-- these are the interchanges of a stream, and that is its rest
abbrev pub AreCuts : List ℕ → List (List ℕ) → List ℕ → Type 0
AreCuts stream interchanges rest = CutsFrom (EndsWith rest) stream interchanges

-- the interchanges that calls of `feed` give for a piece, each with what the one before left of it, until it is used up
abbrev pub Feeds : Cutting → List ℕ → List (List ℕ) → Cutting → Type 0
Feeds c piece [] new = Answers (pending_bytes c) piece new None
Feeds c piece (first ∷ others) new =
    (n : ℕ) × (next : Cutting) × Answers (pending_bytes c) piece next (Some n) × (first ≡ interchange next)
    × Feeds next (drop n piece) others new

-- the interchanges of pieces, one after the other
abbrev pub FeedsAll : Cutting → List (List ℕ) → List (List ℕ) → Cutting → Type 0
FeedsAll c [] interchanges new = (interchanges ≡ []) × (new ≡ c)
FeedsAll c (piece ∷ pieces) interchanges new =
    (here later : List (List ℕ)) × (next : Cutting) × Feeds c piece here next × FeedsAll next pieces later new
    × (interchanges ≡ here ++ later)

-- the stream that pieces make
abbrev pub stream_of : List (List ℕ) → List ℕ
stream_of pieces = flat_map (λ piece. piece) pieces

-- If no call is refused, the interchanges of pieces are those of the stream that they make, and what is pending is
-- its rest.
abbrev pub CutsTheStream : Type 0
CutsTheStream =
    (c new : Cutting) (pieces interchanges : List (List ℕ)) → pending_bytes c ≡ [] → FeedsAll c pieces interchanges new
    → AreCuts (stream_of pieces) interchanges (pending_bytes new)

-- A stream has one list of interchanges and one rest. So these depend only on the stream, however it is cut into
-- pieces.
abbrev pub CutsAreOne : Type 0
CutsAreOne =
    (stream rest rest' : List ℕ) (interchanges interchanges' : List (List ℕ)) → AreCuts stream interchanges rest
    → AreCuts stream interchanges' rest' → (interchanges ≡ interchanges') × (rest ≡ rest')
