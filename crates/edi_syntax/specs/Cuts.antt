-- The bytes of an interchange that come one after the other, and where they end or can't go on.
use Rattle.std.specs.Prelude.{◌≡◌, ℕ, ◌<◌, ◌≤◌, Bool, true, false, not, ◌&&◌, ◌==◌, nat_le, nat_lt, List, [], ◌++◌, take, drop, length, Option, None, Some, if◌then◌else◌}
use Rattle.edi_syntax.specs.{Interchange.most_bytes, Characters.begins_with_advice, Positions.{position_after, is_refused, GoesOn, Closes}}
use Rattle.edi_syntax.specs.{Advice.{advised_characters, may_be_used, has_advice, service_at, without_breaks}, declared.position.Position.Position}
use Rattle.edi_syntax.specs.{declared.position.Position.TheVariants.{Between, First, Second, Tagged, Inside, Refused}, declared.cutter.CutFault.CutFault}
use Rattle.edi_syntax.specs.declared.cutter.CutFault.TheVariants.{TooLong, Service as ServiceFault, Segment, Memory}

-- the bytes are within an advice, or end with it
abbrev pub is_in_advice : List ℕ → Bool
is_in_advice text = begins_with_advice text && nat_le (length text) 9

-- the advice is whole, and its characters may not be used
abbrev pub breaks_advice : List ℕ → Bool
breaks_advice text = has_advice text && not (may_be_used (advised_characters text))

-- what stands after the advice, if there is one
abbrev pub past_advice : List ℕ → List ℕ
past_advice text = if begins_with_advice text then drop 9 text else text

-- where the bytes of an interchange leave off
abbrev pub position_of : List ℕ → Position
position_of text = position_after (service_at text) (Between false) (past_advice text)

abbrev pub is_closed : Position → Bool
is_closed (Between closed) = closed
is_closed (First closes) = false
is_closed (Second closes) = false
is_closed (Tagged closes) = false
is_closed (Inside released closes) = false
is_closed Refused = false

-- the lowest fault that applies to the bytes of an interchange so far
abbrev pub fault_of : List ℕ → Option CutFault
fault_of text =
    if nat_lt most_bytes (length text) then Some TooLong
    else if breaks_advice text then Some ServiceFault
    else if is_refused (position_of text) then Some Segment
    else None

-- the bytes end with the terminator of a last segment
abbrev pub is_whole : List ℕ → Bool
is_whole text = is_closed (position_of text)

abbrev pub is_memory : CutFault → Bool
is_memory TooLong = false
is_memory ServiceFault = false
is_memory Segment = false
is_memory Memory = true

-- neither an interchange nor a fault is there
abbrev pub IsOpen : List ℕ → Type 0
IsOpen text = (fault_of text ≡ None) × (is_whole text ≡ false)

-- it ends no earlier, and no fault stands before
abbrev pub IsOpenBefore : List ℕ → Type 0
IsOpenBefore text = (m : ℕ) → m < length text → IsOpen (take m text)

-- the first interchange
abbrev pub IsInterchange : List ℕ → Type 0
IsInterchange text = (fault_of text ≡ None) × (is_whole text ≡ true) × IsOpenBefore text

-- the earliest fault
abbrev pub Faults : List ℕ → CutFault → Type 0
Faults text fault = (fault_of text ≡ Some fault) × IsOpenBefore text

-- no front of the bytes has a fault before an interchange ends
abbrev pub HasNoFault : List ℕ → Type 0
HasNoFault bytes = (n : ℕ) (fault : CutFault) → Faults (take n bytes) fault → ⊥

-- less than an interchange
abbrev pub IsPending : List ℕ → Type 0
IsPending text = IsOpen text × IsOpenBefore text

abbrev pub is_nil : List ℕ → Bool
is_nil text = length text == 0

-- what a cutter holds: the bytes since the last interchange, or that interchange, and the fault that stands
pub record Cutting : Type 0 where
  pub text : List ℕ
  pub fault : Option CutFault

-- the bytes that belong to no interchange yet
abbrev pub pending_bytes : Cutting → List ℕ
pending_bytes c = if is_whole c.text then [] else c.text

abbrev pub interchange : Cutting → List ℕ
interchange c = if is_whole c.text then c.text else []

-- what a piece gives that comes after pending bytes: the number of bytes that complete an interchange, or nothing yet
abbrev pub Answers : List ℕ → List ℕ → Cutting → Option ℕ → Type 0
Answers q piece new (Some n) =
    (0 < n) × (n ≤ length piece) × IsInterchange (without_breaks (q ++ take n piece))
    × (new ≡ record { text = without_breaks (q ++ take n piece); fault = None })
Answers q piece new None =
    IsPending (without_breaks (q ++ piece)) × (new ≡ record { text = without_breaks (q ++ piece); fault = None })

-- the fault stands at one of the piece's bytes, and at none before
abbrev pub FaultsWithin : List ℕ → List ℕ → Cutting → CutFault → Type 0
FaultsWithin q piece new fault =
    (n : ℕ) × (n ≤ length piece) × Faults (without_breaks (q ++ take n piece)) fault
    × (new ≡ record { text = []; fault = Some fault })

-- What a failed call leaves. Memory is asked for only if the piece has no fault.
abbrev pub Fails : Cutting → List ℕ → List ℕ → Cutting → CutFault → Type 0
Fails old q piece new TooLong = FaultsWithin q piece new TooLong
Fails old q piece new ServiceFault = FaultsWithin q piece new ServiceFault
Fails old q piece new Segment = FaultsWithin q piece new Segment
Fails old q piece new Memory = (new ≡ old) × HasNoFault (without_breaks (q ++ piece))

-- A stream has one first interchange, and not a fault besides: so it doesn't matter how the stream is cut into pieces.
abbrev pub FirstIsOne : Type 0
FirstIsOne =
    (bytes : List ℕ) (m n : ℕ) → IsInterchange (take m bytes)
    → (IsInterchange (take n bytes) → take m bytes ≡ take n bytes)
    × ((fault : CutFault) → Faults (take n bytes) fault → ⊥)

-- ---- the same in the grammar's words

-- What stands after the advice has no continuation that is segment text, exactly if the fault is `Segment`; and a text
-- is whole exactly if it ends with the terminator of a UNZ.
abbrev pub CutsGoByTheGrammar : Type 0
CutsGoByTheGrammar =
    (text : List ℕ)
    → (is_refused (position_of text) ≡ true → GoesOn (service_at text) (past_advice text) → ⊥)
    × (is_refused (position_of text) ≡ false → GoesOn (service_at text) (past_advice text))
    × (is_whole text ≡ true → Closes (service_at text) (past_advice text))
    × (Closes (service_at text) (past_advice text) → is_whole text ≡ true)
