-- Where bytes of segments leave off: a grammar of the prefixes of segments.
use Rattle.std.specs.{Prelude.{◌≡◌, ℕ, ◌<◌, ◌≤◌, Bool, true, false, ◌&&◌, ◌==◌, List, [], ◌∷◌, ◌++◌, length, take, codes, IsTrue, if◌then◌else◌}, List.list_all}
use Rattle.edi_syntax.specs.{Bytes.capital_z, Characters.{is_tag_byte, is_break}, Tokens.token_of, Text.{Content, SegmentText, SegmentsText}}
use Rattle.edi_syntax.specs.{declared.characters.Service.Service, declared.token.Token.Token, declared.position.Position.Position}
use Rattle.edi_syntax.specs.declared.token.Token.TheVariants.{Data, Release, Component, Element, Terminator, Invalid}
use Rattle.edi_syntax.specs.declared.position.Position.TheVariants.{Between, First, Second, Tagged, Inside, Refused}

-- the position after a byte among elements
abbrev pub inside_by : Token → Bool → Position
inside_by Data closes = Inside false closes
inside_by Release closes = Inside true closes
inside_by Component closes = Inside false closes
inside_by Element closes = Inside false closes
inside_by Terminator closes = Between closes
inside_by Invalid closes = Refused

-- the position after one byte more
abbrev pub position_by : Service → Position → ℕ → Position
position_by s (Between closed) b =
    if is_break b then Between false
    else if is_tag_byte b then First (b == 85)
    else Refused
position_by s (First closes) b = if is_tag_byte b then Second (closes && b == 78) else Refused
position_by s (Second closes) b = if is_tag_byte b then Tagged (closes && b == capital_z) else Refused
position_by s (Tagged closes) b =
    if b == s.element then Inside false closes else if b == s.terminator then Between closes else Refused
position_by s (Inside released closes) b = inside_by (token_of s released b) closes
position_by s Refused b = Refused

-- the position after bytes
unfoldable pub position_after : Service → Position → List ℕ → Position
position_after s position [] = position
position_after s position (b ∷ bytes) = position_after s (position_by s position b) bytes

-- no segments go on so
abbrev pub is_refused : Position → Bool
is_refused (Between closed) = false
is_refused (First closes) = false
is_refused (Second closes) = false
is_refused (Tagged closes) = false
is_refused (Inside released closes) = false
is_refused Refused = true

-- the last segment has ended, or no segments go on so
abbrev pub stops : Position → Bool
stops (Between closed) = closed
stops (First closes) = false
stops (Second closes) = false
stops (Tagged closes) = false
stops (Inside released closes) = false
stops Refused = true

-- After that position so many of the bytes lead to that other, and no fewer to one that stops.
pub record Reads (s : Service) (position : Position) (bytes : List ℕ) (n : ℕ) (position' : Position) : Type 0 where
  pub within : n ≤ length bytes
  pub leads : position' ≡ position_after s position (take n bytes)
  pub before : (m : ℕ) → m < n → stops (position_after s position (take m bytes)) ≡ false

-- They are all, unless they lead to a position that stops.
pub record ReadsTo (s : Service) (position : Position) (bytes : List ℕ) (n : ℕ) (position' : Position) : Type 0 where
  pub reads : Reads s position bytes n position'
  pub all : stops position' ≡ false → n ≡ length bytes

-- so many bytes, and each front of them, leave the position as it is
abbrev pub Keeps : Service → Position → List ℕ → ℕ → Type 0
Keeps s position bytes n = (m : ℕ) → m ≤ n → position_after s position (take m bytes) ≡ position

-- The bytes and each front of them stay among the elements, the next byte not released.
abbrev pub StayInside : Service → List ℕ → Type 0
StayInside s bytes = (closes : Bool) (m : ℕ) → m ≤ length bytes →
    position_after s (Inside false closes) (take m bytes) ≡ Inside false closes

-- ---- the same, apart from any reading

-- segments after line breaks
abbrev pub SegmentsBehindBreaks : Service → List Content → List ℕ → Type 0
SegmentsBehindBreaks s segments text =
    (breaks rest : List ℕ) × IsTrue (list_all is_break breaks) × SegmentsText s segments rest × (text ≡ breaks ++ rest)

-- Some continuation is a text of segments.
abbrev pub GoesOn : Service → List ℕ → Type 0
GoesOn s bytes = (more : List ℕ) × (segments : List Content) × SegmentsBehindBreaks s segments (bytes ++ more)

-- The bytes are segments, the last of them with the tag that ends an interchange, and end with its terminator.
abbrev pub Closes : Service → List ℕ → Type 0
Closes s bytes =
    (before : List Content) × (trailer : Content) × (front last : List ℕ) × SegmentsBehindBreaks s before front
    × SegmentText s trailer last × (trailer.tag ≡ codes "UNZ") × (bytes ≡ front ++ last)

-- No position is after bytes exactly if no continuation is a text of segments.
abbrev pub RefusedWhereNothingGoesOn : Type 0
RefusedWhereNothingGoesOn =
    (s : Service) (bytes : List ℕ)
    → (position_after s (Between false) bytes ≡ Refused → GoesOn s bytes → ⊥)
    × ((position_after s (Between false) bytes ≡ Refused → ⊥) → GoesOn s bytes)

-- Bytes lead to a closed position exactly if a trailer ends there.
abbrev pub ClosedWhereATrailerEnds : Type 0
ClosedWhereATrailerEnds =
    (s : Service) (bytes : List ℕ)
    → (position_after s (Between false) bytes ≡ Between true → Closes s bytes)
    × (Closes s bytes → position_after s (Between false) bytes ≡ Between true)
