-- What the names in a reply mean (our own).
use Rattle.std.specs.{Prelude.{ℕ, List, [], ◌∷◌, codes, if◌then◌else◌}, Str.bytes_eq}
use Rattle.office_pages.specs.declared.meanings.Meaning.{Meaning}

-- ---- the names, and the sentences of docs/PROFILE.md without their marks

pub record Meant : Type 0 where
  pub name : List ℕ
  pub sentence : List ℕ

abbrev pub means : List ℕ → List ℕ → Meant
means name sentence = record { name = name; sentence = sentence }

-- a name and its meaning as the code has them
abbrev pub meant : Meaning → Meant
meant what = record { name = what.0.now; sentence = what.1.now }

-- the faults of a message
unfoldable pub message_faults : List Meant
message_faults =
    means (codes "OtherType") (codes "S009 is none of the three types")
    ∷ means (codes "NoBgm") (codes "the heading has no BGM")
    ∷ means (codes "Code") (codes "1001 is no code of that type that the partner may send")
    ∷ means (codes "Function") (codes "1225 is neither empty nor 9, and is not 5 under the code of a list")
    ∷ means (codes "NoTransport") (codes "a COPRAR or COARRI without such a TDT, or whose voyage or vessel is outside the limits")
    ∷ means (codes "NoEquipment") (codes "no container")
    ∷ means (codes "EquipmentCount") (codes "6066 isn't the number of EQD segments")
    ∷ means (codes "TooMany") (codes "over 999 containers")
    ∷ []

-- the faults of a line, and the other reasons why an order is refused
unfoldable pub reasons : List Meant
reasons =
    means (codes "Form") (codes "the number has not its form")
    ∷ means (codes "CheckDigit") (codes "its check digit is wrong")
    ∷ means (codes "Size") (codes "the size-type has not its form, or its length isn't taken")
    ∷ means (codes "Moment") (codes "its text is not of its format, or of no moment of the calendar")
    ∷ means (codes "SlotText") (codes "the slot's name has not its form; for a Move also, if none is named")
    ∷ means (codes "AlreadyIn") (codes "the container is in the yard")
    ∷ means (codes "NotIn") (codes "the container isn't in the yard")
    ∷ means (codes "AlreadyListed") (codes "it is on that list of that call, done or not (of a replacement: done, or listed by an earlier line of it)")
    ∷ means (codes "NotListed") (codes "it isn't on the call's list")
    ∷ means (codes "ListLineDone") (codes "it was loaded, or discharged, on that call before")
    ∷ means (codes "Buried") (codes "another container stands on it, which blocker names")
    ∷ means (codes "NoSlot") (codes "the slot that is asked for isn't in the yard")
    ∷ means (codes "SlotKind") (codes "a twenty asks for an even bay, or a forty for an odd one")
    ∷ means (codes "Taken") (codes "another container covers a cell of that slot")
    ∷ means (codes "OnAir") (codes "nothing below that slot can carry it")
    ∷ means (codes "OnEmpty") (codes "the container is full, and one that would carry it there is empty; an empty one would fit")
    ∷ means (codes "NoRoom") (codes "no slot was asked for, and none fits")
    ∷ means (codes "VisitLimit") (codes "as many visits were recorded as the set-up allows")
    ∷ []

-- what a name means
abbrev pub meaning_of : List Meant → List ℕ → List ℕ
meaning_of [] name = []
meaning_of (meant ∷ others) name = if bytes_eq meant.name name then meant.sentence else meaning_of others name
