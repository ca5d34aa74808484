-- The text of an interchange: segments, their elements, and the spellings of values. Relations, since a value has
-- several spellings.
use Rattle.std.specs.{Prelude.{◌≡◌, ℕ, Bool, ◌-◌, List, [], ◌∷◌, ◌++◌, length, get_or, IsTrue, Some}, Str.bytes_eq, List.list_all}
use Rattle.edi_syntax.specs.{Characters.{is_tag_byte, is_break}, Tokens.{is_plain, may_be_released}, declared.characters.Service.Service}

-- a segment: its tag, and the values of each element
pub record Content : Type 0 where
  pub tag : List ℕ
  pub elements : List (List (List ℕ))

-- a segment with no tag and no element, if there is none
abbrev pub no_segment : Content
no_segment = record { tag = []; elements = [] }

-- the segment has this tag
abbrev pub has_tag : List ℕ → Content → Bool
has_tag tag segment = bytes_eq segment.tag tag

-- a value of a segment, its element and its component counted from one: empty if there is none
abbrev pub component_of : Content → ℕ → ℕ → List ℕ
component_of segment element component = get_or (get_or segment.elements (element - 1) []) (component - 1) []

-- The values of an element, counted from one. An element that is missing equals an empty one, which has one empty
-- value.
abbrev pub element_of : Content → ℕ → List (List ℕ)
element_of segment element = get_or segment.elements (element - 1) ([] ∷ [])

-- Two segments are the same if tag and all components are equal: an element or a component that is missing equals
-- one that is empty.
pub record IsSameSegment (a b : Content) : Type 0 where
  pub tag : a.tag ≡ b.tag
  pub components : (element component : ℕ) → component_of a element component ≡ component_of b element component

-- One byte of a value is spelled by itself, or by the release character and itself.
abbrev pub SpellsByte : Service → ℕ → List ℕ → Type 0
SpellsByte s c [] = ⊥
SpellsByte s c (b ∷ []) = (b ≡ c) × IsTrue (is_plain s c)
SpellsByte s c (b ∷ d ∷ []) = (s.release ≡ Some b) × (d ≡ c) × IsTrue (may_be_released s c)
SpellsByte s c (b ∷ d ∷ e ∷ bytes) = ⊥

-- the bytes spell the value
abbrev pub Spells : Service → List ℕ → List ℕ → Type 0
Spells s [] text = text ≡ []
Spells s (c ∷ value) text = (first rest : List ℕ) × SpellsByte s c first × Spells s value rest × (text ≡ first ++ rest)

-- an element: at least one value, parted by the component separator
abbrev pub ElementText : Service → List (List ℕ) → List ℕ → Type 0
ElementText s [] text = ⊥
ElementText s (value ∷ []) text = Spells s value text
ElementText s (value ∷ next ∷ values) text =
    (first rest : List ℕ) × Spells s value first × ElementText s (next ∷ values) rest
    × (text ≡ first ++ s.component ∷ rest)

-- elements, each after the element separator
abbrev pub ElementsText : Service → List (List (List ℕ)) → List ℕ → Type 0
ElementsText s [] text = text ≡ []
ElementsText s (element ∷ elements) text =
    (first rest : List ℕ) × ElementText s element first × ElementsText s elements rest
    × (text ≡ s.element ∷ first ++ rest)

abbrev pub IsTag : List ℕ → Type 0
IsTag tag = (length tag ≡ 3) × IsTrue (list_all is_tag_byte tag)

-- a segment: its tag, its elements, the terminator
abbrev pub SegmentText : Service → Content → List ℕ → Type 0
SegmentText s segment text =
    IsTag segment.tag × (elements : List ℕ) × ElementsText s segment.elements elements
    × (text ≡ segment.tag ++ elements ++ s.terminator ∷ [])

-- segments, with any number of CR and LF after each
abbrev pub SegmentsText : Service → List Content → List ℕ → Type 0
SegmentsText s [] text = text ≡ []
SegmentsText s (segment ∷ segments) text =
    (first breaks rest : List ℕ) × SegmentText s segment first × IsTrue (list_all is_break breaks)
    × SegmentsText s segments rest × (text ≡ first ++ breaks ++ rest)
