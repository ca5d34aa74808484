-- What is kept of the segments that speak of an equipment is what the first of what is sought states.
use Rattle.std.specs.{List.find, Option.{option_map, option_map_or, option_or}, Str.bytes_eq}
use Rattle.std.proofs.Common.{◌≡◌, ◌&&◌, ◌||◌, ℕ, zero, suc, Bool, true, false, cond, IsTrue, List, [], ◌∷◌, get_or, codes, Option, Some, None, refl, sym, ap, ◌∙◌}
use Rattle.edi_syntax.specs.{Moments.CivilMoment, Text.{Content, has_tag, component_of, element_of}}
use Rattle.edi_messages.specs.{Orders.{digits_wanted, moment_of_length, moment_stated}, Parts.{is_qualified, states_moment}, Types.{type_named, message_type_of}}
use Rattle.edi_messages.specs.declared.message.MessageType.{MessageType}

-- ---- what is kept of the first of what is sought

-- what was kept, or else what is kept of the first in the segments
abbrev pub kept_in : {T : Type 0} → Option T → (Content → T) → (Content → Bool) → List Content → Option T
kept_in kept of sought segments = option_or kept (option_map of (find sought segments))

one_more_kept : {T : Type 0} (kept : Option T) (of : Content → T) (sought : Content → Bool) (segment : Content) (rest : List Content) →
    kept_in kept of sought (segment ∷ rest)
    ≡ kept_in (option_or kept (cond (sought segment) (Some (of segment)) None)) of sought rest
one_more_kept (Some other) of sought segment rest = refl
one_more_kept None of sought segment rest = by_test (sought segment)
  where
    by_test : (a : Bool) → option_map of (cond a (Some segment) (find sought rest)) ≡ kept_in (cond a (Some (of segment)) None) of sought rest
    by_test true = refl
    by_test false = refl

pub kept_step : {T : Type 0} (kept next : Option T) (of : Content → T) (sought : Content → Bool) (segment : Content) (segments rest : List Content) →
    next ≡ option_or kept (cond (sought segment) (Some (of segment)) None) → segments ≡ segment ∷ rest →
    kept_in kept of sought segments ≡ kept_in next of sought rest
kept_step kept next of sought segment segments rest e s = rw (s, e) (one_more_kept kept of sought segment rest)

-- what is read of what was kept is read of the segment
pub kept_as : {T U V : Type 0} (of : T → U) (read : U → V) (otherwise : V) (kept : Option U) (found : Option T) → kept ≡ option_map of found →
    option_map_or read kept otherwise ≡ option_map_or (λ (x : T). read (of x)) found otherwise
kept_as of read otherwise kept None e = rw e refl
kept_as of read otherwise kept (Some x) e = rw e refl

-- ---- the values of an element

-- a value of an element that is missing is one that is empty
value_in_place : (elements : List (List (List ℕ))) (i k : ℕ) →
    get_or (get_or elements i []) k [] ≡ get_or (get_or elements i ([] ∷ [])) k []
value_in_place [] i zero = refl
value_in_place [] i (suc k) = refl
value_in_place (element ∷ elements) zero k = refl
value_in_place (element ∷ elements) (suc i) k = value_in_place elements i k

value_of_first : (segment : Content) (values : List (List ℕ)) (k : ℕ) → element_of segment 1 ≡ values →
    get_or (get_or segment.elements 0 []) k [] ≡ get_or values k []
value_of_first segment values k e =
    value_in_place segment.elements 0 k ∙ ap (λ (v : List (List ℕ)). get_or v k []) e

-- the same, of the second element
value_of_second : (segment : Content) (values : List (List ℕ)) (k : ℕ) → element_of segment 2 ≡ values →
    get_or (get_or segment.elements 1 []) k [] ≡ get_or values k []
value_of_second segment values k e =
    value_in_place segment.elements 1 k ∙ ap (λ (v : List (List ℕ)). get_or v k []) e

-- ---- values that were met one after the other

pub two_values : (all behind rest : List (List ℕ)) (first second : List ℕ) →
    all ≡ first ∷ behind → behind ≡ second ∷ rest → all ≡ first ∷ second ∷ rest
two_values all behind rest first second one two = one ∙ ap (λ (v : List (List ℕ)). first ∷ v) two

pub three_values : (all behind further rest : List (List ℕ)) (first second third : List ℕ) →
    all ≡ first ∷ behind → behind ≡ second ∷ further → further ≡ third ∷ rest → all ≡ first ∷ second ∷ third ∷ rest
three_values all behind further rest first second third one two three =
    two_values all behind further first second one two ∙ ap (λ (v : List (List ℕ)). first ∷ second ∷ v) three

pub four_values : (all behind further last rest : List (List ℕ)) (first second third fourth : List ℕ) →
    all ≡ first ∷ behind → behind ≡ second ∷ further → further ≡ third ∷ last → last ≡ fourth ∷ rest →
    all ≡ first ∷ second ∷ third ∷ fourth ∷ rest
four_values all behind further last rest first second third fourth one two three four =
    three_values all behind further last first second third one two three
    ∙ ap (λ (v : List (List ℕ)). first ∷ second ∷ third ∷ v) four

-- ---- a type

-- the message type of a name, a version, a release and an agency
abbrev pub type_among : List ℕ → List ℕ → List ℕ → List ℕ → Option MessageType
type_among name version release agency =
    cond (bytes_eq version (codes "D") && bytes_eq release (codes "95B") && bytes_eq agency (codes "UN")) (type_named name) None

type_by_parts : (name version release agency n v r a : List ℕ) → name ≡ n → version ≡ v → release ≡ r → agency ≡ a →
    type_among name version release agency ≡ type_among n v r a
type_by_parts name version release agency n v r a same_name same_version same_release same_agency =
    rw (same_name, same_version, same_release, same_agency) refl

-- by the values of its second element
pub type_by_values : (segment : Content) (values : List (List ℕ)) → element_of segment 2 ≡ values →
    message_type_of segment ≡ type_among (get_or values 0 []) (get_or values 1 []) (get_or values 2 []) (get_or values 3 [])
type_by_values segment values e =
    type_by_parts (component_of segment 2 1) (component_of segment 2 2) (component_of segment 2 3) (component_of segment 2 4)
    (get_or values 0 []) (get_or values 1 []) (get_or values 2 []) (get_or values 3 [])
    (value_of_second segment values 0 e) (value_of_second segment values 1 e)
    (value_of_second segment values 2 e) (value_of_second segment values 3 e)

without_agency : (of_version of_release : Bool) (named : Option MessageType) → cond (of_version && of_release && false) named None ≡ None
without_agency true true named = refl
without_agency true false named = refl
without_agency false true named = refl
without_agency false false named = refl

-- none, where there is no fourth value
pub type_of_no_agency : (segment : Content) (values : List (List ℕ)) → element_of segment 2 ≡ values → get_or values 3 [] ≡ [] →
    message_type_of segment ≡ None
type_of_no_agency segment values e missing =
    type_by_values segment values e
    ∙ ap (type_among (get_or values 0 []) (get_or values 1 []) (get_or values 2 [])) missing
    ∙ without_agency (bytes_eq (get_or values 1 []) (codes "D")) (bytes_eq (get_or values 2 []) (codes "95B")) (type_named (get_or values 0 []))

-- ---- a moment

-- the moment of a text of a format, if that is one that is read
abbrev pub moment_among : List ℕ → List ℕ → Option (Option CivilMoment)
moment_among format text =
    cond (bytes_eq format (codes "203") || bytes_eq format (codes "102"))
    (Some (moment_of_length (digits_wanted format) text)) None

moment_by_parts : (tagged : Bool) (format text f t : List ℕ) → tagged ≡ true → format ≡ f → text ≡ t →
    cond (tagged && (bytes_eq format (codes "203") || bytes_eq format (codes "102")))
    (Some (moment_of_length (digits_wanted format) text)) None
    ≡ moment_among f t
moment_by_parts tagged format text f t is same_format same_text = rw (is, same_format, same_text) refl

-- by the values of its first element
pub moment_by_values : (segment : Content) (values : List (List ℕ)) →
    IsTrue (has_tag (codes "DTM") segment) → element_of segment 1 ≡ values →
    cond (states_moment segment) (Some (moment_stated segment)) None ≡ moment_among (get_or values 2 []) (get_or values 1 [])
moment_by_values segment values is e =
    moment_by_parts (has_tag (codes "DTM") segment) (component_of segment 1 3) (component_of segment 1 2)
    (get_or values 2 []) (get_or values 1 []) is (value_of_first segment values 2 e) (value_of_first segment values 1 e)

pub moment_with_time : (format text : List ℕ) → bytes_eq format (codes "203") ≡ true →
    moment_among format text ≡ Some (moment_of_length 12 text)
moment_with_time format text is = rw is refl

pub moment_without_time : (format text : List ℕ) → bytes_eq format (codes "203") ≡ false →
    bytes_eq format (codes "102") ≡ true → moment_among format text ≡ Some (moment_of_length 8 text)
moment_without_time format text other is = rw (other, is) refl

pub moment_unread : (format text : List ℕ) → bytes_eq format (codes "203") ≡ false →
    bytes_eq format (codes "102") ≡ false → moment_among format text ≡ None
moment_unread format text other another = rw (other, another) refl

-- ---- a booking

booking_by_parts : (tagged named : Bool) (name : List ℕ) (n : Bool) (t : List ℕ) → tagged ≡ true → named ≡ n → name ≡ t →
    cond (tagged && named) (Some name) None ≡ cond n (Some t) None
booking_by_parts tagged named name n t is same_test same_name = rw (is, same_test, same_name) refl

-- by the values of its first element
pub booking_by_values : (segment : Content) (values : List (List ℕ)) (is_booking : Bool) →
    IsTrue (has_tag (codes "RFF") segment) → element_of segment 1 ≡ values →
    bytes_eq (get_or values 0 []) (codes "BN") ≡ is_booking →
    cond (is_qualified (codes "RFF") (codes "BN") segment) (Some (component_of segment 1 2)) None
    ≡ cond is_booking (Some (get_or values 1 [])) None
booking_by_values segment values is_booking is e test =
    booking_by_parts (has_tag (codes "RFF") segment) (bytes_eq (component_of segment 1 1) (codes "BN"))
    (component_of segment 1 2) is_booking (get_or values 1 []) is
    (ap (λ (v : List ℕ). bytes_eq v (codes "BN")) (value_of_first segment values 0 e) ∙ test)
    (value_of_first segment values 1 e)

-- a booking is named, maybe by an empty name
pub booking_named : (segment : Content) (values : List (List ℕ)) →
    IsTrue (has_tag (codes "RFF") segment) → element_of segment 1 ≡ values →
    bytes_eq (get_or values 0 []) (codes "BN") ≡ true →
    Some (component_of segment 1 2)
    ≡ cond (is_qualified (codes "RFF") (codes "BN") segment) (Some (component_of segment 1 2)) None
booking_named segment values is e test =
    sym (booking_by_parts (has_tag (codes "RFF") segment) (bytes_eq (component_of segment 1 1) (codes "BN"))
    (component_of segment 1 2) true (component_of segment 1 2) is
    (ap (λ (v : List ℕ). bytes_eq v (codes "BN")) (value_of_first segment values 0 e) ∙ test) refl)
