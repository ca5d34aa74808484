-- The parts of a segment's text stand for its elements and values.
use Rattle.std.{specs.{Option.{option_map, option_map_or}, Prelude.unwrap_or}, proofs.lemmas.List.{at_drop_more, at_drop_all, drop-drop}}
use Rattle.std.proofs.Common.{◌≡◌, ℕ, zero, suc, ◌+◌, ◌-◌, ◌<◌, ◌≤◌, Bool, true, false, cond, nat_eq, List, [], ◌∷◌, length, take, drop, get_or, map, Option, Some, None, refl, sym, ap, ◌∙◌, inl, inr, add-one, arith}
use Rattle.std.proofs.lemmas.Bool.{eqb-true, eq-eqb, cases_Bool}
use Rattle.edi_syntax.specs.{Characters.{is_data_byte, is_release}, Tokens.{token_of, releases}, declared.characters.Service.Service}
use Rattle.edi_syntax.specs.{Reading.{push_byte, push_value, push_element, with_token, elements_of}, declared.token.Token.Token}
use Rattle.edi_syntax.specs.Parts.{separates, push_front, parts_of, separator_of, split_of, value_of}
use Rattle.edi_syntax.specs.declared.token.Token.TheVariants.{Data, Release, Component, Element, Terminator, Invalid}
use Rattle.edi_syntax.proofs.SegmentLemmas.{MeansUnreleased, token_means, released_means, component_token, element_token}

-- ---- which token separates

abbrev is_element : Token → Bool
is_element Data = false
is_element Release = false
is_element Component = false
is_element Element = true
is_element Terminator = false
is_element Invalid = false

abbrev is_component : Token → Bool
is_component Data = false
is_component Release = false
is_component Component = true
is_component Element = false
is_component Terminator = false
is_component Invalid = false

element_apart : (s : Service) (b : ℕ) (t : Token) → MeansUnreleased s b t → nat_eq b s.element ≡ false → false ≡ is_element t
element_apart s b Data means h = refl
element_apart s b Release means h = refl
element_apart s b Component means h = refl
element_apart s b Element means h = sym h ∙ eq-eqb b s.element means
element_apart s b Terminator means h = refl
element_apart s b Invalid means h = refl

component_apart : (s : Service) (b : ℕ) (t : Token) → MeansUnreleased s b t → nat_eq b s.component ≡ false → false ≡ is_component t
component_apart s b Data means h = refl
component_apart s b Release means h = refl
component_apart s b Component means h = sym h ∙ eq-eqb b s.component means
component_apart s b Element means h = refl
component_apart s b Terminator means h = refl
component_apart s b Invalid means h = refl

element_separates : (s : Service) (released : Bool) (b : ℕ) → separates s.element released b ≡ is_element (token_of s released b)
element_separates s true b = elim (released_means s b) [ inl (is_data, _) ↦ rw is_data refl | inr invalid ↦ rw invalid refl ]
element_separates s false b =
    elim (cases_Bool (nat_eq b s.element)) [
      | inl e ↦ rw e (rw (eqb-true b s.element e, element_token s) refl)
      | inr e ↦ rw e (element_apart s b (token_of s false b) (token_means s b) e)
    ]

component_separates : (s : Service) (released : Bool) (b : ℕ) → separates s.component released b ≡ is_component (token_of s released b)
component_separates s true b = elim (released_means s b) [ inl (is_data, _) ↦ rw is_data refl | inr invalid ↦ rw invalid refl ]
component_separates s false b =
    elim (cases_Bool (nat_eq b s.component)) [
      | inl e ↦ rw e (rw (eqb-true b s.component e, component_token s) refl)
      | inr e ↦ rw e (component_apart s b (token_of s false b) (token_means s b) e)
    ]

-- ---- elements and values by parts

abbrev values_in : Service → Bool → List (List ℕ) → List (List ℕ)
values_in s released [] = []
values_in s released (part ∷ parts) = value_of s released part ∷ map (value_of s false) parts

abbrev components_in : Service → Bool → List ℕ → List (List ℕ)
components_in s released text = values_in s released (parts_of s s.component released text)

abbrev elements_in : Service → Bool → List (List ℕ) → List (List (List ℕ))
elements_in s released [] = []
elements_in s released (text ∷ texts) = components_in s released text ∷ map (components_in s false) texts

values_all : (s : Service) (parts : List (List ℕ)) → map (value_of s false) parts ≡ values_in s false parts
values_all s [] = refl
values_all s (part ∷ parts) = refl

elements_all : (s : Service) (texts : List (List ℕ)) → map (components_in s false) texts ≡ elements_in s false texts
elements_all s [] = refl
elements_all s (text ∷ texts) = refl

-- a byte of a value
push_value_byte : (s : Service) (released : Bool) (b : ℕ) (parts : List (List ℕ)) (texts : List (List (List ℕ))) → releases (token_of s released b) ≡ false → values_in s released (push_front b parts) ∷ texts ≡ push_byte b (values_in s false parts ∷ texts)
unfolding value_of
push_value_byte s released b [] texts h = refl
push_value_byte s released b (part ∷ parts) texts h = rw h refl

release_byte : (s : Service) (released : Bool) (b : ℕ) (parts : List (List ℕ)) → releases (token_of s released b) ≡ true → values_in s released (push_front b parts) ≡ values_in s true parts
unfolding value_of
release_byte s released b [] h = refl
release_byte s released b (part ∷ parts) h = rw h refl

-- one byte in front of the texts of the elements
plain_step : (s : Service) (released : Bool) (b : ℕ) (text : List ℕ) (texts : List (List ℕ)) → releases (token_of s released b) ≡ false → is_component (token_of s released b) ≡ false → elements_in s released ((b ∷ text) ∷ texts) ≡ push_byte b (elements_in s false (text ∷ texts))
unfolding parts_of
plain_step s released b text texts plain single =
    rw (component_separates s released b, single, plain) (push_value_byte s released b (parts_of s s.component false text) (map (components_in s false) texts) plain)

release_step : (s : Service) (released : Bool) (b : ℕ) (text : List ℕ) (texts : List (List ℕ)) → token_of s released b ≡ Release → elements_in s released ((b ∷ text) ∷ texts) ≡ elements_in s true (text ∷ texts)
unfolding parts_of
release_step s released b text texts is =
    let hides : releases (token_of s released b) ≡ true = rw is refl in
    rw (component_separates s released b, is) (ap (λ (v : List (List ℕ)). v ∷ map (components_in s false) texts) (release_byte s released b (parts_of s s.component true text) hides))

component_step : (s : Service) (released : Bool) (b : ℕ) (text : List ℕ) (texts : List (List ℕ)) → token_of s released b ≡ Component → elements_in s released ((b ∷ text) ∷ texts) ≡ push_value (elements_in s false (text ∷ texts))
unfolding parts_of value_of
component_step s released b text texts is =
    rw (component_separates s released b, is) (ap (λ (v : List (List ℕ)). ([] ∷ v) ∷ map (components_in s false) texts) (values_all s (parts_of s s.component false text)))

element_step : (s : Service) (released : Bool) (texts : List (List ℕ)) → elements_in s released ([] ∷ texts) ≡ push_element (elements_in s false texts)
unfolding parts_of value_of
element_step s released texts = ap (λ (v : List (List (List ℕ))). ([] ∷ []) ∷ v) (elements_all s texts)

step : (s : Service) (released : Bool) (b : ℕ) (first more : List (List ℕ)) (t : Token) → token_of s released b ≡ t → elements_in s released (cond (is_element t) ([] ∷ first) (push_front b more)) ≡ with_token t b (elements_in s (releases t) (cond (is_element t) first more))
step s released b first [] Data is = refl
step s released b first [] Release is = refl
step s released b first [] Component is = refl
step s released b first [] Terminator is = refl
step s released b first [] Invalid is = refl
step s released b first more Element is = element_step s released first
step s released b first (text ∷ texts) Data is = plain_step s released b text texts (rw is refl) (rw is refl)
step s released b first (text ∷ texts) Terminator is = plain_step s released b text texts (rw is refl) (rw is refl)
step s released b first (text ∷ texts) Invalid is = plain_step s released b text texts (rw is refl) (rw is refl)
step s released b first (text ∷ texts) Release is = release_step s released b text texts is
step s released b first (text ∷ texts) Component is = component_step s released b text texts is

element_releases_nothing : (s : Service) (t : Token) (bytes : List ℕ) → cond (is_element t) (parts_of s s.element false bytes) (parts_of s s.element (releases t) bytes) ≡ parts_of s s.element (releases t) bytes
element_releases_nothing s Data bytes = refl
element_releases_nothing s Release bytes = refl
element_releases_nothing s Component bytes = refl
element_releases_nothing s Element bytes = refl
element_releases_nothing s Terminator bytes = refl
element_releases_nothing s Invalid bytes = refl

-- the elements that bytes stand for are those of the parts
pub elements_by_parts : (s : Service) (bytes : List ℕ) (released : Bool) → elements_of s released bytes ≡ elements_in s released (parts_of s s.element released bytes)
unfolding elements_of parts_of value_of
elements_by_parts s [] released = refl
elements_by_parts s (b ∷ bytes) released =
    let t = token_of s released b in
    rw (element_separates s released b, elements_by_parts s bytes (releases t))
    (sym (step s released b (parts_of s s.element false bytes) (parts_of s s.element (releases t) bytes) t refl
    ∙ ap (λ (p : List (List ℕ)). with_token t b (elements_in s (releases t) p)) (element_releases_nothing s t bytes)))

-- ---- a part by the place of its separators

-- the parts of a text that begins with a separator, after the first, are those of the rest
pub parts_behind_first : (s : Service) (separator b : ℕ) (bytes : List ℕ) (i : ℕ) → b ≡ separator → 0 < i →
    get_or (parts_of s separator false (b ∷ bytes)) i [] ≡ get_or (parts_of s separator false bytes) (i - 1) []
unfolding parts_of
parts_behind_first s separator b bytes zero is some = absurd (omega (arith, some))
parts_behind_first s separator b bytes (suc j) is some =
    rw (eq-eqb b separator is) (ap (λ (n : ℕ). get_or (parts_of s separator false bytes) n []) (omega arith))

pub parts_at : (s : Service) (separator : ℕ) (bytes : List ℕ) (released : Bool) → parts_of s separator released bytes ≡ option_map_or (λ n. take n bytes ∷ parts_of s separator false (drop (suc n) bytes)) (separator_of s separator released bytes) (bytes ∷ [])
unfolding parts_of separator_of
parts_at s separator [] released = refl
parts_at s separator (b ∷ bytes) released =
    elim (cases_Bool (separates separator released b)) [
      | inl e ↦ rw e refl
      | inr e ↦ rw (e, parts_at s separator bytes (releases (token_of s released b))) (pushed (separator_of s separator (releases (token_of s released b)) bytes))
    ]
  where
    pushed : (o : Option ℕ) → push_front b (option_map_or (λ n. take n bytes ∷ parts_of s separator false (drop (suc n) bytes)) o (bytes ∷ [])) ≡ option_map_or (λ n. take n (b ∷ bytes) ∷ parts_of s separator false (drop n bytes)) (option_map suc o) ((b ∷ bytes) ∷ [])
    pushed None = refl
    pushed (Some n) = refl

pub parts_split : (s : Service) (separator : ℕ) (bytes : List ℕ) → parts_of s separator false bytes ≡ option_map_or (λ (p : List ℕ × List ℕ). p.0 ∷ parts_of s separator false p.1) (split_of s separator bytes) (bytes ∷ [])
parts_split s separator bytes = parts_at s separator bytes false ∙ moved (separator_of s separator false bytes)
  where
    moved : (o : Option ℕ) → option_map_or (λ n. take n bytes ∷ parts_of s separator false (drop (suc n) bytes)) o (bytes ∷ []) ≡ option_map_or (λ (p : List ℕ × List ℕ). p.0 ∷ parts_of s separator false p.1) (option_map (λ n. (take n bytes, drop (n + 1) bytes)) o) (bytes ∷ [])
    moved None = refl
    moved (Some n) = rw add-one refl

-- ---- the search for a separator

mapped_on : (i : ℕ) (o : Option ℕ) → option_map (λ n. i + n) (option_map suc o) ≡ option_map (λ n. i + 1 + n) o
mapped_on i None = refl
mapped_on i (Some n) = ap Some (omega arith)

pub separator_here : (s : Service) (separator : ℕ) (bytes : List ℕ) (i : ℕ) → i < length bytes → get_or bytes i 0 ≡ separator → option_map (λ n. i + n) (separator_of s separator false (drop i bytes)) ≡ Some i
unfolding separator_of
separator_here s separator bytes i within same =
    let here : nat_eq (get_or bytes i 0) separator ≡ true = eq-eqb (get_or bytes i 0) separator same in
    let found : separator_of s separator false (get_or bytes i 0 ∷ drop (i + 1) bytes) ≡ Some 0 = rw here refl in
    ap (option_map (λ n. i + n)) (at_drop_more (separator_of s separator false) bytes i 0 within ∙ found) ∙ ap Some (omega arith)

pub separator_further : (s : Service) (separator : ℕ) (released : Bool) (bytes : List ℕ) (i : ℕ) → i < length bytes → separates separator released (get_or bytes i 0) ≡ false → option_map (λ n. i + n) (separator_of s separator released (drop i bytes)) ≡ option_map (λ n. i + 1 + n) (separator_of s separator (releases (token_of s released (get_or bytes i 0))) (drop (i + 1) bytes))
unfolding separator_of
separator_further s separator released bytes i within other =
    let found : separator_of s separator released (get_or bytes i 0 ∷ drop (i + 1) bytes) ≡ option_map suc (separator_of s separator (releases (token_of s released (get_or bytes i 0))) (drop (i + 1) bytes)) = rw other refl in
    ap (option_map (λ n. i + n)) (at_drop_more (separator_of s separator released) bytes i 0 within ∙ found)
    ∙ mapped_on i (separator_of s separator (releases (token_of s released (get_or bytes i 0))) (drop (i + 1) bytes))

pub separator_nowhere : (s : Service) (separator : ℕ) (released : Bool) (bytes : List ℕ) (i : ℕ) → length bytes ≤ i → separator_of s separator released (drop i bytes) ≡ None
unfolding separator_of
separator_nowhere s separator released bytes i past = at_drop_all (separator_of s separator released) bytes i past

-- a byte that neither separates nor releases
pub separator_passed : (s : Service) (separator : ℕ) (bytes : List ℕ) (i : ℕ) → i < length bytes → nat_eq (get_or bytes i 0) separator ≡ false → releases (token_of s false (get_or bytes i 0)) ≡ false → option_map (λ n. i + n) (separator_of s separator false (drop i bytes)) ≡ option_map (λ n. i + 1 + n) (separator_of s separator false (drop (i + 1) bytes))
separator_passed s separator bytes i within other plain =
    separator_further s separator false bytes i within other
    ∙ ap (λ (released : Bool). option_map (λ n. i + 1 + n) (separator_of s separator released (drop (i + 1) bytes))) plain

no_release : (release : Option ℕ) (separator b : ℕ) → nat_eq b (unwrap_or release separator) ≡ false → is_release release b ≡ false
no_release None separator b other = refl
no_release (Some r) separator b other = other

releases_nothing : (component element terminator plain : Bool) → releases (cond component Component (cond element Element (cond terminator Terminator (cond plain Data Invalid)))) ≡ false
releases_nothing true element terminator plain = refl
releases_nothing false true terminator plain = refl
releases_nothing false false true plain = refl
releases_nothing false false false true = refl
releases_nothing false false false false = refl

-- another byte than the release character, for which the separator stands where there is none
pub not_releasing : (s : Service) (separator release b : ℕ) → release ≡ unwrap_or s.release separator → nat_eq b release ≡ false → releases (token_of s false b) ≡ false
unfolding token_of
not_releasing s separator release b is other = rw (no_release s.release separator b (ap (nat_eq b) (sym is) ∙ other)) (releases_nothing (nat_eq b s.component) (nat_eq b s.element) (nat_eq b s.terminator) (is_data_byte b))

-- a release character, and what it releases
pub separator_released : (s : Service) (separator : ℕ) (bytes : List ℕ) (i : ℕ) → i + 1 < length bytes → nat_eq (get_or bytes i 0) separator ≡ false → releases (token_of s false (get_or bytes i 0)) ≡ true → option_map (λ n. i + n) (separator_of s separator false (drop i bytes)) ≡ option_map (λ n. i + 2 + n) (separator_of s separator false (drop (i + 2) bytes))
separator_released s separator bytes i within other hides =
    let b = get_or bytes (i + 1) 0 in
    let plain : releases (token_of s true b) ≡ false = elim (released_means s b) [ inl (is_data, _) ↦ rw is_data refl | inr invalid ↦ rw invalid refl ] in
    separator_further s separator false bytes i (omega arith) other
    ∙ ap (λ (released : Bool). option_map (λ n. i + 1 + n) (separator_of s separator released (drop (i + 1) bytes))) hides
    ∙ separator_further s separator true bytes (i + 1) within refl
    ∙ ap (λ (released : Bool). option_map (λ n. i + 1 + 1 + n) (separator_of s separator released (drop (i + 1 + 1) bytes))) plain
    ∙ ap (λ (k : ℕ). option_map (λ n. k + n) (separator_of s separator false (drop k bytes))) (omega arith)

-- a release character at the end
pub separator_cut : (s : Service) (separator : ℕ) (bytes : List ℕ) (i : ℕ) → i < length bytes → length bytes ≤ i + 1 → nat_eq (get_or bytes i 0) separator ≡ false → option_map (λ n. i + n) (separator_of s separator false (drop i bytes)) ≡ None
separator_cut s separator bytes i within last other =
    let released = releases (token_of s false (get_or bytes i 0)) in
    separator_further s separator false bytes i within other ∙ ap (option_map (λ n. i + 1 + n)) (separator_nowhere s separator released bytes (i + 1) last)

-- bytes after those that were passed over before
pub separator_joined : (s : Service) (separator : ℕ) (bytes rest : List ℕ) (at more : ℕ) → rest ≡ drop at bytes → separator_of s separator false bytes ≡ option_map (λ n. at + n) (separator_of s separator false (drop at bytes)) → separator_of s separator false rest ≡ option_map (λ n. more + n) (separator_of s separator false (drop more rest)) → separator_of s separator false bytes ≡ option_map (λ n. at + more + n) (separator_of s separator false (drop (at + more) bytes))
separator_joined s separator bytes rest at more is before behind =
    before
    ∙ ap (option_map (λ n. at + n)) (ap (separator_of s separator false) (sym is) ∙ behind ∙ ap (λ (t : List ℕ). option_map (λ n. more + n) (separator_of s separator false (drop more t))) is ∙ ap (λ (t : List ℕ). option_map (λ n. more + n) (separator_of s separator false t)) (drop-drop more at bytes))
    ∙ twice (separator_of s separator false (drop (at + more) bytes))
  where
    twice : (o : Option ℕ) → option_map (λ n. at + n) (option_map (λ n. more + n) o) ≡ option_map (λ n. at + more + n) o
    twice None = refl
    twice (Some n) = ap Some (omega arith)

-- ---- the bytes of a value

pub value_nothing : (s : Service) → value_of s false [] ≡ []
unfolding value_of
value_nothing s = refl

pub value_plain : (s : Service) (b : ℕ) (bytes : List ℕ) → releases (token_of s false b) ≡ false → value_of s false (b ∷ bytes) ≡ b ∷ value_of s false bytes
unfolding value_of
value_plain s b bytes h = rw h refl

pub value_cut : (s : Service) (b : ℕ) → releases (token_of s false b) ≡ true → value_of s false (b ∷ []) ≡ []
unfolding value_of
value_cut s b h = rw h refl

pub value_released : (s : Service) (b c : ℕ) (bytes : List ℕ) → releases (token_of s false b) ≡ true → value_of s false (b ∷ c ∷ bytes) ≡ c ∷ value_of s false bytes
unfolding value_of
value_released s b c bytes h =
    let plain : releases (token_of s true c) ≡ false = elim (released_means s c) [ inl (is_data, _) ↦ rw is_data refl | inr invalid ↦ rw invalid refl ] in
    rw (h, plain) refl

pub length-value : (s : Service) (bytes : List ℕ) (released : Bool) → length (value_of s released bytes) ≤ length bytes
unfolding value_of
length-value s [] released = omega arith
length-value s (b ∷ bytes) released =
    let t = token_of s released b in
    let rest = length-value s bytes (releases t) in
    elim (cases_Bool (releases t)) [
      | inl e ↦ rw e (let h : length (value_of s true bytes) ≤ length bytes = rw e at rest in omega arith)
      | inr e ↦ rw e (let h : length (value_of s false bytes) ≤ length bytes = rw e at rest in omega arith)
    ]

-- ---- a value by its place

value_in_place : (s : Service) (parts : List (List ℕ)) (k : ℕ) → get_or (values_in s false parts) k [] ≡ value_of s false (get_or parts k [])
unfolding value_of
value_in_place s parts k = ap (λ (v : List (List ℕ)). get_or v k []) (sym (values_all s parts)) ∙ mapped parts k
  where
    mapped : (parts : List (List ℕ)) (k : ℕ) → get_or (map (value_of s false) parts) k [] ≡ value_of s false (get_or parts k [])
    mapped [] k = refl
    mapped (part ∷ parts) zero = refl
    mapped (part ∷ parts) (suc k) = mapped parts k

component_in_place : (s : Service) (texts : List (List ℕ)) (i k : ℕ) → get_or (get_or (map (components_in s false) texts) i []) k [] ≡ value_of s false (get_or (parts_of s s.component false (get_or texts i [])) k [])
unfolding parts_of value_of
component_in_place s [] i zero = refl
component_in_place s [] i (suc k) = refl
component_in_place s (text ∷ texts) zero k = value_in_place s (parts_of s s.component false text) k
component_in_place s (text ∷ texts) (suc i) k = component_in_place s texts i k

pub component_by_parts : (s : Service) (bytes : List ℕ) (i k : ℕ) → get_or (get_or (elements_of s false bytes) i []) k [] ≡ value_of s false (get_or (parts_of s s.component false (get_or (parts_of s s.element false bytes) i [])) k [])
component_by_parts s bytes i k =
    ap (λ (e : List (List (List ℕ))). get_or (get_or e i []) k []) (elements_by_parts s bytes false ∙ sym (elements_all s (parts_of s s.element false bytes)))
    ∙ component_in_place s (parts_of s s.element false bytes) i k

-- the length of what is left of a value, one byte on
pub length_value_more : (s : Service) (released : Bool) (bytes : List ℕ) (i : ℕ) (hides : Bool) → i < length bytes → hides ≡ releases (token_of s released (get_or bytes i 0)) → length (value_of s released (drop i bytes)) ≡ cond hides 0 1 + length (value_of s hides (drop (i + 1) bytes))
unfolding value_of
length_value_more s released bytes i hides within is =
    at_drop_more (λ (t : List ℕ). length (value_of s released t)) bytes i 0 within ∙ rw (← is) (counted hides)
  where
    counted : (hides : Bool) → length (cond hides (value_of s hides (drop (i + 1) bytes)) (get_or bytes i 0 ∷ value_of s hides (drop (i + 1) bytes))) ≡ cond hides 0 1 + length (value_of s hides (drop (i + 1) bytes))
    counted true = omega arith
    counted false = omega arith

pub length_value_past : (s : Service) (released : Bool) (bytes : List ℕ) (i : ℕ) → length bytes ≤ i → length (value_of s released (drop i bytes)) ≡ 0
unfolding value_of
length_value_past s released bytes i past = at_drop_all (λ (t : List ℕ). length (value_of s released t)) bytes i past

-- ---- an element by its place

mapped_in_place : (s : Service) (texts : List (List ℕ)) (i : ℕ) → get_or (map (components_in s false) texts) i ([] ∷ []) ≡ components_in s false (get_or texts i [])
unfolding parts_of value_of
mapped_in_place s [] i = refl
mapped_in_place s (text ∷ texts) zero = refl
mapped_in_place s (text ∷ texts) (suc i) = mapped_in_place s texts i

pub element_by_parts : (s : Service) (bytes : List ℕ) (i : ℕ) → get_or (elements_of s false bytes) i ([] ∷ []) ≡ map (value_of s false) (parts_of s s.component false (get_or (parts_of s s.element false bytes) i []))
element_by_parts s bytes i =
    let texts = parts_of s s.element false bytes in
    ap (λ (e : List (List (List ℕ))). get_or e i ([] ∷ [])) (elements_by_parts s bytes false ∙ sym (elements_all s texts))
    ∙ mapped_in_place s texts i ∙ sym (values_all s (parts_of s s.component false (get_or texts i [])))

-- ---- the values of an element, one after the other

pub values_split : (s : Service) (text : List ℕ) → map (value_of s false) (parts_of s s.component false text) ≡ option_map_or (λ (p : List ℕ × List ℕ). value_of s false p.0 ∷ map (value_of s false) (parts_of s s.component false p.1)) (split_of s s.component text) (value_of s false text ∷ [])
values_split s text = ap (map (value_of s false)) (parts_split s s.component text) ∙ moved (split_of s s.component text)
  where
    moved : (o : Option (List ℕ × List ℕ)) → map (value_of s false) (option_map_or (λ (p : List ℕ × List ℕ). p.0 ∷ parts_of s s.component false p.1) o (text ∷ [])) ≡ option_map_or (λ (p : List ℕ × List ℕ). value_of s false p.0 ∷ map (value_of s false) (parts_of s s.component false p.1)) o (value_of s false text ∷ [])
    moved None = refl
    moved (Some p) = refl
