-- The segment at the front of bytes is the one whose text stands there.
use Rattle.std.{specs.{Option.option_map, List.list_all, Str.bytes_eq}, proofs.lemmas.Slice.Eq.bytes_eq-Decides}
use Rattle.std.proofs.Common.{◌≡◌, ◌⊎◌, ℕ, nat_eq, true, false, not, ◌||◌, Option, Some, None, refl, sym, ap, IsTrue, inl, inr, Bool, ◌&&◌, List, [], ◌∷◌, ◌++◌, ◌∙◌, append_assoc, suc, ◌+◌, cond, length, take, drop, subst, arith, ◌↔◌}
use Rattle.std.proofs.lemmas.Bool.{and_parts, and_from, or_parts, or_from, not-true, not_from_false, eqb-true, eqb-false, ne_eqb, eq-eqb, cases_Bool, false≢true, or_cases, or_right, or_left}
use Rattle.std.proofs.lemmas.List.{take_at, drop_at, take-append-drop, take-take, drop-take, drop-drop, length-append, length-take, length-drop}
use Rattle.edi_syntax.specs.{Characters.{is_data_byte, is_release, are_service_characters, is_tag_byte}, declared.characters.Service.Service}
use Rattle.edi_syntax.specs.{Tokens.{is_service, is_plain, may_be_released, token_of, releases}, declared.token.Token.Token}
use Rattle.edi_syntax.specs.declared.token.Token.TheVariants.{Data, Release, Component, Element, Terminator, Invalid}
use Rattle.edi_syntax.specs.Text.{SpellsByte, Spells, ElementText, ElementsText, Content, SegmentText}
use Rattle.edi_syntax.specs.Reading.{push_byte, push_value, push_element, with_token, elements_of, stays_inside, are_elements, with_end, end_of, begins_elements, body_len, content_of}

-- ==== TokenLemmas: What a token says of its byte, and the token of each kind of byte.

-- what an unreleased byte of each kind is
abbrev pub MeansUnreleased : Service → ℕ → Token → Type 0
MeansUnreleased s b Data = is_plain s b ≡ true
MeansUnreleased s b Release = s.release ≡ Some b
MeansUnreleased s b Component = b ≡ s.component
MeansUnreleased s b Element = b ≡ s.element
MeansUnreleased s b Terminator = b ≡ s.terminator
MeansUnreleased s b Invalid = Unit {0}

release_is : (o : Option ℕ) (b : ℕ) → is_release o b ≡ true → o ≡ Some b
release_is None b e = absurd cc
release_is (Some r) b e = ap Some (sym (eqb-true b r e))

pub token_means : (s : Service) (b : ℕ) → MeansUnreleased s b (token_of s false b)
unfolding token_of
token_means s b =
    elim (cases_Bool (is_release s.release b)) [
      | inl e ↦ rw e (release_is s.release b e)
      | inr no_release ↦ rw no_release
          (elim (cases_Bool (nat_eq b s.component)) [
            | inl e ↦ rw e (eqb-true b s.component e)
            | inr no_component ↦ rw no_component
                (elim (cases_Bool (nat_eq b s.element)) [
                  | inl e ↦ rw e (eqb-true b s.element e)
                  | inr no_element ↦ rw no_element
                      (elim (cases_Bool (nat_eq b s.terminator)) [
                        | inl e ↦ rw e (eqb-true b s.terminator e)
                        | inr no_terminator ↦ rw no_terminator
                            (elim (cases_Bool (is_data_byte b)) [
                              | inl e ↦ rw e (and_from _ _ e (not_from_false _ (or_from _ _ (or_from _ _ (or_from _ _ no_component no_element) no_terminator) no_release)))
                              | inr e ↦ rw e tt
                            ])
                      ])
                ])
          ])
    ]

-- a released byte is data, or not allowed
pub released_means : (s : Service) (b : ℕ) → (token_of s true b ≡ Data) × (may_be_released s b ≡ true) ⊎ (token_of s true b ≡ Invalid)
unfolding token_of
released_means s b =
    elim (cases_Bool (may_be_released s b)) [ inl e ↦ inl (rw e refl, e) | inr e ↦ inr (rw e refl) ]

pub released_data : (s : Service) (b : ℕ) → may_be_released s b ≡ true → token_of s true b ≡ Data
unfolding token_of
released_data s b e = rw e refl

pub plain_is_data : (s : Service) (b : ℕ) → is_plain s b ≡ true → token_of s false b ≡ Data
unfolding token_of
plain_is_data s b e =
    let parts = and_parts (is_data_byte b) (not (is_service s b)) e in
    let serves : is_service s b ≡ false = not-true (is_service s b) parts.1 in
    let three = or_parts (nat_eq b s.component || nat_eq b s.element || nat_eq b s.terminator) (is_release s.release b) serves in
    let two = or_parts (nat_eq b s.component || nat_eq b s.element) (nat_eq b s.terminator) three.0 in
    let one = or_parts (nat_eq b s.component) (nat_eq b s.element) two.0 in
    rw (three.1, one.0, one.1, two.1, parts.0) refl

-- the service characters differ
pub record Distinct (release : Option ℕ) (component element terminator : ℕ) : Type 0 where
  pub release_component : is_release release component ≡ false
  pub release_element : is_release release element ≡ false
  pub release_terminator : is_release release terminator ≡ false
  pub element_component : nat_eq element component ≡ false
  pub terminator_component : nat_eq terminator component ≡ false
  pub terminator_element : nat_eq terminator element ≡ false

apart : (a b : ℕ) → not (nat_eq a b) ≡ true → nat_eq b a ≡ false
apart a b e = ne_eqb b a (λ h. eqb-false a b (not-true _ e) (sym h))

distinct : (release : Option ℕ) (component element terminator : ℕ) → IsTrue (are_service_characters component element release terminator) → Distinct release component element terminator
distinct None component element terminator h =
    let last = and_parts _ _ h in
    let middle = and_parts _ _ last.0 in
    let first = and_parts _ _ middle.0 in
    record {
      release_component = refl;
      release_element = refl;
      release_terminator = refl;
      element_component = apart component element first.1;
      terminator_component = apart component terminator middle.1;
      terminator_element = apart element terminator last.1;
    }
distinct (Some r) component element terminator h =
    let third = and_parts _ _ h in
    let second = and_parts _ _ third.0 in
    let one = and_parts _ _ second.0 in
    let zero_ = and_parts _ _ one.0 in
    let last = and_parts _ _ zero_.0 in
    let middle = and_parts _ _ last.0 in
    let first = and_parts _ _ middle.0 in
    record {
      release_component = apart r component one.1;
      release_element = apart r element second.1;
      release_terminator = apart r terminator third.1;
      element_component = apart component element first.1;
      terminator_component = apart component terminator middle.1;
      terminator_element = apart element terminator last.1;
    }

pub service_distinct : (s : Service) → Distinct s.release s.component s.element s.terminator
service_distinct s = distinct s.release s.component s.element s.terminator s.distinct

pub release_token : (s : Service) (b : ℕ) → s.release ≡ Some b → token_of s false b ≡ Release
unfolding token_of
release_token s b e = let h : is_release s.release b ≡ true = rw e (eq-eqb b b refl) in rw h refl

pub component_token : (s : Service) → token_of s false s.component ≡ Component
unfolding token_of
component_token s =
    let d = service_distinct s in
    rw (d.release_component, eq-eqb s.component s.component refl) refl

pub element_token : (s : Service) → token_of s false s.element ≡ Element
unfolding token_of
element_token s =
    let d = service_distinct s in
    rw (d.release_element, d.element_component, eq-eqb s.element s.element refl) refl

pub terminator_token : (s : Service) → token_of s false s.terminator ≡ Terminator
unfolding token_of
terminator_token s =
    let d = service_distinct s in
    rw (d.release_terminator, d.terminator_component, d.terminator_element, eq-eqb s.terminator s.terminator refl) refl

-- ==== ReadingLemmas: What bytes stand for is what they are a text of.

-- ---- what stands for elements is a text of them

-- the release character, where the byte that follows is released
abbrev IsPending : Service → Bool → List ℕ → Type 0
IsPending s false front = front ≡ []
IsPending s true front = (r : ℕ) × (s.release ≡ Some r) × (front ≡ r ∷ [])

-- the text of an element, and of further ones, each after the separator
abbrev pub Reads : Service → List (List (List ℕ)) → List ℕ → Type 0
Reads s [] text = ⊥
Reads s (values ∷ elements) text =
    (first rest : List ℕ) × ElementText s values first × ElementsText s elements rest × (text ≡ first ++ rest)

byte_reads : (s : Service) (b : ℕ) (front : List ℕ) (elements : List (List (List ℕ))) (text : List ℕ) → SpellsByte s b front → Reads s elements text → Reads s (push_byte b elements) (front ++ text)
byte_reads s b front [] text spelled h = absurd h
byte_reads s b front ([] ∷ elements) text spelled (first, rest, values, others, whole) = absurd values
byte_reads s b front ((value ∷ []) ∷ elements) text spelled (first, rest, values, others, whole) =
    (front ++ first, rest, (front, first, spelled, values, refl), others, ap (λ (t : List ℕ). front ++ t) whole ∙ sym (append_assoc front first rest))
byte_reads s b front ((value ∷ next ∷ values) ∷ elements) text spelled (first, rest, (one, more, spells, others, parts), behind, whole) =
    (front ++ first, rest, (front ++ one, more, (front, one, spelled, spells, refl), others, ap (λ (t : List ℕ). front ++ t) parts ∙ sym (append_assoc front one (s.component ∷ more))), behind, ap (λ (t : List ℕ). front ++ t) whole ∙ sym (append_assoc front first rest))

value_reads : (s : Service) (elements : List (List (List ℕ))) (text : List ℕ) → Reads s elements text → Reads s (push_value elements) (s.component ∷ text)
value_reads s [] text h = absurd h
value_reads s ([] ∷ elements) text (first, rest, values, others, whole) = absurd values
value_reads s ((value ∷ values) ∷ elements) text (first, rest, spelled, others, whole) =
    (s.component ∷ first, rest, ([], first, refl, spelled, refl), others, ap (λ (t : List ℕ). s.component ∷ t) whole)

element_reads : (s : Service) (elements : List (List (List ℕ))) (text : List ℕ) → Reads s elements text → Reads s (push_element elements) (s.element ∷ text)
element_reads s [] text h = absurd h
element_reads s (values ∷ elements) text (first, rest, spelled, others, whole) =
    ([], s.element ∷ text, refl, (first, rest, spelled, others, ap (λ (t : List ℕ). s.element ∷ t) whole), refl)

-- one byte more, not released
step : (s : Service) (b : ℕ) (bytes : List ℕ) (t : Token) → MeansUnreleased s b t → ((released : Bool) (front : List ℕ) → IsPending s released front → are_elements s released bytes ≡ true → Reads s (elements_of s released bytes) (front ++ bytes)) → (stays_inside t && are_elements s (releases t) bytes) ≡ true → Reads s (with_token t b (elements_of s (releases t) bytes)) (b ∷ bytes)
step s b bytes Data means ih h = byte_reads s b (b ∷ []) _ bytes (refl, means) (ih false [] refl h)
step s b bytes Release means ih h = ih true (b ∷ []) (b, means, refl) h
step s b bytes Component means ih h = rw means (value_reads s _ bytes (ih false [] refl h))
step s b bytes Element means ih h = rw means (element_reads s _ bytes (ih false [] refl h))
step s b bytes Terminator means ih h = absurd (false≢true h)
step s b bytes Invalid means ih h = absurd (false≢true h)

pub sound : (s : Service) (bytes : List ℕ) (released : Bool) (front : List ℕ) → IsPending s released front → are_elements s released bytes ≡ true → Reads s (elements_of s released bytes) (front ++ bytes)
unfolding elements_of are_elements
sound s [] false front pending h = rw pending ([], [], refl, refl, refl)
sound s [] true front pending h = absurd (false≢true h)
sound s (b ∷ bytes) false front pending h =
    rw pending (step s b bytes (token_of s false b) (token_means s b) (sound s bytes) h)
sound s (b ∷ bytes) true front (r, used, is_r) h =
    elim (released_means s b) [
      | inl (is_data, allowed) ↦
          let rest : are_elements s false bytes ≡ true = rw is_data at h in
          rw (is_data, is_r) (byte_reads s b (r ∷ b ∷ []) _ bytes (used, refl, allowed) (sound s bytes false [] refl rest))
      | inr invalid ↦ let none : false ≡ true = rw invalid at h in absurd (false≢true none)
    ]

-- ---- a text of elements stands for them

push_bytes : List ℕ → List (List (List ℕ)) → List (List (List ℕ))
push_bytes [] elements = elements
push_bytes (b ∷ value) elements = push_byte b (push_bytes value elements)

push_bytes_first : (value : List ℕ) (values : List (List ℕ)) (elements : List (List (List ℕ))) → push_bytes value (([] ∷ values) ∷ elements) ≡ (value ∷ values) ∷ elements
unfolding push_bytes
push_bytes_first [] values elements = refl
push_bytes_first (b ∷ value) values elements = rw (push_bytes_first value values elements) refl

-- a text in front of others adds these
abbrev Adds : Service → List ℕ → (List (List (List ℕ)) → List (List (List ℕ))) → List ℕ → Type 0
Adds s text more tail =
    (are_elements s false (text ++ tail) ≡ are_elements s false tail)
    × (elements_of s false (text ++ tail) ≡ more (elements_of s false tail))

byte_adds : (s : Service) (c : ℕ) (text tail : List ℕ) → SpellsByte s c text → Adds s text (push_byte c) tail
unfolding elements_of are_elements
byte_adds s c [] tail h = absurd h
byte_adds s c (b ∷ []) tail (same, plain) = rw (same, plain_is_data s c plain) (refl, refl)
byte_adds s c (b ∷ d ∷ []) tail (used, same, allowed) = rw (release_token s b used, same, released_data s c allowed) (refl, refl)
byte_adds s c (b ∷ d ∷ e ∷ text) tail h = absurd h

value_adds : (s : Service) (value text tail : List ℕ) → Spells s value text → Adds s text (push_bytes value) tail
unfolding push_bytes
value_adds s [] text tail h = rw h (refl, refl)
value_adds s (c ∷ value) text tail (first, rest, byte, spelled, whole) =
    let regrouped : text ++ tail ≡ first ++ (rest ++ tail) = ap (λ (t : List ℕ). t ++ tail) whole ∙ append_assoc first rest tail in
    let one = byte_adds s c first (rest ++ tail) byte in
    let more = value_adds s value rest tail spelled in
    rw regrouped (one.0 ∙ more.0, one.1 ∙ ap (push_byte c) more.1)

component_adds : (s : Service) (tail : List ℕ) → Adds s (s.component ∷ []) push_value tail
unfolding elements_of are_elements
component_adds s tail = rw (component_token s) (refl, refl)

element_adds : (s : Service) (tail : List ℕ) → Adds s (s.element ∷ []) push_element tail
unfolding elements_of are_elements
element_adds s tail = rw (element_token s) (refl, refl)

-- in front of the elements that follow, the text of an element stands for it
abbrev StandsFor : Service → List ℕ → List (List (List ℕ)) → List ℕ → Type 0
StandsFor s text elements tail =
    (are_elements s false (text ++ tail) ≡ are_elements s false tail) × (elements_of s false (text ++ tail) ≡ elements)

element_stands : (s : Service) (values : List (List ℕ)) (text tail : List ℕ) (others : List (List (List ℕ))) → ElementText s values text → elements_of s false tail ≡ ([] ∷ []) ∷ others → StandsFor s text (values ∷ others) tail
element_stands s [] text tail others h e = absurd h
element_stands s (value ∷ []) text tail others h e =
    let one = value_adds s value text tail h in
    (one.0, one.1 ∙ ap (push_bytes value) e ∙ push_bytes_first value [] others)
element_stands s (value ∷ next ∷ values) text tail others (first, rest, spelled, behind, whole) e =
    let regrouped : text ++ tail ≡ first ++ (s.component ∷ (rest ++ tail)) = ap (λ (t : List ℕ). t ++ tail) whole ∙ append_assoc first (s.component ∷ rest) tail in
    let one = value_adds s value first (s.component ∷ (rest ++ tail)) spelled in
    let parted = component_adds s (rest ++ tail) in
    let more = element_stands s (next ∷ values) rest tail others behind e in
    rw regrouped (
      one.0 ∙ parted.0 ∙ more.0,
      one.1 ∙ ap (push_bytes value) (parted.1 ∙ ap push_value more.1) ∙ push_bytes_first value (next ∷ values) others,
    )

pub complete : (s : Service) (elements : List (List (List ℕ))) (text : List ℕ) → ElementsText s elements text → (are_elements s false text ≡ true) × (elements_of s false text ≡ ([] ∷ []) ∷ elements)
unfolding elements_of are_elements
complete s [] text h = rw h (refl, refl)
complete s (element ∷ elements) text (first, rest, spelled, others, whole) =
    let behind = complete s elements rest others in
    let one = element_stands s element first rest elements spelled behind.1 in
    let parted = element_adds s (first ++ rest) in
    rw whole (parted.0 ∙ one.0 ∙ behind.0, parted.1 ∙ ap push_element one.1)

-- ==== SegmentLemmas: The segment at the front of bytes is the one whose text stands there.

-- the segment at the front, and the bytes after its terminator
abbrev pub segment_at : Service → List ℕ → Option (Content × List ℕ)
segment_at s bytes = option_map (λ n. (content_of s (take n bytes), drop (n + 1) bytes)) (body_len s bytes)

pub mapped_suc : (o : Option ℕ) (n : ℕ) → option_map suc o ≡ Some n → (m : ℕ) × (o ≡ Some m) × (n ≡ suc m)
mapped_suc None n e = absurd cc
mapped_suc (Some m) n e = (m, refl, cc)

-- n bytes of elements, and then the terminator
pub record Ends (s : Service) (released : Bool) (bytes : List ℕ) (n : ℕ) : Type 0 where
  inside : are_elements s released (take n bytes) ≡ true
  behind : bytes ≡ take n bytes ++ s.terminator ∷ drop (suc n) bytes

abbrev AllEnd : Service → List ℕ → Type 0
AllEnd s bytes = (released : Bool) (n : ℕ) → end_of s released bytes ≡ Some n → Ends s released bytes n

-- a byte that stays inside the segment
inside_step : (s : Service) (released : Bool) (b : ℕ) (bytes : List ℕ) (n : ℕ) → stays_inside (token_of s released b) ≡ true → AllEnd s bytes → option_map suc (end_of s (releases (token_of s released b)) bytes) ≡ Some n → Ends s released (b ∷ bytes) n
unfolding are_elements
inside_step s released b bytes n stays rest e =
    let (m, ends, is) = mapped_suc (end_of s (releases (token_of s released b)) bytes) n e in
    let r : Ends s (releases (token_of s released b)) bytes m = rest (releases (token_of s released b)) m ends in
    rw is (record { inside = and_from _ _ stays r.inside; behind = ap (λ (t : List ℕ). b ∷ t) r.behind })

unreleased_step : (s : Service) (b : ℕ) (bytes : List ℕ) (n : ℕ) (t : Token) → token_of s false b ≡ t → MeansUnreleased s b t → AllEnd s bytes → with_end t (end_of s (releases t) bytes) ≡ Some n → Ends s false (b ∷ bytes) n
unfolding are_elements
unreleased_step s b bytes n Data is means rest e = inside_step s false b bytes n (rw is refl) rest (rw is e)
unreleased_step s b bytes n Release is means rest e = inside_step s false b bytes n (rw is refl) rest (rw is e)
unreleased_step s b bytes n Component is means rest e = inside_step s false b bytes n (rw is refl) rest (rw is e)
unreleased_step s b bytes n Element is means rest e = inside_step s false b bytes n (rw is refl) rest (rw is e)
unreleased_step s b bytes n Terminator is means rest e =
    let none : n ≡ 0 = cc in rw none (record { inside = refl; behind = ap (λ (x : ℕ). x ∷ bytes) means })
unreleased_step s b bytes n Invalid is means rest e = absurd cc

end_sound : (s : Service) (bytes : List ℕ) → AllEnd s bytes
unfolding end_of
end_sound s [] released n e = absurd cc
end_sound s (b ∷ bytes) false n e = unreleased_step s b bytes n (token_of s false b) refl (token_means s b) (end_sound s bytes) e
end_sound s (b ∷ bytes) true n e =
    elim (released_means s b) [
      | inl (is_data, allowed) ↦ inside_step s true b bytes n (rw is_data refl) (end_sound s bytes) (let h : option_map suc (end_of s false bytes) ≡ Some n = rw is_data at e in rw is_data h)
      | inr invalid ↦ let h : None ≡ Some n = rw invalid at e in absurd cc
    ]

inside_end : (t : Token) (o : Option ℕ) (n : ℕ) → stays_inside t ≡ true → o ≡ Some n → with_end t o ≡ Some (suc n)
inside_end Data o n h e = ap (option_map suc) e
inside_end Release o n h e = ap (option_map suc) e
inside_end Component o n h e = ap (option_map suc) e
inside_end Element o n h e = ap (option_map suc) e
inside_end Terminator o n h e = absurd (false≢true h)
inside_end Invalid o n h e = absurd (false≢true h)

end_complete : (s : Service) (body : List ℕ) (released : Bool) (rest : List ℕ) → are_elements s released body ≡ true → end_of s released (body ++ s.terminator ∷ rest) ≡ Some (length body)
unfolding end_of are_elements
end_complete s [] false rest h = rw (terminator_token s) refl
end_complete s [] true rest h = absurd (false≢true h)
end_complete s (b ∷ body) released rest h =
    let parts = and_parts (stays_inside (token_of s released b)) (are_elements s (releases (token_of s released b)) body) h in
    inside_end (token_of s released b) _ (length body) parts.0 (end_complete s body (releases (token_of s released b)) rest parts.1)

-- ---- a whole segment

pub mapped_some : {A B : Type 0} (f : A → B) (o : Option A) (y : B) → option_map f o ≡ Some y → (x : A) × (o ≡ Some x) × (f x ≡ y)
mapped_some f None y e = absurd cc
mapped_some f (Some x) y e = (x, refl, cc)

-- the elements after a tag, with the first one's separator
elements_read : (s : Service) (body : List ℕ) (behind : List ℕ) → are_elements s false body ≡ true → begins_elements s (body ++ s.terminator ∷ behind) ≡ true → ElementsText s (drop 1 (elements_of s false body)) body
unfolding elements_of are_elements
elements_read s [] behind inside begins = refl
elements_read s (b ∷ body) behind inside begins =
    elim (or_cases (nat_eq b s.element) (nat_eq b s.terminator) begins) [
      | inl same ↦
          let is_element : b ≡ s.element = eqb-true b s.element same in
          let rest : are_elements s false body ≡ true = rw (is_element, element_token s) at inside in
          rw (is_element, element_token s) (parted s (elements_of s false body) body (sound s body false [] refl rest))
      | inr same ↦
          let is_terminator : b ≡ s.terminator = eqb-true b s.terminator same in
          let none : false ≡ true = rw (is_terminator, terminator_token s) at inside in absurd (false≢true none)
    ]
  where
    parted : (s : Service) (elements : List (List (List ℕ))) (text : List ℕ) → Reads s elements text → ElementsText s elements (s.element ∷ text)
    parted s [] text h = absurd h
    parted s (values ∷ elements) text (first, rest, spelled, others, whole) = (first, rest, spelled, others, ap (λ (t : List ℕ). s.element ∷ t) whole)

-- what `body_len` tells
pub record HasBody (s : Service) (bytes : List ℕ) (n m : ℕ) : Type 0 where
  pub sum : 3 + m ≡ n
  pub tag : list_all is_tag_byte (take 3 bytes) ≡ true
  pub begins : begins_elements s (drop 3 bytes) ≡ true
  pub ends : Ends s false (drop 3 bytes) m

pub cond_none : {A : Type 0} (b : Bool) (o : Option A) (y : A) → cond b o None ≡ Some y → (b ≡ true) × (o ≡ Some y)
cond_none true o y e = (refl, e)
cond_none false o y e = absurd cc

pub body_sound : (s : Service) (bytes : List ℕ) (n : ℕ) → body_len s bytes ≡ Some n → (m : ℕ) × HasBody s bytes n m
body_sound s bytes n e =
    let parts = cond_none (list_all is_tag_byte (take 3 bytes) && begins_elements s (drop 3 bytes)) (option_map (λ n. 3 + n) (end_of s false (drop 3 bytes))) n e in
    let tests = and_parts (list_all is_tag_byte (take 3 bytes)) (begins_elements s (drop 3 bytes)) parts.0 in
    let (m, ends, sum) = mapped_some (λ n. 3 + n) (end_of s false (drop 3 bytes)) n parts.1 in
    (m, record { sum = sum; tag = tests.0; begins = tests.1; ends = end_sound s (drop 3 bytes) false m ends })

pub segment_found : (s : Service) (bytes : List ℕ) (n m : ℕ) → HasBody s bytes n m → (text : List ℕ) × SegmentText s (content_of s (take n bytes)) text × (bytes ≡ text ++ drop (n + 1) bytes)
segment_found s bytes n m h =
    let front : List ℕ = take 3 bytes in
    let body : List ℕ = take m (drop 3 bytes) in
    let long : length (take 3 bytes) ≡ 3 = omega (arith, ap length h.ends.behind, length-append (take m (drop 3 bytes)) (s.terminator ∷ drop (suc m) (drop 3 bytes)), length-drop 3 bytes, length-take 3 bytes) in
    let is_content : content_of s (take n bytes) ≡ record { tag = take 3 bytes; elements = drop 1 (elements_of s false (take m (drop 3 bytes))) } =
    rw (← h.sum, take-take 3 (3 + m) bytes (omega arith), drop-take 3 m bytes) refl in
    let elements : ElementsText s (drop 1 (elements_of s false body)) body =
    elements_read s body (drop (suc m) (drop 3 bytes)) h.ends.inside (subst (λ (t : List ℕ). begins_elements s t ≡ true) h.ends.behind h.begins) in
    let behind : drop (suc m) (drop 3 bytes) ≡ drop (n + 1) bytes = drop-drop (suc m) 3 bytes ∙ ap (λ (k : ℕ). drop k bytes) (omega (arith, h.sum)) in
    let parts : bytes ≡ front ++ (body ++ s.terminator ∷ drop (n + 1) bytes) =
    sym (take-append-drop 3 bytes) ∙ ap (λ (t : List ℕ). front ++ t) (h.ends.behind ∙ ap (λ (t : List ℕ). body ++ s.terminator ∷ t) behind) in
    (front ++ body ++ s.terminator ∷ [], subst (λ (c : Content). SegmentText s c (front ++ body ++ s.terminator ∷ [])) (sym is_content) ((long, h.tag), body, elements, refl), parts ∙ regroup front body s.terminator (drop (n + 1) bytes))
  where
    regroup : (front body : List ℕ) (b : ℕ) (rest : List ℕ) → front ++ (body ++ b ∷ rest) ≡ (front ++ body ++ b ∷ []) ++ rest
    regroup front body b rest = simp append_assoc

begins_text : (s : Service) (elements : List (List (List ℕ))) (text rest : List ℕ) → ElementsText s elements text → begins_elements s (text ++ s.terminator ∷ rest) ≡ true
begins_text s [] text rest h = rw h (or_right _ _ (eq-eqb s.terminator s.terminator refl))
begins_text s (values ∷ elements) text rest (first, more, spelled, others, whole) = rw whole (or_left _ _ (eq-eqb s.element s.element refl))

pub segment_complete : (s : Service) (segment : Content) (text rest : List ℕ) → SegmentText s segment text → segment_at s (text ++ rest) ≡ Some (segment, rest)
segment_complete s segment text rest ((long, tag), elements, spelled, whole) =
    let behind : List ℕ = elements ++ s.terminator ∷ rest in
    let regrouped : text ++ rest ≡ segment.tag ++ behind = ap (λ (t : List ℕ). t ++ rest) whole ∙ simp append_assoc in
    let is = complete s segment.elements elements spelled in
    let has_len : body_len s (segment.tag ++ behind) ≡ Some (3 + length elements) =
    rw (take_at segment.tag behind 3 long, drop_at segment.tag behind 3 long, tag, begins_text s segment.elements elements rest spelled, end_complete s elements false rest is.0) refl in
    let in_front : segment.tag ++ behind ≡ (segment.tag ++ elements) ++ s.terminator ∷ rest = sym (append_assoc segment.tag elements (s.terminator ∷ rest)) in
    let body_is : take (3 + length elements) (segment.tag ++ behind) ≡ segment.tag ++ elements =
    ap (take (3 + length elements)) in_front ∙ take_at (segment.tag ++ elements) (s.terminator ∷ rest) (3 + length elements) (omega (arith, length-append segment.tag elements)) in
    let rest_is : drop (3 + length elements + 1) (segment.tag ++ behind) ≡ rest =
    ap (drop (3 + length elements + 1)) (simp append_assoc) ∙ drop_at (segment.tag ++ elements ++ s.terminator ∷ []) rest (3 + length elements + 1) (omega (arith, length-append (segment.tag ++ elements) (s.terminator ∷ []), length-append segment.tag elements)) in
    let content_is : content_of s (segment.tag ++ elements) ≡ segment =
    rw (take_at segment.tag elements 3 long, drop_at segment.tag elements 3 long, is.1) refl in
    ap (segment_at s) regrouped ∙ rw (has_len, body_is, rest_is, content_is) refl

-- ==== TestLemmas: A test that tells whether two lists of bytes are the same.

pub test_of_same : (b : Bool) (xs ys : List ℕ) → IsTrue b ↔ (xs ≡ ys) → b ≡ bytes_eq xs ys
test_of_same true xs ys h = sym ((bytes_eq-Decides xs ys).1 (h.0 refl))
test_of_same false xs ys h =
    elim (cases_Bool (bytes_eq xs ys)) [
      | inl is ↦ absurd (false≢true (h.1 ((bytes_eq-Decides xs ys).0 is)))
      | inr other ↦ sym other
    ]
