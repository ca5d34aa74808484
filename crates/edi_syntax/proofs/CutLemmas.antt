-- One byte more of an interchange.
use Rattle.std.{specs.Prelude.unwrap_or, proofs.{lemmas.Slice.Eq.bytes_eq-Decides, Math.Seq.take-add}}
use Rattle.std.proofs.Common.{◌≡◌, ℕ, ◌<◌, ◌≤◌, Bool, true, false, cond, not, ◌&&◌, nat_le, List, [], ◌∷◌, ◌++◌, length, take, drop, Some, None, refl, sym, ap, subst, ◌∙◌, inl, inr, arith, codes, Option, nat_lt, zero, suc, ◌+◌, ◌-◌, ◌==◌, get_or}
use Rattle.std.proofs.lemmas.Bool.{and_parts, true≢false, cases_Bool, le-leb, lt-leb, leb-true, le-ltb, false≢true, ltb-true, ltb-false, eq-eqb}
use Rattle.std.proofs.lemmas.List.{drop_all, length-append, length-take, take-take, take_all, take-append-le, take_more, length-take-le, length-drop}
use Rattle.edi_syntax.specs.Advice.{characters, advised_characters, may_be_used, default_service, service_with, has_advice, service_at, has_bad_advice, without_breaks}
use Rattle.edi_syntax.specs.{Characters.{begins_with_advice, is_data_byte, is_tag_byte, is_release}, declared.characters.Service.Service, Tokens.token_of}
use Rattle.edi_syntax.specs.Positions.{position_by, position_after, is_refused, inside_by, stops, Reads, Keeps, StayInside}
use Rattle.edi_syntax.specs.Cuts.{is_in_advice, breaks_advice, past_advice, position_of, fault_of, Cutting, is_whole, is_memory, pending_bytes, Answers, Fails, FaultsWithin, HasNoFault, IsOpen, IsOpenBefore, IsInterchange, Faults, FirstIsOne}
use Rattle.edi_syntax.specs.{declared.position.Position.Position, declared.position.Position.TheVariants.{Between, First, Second, Tagged, Inside, Refused}}
use Rattle.edi_syntax.specs.{declared.cutter.CutFault.TheVariants.{Segment, TooLong, Service as ServiceFault, Memory}, declared.cutter.CutFault.CutFault}
use Rattle.edi_syntax.{specs.declared.token.Token.TheVariants.{Data, Release, Component, Element, Terminator, Invalid}, proofs.AdviceLemmas.same_service}
use Rattle.edi_syntax.proofs.{PositionLemmas.after_append, SegmentsLemmas.tag_is_no_break}
use Rattle.edi_syntax.specs.Tokens as tokens
use Rattle.edi_syntax.specs.Positions as positions

-- ---- within an advice

pub no_fault : (text : List ℕ) → length text ≤ 1048576 → breaks_advice text ≡ false → is_refused (position_of text) ≡ false → fault_of text ≡ None
no_fault text short advice position = rw (le-ltb 1048576 (length text) short, advice, position) refl

-- the position after an advice and nothing more
position_within : (text : List ℕ) → is_in_advice text ≡ true → position_of text ≡ Between false
unfolding position_after
position_within text within =
    let parts = and_parts (begins_with_advice text) (nat_le (length text) 9) within in
    let nothing : drop 9 text ≡ [] = drop_all 9 text (leb-true (length text) 9 parts.1) in
    ap (λ (b : Bool). position_after (service_at text) (Between false) (cond b (drop 9 text) text)) parts.0
    ∙ ap (position_after (service_at text) (Between false)) nothing

within_limit : (text : List ℕ) → is_in_advice text ≡ true → length text ≤ 1048576
within_limit text within =
    let parts = and_parts (begins_with_advice text) (nat_le (length text) 9) within in
    let short = leb-true (length text) 9 parts.1 in omega arith

pub in_advice : (text : List ℕ) (s : Service) → characters s ≡ characters default_service → is_in_advice text ≡ true → length text < 9 → ((s ≡ service_at text) × (Between false ≡ position_of text) × (breaks_advice text ≡ false)) × (fault_of text ≡ None)
in_advice text s default within short =
    let parts = and_parts (begins_with_advice text) (nat_le (length text) 9) within in
    let none : has_advice text ≡ false = rw (parts.0, lt-leb 9 (length text) short) refl in
    let unbroken : breaks_advice text ≡ false = rw none refl in
    let position = position_within text within in
    let service : s ≡ service_at text = same_service s default_service default ∙ ap (λ (b : Bool). cond b (service_with (advised_characters text) (may_be_used (advised_characters text)) refl) default_service) (sym none) in
    ((service, sym position, unbroken), no_fault text (within_limit text within) unbroken (rw position refl))

-- the whole advice names good characters
good_advice : (text : List ℕ) → is_in_advice text ≡ true → 9 ≤ length text → has_bad_advice text ≡ not (may_be_used (advised_characters text))
good_advice text within long =
    let parts = and_parts (begins_with_advice text) (nat_le (length text) 9) within in
    rw (parts.0, le-leb 9 (length text) long) refl

broken_advice : (text : List ℕ) → is_in_advice text ≡ true → 9 ≤ length text → breaks_advice text ≡ not (may_be_used (advised_characters text))
broken_advice text within long =
    let parts = and_parts (begins_with_advice text) (nat_le (length text) 9) within in
    rw (parts.0, le-leb 9 (length text) long) refl

pub behind_whole_advice : (text : List ℕ) (s : Service) → is_in_advice text ≡ true → 9 ≤ length text → has_bad_advice text ≡ false → s ≡ service_at text → ((s ≡ service_at text) × (Between false ≡ position_of text) × (breaks_advice text ≡ false)) × (fault_of text ≡ None)
behind_whole_advice text s within long good service =
    let unbroken : breaks_advice text ≡ false = broken_advice text within long ∙ sym (good_advice text within long) ∙ good in
    let position = position_within text within in
    ((service, sym position, unbroken), no_fault text (within_limit text within) unbroken (rw position refl))

-- ---- one byte more

pub record Grows (before text : List ℕ) (b : ℕ) : Type 0 where
  pub service : service_at text ≡ service_at before
  pub position : position_of text ≡ position_by (service_at before) (position_of before) b
  pub breaks : breaks_advice text ≡ breaks_advice before

one_more : (s : Service) (position : Position) (bytes : List ℕ) (b : ℕ) → position_after s position (bytes ++ b ∷ []) ≡ position_by s (position_after s position bytes) b
unfolding position_after
one_more s position bytes b = after_append s position bytes (b ∷ [])

-- without an advice
grows_plain : (before : List ℕ) (b : ℕ) → begins_with_advice (before ++ b ∷ []) ≡ false → begins_with_advice before ≡ false → Grows before (before ++ b ∷ []) b
grows_plain before b after none = record {
  service = rw (after, none) refl;
  position = rw (after, none) (one_more default_service (Between false) before b);
  breaks = rw (after, none) refl;
}

short_is_plain : (text : List ℕ) → length text ≤ 2 → begins_with_advice text ≡ false
short_is_plain text short =
    elim (cases_Bool (begins_with_advice text)) [
      | inl is ↦ let same = (bytes_eq-Decides (take 3 text) (codes "UNA")).0 is in absurd (omega (arith, ap length same, length-take 3 text))
      | inr none ↦ none
    ]

not_within : (b c : Bool) → b && c ≡ false → c ≡ true → b ≡ false
not_within true c h is = absurd (true≢false (sym is ∙ h))
not_within false c h is = refl

-- before the end of an advice
grows_short : (before : List ℕ) (b : ℕ) → length before < 9 → is_in_advice (before ++ b ∷ []) ≡ false → (begins_with_advice (before ++ b ∷ []) ≡ false → begins_with_advice before ≡ false) → Grows before (before ++ b ∷ []) b
grows_short before b short outside shorter =
    let none : begins_with_advice (before ++ b ∷ []) ≡ false =
    not_within (begins_with_advice (before ++ b ∷ [])) (nat_le (length (before ++ b ∷ [])) 9) outside (le-leb (length (before ++ b ∷ [])) 9 (omega (arith, length-append before (b ∷ [])))) in
    grows_plain before b none (shorter none)

same_long : (a b c d e f g h i : ℕ) (rest : List ℕ) (x : ℕ) → has_advice (a ∷ b ∷ c ∷ d ∷ e ∷ f ∷ g ∷ h ∷ i ∷ rest ++ x ∷ []) ≡ has_advice (a ∷ b ∷ c ∷ d ∷ e ∷ f ∷ g ∷ h ∷ i ∷ rest)
same_long a b c d e f g h i rest x =
    rw (le-leb 9 (length (a ∷ b ∷ c ∷ d ∷ e ∷ f ∷ g ∷ h ∷ i ∷ rest)) (omega arith), le-leb 9 (length (a ∷ b ∷ c ∷ d ∷ e ∷ f ∷ g ∷ h ∷ i ∷ rest ++ x ∷ [])) (omega (arith, length-append rest (x ∷ [])))) refl

grows_long : (a b c d e f g h i : ℕ) (rest : List ℕ) (x : ℕ) → Grows (a ∷ b ∷ c ∷ d ∷ e ∷ f ∷ g ∷ h ∷ i ∷ rest) (a ∷ b ∷ c ∷ d ∷ e ∷ f ∷ g ∷ h ∷ i ∷ rest ++ x ∷ []) x
grows_long a b c d e f g h i rest x =
    elim (cases_Bool (begins_with_advice (a ∷ b ∷ c ∷ []))) [
      | inl is ↦
          let before : List ℕ = a ∷ b ∷ c ∷ d ∷ e ∷ f ∷ g ∷ h ∷ i ∷ rest in
          let text : List ℕ = a ∷ b ∷ c ∷ d ∷ e ∷ f ∷ g ∷ h ∷ i ∷ rest ++ x ∷ [] in
          let service : service_at text ≡ service_at before = ap (λ (v : Bool). cond v (service_with (advised_characters before) (may_be_used (advised_characters before)) refl) default_service) (same_long a b c d e f g h i rest x) in
          record {
            service = service;
            position = ap (λ (s : Service). position_after s (Between false) (past_advice text)) service
                ∙ ap (λ (v : Bool). position_after (service_at before) (Between false) (cond v (rest ++ x ∷ []) text)) is
                ∙ one_more (service_at before) (Between false) rest x
                ∙ sym (ap (λ (v : Bool). position_by (service_at before) (position_after (service_at before) (Between false) (cond v rest before)) x) is);
            breaks = ap (λ (v : Bool). v && not (may_be_used (advised_characters before))) (same_long a b c d e f g h i rest x);
          }
      | inr none ↦ grows_plain (a ∷ b ∷ c ∷ d ∷ e ∷ f ∷ g ∷ h ∷ i ∷ rest) x none none
    ]

pub grows : (before : List ℕ) (x : ℕ) → is_in_advice (before ++ x ∷ []) ≡ false → Grows before (before ++ x ∷ []) x
grows [] x out = grows_short [] x (omega arith) out (λ _. short_is_plain [] (omega arith))
grows (a ∷ []) x out = grows_short (a ∷ []) x (omega arith) out (λ _. short_is_plain (a ∷ []) (omega arith))
grows (a ∷ b ∷ []) x out = grows_short (a ∷ b ∷ []) x (omega arith) out (λ _. short_is_plain (a ∷ b ∷ []) (omega arith))
grows (a ∷ b ∷ c ∷ []) x out = grows_short (a ∷ b ∷ c ∷ []) x (omega arith) out (λ none. none)
grows (a ∷ b ∷ c ∷ d ∷ []) x out = grows_short (a ∷ b ∷ c ∷ d ∷ []) x (omega arith) out (λ none. none)
grows (a ∷ b ∷ c ∷ d ∷ e ∷ []) x out = grows_short (a ∷ b ∷ c ∷ d ∷ e ∷ []) x (omega arith) out (λ none. none)
grows (a ∷ b ∷ c ∷ d ∷ e ∷ f ∷ []) x out = grows_short (a ∷ b ∷ c ∷ d ∷ e ∷ f ∷ []) x (omega arith) out (λ none. none)
grows (a ∷ b ∷ c ∷ d ∷ e ∷ f ∷ g ∷ []) x out = grows_short (a ∷ b ∷ c ∷ d ∷ e ∷ f ∷ g ∷ []) x (omega arith) out (λ none. none)
grows (a ∷ b ∷ c ∷ d ∷ e ∷ f ∷ g ∷ h ∷ []) x out = grows_short (a ∷ b ∷ c ∷ d ∷ e ∷ f ∷ g ∷ h ∷ []) x (omega arith) out (λ none. none)
grows (a ∷ b ∷ c ∷ d ∷ e ∷ f ∷ g ∷ h ∷ i ∷ rest) x out = grows_long a b c d e f g h i rest x

not_refused : (p : Position) → (p ≡ Refused → ⊥) → is_refused p ≡ false
not_refused (Between closed) h = refl
not_refused (First closes) h = refl
not_refused (Second closes) h = refl
not_refused (Tagged closes) h = refl
not_refused (Inside released closes) h = refl
not_refused Refused h = absurd (h refl)

pub read_refused : (before text : List ℕ) (b : ℕ) → text ≡ before ++ b ∷ [] → breaks_advice before ≡ false → is_in_advice text ≡ false → length text ≤ 1048576 → position_by (service_at before) (position_of before) b ≡ Refused → fault_of text ≡ Some Segment
read_refused before text b is unbroken outside short refused =
    let g : Grows before text b = subst (λ (t : List ℕ). Grows before t b) (sym is) (grows before b (ap is_in_advice (sym is) ∙ outside)) in
    refused_fault text short (g.breaks ∙ unbroken) (g.position ∙ refused)
  where
    refused_fault : (text : List ℕ) → length text ≤ 1048576 → breaks_advice text ≡ false → position_of text ≡ Refused → fault_of text ≡ Some Segment
    refused_fault text short unbroken refused = rw (le-ltb 1048576 (length text) short, unbroken, refused) refl

pub read_further : (before text : List ℕ) (b : ℕ) → text ≡ before ++ b ∷ [] → breaks_advice before ≡ false → is_in_advice text ≡ false → length text ≤ 1048576 → (position_by (service_at before) (position_of before) b ≡ Refused → ⊥) → ((service_at before ≡ service_at text) × (position_by (service_at before) (position_of before) b ≡ position_of text) × (breaks_advice text ≡ false)) × (fault_of text ≡ None)
read_further before text b is unbroken outside short live =
    let g : Grows before text b = subst (λ (t : List ℕ). Grows before t b) (sym is) (grows before b (ap is_in_advice (sym is) ∙ outside)) in
    let unbroken' : breaks_advice text ≡ false = g.breaks ∙ unbroken in
    let position : is_refused (position_of text) ≡ false = ap is_refused g.position ∙ not_refused (position_by (service_at before) (position_of before) b) live in
    ((sym g.service, sym g.position, unbroken'), no_fault text short unbroken' position)

-- what is read after what was read before
pub record ReadsOn (before text : List ℕ) (b : ℕ) (s : Service) (position next : Position) : Type 0 where
  pub grown : text ≡ before ++ b ∷ []
  pub service : s ≡ service_at before
  pub here : position ≡ position_of before
  pub unbroken : breaks_advice before ≡ false
  pub outside : is_in_advice text ≡ false
  pub short : length text ≤ 1048576
  pub advanced : next ≡ position_by s position b

next_is : (before text : List ℕ) (b : ℕ) (s : Service) (position next : Position) → ReadsOn before text b s position next → next ≡ position_by (service_at before) (position_of before) b
next_is before text b s position next r = r.advanced ∙ ap (λ (s : Service). position_by s position b) r.service ∙ ap (λ (p : Position). position_by (service_at before) p b) r.here

pub on_refused : (before text : List ℕ) (b : ℕ) (s : Service) (position next : Position) → ReadsOn before text b s position next → next ≡ Refused → fault_of text ≡ Some Segment
on_refused before text b s position next r refused =
    read_refused before text b r.grown r.unbroken r.outside r.short (sym (next_is before text b s position next r) ∙ refused)

pub on_further : (before text : List ℕ) (b : ℕ) (s : Service) (position next : Position) → ReadsOn before text b s position next → (next ≡ Refused → ⊥) → ((s ≡ service_at text) × (next ≡ position_of text) × (breaks_advice text ≡ false)) × (fault_of text ≡ None)
on_further before text b s position next r live =
    let is = next_is before text b s position next r in
    let ((service, here, unbroken), none) = read_further before text b r.grown r.unbroken r.outside r.short (λ refused. live (is ∙ refused)) in
    ((r.service ∙ service, is ∙ here, unbroken), none)

-- ==== FeedLemmas: A piece comes after what is pending, or after a whole interchange.

-- what the loop knows before the byte at i
-- ---- the next interchange

pub nothing_open : is_whole [] ≡ false
unfolding position_after
nothing_open = refl

pub pending_open : (c : Cutting) → is_whole c.text ≡ false → pending_bytes c ≡ c.text
pending_open c h = rw h refl

pub pending_whole : (c : Cutting) → is_whole c.text ≡ true → pending_bytes c ≡ []
pending_whole c h = rw h refl

pub answers_anew : (q q' piece : List ℕ) (new new' : Cutting) (answer : Option ℕ) → q ≡ q' → new ≡ new' → Answers q' piece new' answer → Answers q piece new answer
answers_anew q q' piece new new' answer e f h =
    subst (λ (t : List ℕ). Answers t piece new answer) (sym e) (subst (λ (c : Cutting). Answers q' piece c answer) (sym f) h)

within_anew : (q q' piece : List ℕ) (new new' : Cutting) (fault : CutFault) → q ≡ q' → new ≡ new' → FaultsWithin q' piece new' fault → FaultsWithin q piece new fault
within_anew q q' piece new new' fault e f h =
    subst (λ (t : List ℕ). FaultsWithin t piece new fault) (sym e) (subst (λ (c : Cutting). FaultsWithin q' piece c fault) (sym f) h)

pub fails_anew : (old old' : Cutting) (q q' piece : List ℕ) (new new' : Cutting) (fault : CutFault) → is_memory fault ≡ false → q ≡ q' → new ≡ new' → Fails old' q' piece new' fault → Fails old q piece new fault
fails_anew old old' q q' piece new new' TooLong other e f h = within_anew q q' piece new new' TooLong e f h
fails_anew old old' q q' piece new new' ServiceFault other e f h = within_anew q q' piece new new' ServiceFault e f h
fails_anew old old' q q' piece new new' Segment other e f h = within_anew q q' piece new new' Segment e f h
fails_anew old old' q q' piece new new' Memory other e f h = absurd (true≢false other)

-- where memory is refused, what was there stays
pub stays : (old old' : Cutting) (q q' piece : List ℕ) (new' : Cutting) (fault : CutFault) → is_memory fault ≡ true → q ≡ q' → Fails old' q' piece new' fault → Fails old q piece old fault
stays old old' q q' piece new' TooLong memory e h = absurd (false≢true memory)
stays old old' q q' piece new' ServiceFault memory e h = absurd (false≢true memory)
stays old old' q q' piece new' Segment memory e h = absurd (false≢true memory)
stays old old' q q' piece new' Memory memory e (same, none) = (refl, subst (λ (t : List ℕ). HasNoFault (without_breaks (t ++ piece))) (sym e) none)

-- ==== FirstLemmas: The first interchange is one.

-- a shorter front is open
earlier : (bytes : List ℕ) (m n : ℕ) → length (take m bytes) < length (take n bytes) → IsOpenBefore (take n bytes) → IsOpen (take m bytes)
earlier bytes m n less before =
    let one = length-take m bytes in
    let other = length-take n bytes in
    subst IsOpen (take-take m n bytes (omega arith)) (before m (omega arith))

same_front : (bytes : List ℕ) (m n : ℕ) → m ≤ n → length (take m bytes) ≡ length (take n bytes) → take m bytes ≡ take n bytes
same_front bytes m n less same =
    let one = length-take m bytes in
    sym (take-take m n bytes less) ∙ take_all m (take n bytes) (omega arith)

equal_fronts : (bytes : List ℕ) (m n : ℕ) → length (take m bytes) ≡ length (take n bytes) → take m bytes ≡ take n bytes
equal_fronts bytes m n equal =
    elim (cases_Bool (nat_lt n m)) [
      | inl greater ↦ let less = ltb-true n m greater in sym (same_front bytes n m (omega arith) (sym equal))
      | inr smaller ↦ same_front bytes m n (ltb-false n m smaller) equal
    ]

same : (bytes : List ℕ) (m n : ℕ) → IsInterchange (take m bytes) → IsInterchange (take n bytes) → take m bytes ≡ take n bytes
same bytes m n (none, whole, before) (none', whole', before') =
    elim (cases_Bool (nat_lt (length (take m bytes)) (length (take n bytes)))) [
      | inl less ↦ absurd (true≢false (sym whole ∙ (earlier bytes m n (ltb-true _ _ less) before').1))
      | inr more ↦ elim (cases_Bool (nat_lt (length (take n bytes)) (length (take m bytes)))) [
        | inl less ↦ absurd (true≢false (sym whole' ∙ (earlier bytes n m (ltb-true _ _ less) before).1))
        | inr more' ↦
            let le = ltb-false (length (take m bytes)) (length (take n bytes)) more in
            let le' = ltb-false (length (take n bytes)) (length (take m bytes)) more' in
            equal_fronts bytes m n (omega arith)
      ]
    ]

no_fault_there : (text : List ℕ) (fault : CutFault) → fault_of text ≡ None → fault_of text ≡ Some fault → ⊥
no_fault_there text fault none some = let both = sym none ∙ some in absurd cc

apart : (bytes : List ℕ) (m n : ℕ) (fault : CutFault) → IsInterchange (take m bytes) → Faults (take n bytes) fault → ⊥
apart bytes m n fault (none, whole, before) (faulty, before') =
    elim (cases_Bool (nat_lt (length (take m bytes)) (length (take n bytes)))) [
      | inl less ↦ true≢false (sym whole ∙ (earlier bytes m n (ltb-true _ _ less) before').1)
      | inr more ↦ elim (cases_Bool (nat_lt (length (take n bytes)) (length (take m bytes)))) [
        | inl less ↦ no_fault_there (take n bytes) fault (earlier bytes n m (ltb-true _ _ less) before).0 faulty
        | inr more' ↦
            let le = ltb-false (length (take m bytes)) (length (take n bytes)) more in
            let le' = ltb-false (length (take n bytes)) (length (take m bytes)) more' in
            let equal : length (take m bytes) ≡ length (take n bytes) = omega arith in
            no_fault_there (take n bytes) fault (ap fault_of (sym (equal_fronts bytes m n equal)) ∙ none) faulty
      ]
    ]

pub first_is_one : FirstIsOne
first_is_one bytes m n first = (λ other. same bytes m n first other, λ fault faulty. apart bytes m n fault first faulty)

-- ==== ReadLemmas: Bytes are read one after the other, as far as a position that stops.

-- ---- among the elements

quiet : (release component element terminator plain closes : Bool) → plain ≡ true → terminator ≡ false → release ≡ false
    → inside_by (cond release Release (cond component Component (cond element Element (cond terminator Terminator (cond plain Data Invalid))))) closes ≡ Inside false closes
quiet true component element terminator plain closes is none r = absurd (true≢false r)
quiet false true element terminator plain closes is none r = refl
quiet false false true terminator plain closes is none r = refl
quiet false false false true plain closes is none r = absurd (true≢false none)
quiet false false false false true closes is none r = refl
quiet false false false false false closes is none r = absurd (false≢true is)

-- where there is no release character, the terminator stands for it
no_release : (release : Option ℕ) (terminator b : ℕ) → b == unwrap_or release terminator ≡ false → is_release release b ≡ false
no_release None terminator b other = refl
no_release (Some r) terminator b other = other

one_inside : (s : Service) (b : ℕ) → is_data_byte b ≡ true → b == s.terminator ≡ false → is_release s.release b ≡ false → (closes : Bool) → position_by s (Inside false closes) b ≡ Inside false closes
unfolding tokens.token_of
one_inside s b plain terminator r closes =
    quiet (is_release s.release b) (b == s.component) (b == s.element) (b == s.terminator) (is_data_byte b) closes plain terminator r

stays_alone : (s : Service) (b : ℕ) → is_data_byte b ≡ true → b == s.terminator ≡ false → is_release s.release b ≡ false → StayInside s (b ∷ [])
unfolding positions.position_after
stays_alone s b plain terminator r closes zero h = refl
stays_alone s b plain terminator r closes (suc zero) h = one_inside s b plain terminator r closes
stays_alone s b plain terminator r closes (suc (suc m)) h = absurd (omega (arith, h))

pub stays_one : (s : Service) (terminator release b : ℕ) → terminator ≡ s.terminator → release ≡ unwrap_or s.release terminator
    → is_data_byte b ≡ true → b == terminator ≡ false → b == release ≡ false → StayInside s (b ∷ [])
stays_one s terminator release b is_terminator is_release plain other another =
    stays_alone s b plain (subst (λ t. b == t ≡ false) is_terminator other)
    (no_release s.release terminator b (subst (λ r. b == r ≡ false) is_release another))

pub stays_more : (s : Service) (bytes : List ℕ) (b : ℕ) → StayInside s bytes → StayInside s (b ∷ []) → StayInside s (bytes ++ b ∷ [])
stays_more s bytes b all one closes m h =
    elim (cases_Bool (nat_lt (length bytes) m)) [
      | inl more ↦
          let past = ltb-true (length bytes) m more in
          let whole : take m (bytes ++ b ∷ []) ≡ bytes ++ b ∷ [] = take_all m (bytes ++ b ∷ []) (omega (arith, past, length-append bytes (b ∷ []))) in
          ap (position_after s (Inside false closes)) whole
          ∙ after_append s (Inside false closes) bytes (b ∷ [])
          ∙ ap (λ (p : Position). position_after s p (b ∷ [])) (ap (position_after s (Inside false closes)) (sym (take_all (length bytes) bytes (omega arith))) ∙ all closes (length bytes) (omega arith))
          ∙ one closes 1 (omega arith)
      | inr less ↦
          let within = ltb-false (length bytes) m less in
          ap (position_after s (Inside false closes)) (take-append-le m bytes (b ∷ []) within) ∙ all closes m within
    ]

pub stays_next : (s : Service) (bytes : List ℕ) (i : ℕ) → i < length bytes → StayInside s (take i bytes) → StayInside s (get_or bytes i 0 ∷ []) → StayInside s (take (i + 1) bytes)
stays_next s bytes i within all one = subst (StayInside s) (sym (take_more bytes i 0 within)) (stays_more s (take i bytes) (get_or bytes i 0) all one)

pub stays_nothing : (s : Service) → StayInside s []
unfolding positions.position_after
stays_nothing s closes zero h = refl
stays_nothing s closes (suc m) h = refl

pub keeps_inside : (s : Service) (closes : Bool) (bytes : List ℕ) (q : ℕ) → q ≤ length bytes → StayInside s (take q bytes) → Keeps s (Inside false closes) bytes q
keeps_inside s closes bytes q within all m h =
    ap (position_after s (Inside false closes)) (sym (take-take m q bytes h)) ∙ all closes m (omega (arith, h, length-take-le q bytes within))

pub keeps_none : (s : Service) (position : Position) (bytes : List ℕ) → Keeps s position bytes 0
unfolding positions.position_after
keeps_none s position bytes zero h = refl
keeps_none s position bytes (suc m) h = absurd (omega (arith, h))

-- ---- some bytes, and all

pub reads_one : (s : Service) (position : Position) (bytes : List ℕ) (q : ℕ) → stops position ≡ false → q < length bytes → Keeps s position bytes q → Reads s position bytes (q + 1) (position_by s position (get_or bytes q 0))
unfolding positions.position_after
reads_one s position bytes q going within keeps = record {
  within = omega (arith, within);
  leads = sym (ap (position_after s position) (take_more bytes q 0 within) ∙ after_append s position (take q bytes) (get_or bytes q 0 ∷ []) ∙ ap (λ (p : Position). position_by s p (get_or bytes q 0)) (keeps q (omega arith)));
  before = λ m h. ap stops (keeps m (omega (arith, h))) ∙ going;
}

pub reads_quiet : (s : Service) (position : Position) (bytes : List ℕ) (q : ℕ) → stops position ≡ false → q ≤ length bytes → Keeps s position bytes q → Reads s position bytes q position
reads_quiet s position bytes q going within keeps = record {
  within = within;
  leads = sym (keeps q (omega arith));
  before = λ m h. ap stops (keeps m (omega (arith, h))) ∙ going;
}

-- a tag and the separator after it
tag_of_four : (s : Service) (a b c d : ℕ) (rest : List ℕ) → is_tag_byte a ≡ true → is_tag_byte b ≡ true → is_tag_byte c ≡ true → d == s.element ≡ true
    → Reads s (Between false) (a ∷ b ∷ c ∷ d ∷ rest) 4 (Inside false (a == 85 && b == 78 && c == 90))
unfolding positions.position_after
tag_of_four s a b c d rest first second third separator = record {
  within = omega arith;
  leads = rw (tag_is_no_break a first, first, second, third, separator) refl;
  before = goes;
}
  where
    goes : (m : ℕ) → m < 4 → stops (position_after s (Between false) (take m (a ∷ b ∷ c ∷ d ∷ rest))) ≡ false
    goes zero h = refl
    goes (suc zero) h = rw (tag_is_no_break a first, first) refl
    goes (suc (suc zero)) h = rw (tag_is_no_break a first, first, second) refl
    goes (suc (suc (suc zero))) h = rw (tag_is_no_break a first, first, second, third) refl
    goes (suc (suc (suc (suc m)))) h = absurd (omega (arith, h))

pub reads_tag : (s : Service) (closed closes : Bool) (position : Position) (bytes : List ℕ) → position ≡ Between closed → stops position ≡ false → 4 ≤ length bytes
    → (is_tag_byte (get_or bytes 0 0) && is_tag_byte (get_or bytes 1 0) && is_tag_byte (get_or bytes 2 0)) ≡ true → get_or bytes 3 0 ≡ s.element
    → closes ≡ (get_or bytes 0 0 == 85 && get_or bytes 1 0 == 78 && get_or bytes 2 0 == 90)
    → Reads s position bytes 4 (Inside false closes)
reads_tag s closed closes position [] is going long tag separator last = absurd (omega (arith, long))
reads_tag s closed closes position (a ∷ []) is going long tag separator last = absurd (omega (arith, long))
reads_tag s closed closes position (a ∷ b ∷ []) is going long tag separator last = absurd (omega (arith, long))
reads_tag s closed closes position (a ∷ b ∷ c ∷ []) is going long tag separator last = absurd (omega (arith, long))
reads_tag s closed closes position (a ∷ b ∷ c ∷ d ∷ rest) is going long tag separator last =
    let bytes = a ∷ b ∷ c ∷ d ∷ rest in
    let running : closed ≡ false = sym (ap stops is) ∙ going in
    let all = and_parts (is_tag_byte a && is_tag_byte b) (is_tag_byte c) tag in
    let two = and_parts (is_tag_byte a) (is_tag_byte b) all.0 in
    subst (λ (p : Position). Reads s p bytes 4 (Inside false closes)) (sym (is ∙ ap Between running))
    (subst (λ (x : Bool). Reads s (Between false) bytes 4 (Inside false x)) (sym last) (tag_of_four s a b c d rest two.0 two.1 all.1 (eq-eqb d s.element separator)))

pub reads_nothing : (s : Service) (position : Position) (bytes : List ℕ) → Reads s position bytes 0 position
unfolding positions.position_after
reads_nothing s position bytes = record { within = omega arith; leads = refl; before = λ m h. absurd (omega (arith, h)) }

pub reads_more : (s : Service) (position between position' : Position) (bytes : List ℕ) (k n : ℕ) → Reads s position bytes k between → Reads s between (drop k bytes) n position' → Reads s position bytes (k + n) position'
reads_more s position between position' bytes k n first second = record {
  within = omega (arith, first.within, second.within, length-drop k bytes);
  leads = second.leads ∙ sym (joined n);
  before = λ m h. elim (cases_Bool (nat_lt m k)) [
    | inl less ↦ first.before m (ltb-true m k less)
    | inr more ↦
        let past = ltb-false m k more in
        let (j, is) = difference k m past in
        ap (λ (i : ℕ). stops (position_after s position (take i bytes))) is ∙ ap stops (joined j) ∙ second.before j (omega (arith, h, is))
  ];
}
  where
    joined : (j : ℕ) → position_after s position (take (k + j) bytes) ≡ position_after s between (take j (drop k bytes))
    joined j =
        ap (position_after s position) (take-add k j bytes) ∙ after_append s position (take k bytes) (take j (drop k bytes))
        ∙ ap (λ (p : Position). position_after s p (take j (drop k bytes))) (sym first.leads)

    difference : (k m : ℕ) → k ≤ m → (j : ℕ) × (m ≡ k + j)
    difference zero m h = (m, omega arith)
    difference (suc k) zero h = absurd (omega (arith, h))
    difference (suc k) (suc m) h = let (j, is) = difference k m (omega (arith, h)) in (j, omega (arith, is))

-- what is read of a part of the bytes
pub reads_rest : (s : Service) (position between position' : Position) (bytes : List ℕ) (k n : ℕ) → Reads s position bytes k between → Reads s between (take (length bytes - k) (drop k bytes)) n position' → Reads s position bytes (k + n) position'
reads_rest s position between position' bytes k n first second =
    reads_more s position between position' bytes k n first
    (subst (λ (t : List ℕ). Reads s between t n position') (take_all (length bytes - k) (drop k bytes) (omega (arith, length-drop k bytes))) second)
