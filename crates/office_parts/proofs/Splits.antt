-- Lists that are split in two by a test, of which one at most passes another.
use Rattle.std.specs.{Prelude.{Contains, find, filter, not, count_by, ◌==◌}, Option.option_or, List.AllByRecursion, Str.bytes_eq}
use Rattle.std.proofs.Common.{◌≡◌, ◌⊎◌, ℕ, ◌+◌, ◌≤◌, inl, inr, List, [], ◌∷◌, ◌++◌, map, Bool, true, false, cond, Option, None, Some, is_some, zero, suc, refl, sym, ap, ap₂, subst, ◌∙◌, arith, ◌<◌, is_none, length}
use Rattle.std.proofs.lemmas.List.Sums.{sum_by-append}
use Rattle.std.proofs.lemmas.Option.{same_Some}
use Rattle.std.proofs.lemmas.Bool.{and_parts, eqb-true}
use Rattle.std.proofs.lemmas.List.Elements.{filter-append}
use Rattle.office_history.proofs.Kept.{head_in, tail_in, count_more}
use Rattle.box6346.specs.declared.box_number.BoxNumber.{BoxNumber}
use Rattle.terminal_core.specs.{declared.visits.Departure.Departure, State.{is_open_visit, last_from, last_number, AreNumbered}, Step.closed_visit}
use Rattle.terminal_core.specs.Rows.{VisitContent, ChangeContent, visit_opened, visit_closed, placed_at, moved_to, removed_from, listed_on, line_done, unlisted}
use Rattle.terminal_core.specs.Changes.{visit_with_departure, TerminalRows, rows_with, rows_with_all, is_numbered, AreApplicable}
use Rattle.terminal_core.proofs.Open.{kept_number, last_pushed}
use Rattle.office_parts.specs.{OwnTerminal.{is_own, own_visits, IsOverOrStays, MayStay, IsOfOwn}, Laws.{ChangesAreOfOwn, OwnTerminalsAreSound}}

-- ---- options

pub some_is : {A : Type 0} (o : Option A) → is_some o ≡ true → (x : A) × (o ≡ Some x)
some_is None e = cc
some_is (Some x) e = (x, refl)

pub or_some : {A : Type 0} (o other : Option A) → is_some o ≡ true → option_or o other ≡ o
or_some None other e = cc
or_some (Some x) other e = refl

pub or_assoc : {A : Type 0} (a b c : Option A) → option_or (option_or a b) c ≡ option_or a (option_or b c)
or_assoc None b c = refl
or_assoc (Some x) b c = refl

-- ---- counting

pub count_both : {A : Type 0} (p : A → Bool) (xs ys : List A) → count_by p (xs ++ ys) ≡ count_by p xs + count_by p ys
count_both p xs ys = sum_by-append (λ y. cond (p y) 1 0) xs ys

pub none_at : {A : Type 0} (p : A → Bool) (xs : List A) → count_by p xs ≡ 0 → find p xs ≡ None
none_at p [] e = refl
none_at p (x ∷ xs) e = by (p x) refl (none_at p xs)
  where
    by : (is : Bool) → p x ≡ is → (count_by p xs ≡ 0 → find p xs ≡ None) → find p (x ∷ xs) ≡ None
    by true h rest = let more : count_by p (x ∷ xs) ≡ 1 + count_by p xs = count_more p x xs true h in absurd (omega (arith, more, e))
    by false h rest =
        let more : count_by p (x ∷ xs) ≡ 0 + count_by p xs = count_more p x xs false h in
        ap (λ b. cond b (Some x) (find p xs)) h ∙ rest (omega (arith, more, e))

pub counted_some : {A : Type 0} (p : A → Bool) (xs : List A) → is_some (find p xs) ≡ true → 1 ≤ count_by p xs
counted_some p xs e = by (count_by p xs) refl
  where
    by : (n : ℕ) → count_by p xs ≡ n → 1 ≤ n
    by zero none = let bad : is_some (find p xs) ≡ false = ap is_some (none_at p xs none) in cc
    by (suc n) some = omega arith

-- ---- a filter

-- what is found among what passes a test passes it
pub found_tested : {A : Type 0} (p q : A → Bool) (xs : List A) (i : A) → find p (filter q xs) ≡ Some i → q i ≡ true
found_tested p q [] i e = cc
found_tested p q (x ∷ xs) i e = by (q x) refl (p x) refl (found_tested p q xs i)
  where
    by : (has : Bool) → q x ≡ has → (is : Bool) → p x ≡ is → (find p (filter q xs) ≡ Some i → q i ≡ true) → q i ≡ true
    by true h true g rest =
        let here : Some x ≡ Some i = sym (ap (λ b. cond b (Some x) (find p (filter q xs))) g) ∙ sym (ap (λ b. find p (cond b (x ∷ filter q xs) (filter q xs))) h) ∙ e in
        ap q (sym (same_Some x i here)) ∙ h
    by true h false g rest = rest (sym (ap (λ b. cond b (Some x) (find p (filter q xs))) g) ∙ sym (ap (λ b. find p (cond b (x ∷ filter q xs) (filter q xs))) h) ∙ e)
    by false h is g rest = rest (sym (ap (λ b. find p (cond b (x ∷ filter q xs) (filter q xs))) h) ∙ e)

module _ {A : Type 0} (p q : A → Bool) where
  abbrev opposite : A → Bool
  opposite x = not (q x)

  find_cond : (x : A) (xs : List A) (has is : Bool) → p x ≡ is → find p (cond has (x ∷ xs) xs) ≡ cond has (cond is (Some x) (find p xs)) (find p xs)
  find_cond x xs true is e = ap (λ b. cond b (Some x) (find p xs)) e
  find_cond x xs false is e = refl

  count_cond : (x : A) (xs : List A) (has is : Bool) → p x ≡ is → count_by p (cond has (x ∷ xs) xs) ≡ cond has (cond is 1 0) 0 + count_by p xs
  count_cond x xs true is e = count_more p x xs is e
  count_cond x xs false is e = omega arith

  parted : (has is : Bool) (a b n : ℕ) → a + b ≡ n → (cond has (cond is 1 0) 0 + a) + (cond (not has) (cond is 1 0) 0 + b) ≡ cond is 1 0 + n
  parted true true a b n e = omega (arith, e)
  parted true false a b n e = omega (arith, e)
  parted false true a b n e = omega (arith, e)
  parted false false a b n e = omega (arith, e)

  pub split_counts : (xs : List A) → count_by p (filter q xs) + count_by p (filter opposite xs) ≡ count_by p xs
  split_counts [] = refl
  split_counts (x ∷ xs) =
      ap₂ (λ m n. m + n) (count_cond x (filter q xs) (q x) (p x) refl) (count_cond x (filter opposite xs) (not (q x)) (p x) refl)
      ∙ parted (q x) (p x) (count_by p (filter q xs)) (count_by p (filter opposite xs)) (count_by p xs) (split_counts xs)
      ∙ sym (count_more p x xs (p x) refl)

  one_half : (b : Bool) (x : A) (none other : Option A) → none ≡ None → other ≡ None → option_or (cond b (Some x) none) (cond (not b) (Some x) other) ≡ Some x
  one_half true x first other e f = refl
  one_half false x first other e f = ap (λ o. option_or o (Some x)) e

  same_half : (b : Bool) (o : Option A) → cond b o o ≡ o
  same_half true o = refl
  same_half false o = refl

  -- of the two halves the one finds it that has it
  pub split_finds : (xs : List A) → count_by p xs ≤ 1 → option_or (find p (filter q xs)) (find p (filter opposite xs)) ≡ find p xs
  split_finds [] few = refl
  split_finds (x ∷ xs) few = by (p x) refl (split_counts xs) (split_finds xs)
    where
      by : (is : Bool) → p x ≡ is → count_by p (filter q xs) + count_by p (filter opposite xs) ≡ count_by p xs
          → (count_by p xs ≤ 1 → option_or (find p (filter q xs)) (find p (filter opposite xs)) ≡ find p xs)
          → option_or (find p (filter q (x ∷ xs))) (find p (filter opposite (x ∷ xs))) ≡ find p (x ∷ xs)
      by true e counts rest =
          let more : count_by p (x ∷ xs) ≡ 1 + count_by p xs = count_more p x xs true e in
          let one : find p (filter q xs) ≡ None = none_at p (filter q xs) (omega (arith, more, few, counts)) in
          let other : find p (filter opposite xs) ≡ None = none_at p (filter opposite xs) (omega (arith, more, few, counts)) in
          ap₂ option_or (find_cond x (filter q xs) (q x) true e) (find_cond x (filter opposite xs) (not (q x)) true e)
          ∙ one_half (q x) x (find p (filter q xs)) (find p (filter opposite xs)) one other
          ∙ sym (ap (λ b. cond b (Some x) (find p xs)) e)
      by false e counts rest =
          let more : count_by p (x ∷ xs) ≡ 0 + count_by p xs = count_more p x xs false e in
          ap₂ option_or (find_cond x (filter q xs) (q x) false e ∙ same_half (q x) _) (find_cond x (filter opposite xs) (not (q x)) false e ∙ same_half (not (q x)) _)
          ∙ rest (omega (arith, more, few))
          ∙ sym (ap (λ b. cond b (Some x) (find p xs)) e)

  -- one that passes both is found in its half
  pub found_in_half : (xs : List A) (i : A) → count_by p xs ≤ 1 → find p xs ≡ Some i → q i ≡ true → find p (filter q xs) ≡ Some i
  found_in_half xs i few e has = by (find p (filter q xs)) refl
    where
      by : (o : Option A) → find p (filter q xs) ≡ o → find p (filter q xs) ≡ Some i
      by (Some j) is = is ∙ (sym (ap (λ o. option_or o (find p (filter opposite xs))) is) ∙ split_finds xs few ∙ e)
      by None is =
          let there : find p (filter opposite xs) ≡ Some i = sym (ap (λ o. option_or o (find p (filter opposite xs))) is) ∙ split_finds xs few ∙ e in
          let not_ : not (q i) ≡ true = found_tested p opposite xs i there in
          let no : not true ≡ true = sym (ap not has) ∙ not_ in
          cc

-- ---- having

-- it stands in the list
abbrev pub Has : {A : Type 0} → List A → A → Type 0
Has [] x = ⊥
Has (y ∷ ys) x = (y ≡ x) ⊎ Has ys x

pub has_contained : {A : Type 0} (xs : List A) (x : A) → Contains xs x → Has xs x
has_contained [] x (k, below, at) = absurd (omega (arith, below))
has_contained (y ∷ xs) x (zero, below, at) = inl at
has_contained (y ∷ xs) x (suc k, below, at) = inr (has_contained xs x (k, omega (arith, below), at))

pub contained_has : {A : Type 0} (xs : List A) (x : A) → Has xs x → Contains xs x
contained_has [] x has = absurd has
contained_has (y ∷ xs) x (inl here) = subst (Contains (y ∷ xs)) here (head_in y xs)
contained_has (y ∷ xs) x (inr later) = tail_in y x xs (contained_has xs x later)

pub has_left : {A : Type 0} (xs ys : List A) (x : A) → Has xs x → Has (xs ++ ys) x
has_left [] ys x has = absurd has
has_left (y ∷ xs) ys x (inl here) = inl here
has_left (y ∷ xs) ys x (inr later) = inr (has_left xs ys x later)

pub has_right : {A : Type 0} (xs ys : List A) (x : A) → Has ys x → Has (xs ++ ys) x
has_right [] ys x has = has
has_right (y ∷ xs) ys x has = inr (has_right xs ys x has)

pub has_pushed : {A : Type 0} (xs : List A) (v x : A) → Has (xs ++ v ∷ []) x → Has xs x ⊎ (v ≡ x)
has_pushed [] v x (inl here) = inr here
has_pushed [] v x (inr later) = absurd later
has_pushed (y ∷ xs) v x (inl here) = inl (inl here)
has_pushed (y ∷ xs) v x (inr later) = elim (has_pushed xs v x later) [ inl old ↦ inl (inr old) | inr new ↦ inr new ]

pub has_mapped : {A : Type 0} (f : A → A) (xs : List A) (y : A) → Has (map f xs) y → (x : A) × Has xs x × (f x ≡ y)
has_mapped f [] y has = absurd has
has_mapped f (x ∷ xs) y (inl here) = (x, inl refl, here)
has_mapped f (x ∷ xs) y (inr later) = let rest = has_mapped f xs y later in (rest.0, inr rest.1, rest.2)

pub has_filtered : {A : Type 0} (q : A → Bool) (xs : List A) (x : A) → Has xs x → q x ≡ true → Has (filter q xs) x
has_filtered q [] x has is = absurd has
has_filtered q (y ∷ xs) x (inl here) is = subst (λ b. Has (cond b (y ∷ filter q xs) (filter q xs)) x) (sym (ap q here ∙ is)) (inl here)
has_filtered q (y ∷ xs) x (inr later) is = past (q y) (has_filtered q xs x later is)
  where
    past : (b : Bool) → Has (filter q xs) x → Has (cond b (y ∷ filter q xs) (filter q xs)) x
    past true has = inr has
    past false has = has

-- and the other way round
pub had_both : {A : Type 0} (xs ys : List A) (x : A) → Has (xs ++ ys) x → Has xs x ⊎ Has ys x
had_both [] ys x has = inr has
had_both (y ∷ xs) ys x (inl here) = inl (inl here)
had_both (y ∷ xs) ys x (inr later) = elim (had_both xs ys x later) [ inl one ↦ inl (inr one) | inr other ↦ inr other ]

pub had_filtered : {A : Type 0} (q : A → Bool) (xs : List A) (x : A) → Has (filter q xs) x → Has xs x × (q x ≡ true)
had_filtered q [] x has = absurd has
had_filtered q (y ∷ xs) x has = by (q y) refl has (had_filtered q xs x)
  where
    by : (b : Bool) → q y ≡ b → Has (cond b (y ∷ filter q xs) (filter q xs)) x → (Has (filter q xs) x → Has xs x × (q x ≡ true)) → Has (y ∷ xs) x × (q x ≡ true)
    by true e (inl here) rest = (inl here, ap q (sym here) ∙ e)
    by true e (inr later) rest = (inr (rest later).0, (rest later).1)
    by false e later rest = (inr (rest later).0, (rest later).1)

pub has_image : {A : Type 0} (f : A → A) (xs : List A) (x : A) → Has xs x → f x ≡ x → Has (map f xs) x
has_image f [] x has same = absurd has
has_image f (y ∷ xs) x (inl here) same = inl (ap f here ∙ same)
has_image f (y ∷ xs) x (inr later) same = inr (has_image f xs x later same)

-- ==== Lists: Lists of visits of which some are left out.

-- ---- the last number

pub closed_number : (departure : Departure) (b : BoxNumber) (visit : VisitContent) → (closed_visit departure b visit).number ≡ visit.number
closed_number departure b visit = kept_number departure visit (is_open_visit b visit)

pub as_number : (number : ℕ) (departure : Departure) (visit : VisitContent) → (visit_with_departure number departure visit).number ≡ visit.number
as_number number departure visit = kept_number departure visit (visit.number == number)

still_closed : (departure : Departure) (visit : VisitContent) (is : Bool) → is_some visit.departure ≡ true → is_some (cond is (record visit { departure = Some departure }) visit).departure ≡ true
still_closed departure visit true e = refl
still_closed departure visit false e = e

-- what keeps the numbers of visits, and keeps closed what is closed
pub record Keeps (f : VisitContent → VisitContent) : Type 0 where
  pub number : (visit : VisitContent) → (f visit).number ≡ visit.number
  pub closed : (visit : VisitContent) → is_some visit.departure ≡ true → is_some (f visit).departure ≡ true

pub closing_keeps : (departure : Departure) (b : BoxNumber) → Keeps (closed_visit departure b)
closing_keeps departure b = record { number = closed_number departure b; closed = λ visit. still_closed departure visit (is_open_visit b visit) }

pub as_keeps : (number : ℕ) (departure : Departure) → Keeps (visit_with_departure number departure)
as_keeps number departure = record { number = as_number number departure; closed = λ visit. still_closed departure visit (visit.number == number) }

module _ (f : VisitContent → VisitContent) (keeps : Keeps f) where
  pub last_mapped : (n : ℕ) (visits : List VisitContent) → last_from n (map f visits) ≡ last_from n visits
  last_mapped n [] = refl
  last_mapped n (v ∷ visits) = ap (λ m. last_from m (map f visits)) (keeps.number v) ∙ last_mapped v.number visits

-- ---- what is kept

module _ (stays : ℕ → Bool) where
  pub kept_pushed : (visits : List VisitContent) (v : VisitContent) → stays v.number ≡ true → own_visits stays (visits ++ v ∷ []) ≡ own_visits stays visits ++ v ∷ []
  kept_pushed visits v e = filter-append (is_own stays) visits (v ∷ []) ∙ ap (λ b. own_visits stays visits ++ cond b (v ∷ []) []) e

  mapped_cond : (f : VisitContent → VisitContent) (b : Bool) (v : VisitContent) (visits : List VisitContent) → map f (cond b (v ∷ visits) visits) ≡ cond b (f v ∷ map f visits) (map f visits)
  mapped_cond f true v visits = refl
  mapped_cond f false v visits = refl

  pub kept_mapped : (f : VisitContent → VisitContent) (keeps : Keeps f) (visits : List VisitContent) → own_visits stays (map f visits) ≡ map f (own_visits stays visits)
  kept_mapped f keeps [] = refl
  kept_mapped f keeps (v ∷ visits) =
      ap (λ n. cond (stays n) (f v ∷ own_visits stays (map f visits)) (own_visits stays (map f visits))) (keeps.number v)
      ∙ ap (λ l. cond (stays v.number) (f v ∷ l) l) (kept_mapped f keeps visits)
      ∙ sym (mapped_cond f (stays v.number) v (own_visits stays visits))

  -- a visit that is open stays
  pub open_stays : (b : BoxNumber) (v : VisitContent) (stay : Bool) → stays v.number ≡ stay → IsOverOrStays stays v → is_open_visit b v ≡ true → stay ≡ true
  open_stays b v true e closed is = refl
  open_stays b v false e closed is =
      let went : is_some v.departure ≡ true = closed e in
      let open_ : is_none v.departure ≡ true = (and_parts (bytes_eq v.container b) (is_none v.departure) is).1 in
      by v.departure went open_
    where
      by : (d : Option Departure) → is_some d ≡ true → is_none d ≡ true → false ≡ true
      by None went open_ = went
      by (Some d) went open_ = open_

  skipped : (stay is : Bool) (v : VisitContent) (o : Option VisitContent) (p : VisitContent → Bool) (visits : List VisitContent) → p v ≡ is → (is ≡ true → stay ≡ true) → find p visits ≡ o
      → find p (cond stay (v ∷ visits) visits) ≡ cond is (Some v) o
  skipped true is v o p visits e then rest = ap (λ b. cond b (Some v) (find p visits)) e ∙ ap (cond is (Some v)) rest
  skipped false true v o p visits e then rest = let bad : false ≡ true = then refl in cc
  skipped false false v o p visits e then rest = rest

  pub open_kept : (b : BoxNumber) (visits : List VisitContent) → AllByRecursion (IsOverOrStays stays) visits → find (is_open_visit b) (own_visits stays visits) ≡ find (is_open_visit b) visits
  open_kept b [] all = refl
  open_kept b (v ∷ visits) all =
      skipped (stays v.number) (is_open_visit b v) v (find (is_open_visit b) visits) (is_open_visit b) (own_visits stays visits) refl (open_stays b v (stays v.number) refl all.0) (open_kept b visits all.1)

  -- ---- it may stay so

  all_pushed : (visits : List VisitContent) (v : VisitContent) → stays v.number ≡ true → AllByRecursion (IsOverOrStays stays) visits → AllByRecursion (IsOverOrStays stays) (visits ++ v ∷ [])
  all_pushed [] v e all = ((λ no. let bad : true ≡ false = sym e ∙ no in cc), tt)
  all_pushed (w ∷ visits) v e all = (all.0, all_pushed visits v e all.1)

  all_mapped : (f : VisitContent → VisitContent) (keeps : Keeps f) (visits : List VisitContent) → AllByRecursion (IsOverOrStays stays) visits → AllByRecursion (IsOverOrStays stays) (map f visits)
  all_mapped f keeps [] all = tt
  all_mapped f keeps (v ∷ visits) all = ((λ no. keeps.closed v (all.0 (sym (ap stays (keeps.number v)) ∙ no))), all_mapped f keeps visits all.1)

  pub pushed_stays : (visits : List VisitContent) (v : VisitContent) → last_number visits < v.number → MayStay stays visits → MayStay stays (visits ++ v ∷ [])
  pushed_stays visits v beyond may =
      let own : stays v.number ≡ true = may.later v.number beyond in
      let end : last_number (visits ++ v ∷ []) ≡ v.number = last_pushed 0 visits v in
      record {
        over = all_pushed visits v own may.over;
        later = λ number far. may.later number (omega (arith, far, end, beyond));
        newest = ap last_number (kept_pushed visits v own) ∙ last_pushed 0 (own_visits stays visits) v ∙ sym end;
      }

  pub mapped_stays : (f : VisitContent → VisitContent) (keeps : Keeps f) (visits : List VisitContent) → MayStay stays visits → MayStay stays (map f visits)
  mapped_stays f keeps visits may =
      let same : last_number (map f visits) ≡ last_number visits = last_mapped f keeps 0 visits in
      record {
        over = all_mapped f keeps visits may.over;
        later = λ number far. may.later number (omega (arith, far, same));
        newest = ap last_number (kept_mapped f keeps visits) ∙ last_mapped f keeps 0 (own_visits stays visits) ∙ may.newest ∙ sym same;
      }

-- ==== Spared: Changes leave alone the visits that were put away.

module _ (stays : ℕ → Bool) where
  open_one : (stay : Bool) (v : VisitContent) → stays v.number ≡ stay → IsOverOrStays stays v → v.departure ≡ None → stay ≡ true
  open_one true v e closed none = refl
  open_one false v e closed none = let no : is_some v.departure ≡ false = ap is_some none in let yes : is_some v.departure ≡ true = closed e in cc

  -- the one visit of a number, which is open, stays
  one_stays : (number : ℕ) (visits : List VisitContent) (v : VisitContent) → AllByRecursion (IsOverOrStays stays) visits → filter (is_numbered number) visits ≡ v ∷ [] → v.departure ≡ None → stays number ≡ true
  one_stays number [] v all only none = cc
  one_stays number (w ∷ visits) v all only none = by (w.number == number) refl (λ later. one_stays number visits v all.1 later none)
    where
      by : (is : Bool) → (w.number == number) ≡ is → (filter (is_numbered number) visits ≡ v ∷ [] → stays number ≡ true) → stays number ≡ true
      by true e rest =
          let here : w ∷ filter (is_numbered number) visits ≡ v ∷ [] = sym (ap (λ b. cond b (w ∷ filter (is_numbered number) visits) (filter (is_numbered number) visits)) e) ∙ only in
          let same : w ≡ v = cc in
          let own : w.number ≡ number = eqb-true w.number number e in
          ap stays (sym own) ∙ open_one (stays w.number) w refl all.0 (ap (λ (u : VisitContent). u.departure) same ∙ none)
      by false e rest =
          let later : filter (is_numbered number) visits ≡ v ∷ [] = sym (ap (λ b. cond b (w ∷ filter (is_numbered number) visits) (filter (is_numbered number) visits)) e) ∙ only in
          rest later

  abbrev Spares : TerminalRows → List ChangeContent → Type 0
  Spares rows changes = AllByRecursion (IsOfOwn stays) changes × MayStay stays (rows_with_all rows changes).visits

  spared : (changes : List ChangeContent) (rows : TerminalRows) → MayStay stays rows.visits → AreApplicable rows changes → Spares rows changes
  spared [] rows may fits = (tt, may)
  spared (visit_opened visit ∷ changes) rows may fits =
      let next : visit.number ≡ last_number rows.visits + 1 = fits.0.next in
      let beyond : last_number rows.visits < visit.number = omega arith in
      let rest = spared changes (rows_with rows (visit_opened visit)) (pushed_stays stays rows.visits visit beyond may) fits.1 in
      ((may.later visit.number beyond, rest.0), rest.1)
  spared (visit_closed number departure ∷ changes) rows may fits =
      let keeps = as_keeps number departure in
      let rest = spared changes (rows_with rows (visit_closed number departure)) (mapped_stays stays (visit_with_departure number departure) keeps rows.visits may) fits.1 in
      ((one_stays number rows.visits fits.0.visit may.over fits.0.only fits.0.stays, rest.0), rest.1)
  spared (placed_at container visit slot ∷ changes) rows may fits = let rest = spared changes (rows_with rows (placed_at container visit slot)) may fits.1 in ((tt, rest.0), rest.1)
  spared (moved_to container slot ∷ changes) rows may fits = let rest = spared changes (rows_with rows (moved_to container slot)) may fits.1 in ((tt, rest.0), rest.1)
  spared (removed_from container ∷ changes) rows may fits = let rest = spared changes (rows_with rows (removed_from container)) may fits.1 in ((tt, rest.0), rest.1)
  spared (listed_on call side container port ∷ changes) rows may fits = let rest = spared changes (rows_with rows (listed_on call side container port)) may fits.1 in ((tt, rest.0), rest.1)
  spared (line_done call side container ∷ changes) rows may fits = let rest = spared changes (rows_with rows (line_done call side container)) may fits.1 in ((tt, rest.0), rest.1)
  spared (unlisted call side container ∷ changes) rows may fits = let rest = spared changes (rows_with rows (unlisted call side container)) may fits.1 in ((tt, rest.0), rest.1)

pub changes_spared : ChangesAreOfOwn
changes_spared stays rows changes may fits = spared stays changes rows may fits

-- ==== Wholes: The store's own terminal is as sound as the whole one.

-- ---- numbers

lower : (above low : ℕ) (visits : List VisitContent) → low ≤ above → AreNumbered above visits → AreNumbered low visits
lower above low [] below numbered = tt
lower above low (v ∷ visits) below numbered = (omega (arith, below, numbered.0), numbered.1)

pub own_rise : (stays : ℕ → Bool) (above : ℕ) (visits : List VisitContent) → AreNumbered above visits → AreNumbered above (own_visits stays visits)
own_rise stays above [] numbered = tt
own_rise stays above (v ∷ visits) numbered = by (stays v.number) (own_rise stays v.number visits numbered.1)
  where
    by : (b : Bool) → AreNumbered v.number (own_visits stays visits) → AreNumbered above (cond b (v ∷ own_visits stays visits) (own_visits stays visits))
    by true rest = (numbered.0, rest)
    by false rest = lower v.number above (own_visits stays visits) (omega (arith, numbered.0)) rest

-- ---- open visits

-- each open visit of a container stays
open_own : (stays : ℕ → Bool) (b : BoxNumber) (visits : List VisitContent) → AllByRecursion (IsOverOrStays stays) visits → filter (is_open_visit b) (own_visits stays visits) ≡ filter (is_open_visit b) visits
open_own stays b [] over = refl
open_own stays b (v ∷ visits) over = by (stays v.number) (is_open_visit b v) refl refl (open_own stays b visits over.1)
  where
    by : (own is : Bool) → stays v.number ≡ own → is_open_visit b v ≡ is → filter (is_open_visit b) (own_visits stays visits) ≡ filter (is_open_visit b) visits
        → filter (is_open_visit b) (cond own (v ∷ own_visits stays visits) (own_visits stays visits)) ≡ cond is (v ∷ filter (is_open_visit b) visits) (filter (is_open_visit b) visits)
    by true is e f rest = ap (λ c. cond c (v ∷ filter (is_open_visit b) (own_visits stays visits)) (filter (is_open_visit b) (own_visits stays visits))) f ∙ ap (λ l. cond is (v ∷ l) l) rest
    by false false e f rest = rest
    by false true e f rest = let bad : false ≡ true = open_stays stays b v false e over.0 f in cc

-- ---- all of it

pub own_sound : OwnTerminalsAreSound
own_sound stays state whole formed may = (
  record {
    plan = whole.plan;
    sound = whole.sound;
    numbered = own_rise stays 0 state.visits whole.numbered;
    within = subst (λ n. n ≤ state.limit) (sym may.newest) whole.within;
    one_visit = λ container. subst (λ l. length l ≤ 1) (sym (open_own stays container state.visits may.over)) (whole.one_visit container);
    here = λ container. whole.here container ∙ ap is_some (sym (open_kept stays container state.visits may.over));
    as_told = λ container w visit stands here. whole.as_told container w visit stands (sym (open_kept stays container state.visits may.over) ∙ here);
  },
  record {
    visits = λ visit inside. formed.visits visit (contained_has state.visits visit (had_filtered (is_own stays) state.visits visit (has_contained (own_visits stays state.visits) visit inside)).0);
    lines = formed.lines;
    slots = formed.slots;
  },
)
