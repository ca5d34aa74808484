-- The places of open visits, by their containers.
use Rattle.std.specs.{Prelude.{slice_get, Contains, find, count_by, IsOk, OnOk, slice_set, filter, ◌&&◌, not}, List.{AllZip, each_same}, Array.AllZipBelow}
use Rattle.std.{specs.{Str.bytes_eq, Map.lookup, Cmp.eq_by_cmp_equiv, Cmp.Lexicographic.nat_list_cmp_total}, proofs.lemmas.Bool.and_parts}
use Rattle.std.proofs.Common.{◌≡◌, ℕ, ◌+◌, ◌<◌, ◌≤◌, zero, suc, List, [], ◌∷◌, ◌++◌, length, take, Bool, true, false, cond, Option, None, Some, is_some, refl, sym, ap, ◌∙◌, arith, get_or, map, Result, Ok, Err, is_none, subst, ◌⊎◌, inl, inr, ◌-◌}
use Rattle.std.proofs.lemmas.Option.{same_Some, none-some, slice_get-get_or, slice_get_within}
use Rattle.std.proofs.lemmas.List.Sums.{sum_by-cons, sum_by_push, sum_by_more_le, get_or-le-sum_by}
use Rattle.std.proofs.lemmas.List.{take_more, map-append, length-map, length-take-le}
use Rattle.terminal_core.specs.{declared.visits.Departure.Departure, declared.visits.Visit.Visit, Rows.{VisitContent, visit_content}, State.is_open_visit}
use Rattle.terminal_core.specs.{Step.{closed_visit, number_of_visit}, Calls.HasOneVisit, Index.AreIndexed, Counts.is_closed}
use Rattle.terminal_core.proofs.Whole.{contained, found_at, closes, finds, row_at}
use Rattle.terminal_core.proofs.Open.{same_bytes, same_self, closed_open, tied, in_removed, and_true, and_turned}
use Rattle.box6346.specs.declared.box_number.BoxNumber.{BoxNumber}
use Rattle.yard_core.specs.YardMap.{Box, Boxes}
use Rattle.std.specs.FinMap as finite_map

-- ==== Counted: How many of a list pass a test.

abbrev pub counts : Bool → ℕ
counts v = cond v 1 0

pub one_if : (v : Bool) → v ≡ true → counts v ≡ 1
one_if true e = refl
one_if false e = cc

pub none_if : (v : Bool) → v ≡ false → counts v ≡ 0
none_if true e = cc
none_if false e = refl

pub same_tests : (a b : Bool) → (a ≡ true → b ≡ true) → (b ≡ true → a ≡ true) → a ≡ b
same_tests true b h g = sym (h refl)
same_tests false true h g = g refl
same_tests false false h g = refl

pub some_or_none : {A : Type 0} (o : Option A) → ((x : A) → o ≡ Some x → ⊥) → o ≡ None
some_or_none None h = refl
some_or_none (Some x) h = absurd (h x refl)

pub some_of : {A : Type 0} (o : Option A) → is_some o ≡ true → (x : A) × (o ≡ Some x)
some_of None e = absurd (cc)
some_of (Some x) e = (x, refl)

module _ {A : Type 0} (p : A → Bool) where
  pub counted_more : (xs : List A) (x : A) → count_by p (xs ++ x ∷ []) ≡ count_by p xs + counts (p x)
  counted_more xs x = sum_by_push (λ y. counts (p y)) xs x

  counted_first : (x : A) (xs : List A) → count_by p (x ∷ xs) ≡ counts (p x) + count_by p xs
  counted_first x xs = sum_by-cons (λ y. counts (p y)) x xs

  pub some_counted : (xs : List A) (x : A) → Contains xs x → p x ≡ true → 1 ≤ count_by p xs
  some_counted xs x (k, low, at) is =
      let e : counts (p (get_or xs k x)) ≡ 1 = one_if (p (get_or xs k x)) (ap p at ∙ is) in
      let f : counts (p (get_or xs k x)) ≤ count_by p xs = get_or-le-sum_by (λ y. counts (p y)) xs k x low in
      omega arith

  -- where one counts at most, none comes before it
  pub none_before_one : (xs : List A) (i : ℕ) (x : A) → count_by p xs ≤ 1 → i < length xs → x ≡ get_or xs i x → p x ≡ true → count_by p (take i xs) ≡ 0
  none_before_one xs i x few low at is =
      let e : counts (p (get_or xs i x)) ≡ 1 = one_if (p (get_or xs i x)) (ap p (sym at) ∙ is) in
      let f : count_by p (take i xs) + counts (p (get_or xs i x)) ≤ count_by p xs = sum_by_more_le (λ y. counts (p y)) xs i x low in
      omega arith

  pub none_counted : (xs : List A) → ((k : ℕ) (x : A) → slice_get xs k ≡ Some x → p x ≡ false) → count_by p xs ≡ 0
  none_counted [] h = refl
  none_counted (x ∷ xs) h =
      let e : count_by p (x ∷ xs) ≡ counts (p x) + count_by p xs = counted_first x xs in
      let f : counts (p x) ≡ 0 = none_if (p x) (h 0 x refl) in
      let g : count_by p xs ≡ 0 = none_counted xs (λ k y at. h (suc k) y at) in
      omega arith

  pub one_place : (xs : List A) (j k : ℕ) (x y : A) → count_by p xs ≤ 1 → slice_get xs j ≡ Some x → slice_get xs k ≡ Some y → p x ≡ true → p y ≡ true → j ≡ k
  one_place [] j k x y few at also is too = cc
  one_place (z ∷ xs) zero zero x y few at also is too = refl
  one_place (z ∷ xs) zero (suc k) x y few at also is too =
      let e : count_by p (z ∷ xs) ≡ counts (p z) + count_by p xs = counted_first z xs in
      let f : counts (p z) ≡ 1 = one_if (p z) (ap p (same_Some z x at) ∙ is) in
      let g : 1 ≤ count_by p xs = some_counted xs y (contained xs k y also) too in
      absurd (omega arith)
  one_place (z ∷ xs) (suc j) zero x y few at also is too =
      let e : count_by p (z ∷ xs) ≡ counts (p z) + count_by p xs = counted_first z xs in
      let f : counts (p z) ≡ 1 = one_if (p z) (ap p (same_Some z y also) ∙ too) in
      let g : 1 ≤ count_by p xs = some_counted xs x (contained xs j x at) is in
      absurd (omega arith)
  one_place (z ∷ xs) (suc j) (suc k) x y few at also is too =
      let e : count_by p (z ∷ xs) ≡ counts (p z) + count_by p xs = counted_first z xs in
      let g : count_by p xs ≤ 1 = omega arith in
      ap suc (one_place xs j k x y g at also is too)

  pub one_passes : (xs : List A) (x y : A) → count_by p xs ≤ 1 → Contains xs x → Contains xs y → p x ≡ true → p y ≡ true → x ≡ y
  one_passes xs x y few inside within is too =
      let same : inside.0 ≡ within.0 = one_place xs inside.0 within.0 x y few (found_at xs x inside) (found_at xs y within) is too in
      same_Some x y (sym (found_at xs x inside) ∙ ap (slice_get xs) same ∙ found_at xs y within)

  pub at_most_one : (xs : List A) → ((j k : ℕ) (x y : A) → slice_get xs j ≡ Some x → slice_get xs k ≡ Some y → p x ≡ true → p y ≡ true → j ≡ k) → count_by p xs ≤ 1
  at_most_one [] h = omega arith
  at_most_one (x ∷ xs) h =
      let e : count_by p (x ∷ xs) ≡ counts (p x) + count_by p xs = counted_first x xs in
      elim (p x) as (λ v. p x ≡ v → count_by p (x ∷ xs) ≤ 1) [
        | true ↦ λ is.
            let f : counts (p x) ≡ 1 = one_if (p x) is in
            let g : count_by p xs ≡ 0 = none_counted xs (λ k y at.
            elim (p y) as (λ v. p y ≡ v → v ≡ false) [
              | true ↦ λ too. (let bad : 0 ≡ suc k = h 0 (suc k) x y refl at is too in absurd (omega arith))
              | false ↦ λ not. refl
            ] refl) in
            omega arith
        | false ↦ λ isnt.
            let f : counts (p x) ≡ 0 = none_if (p x) isnt in
            let g : count_by p xs ≤ 1 = at_most_one xs (λ j k y z at also is too. (let s : suc j ≡ suc k = h (suc j) (suc k) y z at also is too in omega arith)) in
            omega arith
      ] refl

  -- ---- the first that passes

  found_when : (v : Bool) (x : A) (o : Option A) → v ≡ true → is_some (cond v (Some x) o) ≡ true
  found_when true x o e = refl
  found_when false x o e = cc

  found_then : (v : Bool) (x : A) (o : Option A) → is_some o ≡ true → is_some (cond v (Some x) o) ≡ true
  found_then true x o e = refl
  found_then false x o e = e

  pub is_found : (xs : List A) (k : ℕ) (x : A) → slice_get xs k ≡ Some x → p x ≡ true → is_some (find p xs) ≡ true
  is_found [] k x at is = cc
  is_found (y ∷ xs) zero x at is = found_when (p y) y (find p xs) (ap p (same_Some y x at) ∙ is)
  is_found (y ∷ xs) (suc k) x at is = found_then (p y) y (find p xs) (is_found xs k x at is)

  pub found_is : (xs : List A) (x : A) → find p xs ≡ Some x → (k : ℕ) × (slice_get xs k ≡ Some x) × (p x ≡ true)
  found_is [] x e = absurd (cc)
  found_is (y ∷ xs) x e =
      elim (p y) as (λ v. p y ≡ v → cond v (Some y) (find p xs) ≡ Some x → (k : ℕ) × (slice_get (y ∷ xs) k ≡ Some x) × (p x ≡ true)) [
        | true ↦ λ is f. (zero, f, ap p (sym (same_Some y x f)) ∙ is)
        | false ↦ λ isnt f. (let rest = found_is xs x f in (suc rest.0, rest.1, rest.2))
      ] refl e

pub none_of : {A : Type 0} (o : Option A) → is_some o ≡ false → o ≡ None
none_of None e = refl
none_of (Some x) e = cc

-- ==== Indexed: The places of open visits, by their containers.

-- a fact of what succeeded
pub at_ok : {A E : Type 0} {P : Type 0} (r : Result A E) → IsOk r → OnOk r P → P
at_ok (Ok x) is fact = fact
at_ok (Err e) is fact = let bad : false ≡ true = is in cc

-- ---- lists

pub pushed_at : {A : Type 0} (xs : List A) (x : A) (k : ℕ) (w : A) → slice_get (xs ++ x ∷ []) k ≡ Some w → (slice_get xs k ≡ Some w) ⊎ ((k ≡ length xs) × (x ≡ w))
pushed_at [] x zero w at = inr (refl, same_Some x w at)
pushed_at [] x (suc k) w at = absurd (none-some w at)
pushed_at (y ∷ xs) x zero w at = inl at
pushed_at (y ∷ xs) x (suc k) w at = elim (pushed_at xs x k w at) [ inl before ↦ inl before | inr last ↦ inr (omega (arith, last.0), last.1) ]

pub mapped_at : {A B : Type 0} (f : A → B) (xs : List A) (k : ℕ) (w : B) → slice_get (map f xs) k ≡ Some w → (x : A) × (slice_get xs k ≡ Some x) × (f x ≡ w)
mapped_at f [] k w at = absurd (none-some w at)
mapped_at f (x ∷ xs) zero w at = (x, refl, same_Some (f x) w at)
mapped_at f (x ∷ xs) (suc k) w at = mapped_at f xs k w at

-- ---- none

pub none_indexed : (entries : List (BoxNumber × ℕ)) → AreIndexed [] entries
none_indexed entries q k w at open_ = absurd (none-some w at)

-- ---- one more

more_case : (visits : List VisitContent) (visit w : VisitContent) (old : List (BoxNumber × ℕ)) (q : BoxNumber) (k : ℕ) (is : Bool) → AreIndexed visits old → is_some (find (is_open_visit visit.container) visits) ≡ false
    → bytes_eq visit.container q ≡ is → slice_get visits k ≡ Some w → is_open_visit q w ≡ true → cond is (Some (length visits)) (lookup (bytes_eq q) old) ≡ Some k
more_case visits visit w old q k true are none e at open_ =
    let there : is_some (find (is_open_visit visit.container) visits) ≡ true = is_found (is_open_visit visit.container) visits k w at (ap (λ b. is_open_visit b w) (sym (same_bytes visit.container q e)) ∙ open_) in
    let bad : true ≡ false = sym there ∙ none in
    cc
more_case visits visit w old q k false are none e at open_ = are q k w at open_

last_case : (visits : List VisitContent) (visit w : VisitContent) (o : Option ℕ) (q : BoxNumber) (k : ℕ) (is : Bool) → bytes_eq visit.container q ≡ is → k ≡ length visits → visit ≡ w → is_open_visit q w ≡ true
    → cond is (Some (length visits)) o ≡ Some k
last_case visits visit w o q k true e last same open_ = ap Some (sym last)
last_case visits visit w o q k false e last same open_ =
    let its : bytes_eq visit.container q ≡ true = (and_parts (bytes_eq visit.container q) (is_none visit.departure) (ap (is_open_visit q) same ∙ open_)).0 in
    let bad : true ≡ false = sym its ∙ e in
    cc

pub one_indexed : (visits : List VisitContent) (visit : VisitContent) (old new : List (BoxNumber × ℕ)) → AreIndexed visits old → is_some (find (is_open_visit visit.container) visits) ≡ false
    → ((q : BoxNumber) → lookup (bytes_eq q) new ≡ cond (bytes_eq visit.container q) (Some (length visits)) (lookup (bytes_eq q) old)) → AreIndexed (visits ++ visit ∷ []) new
one_indexed visits visit old new are none puts q k w at open_ =
    puts q ∙ elim (pushed_at visits visit k w at) [
      | inl before ↦ more_case visits visit w old q k (bytes_eq visit.container q) are none refl before open_
      | inr last ↦ last_case visits visit w (lookup (bytes_eq q) old) q k (bytes_eq visit.container q) refl last.0 last.1 open_
    ]

-- one that is closed has no place
pub closed_indexed : (visits : List VisitContent) (visit : VisitContent) (old : List (BoxNumber × ℕ)) → AreIndexed visits old → is_none visit.departure ≡ false → AreIndexed (visits ++ visit ∷ []) old
closed_indexed visits visit old are shut q k w at open_ = elim (pushed_at visits visit k w at) [
  | inl before ↦ are q k w before open_
  | inr last ↦ (let its : is_none visit.departure ≡ true = (and_parts (bytes_eq visit.container q) (is_none visit.departure) (ap (is_open_visit q) last.1 ∙ open_)).1 in
      let bad : true ≡ false = sym its ∙ shut in
      cc)
]

-- ---- one less

less_case : (visits : List VisitContent) (b q : BoxNumber) (v : VisitContent) (old : List (BoxNumber × ℕ)) (k : ℕ) (is : Bool) → AreIndexed visits old → bytes_eq b q ≡ is → slice_get visits k ≡ Some v
    → (is_open_visit q v && not is) ≡ true → cond is None (lookup (bytes_eq q) old) ≡ Some k
less_case visits b q v old k true are e at open_ = let bad : false ≡ true = (and_parts (is_open_visit q v) false open_).1 in cc
less_case visits b q v old k false are e at open_ = are q k v at (and_parts (is_open_visit q v) true open_).0

pub less_indexed : (departure : Departure) (b : BoxNumber) (visits after : List VisitContent) (old new : List (BoxNumber × ℕ)) → AreIndexed visits old
    → ((q : BoxNumber) → lookup (bytes_eq q) new ≡ cond (bytes_eq b q) None (lookup (bytes_eq q) old)) → after ≡ map (closed_visit departure b) visits → AreIndexed after new
less_indexed departure b visits after old new are takes shut =
    let P : List VisitContent → Type 0 = λ v. AreIndexed v new in
    subst P (sym shut) (λ q k w at open_.
    let row = mapped_at (closed_visit departure b) visits k w at in
    takes q ∙ less_case visits b q row.0 old k (bytes_eq b q) are refl row.1 (sym (closed_open departure b q row.0) ∙ ap (is_open_visit q) row.2 ∙ open_))

-- ---- found

-- the container's open visit, where the index tells
pub record IsKept (container : BoxNumber) (rows : List Visit) (place : ℕ) : Type 0 where
  pub row : Visit
  pub at : slice_get rows place ≡ Some row
  pub is_open : is_open_visit container (visit_content row) ≡ true

pub kept_somewhere : (container : BoxNumber) (rows : List Visit) (entries : List (BoxNumber × ℕ)) → AreIndexed (map visit_content rows) entries → HasOneVisit container (map visit_content rows)
    → (place : ℕ) × (lookup (bytes_eq container) entries ≡ Some place) × IsKept container rows place
kept_somewhere container rows entries are has =
    let visit = some_of (find (is_open_visit container) (map visit_content rows)) has.here in
    let found = found_is (is_open_visit container) (map visit_content rows) visit.0 visit.1 in
    let row = row_at rows found.0 visit.0 found.1 in
    (found.0, are container found.0 visit.0 found.1 found.2, record { row = row.0; at = row.1; is_open = ap (is_open_visit container) row.2 ∙ found.2 })

pub kept_at : (container : BoxNumber) (rows : List Visit) (entries : List (BoxNumber × ℕ)) (place : ℕ) → AreIndexed (map visit_content rows) entries → HasOneVisit container (map visit_content rows)
    → lookup (bytes_eq container) entries ≡ Some place → IsKept container rows place
kept_at container rows entries place are has told =
    let there = kept_somewhere container rows entries are has in
    let P : ℕ → Type 0 = IsKept container rows in
    subst P (same_Some there.0 place (sym there.1 ∙ told)) there.2

-- the row that the index tells is closed
pub shut_rows : (container : BoxNumber) (departure : Departure) (rows : List Visit) (place : ℕ) (read shut : Visit) → HasOneVisit container (map visit_content rows) → IsKept container rows place → read ≡ get_or rows place read
    → visit_content shut ≡ record (visit_content read) { departure = Some departure }
    → (map visit_content (slice_set rows place shut) ≡ map (closed_visit departure container) (map visit_content rows)) × (read.number ≡ number_of_visit (find (is_open_visit container) (map visit_content rows)))
shut_rows container departure rows place read shut has kept is shuts =
    let there : slice_get rows place ≡ Some read = slice_get-get_or rows place read (slice_get_within rows place kept.row kept.at) ∙ ap Some (sym is) in
    let same : kept.row ≡ read = same_Some kept.row read (sym kept.at ∙ there) in
    let its : is_open_visit container (visit_content read) ≡ true = ap (λ (v : Visit). is_open_visit container (visit_content v)) (sym same) ∙ kept.is_open in (
      closes container departure rows place read shut has.one_visit there its shuts,
      sym (ap number_of_visit (finds container rows place read has.one_visit there its)),
    )

-- ---- rows one after another

stays_of : (o : Option Departure) (r : Bool) → is_some o ≡ not r → r ≡ true → is_none o ≡ true
stays_of None r e is = refl
stays_of (Some d) r e is = let bad : true ≡ false = e ∙ ap not is in cc

went_of : (o : Option Departure) (r : Bool) → is_some o ≡ not r → r ≡ false → is_none o ≡ false
went_of None r e is = let bad : false ≡ true = e ∙ ap not is in cc
went_of (Some d) r e is = refl

-- a test that was made tells whether a visit is open
pub stays_tested : (row : Visit) (r : Bool) → is_some row.departure ≡ not r → r ≡ true → is_none row.departure ≡ true
stays_tested row r e is = stays_of row.departure r e is

pub went_tested : (row : Visit) (r : Bool) → is_some row.departure ≡ not r → r ≡ false → is_none row.departure ≡ false
went_tested row r e is = went_of row.departure r e is

kept_length : {A : Type 0} (v : Bool) (x : A) (xs : List A) → length (cond v (x ∷ xs) xs) ≡ counts v + length xs
kept_length true x xs = omega arith
kept_length false x xs = omega arith

counted_rows : (p : VisitContent → Bool) (rows : List Visit) → count_by (λ v. p (visit_content v)) rows ≡ length (filter p (map visit_content rows))
counted_rows p [] = refl
counted_rows p (x ∷ xs) =
    sum_by-cons (λ v. counts (p (visit_content v))) x xs ∙ ap (λ n. counts (p (visit_content x)) + n) (counted_rows p xs) ∙ sym (kept_length (p (visit_content x)) (visit_content x) (filter p (map visit_content xs)))

few_rows : (p : VisitContent → Bool) (rows : List Visit) → length (filter p (map visit_content rows)) ≤ 1 → count_by (λ v. p (visit_content v)) rows ≤ 1
few_rows p rows few = let same : count_by (λ v. p (visit_content v)) rows ≡ length (filter p (map visit_content rows)) = counted_rows p rows in omega arith

none_open_before : (rows : List Visit) (i : ℕ) (row : Visit) → ((b : BoxNumber) → length (filter (is_open_visit b) (map visit_content rows)) ≤ 1) → i < length rows → row ≡ get_or rows i row → is_none row.departure ≡ true
    → is_some (find (is_open_visit row.container) (map visit_content (take i rows))) ≡ false
none_open_before rows i row one low at stays =
    let p : Visit → Bool = λ v. is_open_visit row.container (visit_content v) in
    let few : count_by p rows ≤ 1 = few_rows (is_open_visit row.container) rows (one row.container) in
    let its : p row ≡ true = ap (λ v. v && is_none row.departure) (same_self row.container) ∙ stays in
    let gone : count_by p (take i rows) ≡ 0 = none_before_one p rows i row few low at its in
    elim (is_some (find (is_open_visit row.container) (map visit_content (take i rows)))) as (λ v. is_some (find (is_open_visit row.container) (map visit_content (take i rows))) ≡ v → v ≡ false) [
      | true ↦ λ e.
          let visit = some_of (find (is_open_visit row.container) (map visit_content (take i rows))) e in
          let found = found_is (is_open_visit row.container) (map visit_content (take i rows)) visit.0 visit.1 in
          let other = row_at (take i rows) found.0 visit.0 found.1 in
          let some : 1 ≤ count_by p (take i rows) = some_counted p (take i rows) other.0 (contained (take i rows) found.0 other.0 other.1) (ap (is_open_visit row.container) other.2 ∙ found.2) in
          absurd (omega arith)
      | false ↦ λ e. refl
    ] refl

-- a row more
pub next_rows : (rows : List Visit) (i : ℕ) (row : Visit) → i < length rows → row ≡ get_or rows i row → map visit_content (take (i + 1) rows) ≡ map visit_content (take i rows) ++ visit_content row ∷ []
next_rows rows i row low at = ap (map visit_content) (take_more rows i row low ∙ ap (λ (r : Visit). take i rows ++ r ∷ []) (sym at)) ∙ map-append visit_content (take i rows) (row ∷ [])

pub open_row_indexed : (rows : List Visit) (i : ℕ) (row : Visit) (old new : List (BoxNumber × ℕ)) → ((b : BoxNumber) → length (filter (is_open_visit b) (map visit_content rows)) ≤ 1) → i < length rows → row ≡ get_or rows i row
    → is_none row.departure ≡ true → AreIndexed (map visit_content (take i rows)) old → ((q : BoxNumber) → lookup (bytes_eq q) new ≡ cond (bytes_eq row.container q) (Some i) (lookup (bytes_eq q) old))
    → AreIndexed (map visit_content (take (i + 1) rows)) new
open_row_indexed rows i row old new one low at stays are puts =
    let P : List VisitContent → Type 0 = λ v. AreIndexed v new in
    let long : length (map visit_content (take i rows)) ≡ i = length-map (take i rows) visit_content ∙ length-take-le i rows (omega arith) in
    subst P (sym (next_rows rows i row low at)) (one_indexed (map visit_content (take i rows)) (visit_content row) old new are (none_open_before rows i row one low at stays)
    (λ q. puts q ∙ ap (λ n. cond (bytes_eq row.container q) (Some n) (lookup (bytes_eq q) old)) (sym long)))

pub closed_row_indexed : (rows : List Visit) (i : ℕ) (row : Visit) (old : List (BoxNumber × ℕ)) → i < length rows → row ≡ get_or rows i row → is_none row.departure ≡ false
    → AreIndexed (map visit_content (take i rows)) old → AreIndexed (map visit_content (take (i + 1) rows)) old
closed_row_indexed rows i row old low at shut are =
    let P : List VisitContent → Type 0 = λ v. AreIndexed v old in
    subst P (sym (next_rows rows i row low at)) (closed_indexed (map visit_content (take i rows)) (visit_content row) old are shut)

-- ---- copies

-- clones of texts and places are the same
pub clones_same : (es fs : List (BoxNumber × ℕ)) → AllZip (λ p q. AllZipBelow (λ (x y : ℕ). y ≡ x) p.0 q.0 11 × (q.1 ≡ p.1)) es fs → fs ≡ es
clones_same [] [] h = refl
clones_same [] (f ∷ fs) h = absurd h
clones_same (e ∷ es) [] h = absurd h
clones_same (e ∷ es) (f ∷ fs) h = λ i. (each_same e.0 f.0 h.0.0.whole i, h.0.1 i) ∷ clones_same es fs h.1 i

-- ==== Counting: The containers in the yard, by the visits.

-- ---- lists

module _ {A : Type 0} (p : A → Bool) (x : A) (xs : List A) where
  pub count_skips : p x ≡ false → length (filter p (x ∷ xs)) ≡ length (filter p xs)
  count_skips e = ap (λ v. length (cond v (x ∷ filter p xs) (filter p xs))) e

  pub count_keeps : p x ≡ true → length (filter p (x ∷ xs)) ≡ length (filter p xs) + 1
  count_keeps e = ap (λ v. length (cond v (x ∷ filter p xs) (filter p xs))) e ∙ omega arith

  pub find_skips : p x ≡ false → find p (x ∷ xs) ≡ find p xs
  find_skips e = ap (λ v. cond v (Some x) (find p xs)) e

  pub find_meets : p x ≡ true → find p (x ∷ xs) ≡ Some x
  find_meets e = ap (λ v. cond v (Some x) (find p xs)) e

no_longer : {A : Type 0} (v : Bool) (x : A) (xs : List A) → length xs ≤ length (cond v (x ∷ xs) xs)
no_longer true x xs = omega arith
no_longer false x xs = omega arith

pub count_rest : {A : Type 0} (p : A → Bool) (x : A) (xs : List A) → length (filter p xs) ≤ length (filter p (x ∷ xs))
count_rest p x xs = no_longer (p x) x (filter p xs)

none_kept : {A : Type 0} (v : Bool) (x : A) (xs : List A) (o : Option A) → length (cond v (x ∷ xs) xs) ≡ 0 → (length xs ≡ 0 → is_some o ≡ false) → is_some (cond v (Some x) o) ≡ false
none_kept true x xs o e h = absurd (omega arith)
none_kept false x xs o e h = h e

pub none_found : {A : Type 0} (p : A → Bool) (xs : List A) → length (filter p xs) ≡ 0 → is_some (find p xs) ≡ false
none_found p [] e = refl
none_found p (x ∷ xs) e = none_kept (p x) x (filter p xs) (find p xs) e (none_found p xs)

-- ---- the map

pub none_there : {A : Type 0} (o : Option A) → is_some o ≡ false → o ≡ None
none_there None e = refl
none_there (Some x) e = cc

empty_counts : (m : Boxes) → ((q : Box) → is_some (finite_map.get m q) ≡ false) → finite_map.len m ≡ 0
empty_counts m none =
    ap finite_map.len (finite_map.same_map nat_list_cmp_total (finite_map.slice_cmp-IsAntisymmetric finite_map.nat_cmp-IsAntisymmetric) m finite_map.empty (λ q. none_there (finite_map.get m q) (none q) ∙ sym (finite_map.get-empty _ q)))
    ∙ finite_map.len-empty _ _

some_counts : (m : Boxes) (b : Box) → is_some (finite_map.get m b) ≡ true → 1 ≤ finite_map.len m
some_counts m b e =
    elim (finite_map.len m) as (λ n. finite_map.len m ≡ n → 1 ≤ n) [
      | zero ↦ λ none.
          let gone : is_some (finite_map.get m b) ≡ false = ap (λ (n : Boxes). is_some (finite_map.get n b)) (finite_map.empty_of_len m none) ∙ ap is_some (finite_map.get-empty _ b) in
          let bad : true ≡ false = sym e ∙ gone in
          cc
      | suc n ↦ λ some. omega arith
    ] refl

less_counts : (m : Boxes) (b : Box) → is_some (finite_map.get m b) ≡ true → finite_map.len m ≡ finite_map.len (finite_map.remove m b) + 1
less_counts m b e =
    let less : finite_map.len (finite_map.remove m b) ≡ finite_map.len m - 1 = finite_map.len-remove nat_list_cmp_total m b ∙ ap (λ v. cond v (finite_map.len m - 1) (finite_map.len m)) e in
    let some : 1 ≤ finite_map.len m = some_counts m b e in
    omega arith

-- ---- the count

pub itself : (b : Box) → bytes_eq b b ≡ true
itself b = sym (tied b b) ∙ (eq_by_cmp_equiv nat_list_cmp_total).refl b

-- one container less, and its visit
without : (m : Boxes) (v : VisitContent) (visits : List VisitContent) (q : Box) (is : Bool) → bytes_eq v.container q ≡ is → is_open_visit q v ≡ bytes_eq v.container q
    → length (filter (is_open_visit q) (v ∷ visits)) ≤ 1 → is_some (finite_map.get m q) ≡ is_some (find (is_open_visit q) (v ∷ visits))
    → (is_some (finite_map.get m q) && not is) ≡ is_some (find (is_open_visit q) visits)
without m v visits q true e open_ one here =
    let more : length (filter (is_open_visit q) (v ∷ visits)) ≡ length (filter (is_open_visit q) visits) + 1 = count_keeps (is_open_visit q) v visits (open_ ∙ e) in
    and_turned (is_some (finite_map.get m q)) false ∙ sym (none_found (is_open_visit q) visits (omega arith))
without m v visits q false e open_ one here = and_true (is_some (finite_map.get m q)) ∙ here ∙ ap is_some (find_skips (is_open_visit q) v visits (open_ ∙ e))

pub counted : (visits : List VisitContent) (m : Boxes) → ((q : Box) → length (filter (is_open_visit q) visits) ≤ 1) → ((q : Box) → is_some (finite_map.get m q) ≡ is_some (find (is_open_visit q) visits))
    → finite_map.len m + length (filter is_closed visits) ≡ length visits
counted [] m one here = let none : finite_map.len m ≡ 0 = empty_counts m here in omega arith
counted (v ∷ visits) m one here =
    elim v.departure as (λ d. v.departure ≡ d → finite_map.len m + length (filter is_closed (v ∷ visits)) ≡ length (v ∷ visits)) [
      | None ↦ λ e.
          let open_ : (q : Box) → is_open_visit q v ≡ bytes_eq v.container q = λ q. ap (λ d. bytes_eq v.container q && is_none d) e ∙ and_true _ in
          let less : finite_map.len m ≡ finite_map.len (finite_map.remove m v.container) + 1 =
          less_counts m v.container (here v.container ∙ ap is_some (find_meets (is_open_visit v.container) v visits (open_ v.container ∙ itself v.container))) in
          let same : length (filter is_closed (v ∷ visits)) ≡ length (filter is_closed visits) = count_skips is_closed v visits (ap is_some e) in
          let rest : finite_map.len (finite_map.remove m v.container) + length (filter is_closed visits) ≡ length visits =
          counted visits (finite_map.remove m v.container)
          (λ q. let few : length (filter (is_open_visit q) (v ∷ visits)) ≤ 1 = one q in let fewer : length (filter (is_open_visit q) visits) ≤ length (filter (is_open_visit q) (v ∷ visits)) = count_rest (is_open_visit q) v visits in omega arith)
          (λ q. in_removed m v.container q ∙ without m v visits q (bytes_eq v.container q) refl (open_ q) (one q) (here q)) in
          omega arith
      | Some d ↦ λ e.
          let shut : (q : Box) → is_open_visit q v ≡ false = λ q. ap (λ d. bytes_eq v.container q && is_none d) e ∙ and_turned (bytes_eq v.container q) false in
          let more : length (filter is_closed (v ∷ visits)) ≡ length (filter is_closed visits) + 1 = count_keeps is_closed v visits (ap is_some e) in
          let rest : finite_map.len m + length (filter is_closed visits) ≡ length visits =
          counted visits m
          (λ q. let few : length (filter (is_open_visit q) (v ∷ visits)) ≤ 1 = one q in let fewer : length (filter (is_open_visit q) visits) ≤ length (filter (is_open_visit q) (v ∷ visits)) = count_rest (is_open_visit q) v visits in omega arith)
          (λ q. here q ∙ ap is_some (find_skips (is_open_visit q) v visits (shut q))) in
          omega arith
    ] refl
