-- The interchanges that are kept: of each partner those up to its run, which were taken, and those that wait.
use Rattle.std.specs.{Prelude.{find, count_by, Contains, slice_index_or}, List.Sorted.IsPermutation, List.{range_with_len, AllByRecursion}}
use Rattle.std.proofs.Common.{◌≡◌, ℕ, zero, suc, ◌+◌, ◌<◌, ◌≤◌, List, [], ◌∷◌, length, map, Bool, true, false, cond, Option, None, Some, is_some, refl, sym, ap, ap₂, subst, ◌∙◌, arith, ◌⊎◌, ◌-◌, inl, inr, ◌++◌}
use Rattle.std.proofs.{lemmas.List.Sums.sum_by-cons, lemmas.List.Sorted.{IsPermutation-trans, IsPermutation-sym, Contains-permutation}, lemmas.Bool.cases_order}
use Rattle.sqlite.specs.{Order.Row, Table.Table, Effect.Database}
use Rattle.terminal_core.proofs.{Indexed.{found_is, is_found, one_passes}, Whole.{contained, found_at}}
use Rattle.office_rows.{specs.{Stored.Holds, Shown.{columns_at, ShowsTable}, Rows.Partner, Opened.NumberKept}, proofs.Listed.unmapped}
use Rattle.office_rows.specs.Office.{AreAccounts, AreWaiting, AreKept, taken_numbers}
use Rattle.edi_messages.specs.declared.codes.PartnerKind.{PartnerKind}
use Rattle.office_history.specs.After.{accounts_from}

-- ==== Shown: What the queries of all rows show, of rows that a database has.

-- ---- lists

-- what only one element passes is found in whatever order
pub found_same : {A : Type 0} (p : A → Bool) (xs ys : List A) → count_by p xs ≤ 1 → IsPermutation xs ys → find p ys ≡ find p xs
found_same {A} p xs ys once same =
    elim (find p ys) as (λ o. find p ys ≡ o → o ≡ find p xs) [
      | None ↦ λ none. elim (find p xs) as (λ o. find p xs ≡ o → None ≡ o) [
        | None ↦ λ _. refl
        | Some x ↦ λ some.
            let here = found_is p xs x some in
            let inside : Contains ys x = Contains-permutation xs ys x same (contained xs here.0 x here.1) in
            let there : is_some (find p ys) ≡ true = is_found p ys inside.0 x (found_at ys x inside) here.2 in
            let bad : true ≡ false = sym there ∙ ap is_some none in
            cc
      ] refl
      | Some y ↦ λ some.
          let there = found_is p ys y some in
          let inside : Contains xs y = Contains-permutation ys xs y (IsPermutation-sym xs ys same) (contained ys there.0 y there.1) in
          let is : is_some (find p xs) ≡ true = is_found p xs inside.0 y (found_at xs y inside) there.2 in
          first (find p xs) refl is y inside there.2
    ] refl
  where
    first : (o : Option A) → find p xs ≡ o → is_some o ≡ true → (y : A) → Contains xs y → p y ≡ true → Some y ≡ find p xs
    first None e is y inside passes = cc
    first (Some x) e is y inside passes =
        let here = found_is p xs x e in
        ap Some (one_passes p xs y x once inside (contained xs here.0 x here.1) passes here.2) ∙ sym e

-- each key is above the one before
abbrev pub Rises : {A : Type 0} → (A → ℕ) → ℕ → List A → Type 0
Rises key low [] = Unit {0}
Rises key low (x ∷ xs) = (low < key x) × Rises key (key x) xs

above_at : {A : Type 0} (key : A → ℕ) (low : ℕ) (xs : List A) (x : A) (k : ℕ) → Rises key low xs → k < length xs → slice_index_or xs k x ≡ x → low < key x
above_at key low [] x k rises below is = absurd (omega arith)
above_at key low (y ∷ xs) x zero rises below is = subst (λ z. low < key z) is rises.0
above_at key low (y ∷ xs) x (suc k) rises below is =
    let first : low < key y = rises.0 in
    let rest : key y < key x = above_at key (key y) xs x k rises.1 (omega arith) is in
    omega arith

pub above : {A : Type 0} (key : A → ℕ) (low : ℕ) (xs : List A) (x : A) → Rises key low xs → Contains xs x → low < key x
above key low xs x rises inside = above_at key low xs x inside.0 rises inside.1 inside.2

later : {A : Type 0} (x y : A) (xs : List A) (key : A → ℕ) → Contains (x ∷ xs) y → (key y ≡ key x → ⊥) → Contains xs y
later x y xs key inside apart = place inside.0 inside.1 inside.2
  where
    place : (k : ℕ) → k < length (x ∷ xs) → slice_index_or (x ∷ xs) k y ≡ y → Contains xs y
    place zero below is = absurd (apart (ap key (sym is)))
    place (suc k) below is = (k, omega arith, is)

pub head_in : {A : Type 0} (x : A) (xs : List A) → Contains (x ∷ xs) x
head_in x xs = (zero, omega arith, refl)

pub tail_in : {A : Type 0} (x y : A) (xs : List A) → Contains xs y → Contains (x ∷ xs) y
tail_in x y xs inside = (suc inside.0, omega (arith, inside.1), inside.2)

same_head : {A : Type 0} (key : A → ℕ) (x y : A) (xs ys : List A) → Rises key (key x) xs → Rises key (key y) ys → (k j : ℕ)
    → k < length (y ∷ ys) → slice_index_or (y ∷ ys) k x ≡ x → j < length (x ∷ xs) → slice_index_or (x ∷ xs) j y ≡ y → x ≡ y
same_head key x y xs ys a b zero j below is below' is' = sym is
same_head key x y xs ys a b (suc k) zero below is below' is' = is'
same_head key x y xs ys a b (suc k) (suc j) below is below' is' =
    let one : key y < key x = above_at key (key y) ys x k b (omega arith) is in
    let other : key x < key y = above_at key (key x) xs y j a (omega arith) is' in
    absurd (omega arith)

same_rising : {A : Type 0} (key : A → ℕ) (low : ℕ) (xs ys : List A) → Rises key low xs → Rises key low ys → ((x : A) → Contains xs x → Contains ys x) → ((y : A) → Contains ys y → Contains xs y) → xs ≡ ys
same_rising key low [] [] a b to from = refl
same_rising key low [] (y ∷ ys) a b to from = let bad = from y (head_in y ys) in absurd (omega (arith, bad.1))
same_rising key low (x ∷ xs) [] a b to from = let bad = to x (head_in x xs) in absurd (omega (arith, bad.1))
same_rising key low (x ∷ xs) (y ∷ ys) a b to from =
    let one : Contains (y ∷ ys) x = to x (head_in x xs) in
    let other : Contains (x ∷ xs) y = from y (head_in y ys) in
    let here : x ≡ y = same_head key x y xs ys a.1 b.1 one.0 other.0 one.1 one.2 other.1 other.2 in
    let same : key x ≡ key y = ap key here in
    ap₂ ◌∷◌ here (same_rising key (key x) xs ys a.1 (subst (λ z. Rises key (key z) ys) (sym here) b.1)
    (λ z inside. let far : key x < key z = above key (key x) xs z a.1 inside in later y z ys key (to z (tail_in x z xs inside)) (λ e. absurd (omega arith)))
    (λ z inside. let far : key y < key z = above key (key y) ys z b.1 inside in later x z xs key (from z (tail_in y z ys inside)) (λ e. absurd (omega arith))))

-- rising lists with the same elements are one
pub rising_same : {A : Type 0} (key : A → ℕ) (low : ℕ) (xs ys : List A) → Rises key low xs → Rises key low ys → IsPermutation xs ys → xs ≡ ys
rising_same key low xs ys a b same =
    same_rising key low xs ys a b (λ x inside. Contains-permutation xs ys x same inside) (λ y inside. Contains-permutation ys xs y (IsPermutation-sym xs ys same) inside)

-- lists of well-formed records with the same columns are one
pub same_records : {A : Type 0} (P : A → Type 0) (values : A → Row) → ((a b : A) → P a → P b → values a ≡ values b → a ≡ b) → (xs ys : List A) → ((x : A) → Contains xs x → P x) → ((y : A) → Contains ys y → P y)
    → map values xs ≡ map values ys → xs ≡ ys
same_records P values one [] [] a b e = refl
same_records P values one [] (y ∷ ys) a b e = cc
same_records P values one (x ∷ xs) [] a b e = cc
same_records P values one (x ∷ xs) (y ∷ ys) a b e =
    let first : values x ≡ values y = cc in
    let rest : map values xs ≡ map values ys = cc in
    ap₂ ◌∷◌ (one x y (a x (head_in x xs)) (b y (head_in y ys)) first) (same_records P values one xs ys (λ z inside. a z (tail_in x z xs inside)) (λ z inside. b z (tail_in y z ys inside)) rest)

-- the one that passes is found
pub found_only : {A : Type 0} (p : A → Bool) (xs : List A) (x : A) → count_by p xs ≤ 1 → Contains xs x → p x ≡ true → find p xs ≡ Some x
found_only {A} p xs x once inside passes = first (find p xs) refl (is_found p xs inside.0 x (found_at xs x inside) passes)
  where
    first : (o : Option A) → find p xs ≡ o → is_some o ≡ true → find p xs ≡ Some x
    first None e is = cc
    first (Some y) e is = let here = found_is p xs y e in e ∙ ap Some (one_passes p xs y x once (contained xs here.0 y here.1) inside here.2 passes)

-- ---- one key

pub count_more : {A : Type 0} (p : A → Bool) (x : A) (xs : List A) (is : Bool) → p x ≡ is → count_by p (x ∷ xs) ≡ cond is 1 0 + count_by p xs
count_more p x xs is e = sum_by-cons (λ y. cond (p y) 1 0) x xs ∙ ap (λ b. cond b 1 0 + count_by p xs) e

pub fewer : {A : Type 0} (p : A → Bool) (x : A) (xs : List A) → count_by p (x ∷ xs) ≤ 1 → count_by p xs ≤ 1
fewer p x xs once = let more : count_by p (x ∷ xs) ≡ cond (p x) 1 0 + count_by p xs = count_more p x xs (p x) refl in omega (arith, more, once)

module _ {A : Type 0} (key : A → ℕ) (p : A → Bool) (at : ℕ) (passes : (x : A) → p x ≡ true → key x ≡ at) where
  none_above : (low : ℕ) (xs : List A) → at ≤ low → Rises key low xs → count_by p xs ≡ 0
  none_above low [] below rises = refl
  none_above low (x ∷ xs) below rises = by (p x) refl (none_above (key x) xs (omega (arith, rises.0, below)) rises.1)
    where
      by : (is : Bool) → p x ≡ is → count_by p xs ≡ 0 → count_by p (x ∷ xs) ≡ 0
      by true e rest = absurd (omega (arith, passes x e, rises.0, below))
      by false e rest = let more : count_by p (x ∷ xs) ≡ 0 + count_by p xs = count_more p x xs false e in omega (arith, more, rest)

  -- of a rising list one at most has that key
  pub one_at : (low : ℕ) (xs : List A) → Rises key low xs → count_by p xs ≤ 1
  one_at low [] rises = omega arith
  one_at low (x ∷ xs) rises = by (p x) refl (one_at (key x) xs rises.1)
    where
      by : (is : Bool) → p x ≡ is → count_by p xs ≤ 1 → count_by p (x ∷ xs) ≤ 1
      by true e rest =
          let more : count_by p (x ∷ xs) ≡ 1 + count_by p xs = count_more p x xs true e in
          let none = none_above (key x) xs (omega (arith, passes x e)) rises.1 in
          omega (arith, more, none)
      by false e rest = let more : count_by p (x ∷ xs) ≡ 0 + count_by p xs = count_more p x xs false e in omega (arith, more, rest)

-- ---- a table

whole_columns : {A : Type 0} (columns : List ℕ) (values : A → Row) → ((a : A) → columns_at columns (values a) ≡ values a) → (xs : List A) → map (columns_at columns) (map values xs) ≡ map values xs
whole_columns columns values all [] = refl
whole_columns columns values all (x ∷ xs) = ap₂ ◌∷◌ (all x) (whole_columns columns values all xs)

-- what is shown has the columns of the records, in some order
pub shown_in : {A : Type 0} (table : Table) (columns key : List ℕ) (values : A → Row) (records : List A) (db : Database) (shown : List Row) → ((a : A) → columns_at columns (values a) ≡ values a)
    → Holds table values records (db.trees table.tree) → ShowsTable table columns key db shown → (zs : List A) × IsPermutation records zs × (shown ≡ map values zs)
shown_in table columns key values records db shown all held it =
    let placed = unmapped values records it.by_key (IsPermutation-trans _ _ _ held.same it.same) in
    (placed.0, placed.1, it.is ∙ ap (map (columns_at columns)) placed.2 ∙ whole_columns columns values all placed.0)

-- ==== Kept: The interchanges that are kept: of each partner those up to its run, which were taken, and those that wait.

-- ---- in the order of partners and numbers

-- the first is above that number of the partner, or of a partner after it
abbrev pub Starts : ℕ → ℕ → List NumberKept → Type 0
Starts p above [] = Unit {0}
Starts p above (n ∷ ns) = (p < n.partner) ⊎ ((n.partner ≡ p) × (above < n.number))

abbrev pub Rise : List NumberKept → Type 0
Rise [] = Unit {0}
Rise (n ∷ ns) = Starts n.partner n.number ns × Rise ns

abbrev From : ℕ → List NumberKept → Type 0
From p [] = Unit {0}
From p (n ∷ ns) = p ≤ n.partner

abbrev pub Has : ℕ → ℕ → List NumberKept → Type 0
Has p k [] = ⊥
Has p k (n ∷ ns) = ((n.partner ≡ p) × (n.number ≡ k)) ⊎ Has p k ns

-- what is kept is one of so many partners', and was taken if it is within the partner's run
pub record IsWithinRuns (count : ℕ) (runs : ℕ → ℕ) (n : NumberKept) : Type 0 where
  pub partner_low : 1 ≤ n.partner
  pub partner_high : n.partner ≤ count
  pub low : 1 ≤ n.number
  pub high : n.number ≤ 999999999
  pub taken : n.number ≤ runs n.partner → n.is_taken ≡ true
  pub waits : runs n.partner < n.number → (runs n.partner + 1 < n.number) × (n.is_taken ≡ false)

-- what follows in order comes after
has_after : (q m : ℕ) (ns : List NumberKept) (p k : ℕ) → Starts q m ns → Rise ns → Has p k ns → (q < p) ⊎ ((p ≡ q) × (m < k))
has_after q m [] p k starts rise has = absurd has
has_after q m (n ∷ ns) p k starts rise (inl here) = elim starts [
  | inl far ↦ inl (omega (arith, here.0, far))
  | inr near ↦ inr (sym here.0 ∙ near.0, omega (arith, here.1, near.1))
]
has_after q m (n ∷ ns) p k starts rise (inr later) = elim (has_after n.partner n.number ns p k rise.0 rise.1 later) [
  | inl beyond ↦ elim starts [ inl far ↦ inl (omega (arith, beyond, far)) | inr near ↦ inl (omega (arith, beyond, near.0)) ]
  | inr own ↦ elim starts [ inl far ↦ inl (omega (arith, own.0, far)) | inr near ↦ inr (own.0 ∙ near.0, omega (arith, own.1, near.1)) ]
]

abbrev pub taken_by : ℕ → ℕ → NumberKept
taken_by partner number = record { partner = partner; number = number; is_taken = true }

module _ (count : ℕ) (runs : ℕ → ℕ) where
  abbrev next : ℕ → ℕ
  next p = runs p + 1

  -- each number within the runs of partners after that one is there
  abbrev pub IsComplete : ℕ → List NumberKept → Type 0
  IsComplete p ns = (q k : ℕ) → p < q → 1 ≤ k → k ≤ runs q → Has q k ns

  behind : (p : ℕ) (n : NumberKept) (ns : List NumberKept) → n.partner ≡ p → IsComplete p (n ∷ ns) → IsComplete p ns
  behind p n ns own there q k far one within = elim (there q k far one within) [
    | inl here ↦ absurd (omega (arith, far, here.0, own))
    | inr later ↦ later
  ]

  -- those that wait for a partner, and those of the partners after it
  record Parts (p above : ℕ) (ns : List NumberKept) : Type 0 where
    waiting : List NumberKept
    others : List NumberKept
    are : ns ≡ waiting ++ others
    wait : AreWaiting p above waiting
    from : From (p + 1) others
    rise : Rise others
    all : AllByRecursion (IsWithinRuns count runs) others
    there : IsComplete p others

  waiting_first : (p above : ℕ) (ns : List NumberKept) → runs p < above → Starts p above ns → Rise ns → AllByRecursion (IsWithinRuns count runs) ns → IsComplete p ns → Parts p above ns
  waiting_first p above [] far starts rise all there = record { waiting = []; others = []; are = refl; wait = tt; from = tt; rise = tt; all = tt; there = there }
  waiting_first p above (n ∷ ns) far (inl beyond) rise all there = record { waiting = []; others = n ∷ ns; are = refl; wait = tt; from = omega arith; rise = rise; all = all; there = there }
  waiting_first p above (n ∷ ns) far (inr own) rise all there =
      let own_run : runs n.partner ≡ runs p = ap runs own.0 in
      let higher : above < n.number = own.1 in
      let its = all.0.waits (omega arith) in
      let rest = waiting_first p n.number ns (omega arith) (subst (λ q. Starts q n.number ns) own.0 rise.0) rise.1 all.1 (behind p n ns own.0 there) in
      record {
        waiting = n ∷ rest.waiting;
        others = rest.others;
        are = ap (λ l. n ∷ l) rest.are;
        wait = (own.0, its.1, own.1, all.0.high, rest.wait);
        from = rest.from;
        rise = rest.rise;
        all = rest.all;
        there = rest.there;
      }

  -- those that were taken of a partner, from a number on, those that wait, and those of the partners after it
  record Own (p above many : ℕ) (ns : List NumberKept) : Type 0 where
    waiting : List NumberKept
    others : List NumberKept
    are : ns ≡ (map (taken_by p) (range_with_len (above + 1) many) ++ waiting) ++ others
    wait : AreWaiting p (next p) waiting
    from : From (p + 1) others
    rise : Rise others
    all : AllByRecursion (IsWithinRuns count runs) others
    there : IsComplete p others

  past_run : (p above : ℕ) (ns : List NumberKept) → above ≡ runs p → Starts p above ns → AllByRecursion (IsWithinRuns count runs) ns → Starts p (next p) ns
  past_run p above [] e starts all = tt
  past_run p above (n ∷ ns) e (inl beyond) all = inl beyond
  past_run p above (n ∷ ns) e (inr own) all =
      let own_run : runs n.partner ≡ runs p = ap runs own.0 in
      let higher : above < n.number = own.1 in
      let its = all.0.waits (omega arith) in
      inr (own.0, omega (arith, its.0))

  -- the number is the first
  is_first : (p above : ℕ) (n : NumberKept) (ns : List NumberKept) → Starts p above (n ∷ ns) → Rise (n ∷ ns) → Has p (above + 1) (n ∷ ns) → (n.partner ≡ p) × (n.number ≡ above + 1)
  is_first p above n ns starts rise (inl here) = here
  is_first p above n ns starts rise (inr later) = elim (has_after n.partner n.number ns p (above + 1) rise.0 rise.1 later) [
    | inl beyond ↦ elim starts [ inl far ↦ absurd (omega (arith, beyond, far)) | inr near ↦ absurd (omega (arith, beyond, near.0)) ]
    | inr own ↦ elim starts [ inl far ↦ absurd (omega (arith, own.0, far)) | inr near ↦ absurd (omega (arith, own.1, near.1)) ]
  ]

  taken_first : (p above many : ℕ) (ns : List NumberKept) → above + many ≡ runs p → Starts p above ns → Rise ns → AllByRecursion (IsWithinRuns count runs) ns
      → ((k : ℕ) → above < k → k ≤ runs p → Has p k ns) → IsComplete p ns → Own p above many ns
  taken_first p above zero ns e starts rise all own_there there =
      let end : above ≡ runs p = omega arith in
      let rest = waiting_first p (next p) ns (omega arith) (past_run p above ns end starts all) rise all there in
      record { waiting = rest.waiting; others = rest.others; are = rest.are; wait = rest.wait; from = rest.from; rise = rest.rise; all = rest.all; there = rest.there }
  taken_first p above (suc many) [] e starts rise all own_there there = absurd (own_there (above + 1) (omega arith) (omega arith))
  taken_first p above (suc many) (n ∷ ns) e starts rise all own_there there =
      let here = is_first p above n ns starts rise (own_there (above + 1) (omega arith) (omega arith)) in
      let own : n.partner ≡ p = here.0 in
      let number : n.number ≡ above + 1 = here.1 in
      let own_run : runs n.partner ≡ runs p = ap runs own in
      let taken : n.is_taken ≡ true = all.0.taken (omega arith) in
      let is : n ≡ taken_by p (above + 1) = λ i. record { partner = own i; number = number i; is_taken = taken i } in
      let rest = taken_first p (above + 1) many ns (omega arith) (subst (λ k. Starts p k ns) number (subst (λ q. Starts q n.number ns) own rise.0)) rise.1 all.1
      (λ k far within. elim (own_there k (omega arith) within) [ inl one ↦ absurd (omega (arith, one.1, number, far)) | inr later ↦ later ])
      (behind p n ns own there) in
      record {
        waiting = rest.waiting;
        others = rest.others;
        are = ap₂ (λ m l. m ∷ l) is rest.are;
        wait = rest.wait;
        from = rest.from;
        rise = rest.rise;
        all = rest.all;
        there = rest.there;
      }

  start : (p : ℕ) (ns : List NumberKept) → From p ns → AllByRecursion (IsWithinRuns count runs) ns → Starts p 0 ns
  start p [] from all = tt
  start p (n ∷ ns) from all = elim (cases_order p n.partner) [
    | inl same ↦ inr (sym same, omega (arith, all.0.low))
    | inr o ↦ elim o [ inl far ↦ inl far | inr before ↦ absurd (omega arith) ]
  ]

  none_left : (id : ℕ) (ns : List NumberKept) → id ≡ count + 1 → From id ns → AllByRecursion (IsWithinRuns count runs) ns → ns ≡ []
  none_left id [] e from all = refl
  none_left id (n ∷ ns) e from all = absurd (omega (arith, all.0.partner_high))

  kept_from : (id low : ℕ) (accounts : List (List ℕ × PartnerKind)) (ns : List NumberKept) → low + 1 ≡ id → id + length accounts ≡ count + 1 → From id ns → Rise ns → AllByRecursion (IsWithinRuns count runs) ns → IsComplete low ns
      → AreKept (accounts_from id next accounts) ns
  kept_from id low [] ns e ends from rise all there = none_left id ns (omega arith) from all
  kept_from id low (account ∷ accounts) ns e ends from rise all there =
      let own = taken_first id 0 (runs id) ns (omega arith) (start id ns from all) rise all (λ k above within. there id k (omega arith) (omega arith) within) (λ q k far one within. there q k (omega arith) one within) in
      let partner : Partner = record { id = id; code = account.0; kind = account.1; next = next id } in
      let many : runs id + 1 - 1 ≡ runs id = omega arith in
      let taken : taken_numbers partner ≡ map (taken_by id) (range_with_len 1 (runs id)) = ap (λ c. map (taken_by id) (range_with_len 1 c)) many in (
        map (taken_by id) (range_with_len 1 (runs id)) ++ own.waiting,
        own.others,
        own.are,
        record { waiting = own.waiting; wait = own.wait; are = ap (λ l. l ++ own.waiting) (sym taken) },
        kept_from (id + 1) id accounts own.others refl (omega arith) own.from own.rise own.all own.there,
      )

  first_account : (ns : List NumberKept) → AllByRecursion (IsWithinRuns count runs) ns → From 1 ns
  first_account [] all = tt
  first_account (n ∷ ns) all = all.0.partner_low

  -- what is kept in order is that of all the accounts
  pub all_kept : (accounts : List (List ℕ × PartnerKind)) (ns : List NumberKept) → length accounts ≡ count → Rise ns → AllByRecursion (IsWithinRuns count runs) ns → IsComplete 0 ns → AreKept (accounts_from 1 next accounts) ns
  all_kept accounts ns counted rise all there = kept_from 1 0 accounts ns refl (omega arith) (first_account ns all) rise all there

-- ---- the accounts

pub accounts_are : (id : ℕ) (runs : ℕ → ℕ) (accounts : List (List ℕ × PartnerKind)) → ((p : ℕ) → runs p ≤ 999999999) → AreAccounts id (accounts_from id (λ p. runs p + 1) accounts) accounts
accounts_are id runs [] few = tt
accounts_are id runs (account ∷ accounts) few = (refl, refl, refl, omega arith, omega (arith, few id), accounts_are (id + 1) runs accounts few)
