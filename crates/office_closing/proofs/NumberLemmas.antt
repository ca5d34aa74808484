-- Rows that are deleted in turn.
use Rattle.std.specs.Prelude.{nat_le, nat_lt, Contains}
use Rattle.std.specs.List.{list_any}
use Rattle.std.specs.List.Sorted.{IsPermutation}
use Rattle.std.proofs.lemmas.Bool.Decides.{nat_tests}
use Rattle.std.proofs.Common.{◌≡◌, ◌⊎◌, inl, inr, ℕ, ◌+◌, ◌≤◌, List, [], ◌∷◌, ◌++◌, Bool, true, false, cond, not, ◌&&◌, ◌||◌, ◌==◌, filter, refl, sym, ap, ◌∙◌, arith, ◌<◌, Result, Ok, Err, get_or, length, map, take, subst}
use Rattle.std.proofs.{lemmas.List.Elements.filter_agree, lemmas.List.Folds.list_any-append, lemmas.List.{map-append, map_more, take-map}}
use Rattle.std.proofs.lemmas.List.Sorted.{Contains-permutation, IsPermutation-sym, IsPermutation-trans}
use Rattle.office_rows.specs.{Effects.is_pair, Rows.{Interchange, Rows, ListingContent}, ByKey.{AreListedOnce, lines_by}, Stored.HasRows}
use Rattle.office_rows.specs.{Tables.{listing_table, visit_table}, Values.{line_values, visit_values}}
use Rattle.office_parts.specs.{LeftOver.rows_without, OwnTerminal.is_own, Bringing.is_list, OwnLists.{ListName, is_own_line, list_name, rows_without_lists}}
use Rattle.office_parts.proofs.BringingLemmas.{more_away}
use Rattle.office_closing.specs.{declared.comparing.Numbers.Numbers, Clearing.{IsWithoutSome, IsWithoutSomeVisits, Clears, IsWithoutSomeLists}, Going.name_of}
use Rattle.office_closing.specs.{Deleting.{with_visits_that, all_but, without_visits, is_of, goes, Deletes, is_one_of, without_interchange}, Closes.AreOrderly}
use Rattle.office_closing.{specs.{Lists.{SettledListContent, list_content}, declared.settled_lists.SettledList.SettledList}, proofs.FoundLemmas.once_same}
use Rattle.sqlite.specs.{State.State, Effect.Database}
use Rattle.office_tables.specs.declared.table_fault.TableFault.{TableFault}
use Rattle.terminal_core.specs.{Changes.TerminalRows, Forms.IsFormedVisit, Rows.VisitContent, State.TerminalState}
use Rattle.office_admission.specs.Setups.{SetupContent}
use Rattle.office_loading.specs.{Closed.ClosedContent, Tables.LoadsOwn}
use Rattle.office_history.proofs.{Loads.{numbered_rise, line_one, visit_one}, Kept.{Rises, rising_same, same_records, shown_in}}
use Rattle.office_closing.proofs.ClearLemmas as lemma

filter_twice : {A : Type 0} (p q : A → Bool) (xs : List A) → filter q (filter p xs) ≡ filter (λ x. p x && q x) xs
filter_twice p q [] = refl
filter_twice p q (x ∷ xs) = by (p x) (filter_twice p q xs)
  where
    by : (b : Bool) → filter q (filter p xs) ≡ filter (λ x. p x && q x) xs
        → filter q (cond b (x ∷ filter p xs) (filter p xs)) ≡ cond (b && q x) (x ∷ filter (λ x. p x && q x) xs) (filter (λ x. p x && q x) xs)
    by true rest = ap (λ l. cond (q x) (x ∷ l) l) rest
    by false rest = rest

pub filter_all : {A : Type 0} (p : A → Bool) → ((x : A) → p x ≡ true) → (xs : List A) → filter p xs ≡ xs
filter_all p all [] = refl
filter_all p all (x ∷ xs) = ap (λ b. cond b (x ∷ filter p xs) (filter p xs)) (all x) ∙ ap (λ l. x ∷ l) (filter_all p all xs)

pub neither : (a b : Bool) → (not a && not b) ≡ not (a || b)
neither true b = refl
neither false b = refl

-- ---- interchanges

pub deleted_twice : (p q : Interchange → Bool) (rows : Rows) → rows_without q (rows_without p rows) ≡ rows_without (λ i. p i || q i) rows
deleted_twice p q rows =
    ap (λ l. let r : Rows = record rows { interchanges = l } in r)
    (filter_twice (λ i. not (p i)) (λ i. not (q i)) rows.interchanges ∙ filter_agree _ _ (λ i. neither (p i) (q i)) rows.interchanges)

pub deleted_alike : (p q : Interchange → Bool) → ((i : Interchange) → p i ≡ q i) → (rows : Rows) → rows_without p rows ≡ rows_without q rows
deleted_alike p q same rows = ap (λ l. let r : Rows = record rows { interchanges = l } in r) (filter_agree _ _ (λ i. ap not (same i)) rows.interchanges)

pub deleted_none : (p : Interchange → Bool) → ((i : Interchange) → p i ≡ false) → (rows : Rows) → rows_without p rows ≡ rows
deleted_none p none rows = ap (λ l. let r : Rows = record rows { interchanges = l } in r) (filter_all (λ i. not (p i)) (λ i. ap not (none i)) rows.interchanges)

pub or_parts : (goes a b : Bool) → (a ≡ true → goes ≡ true) → (b ≡ true → goes ≡ true) → (a || b) ≡ true → goes ≡ true
or_parts goes true b left right e = left refl
or_parts goes false b left right e = right e

pub some_then : (goes : Interchange → Bool) (a b c : Rows) → IsWithoutSome goes a b → IsWithoutSome goes b c → IsWithoutSome goes a c
some_then goes a b c first second = record {
  deleted = λ i. first.deleted i || second.deleted i;
  only = λ i e. or_parts (goes i) (first.deleted i) (second.deleted i) (first.only i) (second.only i) e;
  is = second.is ∙ ap (rows_without second.deleted) first.is ∙ deleted_twice first.deleted second.deleted a;
}

pub whole_is_some : (goes : Interchange → Bool) (rows : Rows) → IsWithoutSome goes rows (rows_without goes rows)
whole_is_some goes rows = record { deleted = goes; only = λ i e. e; is = refl }

pub none_is_some : (goes : Interchange → Bool) (rows : Rows) → IsWithoutSome goes rows rows
none_is_some goes rows = record { deleted = λ i. false; only = λ i e. absurd cc; is = sym (deleted_none (λ i. false) (λ i. refl) rows) }

pub some_of_more : (p q : Interchange → Bool) → ((i : Interchange) → p i ≡ true → q i ≡ true) → (rows left : Rows) → IsWithoutSome p rows left → IsWithoutSome q rows left
some_of_more p q more rows left it = record { deleted = it.deleted; only = λ i e. more i (it.only i e); is = it.is }

-- ---- by numbers

abbrev pub numbers_to : Numbers → ℕ → Numbers
numbers_to numbers to = record numbers { to = to }

abbrev pub numbers_from : Numbers → ℕ → ℕ → Numbers
numbers_from numbers from to = record { partner = numbers.partner; from = from; to = to }

both_under : (a x y : Bool) → ((a && x) || (a && y)) ≡ (a && (x || y))
both_under true x y = refl
both_under false x y = refl

none_under : (a x : Bool) → x ≡ false → (a && x) ≡ false
none_under true x e = e
none_under false x e = refl

none_to : (from number : ℕ) → (nat_lt from number && nat_le number from) ≡ false
none_to from number = grind (arith, nat_tests)

one_to : (from to number : ℕ) → from ≤ to → ((nat_lt from number && nat_le number to) || (number == (to + 1))) ≡ (nat_lt from number && nat_le number (to + 1))
one_to from to number below = grind (arith, nat_tests)

more_to : (from mid to number : ℕ) → from ≤ mid → mid ≤ to → ((nat_lt from number && nat_le number mid) || (nat_lt mid number && nat_le number to)) ≡ (nat_lt from number && nat_le number to)
more_to from mid to number one two = grind (arith, nat_tests)

or_false : (b : Bool) → (b || false) ≡ b
or_false true = refl
or_false false = refl

alone : (numbers : Numbers) (i : Interchange) → goes (numbers ∷ []) i ≡ is_of i.partner i.number numbers
alone numbers i = or_false (is_of i.partner i.number numbers)

pub goes_none : (numbers : Numbers) (i : Interchange) → goes (numbers_to numbers numbers.from ∷ []) i ≡ false
goes_none numbers i = alone (numbers_to numbers numbers.from) i ∙ none_under (i.partner == numbers.partner) _ (none_to numbers.from i.number)

pub goes_next : (numbers : Numbers) (to : ℕ) → numbers.from ≤ to → (i : Interchange) → (goes (numbers_to numbers to ∷ []) i || is_pair numbers.partner (to + 1) i) ≡ goes (numbers_to numbers (to + 1) ∷ []) i
goes_next numbers to below i =
    ap (λ b. b || is_pair numbers.partner (to + 1) i) (alone (numbers_to numbers to) i)
    ∙ both_under (i.partner == numbers.partner) (nat_lt numbers.from i.number && nat_le i.number to) (i.number == (to + 1))
    ∙ ap (λ b. (i.partner == numbers.partner) && b) (one_to numbers.from to i.number below)
    ∙ sym (alone (numbers_to numbers (to + 1)) i)

pub goes_more : (numbers : Numbers) (mid to : ℕ) → numbers.from ≤ mid → mid ≤ to → (i : Interchange) → (goes (numbers_to numbers mid ∷ []) i || goes (numbers_from numbers mid to ∷ []) i) ≡ goes (numbers_to numbers to ∷ []) i
goes_more numbers mid to one two i =
    ap (λ b. b || goes (numbers_from numbers mid to ∷ []) i) (alone (numbers_to numbers mid) i)
    ∙ ap (λ b. is_of i.partner i.number (numbers_to numbers mid) || b) (alone (numbers_from numbers mid to) i)
    ∙ both_under (i.partner == numbers.partner) (nat_lt numbers.from i.number && nat_le i.number mid) (nat_lt mid i.number && nat_le i.number to)
    ∙ ap (λ b. (i.partner == numbers.partner) && b) (more_to numbers.from mid to i.number one two)
    ∙ sym (alone (numbers_to numbers to) i)

pub goes_append : (done more : List Numbers) (i : Interchange) → (goes done i || goes more i) ≡ goes (done ++ more) i
goes_append done more i = sym (list_any-append (is_of i.partner i.number) done more)

end_to : (from to last number : ℕ) → from ≤ last → to ≤ last → (last ≤ to) ⊎ (last ≡ from) → (nat_lt from number && nat_le number last) ≡ (nat_lt from number && nat_le number to)
end_to from to last number above end (inl below) = let same : last ≡ to = omega (arith, end, below) in ap (λ n. nat_lt from number && nat_le number n) same
end_to from to last number above end (inr none) = ap (λ n. nat_lt from number && nat_le number n) none ∙ none_to from number ∙ sym (none_here from to number (omega (arith, end, none)))
  where
    none_here : (from to number : ℕ) → to ≤ from → (nat_lt from number && nat_le number to) ≡ false
    none_here from to number below = grind (arith, nat_tests)

-- where the loop ends each has been
pub goes_end : (numbers : Numbers) (last : ℕ) → numbers.from ≤ last → numbers.to ≤ last → (last ≤ numbers.to) ⊎ (last ≡ numbers.from) → (i : Interchange) → goes (numbers_to numbers last ∷ []) i ≡ goes (numbers ∷ []) i
goes_end numbers last above end within i =
    alone (numbers_to numbers last) i ∙ ap (λ b. (i.partner == numbers.partner) && b) (end_to numbers.from numbers.to last i.number above end within) ∙ sym (alone numbers i)

within_to : (from to last number : ℕ) → to ≤ last → (nat_lt from number && nat_le number to) ≡ true → (nat_lt from number && nat_le number last) ≡ true
within_to from to last number below e = grind (arith, nat_tests)

under_true : (a x y : Bool) → (x ≡ true → y ≡ true) → (a && x) ≡ true → (a && y) ≡ true
under_true true x y f e = f e
under_true false x y f e = e

pub goes_within : (numbers : Numbers) (to : ℕ) → to ≤ numbers.to → (i : Interchange) → goes (numbers_to numbers to ∷ []) i ≡ true → goes (numbers ∷ []) i ≡ true
goes_within numbers to below i e = alone numbers i ∙ under_true (i.partner == numbers.partner) _ _ (within_to numbers.from to numbers.to i.number below) (sym (alone (numbers_to numbers to) i) ∙ e)

-- ---- visits

pub with_both : (p q : ℕ → Bool) (rows : Rows) → with_visits_that q (with_visits_that p rows) ≡ with_visits_that (λ n. p n && q n) rows
with_both p q rows = ap (λ l. let r : Rows = record rows { visits = l } in r) (filter_twice (is_own p) (is_own q) rows.visits)

with_alike : (p q : ℕ → Bool) → ((n : ℕ) → p n ≡ q n) → (rows : Rows) → with_visits_that p rows ≡ with_visits_that q rows
with_alike p q same rows = ap (λ l. let r : Rows = record rows { visits = l } in r) (filter_agree (is_own p) (is_own q) (λ v. same v.number) rows.visits)

pub with_all : (p : ℕ → Bool) → ((n : ℕ) → p n ≡ true) → (rows : Rows) → with_visits_that p rows ≡ rows
with_all p all rows = ap (λ l. let r : Rows = record rows { visits = l } in r) (filter_all (is_own p) (λ v. all v.number) rows.visits)

pub without_more : (done more : List ℕ) (rows : Rows) → without_visits more (without_visits done rows) ≡ without_visits (done ++ more) rows
without_more done more rows =
    with_both (all_but done) (all_but more) rows
    ∙ with_alike _ _ (λ n. neither (list_any (λ m. m == n) done) (list_any (λ m. m == n) more) ∙ ap not (sym (list_any-append (λ m. m == n) done more))) rows

pub without_none : (rows : Rows) → without_visits [] rows ≡ rows
without_none rows = with_all (all_but []) (λ n. refl) rows

pub and_both : (stays a b : Bool) → (stays ≡ true → a ≡ true) → (stays ≡ true → b ≡ true) → stays ≡ true → (a && b) ≡ true
and_both stays a b left right e = ap (λ x. x && b) (left e) ∙ right e

pub some_visits_then : (stays : ℕ → Bool) (a b c : Rows) → IsWithoutSomeVisits stays a b → IsWithoutSomeVisits stays b c → IsWithoutSomeVisits stays a c
some_visits_then stays a b c first second = record {
  kept = λ n. first.kept n && second.kept n;
  only = λ n e. and_both (stays n) (first.kept n) (second.kept n) (first.only n) (second.only n) e;
  is = second.is ∙ ap (with_visits_that second.kept) first.is ∙ with_both first.kept second.kept a;
}

pub whole_is_some_visits : (stays : ℕ → Bool) (rows : Rows) → IsWithoutSomeVisits stays rows (with_visits_that stays rows)
whole_is_some_visits stays rows = record { kept = stays; only = λ n e. e; is = refl }

pub none_is_some_visits : (stays : ℕ → Bool) (rows : Rows) → IsWithoutSomeVisits stays rows rows
none_is_some_visits stays rows = record { kept = λ n. true; only = λ n e. refl; is = sym (with_all (λ n. true) (λ n. refl) rows) }

pub some_visits_of_more : (p q : ℕ → Bool) → ((n : ℕ) → q n ≡ true → p n ≡ true) → (rows left : Rows) → IsWithoutSomeVisits p rows left → IsWithoutSomeVisits q rows left
some_visits_of_more p q more rows left it = record { kept = it.kept; only = λ n e. it.only n (more n e); is = it.is }

not_or : (a b : Bool) → not (a || b) ≡ true → (not a ≡ true) × (not b ≡ true)
not_or true b e = absurd cc
not_or false b e = (refl, e)

pub stays_of_more : (done more : List ℕ) (n : ℕ) → all_but (done ++ more) n ≡ true → (all_but done n ≡ true) × (all_but more n ≡ true)
stays_of_more done more n e = not_or (list_any (λ m. m == n) done) (list_any (λ m. m == n) more) (sym (ap not (list_any-append (λ m. m == n) done more)) ∙ e)

-- ==== ListLemmas: What is left where lists are deleted one after the other.

-- ---- rows without lists

pub lists_alike : (p q : ListName → Bool) → ((list : ListName) → p list ≡ q list) → (rows : Rows) → rows_without_lists p rows ≡ rows_without_lists q rows
lists_alike p q same rows =
    ap (λ l. let r : Rows = record rows { lines = l } in r) (filter_agree (is_own_line p) (is_own_line q) (λ (l : ListingContent). ap not (same (list_name l.call l.side))) rows.lines)

pub lists_none : (p : ListName → Bool) → ((list : ListName) → p list ≡ false) → (rows : Rows) → rows_without_lists p rows ≡ rows
lists_none p none rows = ap (λ l. let r : Rows = record rows { lines = l } in r) (filter_all (is_own_line p) (λ (l : ListingContent). ap not (none (list_name l.call l.side))) rows.lines)

pub some_lists_then : (goes : ListName → Bool) (a b c : Rows) → IsWithoutSomeLists goes a b → IsWithoutSomeLists goes b c → IsWithoutSomeLists goes a c
some_lists_then goes a b c first second = record {
  deleted = λ list. first.deleted list || second.deleted list;
  only = λ list e. or_parts (goes list) (first.deleted list) (second.deleted list) (first.only list) (second.only list) e;
  is = second.is ∙ ap (rows_without_lists second.deleted) first.is ∙ more_away first.deleted second.deleted a;
}

pub whole_is_some_lists : (goes : ListName → Bool) (rows : Rows) → IsWithoutSomeLists goes rows (rows_without_lists goes rows)
whole_is_some_lists goes rows = record { deleted = goes; only = λ list e. e; is = refl }

pub none_is_some_lists : (goes : ListName → Bool) (rows : Rows) → IsWithoutSomeLists goes rows rows
none_is_some_lists goes rows = record { deleted = λ list. false; only = λ list e. absurd cc; is = sym (lists_none (λ list. false) (λ list. refl) rows) }

some_lists_of_more : (p q : ListName → Bool) → ((list : ListName) → p list ≡ true → q list ≡ true) → (rows left : Rows) → IsWithoutSomeLists p rows left → IsWithoutSomeLists q rows left
some_lists_of_more p q more rows left it = record { deleted = it.deleted; only = λ list e. more list (it.only list e); is = it.is }

-- ---- transactions

abbrev pub ClearsLists : List SettledListContent → List SettledListContent → {X : Type 0} → State → State → Result X TableFault → Type 0
ClearsLists done all old new result = Clears (rows_without_lists (is_one_of done)) (IsWithoutSomeLists (is_one_of all)) old new result

right : (a b : Bool) → b ≡ true → (a || b) ≡ true
right true b e = refl
right false b e = e

-- another list
pub list_cleared : {X Y : Type 0} (before : List SettledListContent) (one : SettledListContent) (after all behind : List SettledListContent) → after ≡ before ++ one ∷ [] → all ≡ after ++ behind → (old mid new : State) (x : X) (result : Result Y TableFault)
    → ClearsLists before all old mid (Ok x) → ClearsLists (one ∷ []) (one ∷ []) mid new result → ClearsLists after all old new result
list_cleared before one after all behind is whole old mid new x result first second =
    let joined : (list : ListName) → (is_one_of before list || is_one_of (one ∷ []) list) ≡ is_one_of after list =
    λ list. sym (list_any-append (λ (o : SettledListContent). is_list (name_of o) list) before (one ∷ [])) ∙ ap (λ l. is_one_of l list) (sym is) in
    let within : (list : ListName) → is_one_of after list ≡ true → is_one_of all list ≡ true =
    λ list e. ap (λ l. is_one_of l list) whole ∙ list_any-append (λ (o : SettledListContent). is_list (name_of o) list) after behind ∙ ap (λ b. b || is_one_of behind list) e in
    let of_before : (list : ListName) → is_one_of before list ≡ true → is_one_of all list ≡ true =
    λ list e. within list (sym (joined list) ∙ ap (λ b. b || is_one_of (one ∷ []) list) e) in
    let of_one : (list : ListName) → is_one_of (one ∷ []) list ≡ true → is_one_of all list ≡ true =
    λ list e. within list (sym (joined list) ∙ right (is_one_of before list) (is_one_of (one ∷ []) list) e) in
    lemma.clears_same (λ rows. rows_without_lists (is_one_of (one ∷ [])) (rows_without_lists (is_one_of before) rows)) (rows_without_lists (is_one_of after)) (IsWithoutSomeLists (is_one_of all)) old new result
    (λ rows. more_away (is_one_of before) (is_one_of (one ∷ [])) rows ∙ lists_alike _ _ joined rows)
    (lemma.clears_then (IsWithoutSomeLists (is_one_of all)) (some_lists_then (is_one_of all)) (rows_without_lists (is_one_of before)) (rows_without_lists (is_one_of (one ∷ [])))
    (λ rows. some_lists_of_more (is_one_of before) (is_one_of all) of_before rows _ (whole_is_some_lists (is_one_of before) rows))
    old mid new x result first (lemma.clears_weaker (rows_without_lists (is_one_of (one ∷ []))) (IsWithoutSomeLists (is_one_of (one ∷ []))) (IsWithoutSomeLists (is_one_of all)) mid new result (some_lists_of_more (is_one_of (one ∷ [])) (is_one_of all) of_one) second))

pub list_failed : {X Y : Type 0} (before : List SettledListContent) (one : SettledListContent) (after all behind : List SettledListContent) → after ≡ before ++ one ∷ [] → all ≡ after ++ behind → (old mid new : State) (x : X) (fault : TableFault)
    → ClearsLists before all old mid (Ok x) → ClearsLists (one ∷ []) (one ∷ []) {X = Y} mid new (Err fault) → ClearsLists all all {X = Y} old new (Err fault)
list_failed before one after all behind is whole old mid new x fault first second =
    lemma.clears_failed (rows_without_lists (is_one_of after)) (rows_without_lists (is_one_of all)) (IsWithoutSomeLists (is_one_of all)) old new fault
    (list_cleared before one after all behind is whole old mid new x (Err fault) first second)

-- ---- in a transaction

or_none : (b : Bool) → b ≡ (b || false)
or_none true = refl
or_none false = refl

-- a list by its name, and as the only one of some
pub one_deleted : {X : Type 0} (one : SettledListContent) (old new : State) (result : Result X TableFault) → Deletes (rows_without_lists (is_list (name_of one))) old new result → Deletes (rows_without_lists (is_one_of (one ∷ []))) old new result
one_deleted one old new result = lemma.deletes_same (rows_without_lists (is_list (name_of one))) (rows_without_lists (is_one_of (one ∷ []))) old new result (lists_alike (is_list (name_of one)) (is_one_of (one ∷ [])) (λ list. or_none (is_list (name_of one) list)))

-- one more of those that were gone through
pub one_more : (lists : List SettledList) (i : ℕ) (d : SettledList) → i < length lists → take (i + 1) (map list_content lists) ≡ take i (map list_content lists) ++ list_content (get_or lists i d) ∷ []
one_more lists i d within =
    take-map list_content (i + 1) lists ∙ map_more list_content lists i d within ∙ ap (λ l. l ++ list_content (get_or lists i d) ∷ []) (sym (take-map list_content i lists))

-- one more at the end of those that were found
pub content_pushed : (found : List SettledList) (one : SettledList) (after : List SettledList) → after ≡ found ++ one ∷ [] → map list_content after ≡ map list_content found ++ list_content one ∷ []
content_pushed found one after is = ap (map list_content) is ∙ map-append list_content found (one ∷ [])

-- ==== LoopLemmas: The steps of the loops that delete.

-- ---- in a transaction

module _ (numbers : Numbers) where
  abbrev so_far : ℕ → Rows → Rows
  so_far to = rows_without (goes (numbers_to numbers to ∷ []))

  pub no_number_deleted : (now : State) → Deletes {T = Unit {0}} (so_far numbers.from) now now (Ok tt)
  no_number_deleted now = lemma.deletes_none (so_far numbers.from) now (deleted_none (goes (numbers_to numbers numbers.from ∷ [])) (goes_none numbers))

  pub number_deleted : {X : Type 0} (number : ℕ) (old mid new : State) (result : Result X TableFault) → numbers.from ≤ number → Deletes {T = Unit {0}} (so_far number) old mid (Ok tt)
      → Deletes (without_interchange numbers.partner (number + 1)) mid new result → Deletes (so_far (number + 1)) old new result
  number_deleted number old mid new result above first second =
      lemma.deletes_same (λ rows. without_interchange numbers.partner (number + 1) (so_far number rows)) (so_far (number + 1)) old new result
      (λ rows. deleted_twice (goes (numbers_to numbers number ∷ [])) (is_pair numbers.partner (number + 1)) rows ∙ deleted_alike _ _ (goes_next numbers number above) rows)
      (lemma.deletes_then (so_far number) (without_interchange numbers.partner (number + 1)) old mid new tt result first second)

  pub numbers_deleted : {X : Type 0} (last : ℕ) (old new : State) (result : Result X TableFault) → numbers.from ≤ last → numbers.to ≤ last → (last ≤ numbers.to) ⊎ (last ≡ numbers.from)
      → Deletes (so_far last) old new result → Deletes (rows_without (goes (numbers ∷ []))) old new result
  numbers_deleted last old new result above end within p = lemma.deletes_same (so_far last) (rows_without (goes (numbers ∷ []))) old new result (deleted_alike _ _ (goes_end numbers last above end within)) p

pub visit_deleted : {X : Type 0} (before : List ℕ) (visit : ℕ) (after : List ℕ) (old mid new : State) (result : Result X TableFault) → after ≡ before ++ visit ∷ [] → Deletes {T = Unit {0}} (without_visits before) old mid (Ok tt)
    → Deletes (without_visits (visit ∷ [])) mid new result → Deletes (without_visits after) old new result
visit_deleted before visit after old mid new result is first second =
    lemma.deletes_same (λ rows. without_visits (visit ∷ []) (without_visits before rows)) (without_visits after) old new result
    (λ rows. without_more before (visit ∷ []) rows ∙ ap (λ l. without_visits l rows) (sym is))
    (lemma.deletes_then (without_visits before) (without_visits (visit ∷ [])) old mid new tt result first second)

-- ---- transactions

abbrev pub ClearsNumbers : List Numbers → List Numbers → {X : Type 0} → State → State → Result X TableFault → Type 0
ClearsNumbers done all old new result = Clears (rows_without (goes done)) (IsWithoutSome (goes all)) old new result

-- some numbers, and then more
clears_both : {X Y : Type 0} (done more both all : List Numbers) → ((i : Interchange) → (goes done i || goes more i) ≡ goes both i) → ((i : Interchange) → goes both i ≡ true → goes all i ≡ true)
    → (old mid new : State) (x : X) (result : Result Y TableFault) → ClearsNumbers done all old mid (Ok x) → ClearsNumbers more more mid new result → ClearsNumbers both all old new result
clears_both done more both all is within old mid new x result first second =
    let of_done : (i : Interchange) → goes done i ≡ true → goes all i ≡ true = λ i e. within i (sym (is i) ∙ ap (λ b. b || goes more i) e) in
    let of_more : (i : Interchange) → goes more i ≡ true → goes all i ≡ true = λ i e. within i (sym (is i) ∙ or_right (goes done i) (goes more i) e) in
    lemma.clears_same (λ rows. rows_without (goes more) (rows_without (goes done) rows)) (rows_without (goes both)) (IsWithoutSome (goes all)) old new result
    (λ rows. deleted_twice (goes done) (goes more) rows ∙ deleted_alike _ _ is rows)
    (lemma.clears_then (IsWithoutSome (goes all)) (some_then (goes all)) (rows_without (goes done)) (rows_without (goes more)) (λ rows. some_of_more (goes done) (goes all) of_done rows _ (whole_is_some (goes done) rows))
    old mid new x result first (lemma.clears_weaker (rows_without (goes more)) (IsWithoutSome (goes more)) (IsWithoutSome (goes all)) mid new result (some_of_more (goes more) (goes all) of_more) second))
  where
    or_right : (a b : Bool) → b ≡ true → (a || b) ≡ true
    or_right true b e = refl
    or_right false b e = e

-- a batch of the partner's numbers
pub batch_cleared : {X Y : Type 0} (numbers : Numbers) (mid to : ℕ) → numbers.from ≤ mid → mid ≤ to → to ≤ numbers.to → (old between new : State) (x : X) (result : Result Y TableFault)
    → ClearsNumbers (numbers_to numbers mid ∷ []) (numbers ∷ []) old between (Ok x) → ClearsNumbers (numbers_from numbers mid to ∷ []) (numbers_from numbers mid to ∷ []) between new result
    → ClearsNumbers (numbers_to numbers to ∷ []) (numbers ∷ []) old new result
batch_cleared numbers mid to one two three old between new x result =
    clears_both (numbers_to numbers mid ∷ []) (numbers_from numbers mid to ∷ []) (numbers_to numbers to ∷ []) (numbers ∷ []) (goes_more numbers mid to one two) (goes_within numbers to three) old between new x result

-- where the loop ends each has been
pub numbers_cleared : {X : Type 0} (numbers : Numbers) (last : ℕ) (old new : State) (result : Result X TableFault) → numbers.from ≤ last → numbers.to ≤ last → (last ≤ numbers.to) ⊎ (last ≡ numbers.from)
    → ClearsNumbers (numbers_to numbers last ∷ []) (numbers ∷ []) old new result → ClearsNumbers (numbers ∷ []) (numbers ∷ []) old new result
numbers_cleared numbers last old new result above end within p =
    lemma.clears_same _ (rows_without (goes (numbers ∷ []))) (IsWithoutSome (goes (numbers ∷ []))) old new result (deleted_alike _ _ (goes_end numbers last above end within)) p

-- a batch that failed
pub batch_failed : {X Y : Type 0} (numbers : Numbers) (mid to : ℕ) → numbers.from ≤ mid → mid ≤ to → to ≤ numbers.to → (old between new : State) (x : X) (fault : TableFault)
    → ClearsNumbers (numbers_to numbers mid ∷ []) (numbers ∷ []) old between (Ok x) → ClearsNumbers (numbers_from numbers mid to ∷ []) (numbers_from numbers mid to ∷ []) {X = Y} between new (Err fault)
    → ClearsNumbers (numbers ∷ []) (numbers ∷ []) {X = Y} old new (Err fault)
batch_failed numbers mid to one two three old between new x fault first second =
    lemma.clears_failed (rows_without (goes (numbers_to numbers to ∷ []))) (rows_without (goes (numbers ∷ []))) (IsWithoutSome (goes (numbers ∷ []))) old new fault
    (batch_cleared numbers mid to one two three old between new x (Err fault) first second)

-- another partner's numbers
pub more_cleared : {X Y : Type 0} (before : List Numbers) (one : Numbers) (after all behind : List Numbers) → after ≡ before ++ one ∷ [] → all ≡ after ++ behind → (old mid new : State) (x : X) (result : Result Y TableFault)
    → ClearsNumbers before all old mid (Ok x) → ClearsNumbers (one ∷ []) (one ∷ []) mid new result → ClearsNumbers after all old new result
more_cleared before one after all behind is whole old mid new x result =
    clears_both before (one ∷ []) after all (λ i. goes_append before (one ∷ []) i ∙ ap (λ l. goes l i) (sym is))
    (λ i e. ap (λ l. goes l i) whole ∙ sym (goes_append after behind i) ∙ ap (λ b. b || goes behind i) e) old mid new x result

pub more_failed : {X Y : Type 0} (before : List Numbers) (one : Numbers) (after all behind : List Numbers) → after ≡ before ++ one ∷ [] → all ≡ after ++ behind → (old mid new : State) (x : X) (fault : TableFault)
    → ClearsNumbers before all old mid (Ok x) → ClearsNumbers (one ∷ []) (one ∷ []) {X = Y} mid new (Err fault) → ClearsNumbers all all {X = Y} old new (Err fault)
more_failed before one after all behind is whole old mid new x fault first second =
    lemma.clears_failed (rows_without (goes after)) (rows_without (goes all)) (IsWithoutSome (goes all)) old new fault
    (more_cleared before one after all behind is whole old mid new x (Err fault) first second)

-- ---- visits

abbrev pub ClearsVisits : List ℕ → List ℕ → {X : Type 0} → State → State → Result X TableFault → Type 0
ClearsVisits done all old new result = Clears (without_visits done) (IsWithoutSomeVisits (all_but all)) old new result

-- another batch of visits
pub visits_cleared : {X Y : Type 0} (done batch behind all : List ℕ) → (done ++ batch) ++ behind ≡ all → (old mid new : State) (x : X) (result : Result Y TableFault)
    → ClearsVisits done all old mid (Ok x) → ClearsVisits batch batch mid new result → ClearsVisits (done ++ batch) all old new result
visits_cleared done batch behind all is old mid new x result first second =
    let both : (n : ℕ) → all_but all n ≡ true → (all_but done n ≡ true) × (all_but batch n ≡ true) = λ n e. stays_of_more done batch n (stays_of_more (done ++ batch) behind n (ap (λ l. all_but l n) is ∙ e)).0 in
    lemma.clears_same (λ rows. without_visits batch (without_visits done rows)) (without_visits (done ++ batch)) (IsWithoutSomeVisits (all_but all)) old new result (without_more done batch)
    (lemma.clears_then (IsWithoutSomeVisits (all_but all)) (some_visits_then (all_but all)) (without_visits done) (without_visits batch) (λ rows. some_visits_of_more (all_but done) (all_but all) (λ n e. (both n e).0) rows _ (whole_is_some_visits (all_but done) rows))
    old mid new x result first (lemma.clears_weaker (without_visits batch) (IsWithoutSomeVisits (all_but batch)) (IsWithoutSomeVisits (all_but all)) mid new result (some_visits_of_more (all_but batch) (all_but all) (λ n e. (both n e).1)) second))

pub visits_failed : {X Y : Type 0} (done batch behind all : List ℕ) → (done ++ batch) ++ behind ≡ all → (old mid new : State) (x : X) (fault : TableFault)
    → ClearsVisits done all old mid (Ok x) → ClearsVisits batch batch {X = Y} mid new (Err fault) → ClearsVisits all all {X = Y} old new (Err fault)
visits_failed done batch behind all is old mid new x fault first second =
    lemma.clears_failed (without_visits (done ++ batch)) (without_visits all) (IsWithoutSomeVisits (all_but all)) old new fault
    (visits_cleared done batch behind all is old mid new x (Err fault) first second)

-- ==== ShownLemmas: What an opened office has, of rows in order: their visits and their lines.

-- ---- the visits

-- the terminal that is loaded has the visits of the rows
pub visits_loaded : (closed : ClosedContent) (db : Database) (rows : Rows) (content : SetupContent) (state : TerminalState) → HasRows rows db → AreOrderly rows → LoadsOwn closed db content state → state.visits ≡ rows.visits
visits_loaded closed db rows content state has orderly loads =
    let shown = loads.0 in
    let office = loads.2 in
    let are : shown.visits ≡ state.visits = ap (λ (r : TerminalRows). r.visits) office.terminal in
    let in_order = shown_in visit_table (0 ∷ 1 ∷ 2 ∷ 3 ∷ 4 ∷ 5 ∷ 6 ∷ 7 ∷ 8 ∷ 9 ∷ 10 ∷ 11 ∷ 12 ∷ 13 ∷ 14 ∷ []) (0 ∷ []) visit_values rows.visits db (map visit_values shown.visits) (λ v. refl) has.rows_are.visits loads.1.visits in
    let same : shown.visits ≡ in_order.0 = same_records IsFormedVisit visit_values visit_one shown.visits in_order.0
    (λ v inside. office.formed.visits v (subst (λ l. Contains l v) are inside))
    (λ v inside. orderly.formed v (Contains-permutation in_order.0 rows.visits v (IsPermutation-sym rows.visits in_order.0 in_order.1) inside))
    in_order.2 in
    sym are
    ∙ sym (rising_same (λ (v : VisitContent). v.number) 0 rows.visits shown.visits (numbered_rise 0 rows.visits orderly.numbered)
    (subst (Rises (λ (v : VisitContent). v.number) 0) (sym are) (numbered_rise 0 state.visits office.whole.numbered)) (subst (IsPermutation rows.visits) (sym same) in_order.1))

-- ---- the lines

-- lines that are those of the terminal that is loaded, none of them twice, are those of the rows, in some order
pub lines_loaded : (closed : ClosedContent) (db : Database) (rows : Rows) (content : SetupContent) (state : TerminalState) (lines : List ListingContent) → HasRows rows db → LoadsOwn closed db content state → AreListedOnce lines → lines_by lines ≡ state.lines
    → IsPermutation rows.lines lines
lines_loaded closed db rows content state lines has loads once by_key =
    let shown = loads.0 in
    let office = loads.2 in
    let are : lines_by shown.lines ≡ state.lines = ap (λ (r : TerminalRows). r.lines) office.terminal in
    let in_order = shown_in listing_table (0 ∷ 1 ∷ 2 ∷ 3 ∷ 4 ∷ 5 ∷ []) (0 ∷ 1 ∷ 2 ∷ 3 ∷ []) line_values rows.lines db (map line_values shown.lines) (λ l. refl) has.rows_are.lines loads.1.lines in
    let same : shown.lines ≡ in_order.0 = same_records (λ l. Unit {0}) line_values line_one shown.lines in_order.0 (λ l inside. tt) (λ l inside. tt) in_order.2 in
    IsPermutation-trans rows.lines shown.lines lines (subst (IsPermutation rows.lines) (sym same) in_order.1) (once_same shown.lines lines office.listed_once once (are ∙ sym by_key))
