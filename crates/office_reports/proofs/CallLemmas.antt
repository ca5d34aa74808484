-- The lists that have lines, by one line more.
use Rattle.std.specs.{Prelude.{◌&&◌, ◌||◌, T, filter}, Borrow.Bor, BTreeMap.{insert_entry, is_at}, List.{list_any, prefix_len, insert}, Map.lookup}
use Rattle.std.specs.{Option.unwrap_or, Ordering.{nat_cmp, eq_by_cmp, is_eq, match_ordering, ordering_then, is_lt, is_gt}, Cmp.Lexicographic.slice_cmp}
use Rattle.std.specs.{declared.cmp.Ordering.Ordering, declared.cmp.Ordering.TheVariants.{Less, Equal, Greater}, Cmp.IsTotalOrder}
use Rattle.std.{specs.FinMap.Entries.{by_order, find, put, is_sorted, below_all}, proofs.lemmas.List.{map-append, take_more, take_all, length-map, length-take}}
use Rattle.std.proofs.Common.{◌≡◌, ℕ, ◌+◌, ◌<◌, ◌≤◌, List, [], ◌∷◌, ◌++◌, length, map, take, Bool, true, false, cond, Option, None, Some, refl, sym, ap, ◌∙◌, arith, get_or, count_by, max, zero, suc, subst}
use Rattle.std.proofs.{lemmas.List.Folds.list_any-append, lemmas.List.Sums.{sum_by-cons, count_by-le-length}, lemmas.Option.none-some}
use Rattle.edi_messages.specs.Owned.{call_content}
use Rattle.terminal_core.specs.{declared.lines.LineState.LineState, declared.lines.LineState.TheVariants.{Pending, Done}, declared.lines.Listing.Listing}
use Rattle.terminal_core.specs.{Drop.is_pending, Listings.{key_of, line_content, line_entry, lines_of, is_line}, Restoring.AreOnce}
use Rattle.terminal_core.{specs.State.{LineContent, LineKey}, proofs.Lined.{order, keys_total, keys_apart, same_key, line_tied, tied_self, found_none}}
use Rattle.terminal_core.proofs.Indexed.{counts, counted_more, one_if}
use Rattle.office_reports.specs.{Lists.{is_done, list_contents, shown_line}, Calls.{count_on, count_with, is_on, key_content, list_of, lists_content, lists_in}}
use Rattle.office_reports.specs.{declared.calls.ListCount.ListCount, declared.yard.Standing.Standing, Blocks.highest_tier, Work.{job_content, placed_contents}}
use Rattle.office_reports.{specs.{declared.work.Job.Job, declared.lists.ListedLine.ListedLine}, proofs.{Listing.none_there, Standings.both}}
use Rattle.std.specs.FinMap as finite_map
use Rattle.std.specs.FinMap.Entries as entries

abbrev Entry : Type 0
Entry = LineKey × LineContent

abbrev none_yet : ListCount
none_yet = record { pending = 0; done = 0 }

-- ---- what is found under a list

found_lists : (all es : List Entry) (q : LineKey) → finite_map.find order q (map (λ (e : Entry). (list_of e.0, count_on all (list_of e.0))) es) ≡ cond (list_any (is_on q) es) (Some (count_on all q)) None
found_lists all [] q = refl
found_lists all (e ∷ es) q =
    elim (is_on q e) as (λ v. is_on q e ≡ v → cond v (Some (count_on all (list_of e.0))) (finite_map.find order q (map (λ (e : Entry). (list_of e.0, count_on all (list_of e.0))) es)) ≡ cond (v || list_any (is_on q) es) (Some (count_on all q)) None) [
      | true ↦ λ on. ap (λ (k : LineKey). Some (count_on all k)) (sym (same_key q (list_of e.0) on))
      | false ↦ λ off. found_lists all es q
    ] refl

abbrev found_in : List Entry → LineKey → Option ListCount
found_in es q = cond (list_any (is_on q) es) (Some (count_on es q)) None

pub found_under : (es : List Entry) (q : LineKey) → finite_map.find order q (lists_in es) ≡ found_in es q
found_under es q =
    let lists : List (LineKey × ListCount) = map (λ (e : Entry). (list_of e.0, count_on es (list_of e.0))) es in
    sym (finite_map.get-entries (finite_map.from_entries {R = order} lists) q) ∙ finite_map.get-from_entries keys_total lists q ∙ found_lists es es q

in_order : (es : List Entry) → T (finite_map.is_sorted order (lists_in es))
in_order es = finite_map.entries_sorted (finite_map.from_entries {R = order} (map (λ (e : Entry). (list_of e.0, count_on es (list_of e.0))) es))

one_lists : (a b : List (LineKey × ListCount)) → T (finite_map.is_sorted order a) → T (finite_map.is_sorted order b) → ((q : LineKey) → finite_map.find order q a ≡ finite_map.find order q b) → a ≡ b
one_lists a b up too same = entries.same_entries order keys_total keys_apart a b up too same

pub none_listed : [] ≡ lists_in []
none_listed = one_lists [] (lists_in []) tt (in_order []) (λ q. sym (found_under [] q))

-- ---- counts

none_counted : (p : Entry → Bool) (q : Entry → Bool) (es : List Entry) → list_any p es ≡ false → count_by (λ e. p e && q e) es ≡ 0
none_counted p q [] none = refl
none_counted p q (e ∷ es) none =
    sum_by-cons (λ (e : Entry). counts (p e && q e)) e es
    ∙ elim (p e) as (λ v. (v || list_any p es) ≡ false → counts (v && q e) + count_by (λ e. p e && q e) es ≡ 0) [
      | true ↦ λ bad. absurd (cc)
      | false ↦ λ rest. (let n : count_by (λ e. p e && q e) es ≡ 0 = none_counted p q es rest in omega arith)
    ] none

none_on : (es : List Entry) (q : LineKey) → list_any (is_on q) es ≡ false → count_on es q ≡ none_yet
none_on es q none = λ i. record {
  pending = none_counted (is_on q) (λ e. is_pending e.1.state) es none i;
  done = none_counted (is_on q) (λ e. is_done e.1.state) es none i;
}

-- what is counted so far, if nothing is there yet
pub counted_under : (es : List Entry) (q : LineKey) → unwrap_or (finite_map.find order q (lists_in es)) none_yet ≡ count_on es q
counted_under es q =
    ap (λ (o : Option ListCount). unwrap_or o none_yet) (found_under es q)
    ∙ elim (list_any (is_on q) es) as (λ v. list_any (is_on q) es ≡ v → unwrap_or (cond v (Some (count_on es q)) None) none_yet ≡ count_on es q) [
      | true ↦ λ some. refl
      | false ↦ λ none. sym (none_on es q none)
    ] refl

same_count : (n : ℕ) → n + 0 ≡ n
same_count n = omega arith

on_this : (count : ListCount) (state : LineState) → ◌≡◌ {A = ListCount} (record { pending = count.pending + counts (true && is_pending state); done = count.done + counts (true && is_done state) }) (count_with count state)
on_this count Pending = λ i. record { pending = count.pending + 1; done = same_count count.done i }
on_this count Done = λ i. record { pending = same_count count.pending i; done = count.done + 1 }

on_that : (count : ListCount) (state : LineState) → ◌≡◌ {A = ListCount} (record { pending = count.pending + counts (false && is_pending state); done = count.done + counts (false && is_done state) }) count
on_that count state = λ i. record { pending = same_count count.pending i; done = same_count count.done i }

module _ (es : List Entry) (e : Entry) where
  more_on : (q : LineKey) → count_on (es ++ e ∷ []) q ≡ record { pending = (count_on es q).pending + counts (is_on q e && is_pending e.1.state); done = (count_on es q).done + counts (is_on q e && is_done e.1.state) }
  more_on q = λ i. record {
    pending = counted_more (λ (e : Entry). is_on q e && is_pending e.1.state) es e i;
    done = counted_more (λ (e : Entry). is_on q e && is_done e.1.state) es e i;
  }

  or_none : (v : Bool) → (v || false) ≡ v
  or_none true = refl
  or_none false = refl

  any_more : (q : LineKey) → list_any (is_on q) (es ++ e ∷ []) ≡ (list_any (is_on q) es || is_on q e)
  any_more q = list_any-append (is_on q) es (e ∷ []) ∙ ap (λ v. list_any (is_on q) es || v) (or_none (is_on q e))

  or_true : (v : Bool) → (v || true) ≡ true
  or_true true = refl
  or_true false = refl

  found_more : (q : LineKey) → found_in (es ++ e ∷ []) q ≡ cond (is_on q e) (Some (count_with (count_on es (list_of e.0)) e.1.state)) (found_in es q)
  found_more q =
      ap (λ v. cond v (Some (count_on (es ++ e ∷ []) q)) None) (any_more q)
      ∙ ap (λ (c : ListCount). cond (list_any (is_on q) es || is_on q e) (Some c) None) (more_on q)
      ∙ elim (is_on q e) as (λ v. is_on q e ≡ v → cond (list_any (is_on q) es || v) (Some (record { pending = (count_on es q).pending + counts (v && is_pending e.1.state); done = (count_on es q).done + counts (v && is_done e.1.state) })) None
      ≡ cond v (Some (count_with (count_on es (list_of e.0)) e.1.state)) (found_in es q)) [
        | true ↦ λ on.
            ap (λ v. cond v (Some (record { pending = (count_on es q).pending + counts (true && is_pending e.1.state); done = (count_on es q).done + counts (true && is_done e.1.state) })) None) (or_true (list_any (is_on q) es))
            ∙ ap (λ (c : ListCount). Some c) (on_this (count_on es q) e.1.state)
            ∙ ap (λ (k : LineKey). Some (count_with (count_on es k) e.1.state)) (same_key q (list_of e.0) on)
        | false ↦ λ off.
            ap (λ v. cond v (Some (record { pending = (count_on es q).pending + counts (false && is_pending e.1.state); done = (count_on es q).done + counts (false && is_done e.1.state) })) None) (or_none (list_any (is_on q) es))
            ∙ ap (λ (c : ListCount). cond (list_any (is_on q) es) (Some c) None) (on_that (count_on es q) e.1.state)
      ] refl

  -- one line more raises the count of its list
  pub one_more : lists_in (es ++ e ∷ []) ≡ finite_map.put order (list_of e.0) (count_with (count_on es (list_of e.0)) e.1.state) (lists_in es)
  one_more =
      let k : LineKey = list_of e.0 in
      let count : ListCount = count_with (count_on es k) e.1.state in
      one_lists (lists_in (es ++ e ∷ [])) (finite_map.put order k count (lists_in es)) (in_order (es ++ e ∷ [])) (entries.is_sorted-put order keys_total k count (lists_in es) (in_order es))
      (λ q. found_under (es ++ e ∷ []) q ∙ found_more q ∙ sym (entries.find-put order keys_total q k count (lists_in es) ∙ ap (cond (eq_by_cmp order q k) (Some count)) (found_under es q)))

-- ---- lines in another order

any_counted : (p : Entry → Bool) (es : List Entry) → list_any p es ≡ false → count_by p es ≡ 0
any_counted p [] none = refl
any_counted p (e ∷ es) none =
    sum_by-cons (λ (e : Entry). counts (p e)) e es
    ∙ elim (p e) as (λ v. (v || list_any p es) ≡ false → counts v + count_by p es ≡ 0) [
      | true ↦ λ bad. absurd (cc)
      | false ↦ λ rest. (let n : count_by p es ≡ 0 = any_counted p es rest in omega arith)
    ] none

some_counted_by : (p : Entry → Bool) (es : List Entry) → list_any p es ≡ true → 1 ≤ count_by p es
some_counted_by p [] some = absurd (cc)
some_counted_by p (e ∷ es) some =
    let first : count_by p (e ∷ es) ≡ counts (p e) + count_by p es = sum_by-cons (λ (e : Entry). counts (p e)) e es in
    elim (p e) as (λ v. p e ≡ v → (v || list_any p es) ≡ true → 1 ≤ count_by p (e ∷ es)) [
      | true ↦ λ is given. (let one : counts (p e) ≡ 1 = one_if (p e) is in omega arith)
      | false ↦ λ isnt given. (let rest : 1 ≤ count_by p es = some_counted_by p es given in omega arith)
    ] refl some

same_any : (p : Entry → Bool) (a b : List Entry) → count_by p a ≡ count_by p b → list_any p a ≡ list_any p b
same_any p a b same = by (list_any p a) (list_any p b) refl refl
  where
    by : (v w : Bool) → list_any p a ≡ v → list_any p b ≡ w → v ≡ w
    by true true e f = refl
    by false false e f = refl
    by true false e f = (let some : 1 ≤ count_by p a = some_counted_by p a e in let none : count_by p b ≡ 0 = any_counted p b f in absurd (omega arith))
    by false true e f = (let some : 1 ≤ count_by p b = some_counted_by p b f in let none : count_by p a ≡ 0 = any_counted p a e in absurd (omega arith))

-- lines that are counted alike have the same lists
same_lists : (a b : List Entry) → ((p : Entry → Bool) → count_by p a ≡ count_by p b) → lists_in a ≡ lists_in b
same_lists a b same = one_lists (lists_in a) (lists_in b) (in_order a) (in_order b) (λ q.
    found_under a q
    ∙ (λ i. cond (same_any (is_on q) a b (same (is_on q)) i) (Some (record { pending = same (λ e. is_on q e && is_pending e.1.state) i; done = same (λ e. is_on q e && is_done e.1.state) i })) None)
    ∙ sym (found_under b q))

put_counted : (p : Entry → Bool) (k : LineKey) (v : LineContent) (es : List Entry) → finite_map.find order k es ≡ None → count_by p (finite_map.put order k v es) ≡ counts (p (k, v)) + count_by p es
put_counted p k v [] none = sum_by-cons (λ (e : Entry). counts (p e)) (k, v) []
put_counted p k v (e ∷ es) none = by (order k e.0) none (λ n. put_counted p k v es n)
  where
    by : (r : Ordering) → cond (is_eq r) (Some e.1) (finite_map.find order k es) ≡ None
        → (finite_map.find order k es ≡ None → count_by p (finite_map.put order k v es) ≡ counts (p (k, v)) + count_by p es)
        → count_by p (entries.by_order r ((k, v) ∷ e ∷ es) ((e.0, v) ∷ es) (e ∷ finite_map.put order k v es)) ≡ counts (p (k, v)) + count_by p (e ∷ es)
    by Less is more = sum_by-cons (λ (e : Entry). counts (p e)) (k, v) (e ∷ es)
    by Equal is more = absurd (none-some e.1 (sym is))
    by Greater is more =
        let rest : count_by p (finite_map.put order k v es) ≡ counts (p (k, v)) + count_by p es = more is in
        let first : count_by p (e ∷ finite_map.put order k v es) ≡ counts (p e) + count_by p (finite_map.put order k v es) = sum_by-cons (λ (e : Entry). counts (p e)) e (finite_map.put order k v es) in
        let old : count_by p (e ∷ es) ≡ counts (p e) + count_by p es = sum_by-cons (λ (e : Entry). counts (p e)) e es in
        omega arith

-- ---- rows

no_length : {A : Type 0} (xs : List A) → length xs ≡ 0 → xs ≡ []
no_length [] e = refl
no_length (x ∷ xs) e = absurd (omega arith)

rows_counted : (rows : List Listing) → AreOnce rows → (p : Entry → Bool) → count_by p (map line_entry rows) ≡ count_by p (finite_map.entries (lines_of rows))
rows_counted [] once p = ap (count_by p) (sym (no_length (finite_map.entries (lines_of [])) (sym (finite_map.len-entries (lines_of [])) ∙ finite_map.len-empty order LineContent)))
rows_counted (row ∷ rows) once p =
    let own : Listing → Bool = is_line (call_content row.call) row.side row.container in
    let its : own row ≡ true = sym (line_tied (call_content row.call) row.side row.container row) ∙ tied_self (key_of row) in
    let one : counts (own row) ≡ 1 = one_if (own row) its in
    let most : count_by own (row ∷ rows) ≤ 1 = once (call_content row.call) row.side row.container in
    let parted : count_by own (row ∷ rows) ≡ counts (own row) + count_by own rows = sum_by-cons (λ (r : Listing). counts (own r)) row rows in
    let few : count_by own rows ≡ 0 = omega arith in
    let new : finite_map.find order (key_of row) (map line_entry rows) ≡ None = found_none (call_content row.call) row.side row.container rows (λ k other below there. none_there own rows few k other there (own other) refl) in
    let there : finite_map.find order (key_of row) (finite_map.entries (lines_of rows)) ≡ None = sym (finite_map.get-entries (lines_of rows) (key_of row)) ∙ finite_map.get-from_entries keys_total (map line_entry rows) (key_of row) ∙ new in
    let others : AreOnce rows = λ call side container.
    (let all : count_by (is_line call side container) (row ∷ rows) ≤ 1 = once call side container in
    let these : count_by (is_line call side container) (row ∷ rows) ≡ counts (is_line call side container row) + count_by (is_line call side container) rows = sum_by-cons (λ (r : Listing). counts (is_line call side container r)) row rows in omega arith) in
    sum_by-cons (λ (e : Entry). counts (p e)) (line_entry row) (map line_entry rows)
    ∙ ap (λ n. counts (p (line_entry row)) + n) (rows_counted rows others p)
    ∙ sym (put_counted p (key_of row) (line_content row) (finite_map.entries (lines_of rows)) there)
    ∙ ap (count_by p) (sym (finite_map.entries-insert keys_total (lines_of rows) (key_of row) (line_content row)))

-- the lists of rows, and of the lines that these are
pub lists_of_rows : (rows : List Listing) → AreOnce rows → lists_in (map line_entry rows) ≡ lists_in (finite_map.entries (lines_of rows))
lists_of_rows rows once = same_lists (map line_entry rows) (finite_map.entries (lines_of rows)) (rows_counted rows once)

module _ (rows : List Listing) (i : ℕ) where
  abbrev front : List Entry
  front = map line_entry (take i rows)

  few : (p : Entry → Bool) → count_by p front ≤ i
  few p =
      let most : count_by p front ≤ length front = count_by-le-length p front in
      let long : length front ≡ length (take i rows) = length-map (take i rows) line_entry in
      omega (arith, length-take i rows)

  -- no list has more lines than there are
  pub few_on : (q : LineKey) → ((count_on front q).pending ≤ i) × ((count_on front q).done ≤ i)
  few_on q = (few (λ e. is_on q e && is_pending e.1.state), few (λ e. is_on q e && is_done e.1.state))

  pub row_more : (row : Listing) → i < length rows → row ≡ get_or rows i row
      → lists_in (map line_entry (take (i + 1) rows)) ≡ finite_map.put order (list_of (key_of row)) (count_with (count_on front (list_of (key_of row))) row.state) (lists_in front)
  row_more row low is =
      ap lists_in (ap (map line_entry) (take_more rows i row low ∙ ap (λ (r : Listing). take i rows ++ r ∷ []) (sym is)) ∙ map-append line_entry (take i rows) (row ∷ []))
      ∙ one_more front (line_entry row)

-- ---- as the code has them

abbrev Key : Type 0
Key = Bor (List ℕ) × Bor (List ℕ) × ℕ

abbrev pub by_key : Key → Key → Ordering
by_key a b = ordering_then (ordering_then (slice_cmp nat_cmp a.0.now b.0.now) (slice_cmp nat_cmp a.1.now b.1.now)) (nat_cmp a.2 b.2)

in_turn : (a b c : Ordering) → ordering_then (ordering_then a b) c ≡ ordering_then a (ordering_then b (ordering_then (ordering_then c Equal) Equal))
in_turn Less b c = refl
in_turn Greater b c = refl
in_turn Equal Less c = refl
in_turn Equal Greater c = refl
in_turn Equal Equal Less = refl
in_turn Equal Equal Equal = refl
in_turn Equal Equal Greater = refl

one_order : (a b : Key) → by_key a b ≡ order (key_content a) (key_content b)
one_order a b = in_turn (slice_cmp nat_cmp a.0.now b.0.now) (slice_cmp nat_cmp a.1.now b.1.now) (nat_cmp a.2 b.2)

pub content_found : (k : Key) (lists : List (Key × ListCount)) → lookup (is_at (by_key k)) lists ≡ finite_map.find order (key_content k) (lists_content lists)
content_found k [] = refl
content_found k (e ∷ lists) = λ i. cond (is_eq (one_order k e.0 i)) (Some e.1) (content_found k lists i)

pub content_put : (k : Key) (count : ListCount) (lists : List (Key × ListCount)) → lists_content (insert_entry by_key lists k count) ≡ finite_map.put order (key_content k) count (lists_content lists)
content_put k count [] = refl
content_put k count (e ∷ lists) =
    by (by_key k e.0) (content_put k count lists)
    ∙ ap (λ r. entries.by_order r ((key_content k, count) ∷ lists_content (e ∷ lists)) ((key_content e.0, count) ∷ lists_content lists) ((key_content e.0, e.1) ∷ finite_map.put order (key_content k) count (lists_content lists))) (one_order k e.0)
  where
    by : (r : Ordering) → lists_content (insert_entry by_key lists k count) ≡ finite_map.put order (key_content k) count (lists_content lists)
        → lists_content (match_ordering r ((k, count) ∷ e ∷ lists) ((e.0, count) ∷ lists) (e ∷ insert_entry by_key lists k count))
        ≡ entries.by_order r ((key_content k, count) ∷ lists_content (e ∷ lists)) ((key_content e.0, count) ∷ lists_content lists) ((key_content e.0, e.1) ∷ finite_map.put order (key_content k) count (lists_content lists))
    by Less rest = refl
    by Equal rest = refl
    by Greater rest = ap (λ more. (key_content e.0, e.1) ∷ more) rest

module _ (rows : List Listing) (i : ℕ) (k : Key) (row : Listing) (lists : List (Key × ListCount)) (key : key_content k ≡ list_of (key_of row)) (told : lists_content lists ≡ lists_in (map line_entry (take i rows))) where
  -- what the code reads of a list's count is what is counted so far
  pub count_read : (o : Option ListCount) (count : ListCount) → o ≡ lookup (is_at (by_key k)) lists → count ≡ unwrap_or o none_yet → count ≡ count_on (map line_entry (take i rows)) (list_of (key_of row))
  count_read o count found is =
      is ∙ ap (λ (o : Option ListCount). unwrap_or o none_yet) (found ∙ content_found k lists ∙ (λ j. finite_map.find order (key j) (told j)))
      ∙ counted_under (map line_entry (take i rows)) (list_of (key_of row))

  -- and what it writes is counted with the row
  pub count_put : (new : List (Key × ListCount)) (count more : ListCount) → i < length rows → row ≡ get_or rows i row → count ≡ count_on (map line_entry (take i rows)) (list_of (key_of row)) → more ≡ count_with count row.state
      → new ≡ insert_entry by_key lists k more → lists_content new ≡ lists_in (map line_entry (take (i + 1) rows))
  count_put new count more low at is with_row puts =
      ap lists_content puts ∙ content_put k more lists
      ∙ (λ j. finite_map.put order (key j) (with_row j) (told j))
      ∙ ap (λ (c : ListCount). finite_map.put order (list_of (key_of row)) (count_with c row.state) (lists_in (map line_entry (take i rows)))) is
      ∙ sym (row_more rows i row low at)

pub all_listed : (rows : List Listing) (i : ℕ) (lists : List (Key × ListCount)) → AreOnce rows → length rows ≤ i → lists_content lists ≡ lists_in (map line_entry (take i rows)) → lists_content lists ≡ lists_in (finite_map.entries (lines_of rows))
all_listed rows i lists once whole told = told ∙ ap (λ (rows : List Listing). lists_in (map line_entry rows)) (take_all i rows whole) ∙ lists_of_rows rows once

-- ==== Counts: Sums and heights of one more.

higher : (a b c : ℕ) → max a (max b c) ≡ max (max a b) c
higher a b c = omega arith

level : (a : ℕ) → max a 0 ≡ max 0 a
level a = omega arith

pub highest_more : (standings : List Standing) (standing : Standing) → highest_tier (standings ++ standing ∷ []) ≡ max (highest_tier standings) standing.slot.tier
highest_more [] standing = level standing.slot.tier
highest_more (other ∷ standings) standing = ap (max other.slot.tier) (highest_more standings standing) ∙ higher other.slot.tier (highest_tier standings) standing.slot.tier

pub next_highest : (standings : List Standing) (i : ℕ) (standing : Standing) (now : ℕ) → i < length standings → standing ≡ get_or standings i standing
    → now ≡ max (highest_tier (take i standings)) standing.slot.tier → now ≡ highest_tier (take (i + 1) standings)
next_highest standings i standing now low at is =
    is ∙ sym (highest_more (take i standings) standing) ∙ ap highest_tier (sym (take_more standings i standing low ∙ ap (λ (s : Standing). take i standings ++ s ∷ []) (sym at)))

-- ==== Jobs: Jobs at their places.

-- the contents with one more are those of the jobs with one more
pub contents_inserted : (R : List ℕ → List ℕ → Ordering) (places : List (List ℕ × Bor Job)) (place : List ℕ) (job : Bor Job)
    → placed_contents (insert_entry R places place job) ≡ insert_entry R (placed_contents places) place (job_content job.now)
contents_inserted R [] place job = refl
contents_inserted R (e ∷ places) place job = by (R place e.0) (contents_inserted R places place job)
  where
    by : (r : Ordering) → placed_contents (insert_entry R places place job) ≡ insert_entry R (placed_contents places) place (job_content job.now)
        → placed_contents (match_ordering r ((place, job) ∷ e ∷ places) ((e.0, job) ∷ places) (e ∷ insert_entry R places place job))
        ≡ match_ordering r ((place, job_content job.now) ∷ (e.0, job_content e.1.now) ∷ placed_contents places) ((e.0, job_content job.now) ∷ placed_contents places) ((e.0, job_content e.1.now) ∷ insert_entry R (placed_contents places) place (job_content job.now))
    by Less rest = refl
    by Equal rest = refl
    by Greater rest = ap (λ es. (e.0, job_content e.1.now) ∷ es) rest

-- a list has as many lines as its map has entries
pub contents_len : (entries : List (List ℕ × ListedLine)) → length (list_contents entries) ≡ length entries
contents_len entries = length-map entries (λ entry. (entry.0, shown_line entry.1))

-- ==== Puts: An entry more in a list that stands by keys, and a test of the entries.

first : (a b : Bool) → T (a && b) → T a
first true b p = tt
first false b p = p

second : (a b : Bool) → T (a && b) → T b
second true b p = p
second false b p = absurd p

less : (o : Ordering) → T (is_lt o) → o ≡ Less
less Less p = refl
less Equal p = absurd p
less Greater p = absurd p

module _ {K X : Type 0} (R : K → K → Ordering) where
  -- a key that ties with none of the entries goes after those that it comes after
  pub put_there : (k : K) (v : X) (es : List (K × X)) → find R k es ≡ None
      → put R k v es ≡ insert es (prefix_len (λ e. is_gt (R k e.0)) es) (k, v)
  put_there k v [] none = refl
  put_there k v (e ∷ es) none = by (R k e.0) none (λ n. put_there k v es n)
    where
      by : (r : Ordering) → cond (is_eq r) (Some e.1) (find R k es) ≡ None → (find R k es ≡ None → put R k v es ≡ insert es (prefix_len (λ (f : K × X). is_gt (R k f.0)) es) (k, v))
          → by_order r ((k, v) ∷ e ∷ es) ((e.0, v) ∷ es) (e ∷ put R k v es)
          ≡ insert (e ∷ es) (cond (is_gt r) (1 + prefix_len (λ (f : K × X). is_gt (R k f.0)) es) 0) (k, v)
      by Less is rest = refl
      by Equal is rest = absurd (none-some e.1 (sym is))
      by Greater is rest =
          let more : 1 + prefix_len (λ (f : K × X). is_gt (R k f.0)) es ≡ suc (prefix_len (λ (f : K × X). is_gt (R k f.0)) es) = omega arith in
          ap (λ fs. e ∷ fs) (rest is) ∙ sym (ap (λ m. insert (e ∷ es) m (k, v)) more)

  -- what is not there is not among what passes
  pub still_none : (p : K × X → Bool) (k : K) (es : List (K × X)) → find R k es ≡ None → find R k (filter p es) ≡ None
  still_none p k [] none = refl
  still_none p k (e ∷ es) none = by (p e) (is_eq (R k e.0)) refl none (λ n. still_none p k es n)
    where
      by : (b t : Bool) → is_eq (R k e.0) ≡ t → cond t (Some e.1) (find R k es) ≡ None → (find R k es ≡ None → find R k (filter p es) ≡ None) → find R k (cond b (e ∷ filter p es) (filter p es)) ≡ None
      by b true is at rest = absurd (none-some e.1 (sym at))
      by true false is at rest = ap (λ t. cond t (Some e.1) (find R k (filter p es))) is ∙ rest at
      by false false is at rest = rest at

  kept_below : (p : K × X → Bool) (k : K) (es : List (K × X)) → T (below_all R k es) → T (below_all R k (filter p es))
  kept_below p k [] h = tt
  kept_below p k (e ∷ es) h = by (p e) (kept_below p k es (second _ _ h))
    where
      by : (b : Bool) → T (below_all R k (filter p es)) → T (below_all R k (cond b (e ∷ filter p es) (filter p es)))
      by true rest = both _ _ (first _ _ h) rest
      by false rest = rest

  -- a key below all goes first
  put_first : (k : K) (v : X) (es : List (K × X)) → T (below_all R k es) → put R k v es ≡ (k, v) ∷ es
  put_first k v [] h = refl
  put_first k v (e ∷ es) h = ap (λ r. by_order r ((k, v) ∷ e ∷ es) ((e.0, v) ∷ es) (e ∷ put R k v es)) (less _ (first _ _ h))

  module _ (total : IsTotalOrder R) (p : K × X → Bool) where
    all_below : (k : K) (x : K) (es : List (K × X)) → R k x ≡ Less → T (below_all R x es) → T (below_all R k es)
    all_below k x [] below h = tt
    all_below k x (e ∷ es) below h =
        both _ _ (subst (λ r. T (is_lt r)) (sym (total.trans k x e.0 below (less _ (first _ _ h)))) tt) (all_below k x es below (second _ _ h))

    -- what passes of one entry more
    pub put_kept : (k : K) (v : X) (es : List (K × X)) → T (is_sorted R es) → find R k es ≡ None
        → filter p (put R k v es) ≡ cond (p (k, v)) (put R k v (filter p es)) (filter p es)
    put_kept k v [] sorted none = refl
    put_kept k v (e ∷ es) sorted none = by (R k e.0) refl none (λ n. put_kept k v es (second _ _ sorted) n)
      where
        front : (a b : Bool) → R k e.0 ≡ Less
            → cond a ((k, v) ∷ cond b (e ∷ filter p es) (filter p es)) (cond b (e ∷ filter p es) (filter p es))
            ≡ cond a (put R k v (cond b (e ∷ filter p es) (filter p es))) (cond b (e ∷ filter p es) (filter p es))
        front false b is = refl
        front true true is = sym (ap (λ r. by_order r ((k, v) ∷ e ∷ filter p es) ((e.0, v) ∷ filter p es) (e ∷ put R k v (filter p es))) is)
        front true false is = sym (put_first k v (filter p es) (kept_below p k es (all_below k e.0 es is (first _ _ sorted))))

        back : (a b : Bool) → R k e.0 ≡ Greater → filter p (put R k v es) ≡ cond a (put R k v (filter p es)) (filter p es)
            → cond b (e ∷ filter p (put R k v es)) (filter p (put R k v es))
            ≡ cond a (put R k v (cond b (e ∷ filter p es) (filter p es))) (cond b (e ∷ filter p es) (filter p es))
        back true true is rest = ap (λ fs. e ∷ fs) rest ∙ sym (ap (λ r. by_order r ((k, v) ∷ e ∷ filter p es) ((e.0, v) ∷ filter p es) (e ∷ put R k v (filter p es))) is)
        back false true is rest = ap (λ fs. e ∷ fs) rest
        back a false is rest = rest

        by : (r : Ordering) → R k e.0 ≡ r → cond (is_eq r) (Some e.1) (find R k es) ≡ None
            → (find R k es ≡ None → filter p (put R k v es) ≡ cond (p (k, v)) (put R k v (filter p es)) (filter p es))
            → filter p (by_order r ((k, v) ∷ e ∷ es) ((e.0, v) ∷ es) (e ∷ put R k v es))
            ≡ cond (p (k, v)) (put R k v (cond (p e) (e ∷ filter p es) (filter p es))) (cond (p e) (e ∷ filter p es) (filter p es))
        by Less is none_at rest = front (p (k, v)) (p e) is
        by Equal is none_at rest = absurd (none-some e.1 (sym none_at))
        by Greater is none_at rest = back (p (k, v)) (p e) is (rest none_at)

-- ---- places under a map

module _ {A B : Type 0} (f : A → B) where
  pub prefix_mapped : (p : B → Bool) (xs : List A) → prefix_len (λ x. p (f x)) xs ≡ prefix_len p (map f xs)
  prefix_mapped p [] = refl
  prefix_mapped p (x ∷ xs) = ap (λ n. cond (p (f x)) (1 + n) 0) (prefix_mapped p xs)

  pub insert_mapped : (xs : List A) (i : ℕ) (y : A) → map f (insert xs i y) ≡ insert (map f xs) i (f y)
  insert_mapped xs zero y = refl
  insert_mapped [] (suc i) y = refl
  insert_mapped (x ∷ xs) (suc i) y = ap (λ rest. f x ∷ rest) (insert_mapped xs i y)
