-- The order of the numbers that wait doesn't count.
use Rattle.std.{specs.{List.{prefix_len, insert, AllZip, Contains}, List.Sorted.IsPermutation}, proofs.lemmas.List.{map-append, take_more, take_all}}
use Rattle.std.proofs.Common.{◌≡◌, ℕ, ◌+◌, ◌<◌, ◌≤◌, List, [], ◌∷◌, ◌++◌, length, map, take, Bool, true, false, cond, None, Some, refl, sym, ap, ◌∙◌, arith, get_or, count_by, filter, ◌⊎◌, inl, inr, zero, suc, slice_index_or, min, max, fold, nat_le}
use Rattle.std.proofs.{lemmas.Bool.{cases_Bool, leb-true, leb-false}, lemmas.List.Sorted.{IsPermutation-sym, Contains-permutation, length_permutation}}
use Rattle.box6346.specs.declared.box_number.BoxNumber.{BoxNumber}
use Rattle.edi_messages.specs.Owned.{call_content}
use Rattle.terminal_core.specs.{declared.lines.Listing.Listing, Listings.{key_of, line_content, line_entry, lines_of, is_line}, Restoring.AreOnce}
use Rattle.terminal_core.{specs.State.{LineContent, LineKey, Lines}, proofs.Lined.{order, keys_total, keys_apart, line_tied, tied_self, found_none}}
use Rattle.terminal_core.proofs.Indexed.{none_before_one}
use Rattle.office_reports.{specs.OpenLines.{is_behind, is_open_for, open_lines}, proofs.Listing.none_there}
use Rattle.office_reports.specs.Partners.{PartnerContent, AreAlike, partners_text, row_of, rows_text, waiting_count, waiting_of}
use Rattle.office_reports.proofs.CallLemmas.{put_there, still_none, put_kept, prefix_mapped, insert_mapped}
use Rattle.std.specs.FinMap as finite_map

-- ==== OpenLineLemmas: One row more, and the open lines that name a container.

abbrev Entry : Type 0
Entry = LineKey × LineContent

no_length : {A : Type 0} (xs : List A) → length xs ≡ 0 → xs ≡ []
no_length [] e = refl
no_length (x ∷ xs) e = absurd (omega arith)

pub none_open : (container : BoxNumber) → [] ≡ open_lines (lines_of []) container
none_open container =
    sym (ap (filter (is_open_for container)) (no_length (finite_map.entries (lines_of [])) (sym (finite_map.len-entries (lines_of [])) ∙ finite_map.len-empty order LineContent)))

module _ (all : List Listing) (once : AreOnce all) (i : ℕ) (row : Listing) (low : i < length all) (is : row ≡ get_or all i row) where
  abbrev before : Lines
  before = lines_of (take i all)

  longer : map line_entry (take i all) ++ line_entry row ∷ [] ≡ map line_entry (take (i + 1) all)
  longer = sym (ap (map line_entry) (take_more all i row low ∙ ap (λ (r : Listing). take i all ++ r ∷ []) (sym is)) ∙ map-append line_entry (take i all) (row ∷ []))

  -- no row before it has its key
  is_new : finite_map.find order (key_of row) (map line_entry (take i all)) ≡ None
  is_new =
      let p : Listing → Bool = is_line (call_content row.call) row.side row.container in
      let its : p row ≡ true = sym (line_tied (call_content row.call) row.side row.container row) ∙ tied_self (key_of row) in
      let few : count_by p (take i all) ≡ 0 = none_before_one p all i row (once (call_content row.call) row.side row.container) low is its in
      found_none (call_content row.call) row.side row.container (take i all) (λ k other below there. none_there p (take i all) few k other there (p other) refl)

  not_in : finite_map.find order (key_of row) (finite_map.entries before) ≡ None
  not_in = sym (finite_map.get-entries before (key_of row)) ∙ finite_map.get-from_entries keys_total (map line_entry (take i all)) (key_of row) ∙ is_new

  more : finite_map.entries (lines_of (take (i + 1) all)) ≡ finite_map.put order (key_of row) (line_content row) (finite_map.entries before)
  more =
      ap (λ (es : List Entry). finite_map.entries (finite_map.from_entries {R = order} es)) (sym longer)
      ∙ ap finite_map.entries (finite_map.from_entries_push keys_total keys_apart (map line_entry (take i all)) (key_of row) (line_content row) is_new)
      ∙ finite_map.entries-insert keys_total before (key_of row) (line_content row)

  module _ (container : BoxNumber) where
    abbrev p : Entry → Bool
    p = is_open_for container

    kept : open_lines (lines_of (take (i + 1) all)) container
        ≡ cond (p (line_entry row)) (finite_map.put order (key_of row) (line_content row) (open_lines before container)) (open_lines before container)
    kept = ap (filter p) more ∙ put_kept order keys_total p (key_of row) (line_content row) (finite_map.entries before) (finite_map.entries_sorted before) not_in

    -- a row that is open and names the container goes to its place
    pub row_open : (found : List Entry) → p (line_entry row) ≡ true → found ≡ open_lines before container
        → insert found (prefix_len (λ e. is_behind (key_of row) e.0) found) (line_entry row) ≡ open_lines (lines_of (take (i + 1) all)) container
    row_open found own told =
        ap (λ (es : List Entry). insert es (prefix_len (λ (e : Entry). is_behind (key_of row) e.0) es) (line_entry row)) told
        ∙ sym (put_there order (key_of row) (line_content row) (open_lines before container) (still_none order p (key_of row) (finite_map.entries before) not_in))
        ∙ sym (kept ∙ ap (λ b. cond b (finite_map.put order (key_of row) (line_content row) (open_lines before container)) (open_lines before container)) own)

    -- the same of things that show entries, as references do
    pub row_put : {A : Type 0} (shows : A → Entry) (old new : List A) (place : ℕ) (x : A) → new ≡ insert old place x → shows x ≡ line_entry row
        → place ≡ prefix_len (λ y. is_behind (key_of row) (shows y).0) old → p (line_entry row) ≡ true → map shows old ≡ open_lines before container
        → map shows new ≡ open_lines (lines_of (take (i + 1) all)) container
    row_put shows old new place x is shown there own told =
        ap (map shows) is ∙ insert_mapped shows old place x ∙ ap (insert (map shows old) place) shown
        ∙ ap (λ n. insert (map shows old) n (line_entry row)) (there ∙ prefix_mapped shows (λ (e : Entry). is_behind (key_of row) e.0) old)
        ∙ row_open (map shows old) own told

    -- any other row changes nothing
    pub row_other : (found : List Entry) → p (line_entry row) ≡ false → found ≡ open_lines before container → found ≡ open_lines (lines_of (take (i + 1) all)) container
    row_other found other told =
        told ∙ sym (kept ∙ ap (λ b. cond b (finite_map.put order (key_of row) (line_content row) (open_lines before container)) (open_lines before container)) other)

pub all_open : (container : BoxNumber) (all : List Listing) (i : ℕ) (found : List Entry) → length all ≤ i → found ≡ open_lines (lines_of (take i all)) container → found ≡ open_lines (lines_of all) container
all_open container all i found whole told = told ∙ ap (λ rows. open_lines (lines_of rows) container) (take_all i all whole)

-- ==== Waits: The order of the numbers that wait doesn't count.

-- ---- the least

least_first : (a : ℕ) (xs : List ℕ) → fold min a xs ≤ a
least_first a [] = omega arith
least_first a (x ∷ xs) = let below = least_first (min a x) xs in omega (arith, below)

least_below : (a : ℕ) (xs : List ℕ) (k x : ℕ) → k < length (a ∷ xs) → slice_index_or (a ∷ xs) k x ≡ x → fold min a xs ≤ x
least_below a xs zero x within at = let below = least_first a xs in omega (arith, below, at)
least_below a [] (suc k) x within at = absurd (omega (arith, within))
least_below a (y ∷ ys) (suc zero) x within at = let below = least_first (min a y) ys in omega (arith, below, at)
least_below a (y ∷ ys) (suc (suc k)) x within at = least_below (min a y) ys (suc k) x (omega (arith, within)) at

lesser : (a y : ℕ) → (min a y ≡ a) ⊎ (min a y ≡ y)
lesser a y = elim (cases_Bool (nat_le a y)) [
  | inl low ↦ inl (let le = leb-true a y low in omega (arith, le))
  | inr high ↦ inr (let lt = leb-false a y high in omega (arith, lt))
]

-- of a list with one more in front of two, what is only in the list with the lesser
with_both : (a y m : ℕ) (ys : List ℕ) (x : ℕ) → (m ≡ a) ⊎ (m ≡ y) → Contains (m ∷ ys) x → Contains (a ∷ y ∷ ys) x
with_both a y m ys x (inl first) (zero, within, at) = (0, omega arith, sym first ∙ at)
with_both a y m ys x (inr second) (zero, within, at) = (1, omega arith, sym second ∙ at)
with_both a y m ys x of (suc k, within, at) = (suc (suc k), omega (arith, within), at)

least_there : (a : ℕ) (xs : List ℕ) → Contains (a ∷ xs) (fold min a xs)
least_there a [] = (0, omega arith, refl)
least_there a (y ∷ ys) = with_both a y (min a y) ys (fold min (min a y) ys) (lesser a y) (least_there (min a y) ys)

least_permuted : (a b : ℕ) (us vs : List ℕ) → IsPermutation (a ∷ us) (b ∷ vs) → fold min a us ≤ fold min b vs
least_permuted a b us vs same =
    let there = Contains-permutation _ _ (fold min b vs) (IsPermutation-sym _ _ same) (least_there b vs) in
    least_below a us there.0 (fold min b vs) there.1 there.2

-- ---- the greatest

greatest_first : (a : ℕ) (xs : List ℕ) → a ≤ fold max a xs
greatest_first a [] = omega arith
greatest_first a (x ∷ xs) = let above = greatest_first (max a x) xs in omega (arith, above)

greatest_above : (a : ℕ) (xs : List ℕ) (k x : ℕ) → k < length (a ∷ xs) → slice_index_or (a ∷ xs) k x ≡ x → x ≤ fold max a xs
greatest_above a xs zero x within at = let above = greatest_first a xs in omega (arith, above, at)
greatest_above a [] (suc k) x within at = absurd (omega (arith, within))
greatest_above a (y ∷ ys) (suc zero) x within at = let above = greatest_first (max a y) ys in omega (arith, above, at)
greatest_above a (y ∷ ys) (suc (suc k)) x within at = greatest_above (max a y) ys (suc k) x (omega (arith, within)) at

greater : (a y : ℕ) → (max a y ≡ a) ⊎ (max a y ≡ y)
greater a y = elim (cases_Bool (nat_le a y)) [
  | inl low ↦ inr (let le = leb-true a y low in omega (arith, le))
  | inr high ↦ inl (let lt = leb-false a y high in omega (arith, lt))
]

greatest_there : (a : ℕ) (xs : List ℕ) → Contains (a ∷ xs) (fold max a xs)
greatest_there a [] = (0, omega arith, refl)
greatest_there a (y ∷ ys) = with_both a y (max a y) ys (fold max (max a y) ys) (greater a y) (greatest_there (max a y) ys)

greatest_permuted : (a b : ℕ) (us vs : List ℕ) → IsPermutation (a ∷ us) (b ∷ vs) → fold max b vs ≤ fold max a us
greatest_permuted a b us vs same =
    let there = Contains-permutation _ _ (fold max b vs) (IsPermutation-sym _ _ same) (greatest_there b vs) in
    greatest_above a us there.0 (fold max b vs) there.1 there.2

-- ---- the texts

waiting_alike : (us vs : List ℕ) → IsPermutation us vs → waiting_of us ≡ waiting_of vs
waiting_alike [] [] same = refl
waiting_alike [] (b ∷ vs) same = absurd (let e = length_permutation _ _ same in omega (arith, e))
waiting_alike (a ∷ us) [] same = absurd (let e = length_permutation _ _ same in omega (arith, e))
waiting_alike (a ∷ us) (b ∷ vs) same =
    let back = IsPermutation-sym _ _ same in
    let count : length (a ∷ us) ≡ length (b ∷ vs) = sym (length_permutation _ _ same) in
    let one = least_permuted a b us vs same in
    let other = least_permuted b a vs us back in
    let least : fold min a us ≡ fold min b vs = omega (arith, one, other) in
    let high = greatest_permuted a b us vs same in
    let low = greatest_permuted b a vs us back in
    let greatest : fold max a us ≡ fold max b vs = omega (arith, high, low) in
    (λ i. Some (record { count = count i; first = least i; last = greatest i }))

row_alike : (one other : PartnerContent) → AreAlike one other → row_of one ≡ row_of other
row_alike one other alike =
    let waiting = waiting_alike one.waiting other.waiting alike.waiting in
    (λ i. record { code = alike.code i; kind = alike.kind i; next = alike.next i; waiting = waiting i })

rows_alike : (ones others : List PartnerContent) → AllZip AreAlike ones others → map row_of ones ≡ map row_of others
rows_alike [] [] alike = refl
rows_alike [] (p ∷ ps) alike = absurd alike
rows_alike (o ∷ os) [] alike = absurd alike
rows_alike (o ∷ os) (p ∷ ps) alike = let first = row_alike o p alike.0 in let more = rows_alike os ps alike.1 in (λ i. first i ∷ more i)

sums_from : (at : ℕ) (ones others : List PartnerContent) → AllZip AreAlike ones others → fold (λ (a : ℕ) (p : PartnerContent). a + waiting_count p) at ones ≡ fold (λ (a : ℕ) (p : PartnerContent). a + waiting_count p) at others
sums_from at [] [] alike = refl
sums_from at [] (p ∷ ps) alike = absurd alike
sums_from at (o ∷ os) [] alike = absurd alike
sums_from at (o ∷ os) (p ∷ ps) alike =
    ap (λ (n : ℕ). fold (λ (a : ℕ) (p : PartnerContent). a + waiting_count p) (at + n) os) (sym (length_permutation _ _ alike.0.waiting)) ∙ sums_from (at + waiting_count p) os ps alike.1

pub texts_alike : (ones others : List PartnerContent) → AllZip AreAlike ones others → partners_text ones ≡ partners_text others
texts_alike ones others alike =
    let rows = rows_alike ones others alike in
    let sum = sums_from 0 ones others alike in
    (λ i. rows_text (record { rows = rows i; waiting = sum i }))
