-- The open lines of a list, as rows have them.
use Rattle.std.specs.{Prelude.{filter, ◌&&◌, ◌||◌, T, IsSorted, count_by, string_bytes}, List.list_any, Option.option_map_or, Str.bytes_eq}
use Rattle.std.specs.{FinMap.Entries.below_all, Ordering.{nat_cmp, eq_by_cmp, is_eq, is_lt, ordering_reverse}, declared.cmp.Ordering.Ordering}
use Rattle.std.specs.{declared.cmp.Ordering.TheVariants.{Less, Equal, Greater}, Cmp.{eq_by_cmp_equiv, IsStrictWeakOrder}, List.Sorted.IsPermutation as IsMoved}
use Rattle.std.{specs.Cmp.Lexicographic.{slice_cmp, nat_list_cmp_total, texts_ties}, proofs.lemmas.List.Sums.sum_by-cons}
use Rattle.std.proofs.Common.{◌≡◌, ℕ, suc, ◌+◌, ◌<◌, ◌≤◌, List, [], ◌∷◌, length, map, get_or, Bool, true, false, cond, Option, Some, refl, sym, ap, ◌∙◌, arith}
use Rattle.std.proofs.lemmas.List.Sorted.{sum_by-IsPermutation, list_any-IsPermutation, sorted_far}
use Rattle.box6346.specs.declared.box_number.BoxNumber.{BoxNumber}
use Rattle.edi_messages.specs.Purposes.{CallContent}
use Rattle.terminal_core.specs.{declared.lines.Listing.Listing, declared.lines.Side.Side, State.{LineContent, Lines, line_key}, Restoring.AreOnce}
use Rattle.terminal_core.{specs.Listings.{line_content, line_entry, lines_of, is_line, is_side, key_of}, proofs.Lined.{order, keys_total, line_tied}}
use Rattle.terminal_core.{specs.Drop.{is_pending, is_open_row, open_rows_of, open_containers}, proofs.Rising.{one_list, open_are}}
use Rattle.std.specs.FinMap as finite_map

abbrev by_text : List ℕ → List ℕ → Ordering
by_text = slice_cmp nat_cmp

count_cons : {A : Type 0} (p : A → Bool) (x : A) (xs : List A) → count_by p (x ∷ xs) ≡ cond (p x) 1 0 + count_by p xs
count_cons p x xs = sum_by-cons (λ y. cond (p y) 1 0) x xs

none_any : {A : Type 0} (p : A → Bool) (xs : List A) → count_by p xs ≡ 0 → list_any p xs ≡ false
none_any p [] e = refl
none_any p (x ∷ xs) e = by (p x) refl (none_any p xs)
  where
    by : (b : Bool) → p x ≡ b → (count_by p xs ≡ 0 → list_any p xs ≡ false) → (b || list_any p xs) ≡ false
    by true is rest =
        let more : count_by p (x ∷ xs) ≡ 1 + count_by p xs = count_cons p x xs ∙ ap (λ v. cond v 1 0 + count_by p xs) is in
        absurd (omega (arith, more, e))
    by false is rest =
        let same : count_by p (x ∷ xs) ≡ 0 + count_by p xs = count_cons p x xs ∙ ap (λ v. cond v 1 0 + count_by p xs) is in
        rest (omega (arith, same, e))

module _ (call : CallContent) (side : Side) (b : BoxNumber) where
  pub pending_of : Option LineContent → Bool
  pending_of o = option_map_or (λ (l : LineContent). is_pending l.state) o false

  parts : (x s v w p : Bool) → ((x && (s && (v && (w && p)))) ≡ ((((x && s) && v) && w) && p))
  parts true true true true p = refl
  parts true true true false p = refl
  parts true true false w p = refl
  parts true false v w p = refl
  parts false s v w p = refl

  -- an open row of the container is its line, and open
  open_line : (row : Listing) → (bytes_eq row.container b && is_open_row call side row) ≡ (is_line call side b row && is_pending row.state)
  open_line row = parts (bytes_eq row.container b) (is_side row.side side) (bytes_eq (string_bytes row.call.voyage) call.voyage) (bytes_eq (string_bytes row.call.vessel) call.vessel) (is_pending row.state)

  turned : (s t : List ℕ) → bytes_eq s t ≡ bytes_eq t s
  turned s t = texts_ties s t ∙ (eq_by_cmp_equiv nat_list_cmp_total).symm s t ∙ sym (texts_ties t s)

  pub few : (rows : List Listing) → count_by (bytes_eq b) (open_rows_of call side rows) ≤ count_by (is_line call side b) rows
  few [] = omega arith
  few (row ∷ rows) = by (is_open_row call side row) (bytes_eq b row.container) (is_line call side b row) refl refl refl (few rows)
    where
      never : (o x l : Bool) → o ≡ true → x ≡ true → l ≡ false → (x && o) ≡ (l && is_pending row.state) → ⊥
      never true true false a c d e = cc
      never false x l a c d e = cc
      never true false l a c d e = cc
      never true true true a c d e = cc

      by : (o x l : Bool) → is_open_row call side row ≡ o → bytes_eq b row.container ≡ x → is_line call side b row ≡ l
          → count_by (bytes_eq b) (open_rows_of call side rows) ≤ count_by (is_line call side b) rows
          → count_by (bytes_eq b) (map (λ (r : Listing). r.container) (cond o (row ∷ filter (is_open_row call side) rows) (filter (is_open_row call side) rows))) ≤ count_by (is_line call side b) (row ∷ rows)
      by true true true is has line rest =
          let more = count_cons (bytes_eq b) row.container (open_rows_of call side rows) ∙ ap (λ v. cond v 1 0 + count_by (bytes_eq b) (open_rows_of call side rows)) has in
          let all = count_cons (is_line call side b) row rows ∙ ap (λ v. cond v 1 0 + count_by (is_line call side b) rows) line in
          omega (arith, more, all, rest)
      by true true false is has line rest =
          absurd (never (is_open_row call side row) (bytes_eq row.container b) (is_line call side b row) is (turned row.container b ∙ has) line (open_line row))
      by true false l is has line rest =
          let more = count_cons (bytes_eq b) row.container (open_rows_of call side rows) ∙ ap (λ v. cond v 1 0 + count_by (bytes_eq b) (open_rows_of call side rows)) has in
          let all = count_cons (is_line call side b) row rows in
          omega (arith, more, all, rest)
      by false x l is has line rest =
          let all = count_cons (is_line call side b) row rows in
          omega (arith, all, rest)

  abbrev any_in : List Listing → Bool
  any_in rows = list_any (bytes_eq b) (open_rows_of call side rows)

  abbrev found_in : List Listing → Option LineContent
  found_in rows = finite_map.find order (line_key call side b) (map line_entry rows)

  pub any_open : (rows : List Listing) → count_by (is_line call side b) rows ≤ 1 → list_any (bytes_eq b) (open_rows_of call side rows) ≡ pending_of (finite_map.find order (line_key call side b) (map line_entry rows))
  unfolding pending_of
  any_open [] one = refl
  any_open (row ∷ rows) one = by (is_open_row call side row) (bytes_eq b row.container) (is_line call side b row) (is_pending row.state) refl refl refl refl
      (any_open rows (let all = count_cons (is_line call side b) row rows in omega (arith, all, one)))
      (λ line. let all = count_cons (is_line call side b) row rows ∙ ap (λ v. cond v 1 0 + count_by (is_line call side b) rows) line in
      let none : count_by (is_line call side b) rows ≡ 0 = omega (arith, all, one) in
      let less = few rows in
      none_any (bytes_eq b) (open_rows_of call side rows) (omega (arith, none, less)))
    where
      wrong : (o x l p : Bool) → is_open_row call side row ≡ o → bytes_eq b row.container ≡ x → is_line call side b row ≡ l → is_pending row.state ≡ p → (x && o) ≡ (l && p)
      wrong o x l p is has line its =
          ap (λ v. v && o) (sym has ∙ turned b row.container) ∙ ap (λ v. bytes_eq row.container b && v) (sym is) ∙ open_line row ∙ ap (λ v. v && is_pending row.state) line ∙ ap (λ v. l && v) its

      by : (o x l p : Bool) → is_open_row call side row ≡ o → bytes_eq b row.container ≡ x → is_line call side b row ≡ l → is_pending row.state ≡ p
          → (any_in rows) ≡ pending_of (found_in rows) → (is_line call side b row ≡ true → (any_in rows) ≡ false)
          → list_any (bytes_eq b) (map (λ (r : Listing). r.container) (cond o (row ∷ filter (is_open_row call side) rows) (filter (is_open_row call side) rows)))
          ≡ pending_of (cond (eq_by_cmp order (line_key call side b) (key_of row)) (Some (line_content row)) (found_in rows))
      by o x l p is has line its rest none =
          head o x l p (wrong o x l p is has line its) is has line its none rest
          ∙ sym (ap (λ v. pending_of (cond v (Some (line_content row)) (found_in rows))) (line_tied call side b row))
        where
          head : (o x l p : Bool) → (x && o) ≡ (l && p) → is_open_row call side row ≡ o → bytes_eq b row.container ≡ x → is_line call side b row ≡ l → is_pending row.state ≡ p → (is_line call side b row ≡ true → (any_in rows) ≡ false) → (any_in rows) ≡ pending_of (found_in rows)
              → list_any (bytes_eq b) (map (λ (r : Listing). r.container) (cond o (row ∷ filter (is_open_row call side) rows) (filter (is_open_row call side) rows)))
              ≡ pending_of (cond (is_line call side b row) (Some (line_content row)) (found_in rows))
          head true true true true e is has line its none rest = ap (λ v. v || (any_in rows)) has ∙ sym (ap (λ v. pending_of (cond v (Some (line_content row)) (found_in rows))) line ∙ its)
          head true true true false e is has line its none rest = cc
          head true true false p e is has line its none rest = cc
          head true false true true e is has line its none rest = cc
          head true false true false e is has line its none rest = ap (λ v. v || (any_in rows)) has ∙ none line ∙ sym (ap (λ v. pending_of (cond v (Some (line_content row)) (found_in rows))) line ∙ its)
          head true false false p e is has line its none rest = ap (λ v. v || (any_in rows)) has ∙ rest ∙ sym (ap (λ v. pending_of (cond v (Some (line_content row)) (found_in rows))) line)
          head false x true true e is has line its none rest = refused x e
            where
              refused : (x : Bool) → (x && false) ≡ true → (any_in rows) ≡ pending_of (cond (is_line call side b row) (Some (line_content row)) (found_in rows))
              refused true e = cc
              refused false e = cc
          head false x true false e is has line its none rest = none line ∙ sym (ap (λ v. pending_of (cond v (Some (line_content row)) (found_in rows))) line ∙ its)
          head false x false p e is has line its none rest = rest ∙ sym (ap (λ v. pending_of (cond v (Some (line_content row)) (found_in rows))) line)

-- ---- in order

below_by : (r : Ordering) → is_lt r ≡ false → is_eq r ≡ false → is_lt (ordering_reverse r) ≡ true
below_by Less e f = cc
below_by Equal e f = cc
below_by Greater e f = refl

truth : (b : Bool) → b ≡ true → T b
truth true e = tt
truth false e = cc

both : (a b : Bool) → T a → T b → T (a && b)
both true b p q = q
both false b p q = p

-- none of these is below the first, or is the first
all_above : (c : BoxNumber) (cs : List BoxNumber) → ((k : ℕ) (d : BoxNumber) → k < length cs → is_lt (by_text (get_or cs k d) c) ≡ false) → count_by (bytes_eq c) cs ≡ 0 → T (below_all by_text c (map (λ (b : BoxNumber). (b, true)) cs))
all_above c [] low none = tt
all_above c (d ∷ cs) low none =
    let split = count_cons (bytes_eq c) d cs in
    let apart : bytes_eq c d ≡ false = off (bytes_eq c d) refl split in
    let rest : count_by (bytes_eq c) cs ≡ 0 = omega (arith, split, none) in
    let less : is_lt (by_text c d) ≡ true =
    ap is_lt (nat_list_cmp_total.antisymm c d) ∙ below_by (by_text d c) (low 0 d (omega arith)) ((eq_by_cmp_equiv nat_list_cmp_total).symm d c ∙ sym (texts_ties c d) ∙ apart) in
    both (is_lt (by_text c d)) (below_all by_text c (map (λ (b : BoxNumber). (b, true)) cs)) (truth (is_lt (by_text c d)) less) (all_above c cs (λ k e within. low (suc k) e (omega (arith, within))) rest)
  where
    off : (v : Bool) → bytes_eq c d ≡ v → count_by (bytes_eq c) (d ∷ cs) ≡ cond (bytes_eq c d) 1 0 + count_by (bytes_eq c) cs → bytes_eq c d ≡ false
    off true is split =
        let more : count_by (bytes_eq c) (d ∷ cs) ≡ 1 + count_by (bytes_eq c) cs = split ∙ ap (λ v. cond v 1 0 + count_by (bytes_eq c) cs) is in
        absurd (omega (arith, more, none))
    off false is split = is

rise_from : (cs : List BoxNumber) → ((i j : ℕ) (d : BoxNumber) → i ≤ j → j < length cs → is_lt (by_text (get_or cs j d) (get_or cs i d)) ≡ false) → ((b : BoxNumber) → count_by (bytes_eq b) cs ≤ 1)
    → T (finite_map.is_sorted by_text (map (λ (b : BoxNumber). (b, true)) cs))
rise_from [] far once = tt
rise_from (c ∷ cs) far once =
    let split = count_cons (bytes_eq c) c cs ∙ ap (λ v. cond v 1 0 + count_by (bytes_eq c) cs) (self c) in
    let few_ : count_by (bytes_eq c) (c ∷ cs) ≤ 1 = once c in
    both (below_all by_text c (map (λ (b : BoxNumber). (b, true)) cs)) (finite_map.is_sorted by_text (map (λ (b : BoxNumber). (b, true)) cs))
    (all_above c cs (λ k d within. far 0 (suc k) d (omega arith) (omega (arith, within))) (omega (arith, split, few_)))
    (rise_from cs (λ i j d low within. far (suc i) (suc j) d (omega (arith, low)) (omega (arith, within)))
    (λ b. let part = count_cons (bytes_eq b) c cs in let all : count_by (bytes_eq b) (c ∷ cs) ≤ 1 = once b in omega (arith, part, all)))
  where
    self : (s : List ℕ) → bytes_eq s s ≡ true
    self s = texts_ties s s ∙ (eq_by_cmp_equiv nat_list_cmp_total).refl s

is_true : (b : Bool) → T b → b ≡ true
is_true true t = refl
is_true false t = absurd t

less_is : (r : Ordering) → is_lt r ≡ true → r ≡ Less
less_is Less e = refl
less_is Equal e = cc
less_is Greater e = cc

weak_order : IsStrictWeakOrder (λ (x y : List ℕ). is_lt (by_text x y))
weak_order = record {
  one_way = λ x y less. ap is_lt (nat_list_cmp_total.antisymm y x ∙ ap ordering_reverse (less_is (by_text x y) less));
  chain = λ x y z first second. by x y z (by_text x z) (by_text x y) refl refl first second;
}
  where
    by : (x y z : List ℕ) (r q : Ordering) → by_text x z ≡ r → by_text x y ≡ q → is_lt (by_text x y) ≡ false → is_lt (by_text y z) ≡ false → is_lt (by_text x z) ≡ false
    by x y z Equal q e f first second = ap is_lt e
    by x y z Greater q e f first second = ap is_lt e
    by x y z Less Less e f first second = let bad : true ≡ false = sym (ap is_lt f) ∙ first in cc
    by x y z Less Equal e f first second = let bad : true ≡ false = sym (ap is_lt (sym (nat_list_cmp_total.congr x y z f) ∙ e)) ∙ second in cc
    by x y z Less Greater e f first second =
        let back : by_text y x ≡ Less = nat_list_cmp_total.antisymm y x ∙ ap ordering_reverse f in
        let bad : true ≡ false = sym (ap is_lt (nat_list_cmp_total.trans y x z back e)) ∙ second in
        cc

pub sorted_are : (call : CallContent) (side : Side) (rows : List Listing) (lines : Lines) (sorted : List BoxNumber) → AreOnce rows → lines_of rows ≡ lines → IsMoved (open_rows_of call side rows) sorted → IsSorted by_text sorted
    → sorted ≡ open_containers lines call side
unfolding pending_of
sorted_are call side rows lines sorted once are moved up =
    let one : (b : BoxNumber) → count_by (bytes_eq b) sorted ≤ 1 =
    λ b. (let same = sum_by-IsPermutation (λ c. cond (bytes_eq b c) 1 0) (open_rows_of call side rows) sorted moved in
    let less = few call side b rows in
    let at_most : count_by (is_line call side b) rows ≤ 1 = once call side b in
    omega (arith, same, less, at_most)) in
    one_list lines call side sorted (open_containers lines call side)
    (record {
      rise = is_true _ (rise_from sorted (sorted_far (λ x y. is_lt (by_text x y)) weak_order sorted up) one);
      each = λ b. sym (list_any-IsPermutation (bytes_eq b) (open_rows_of call side rows) sorted moved) ∙ any_open call side b rows (once call side b)
          ∙ ap (pending_of call side b) (sym (finite_map.get-from_entries keys_total (map line_entry rows) (line_key call side b)) ∙ ap (λ (l : Lines). finite_map.get l (line_key call side b)) are);
    })
    (open_are lines call side)
