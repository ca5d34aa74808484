-- Rows whose rowids rise stand in one order.
use Rattle.std.{specs.List.AllByRecursion, proofs.{lemmas.Cmp.tied_itself, lemmas.List.Elements.{recursion_from_All, All-from_recursion}}}
use Rattle.std.proofs.Common.{◌≡◌, ◌⊎◌, inl, inr, true, false, List, [], ◌∷◌, filter, refl, sym, ap, subst, ◌∙◌, arith, Ordering, Less, is_lt, IsPermutation}
use Rattle.std.proofs.lemmas.List.Sorted.{length_permutation, All-permutation, IsPermutation-sym}
use Rattle.sqlite_value.{specs.Order.{Row, value_cmp}, proofs.OrderLemmas.value_cmp_total}
use Rattle.sqlite_trees.{specs.Tree.rowid, proofs.ListLemmas.{all_weaker, filter_all, IsPermutation-filter}}
use Rattle.office_rows.specs.Places.{RowsHaveOneOrder}

order : Row → Row → Ordering
order a b = value_cmp (rowid a) (rowid b)

never_below_itself : (row : Row) → is_lt (order row row) ≡ false
unfolding order
never_below_itself row = ap is_lt (tied_itself value_cmp_total (rowid row))

-- a row is the first one, or above it
AtOrAbove : Row → Row → Type 0
AtOrAbove first row = (row ≡ first) ⊎ (order first row ≡ Less)

all_above : (first : Row) (rows other : List Row) → AllByRecursion (λ row. order first row ≡ Less) rows → IsPermutation (first ∷ rows) other → AllByRecursion (AtOrAbove first) other
unfolding AtOrAbove
all_above first rows other above same =
    recursion_from_All (AtOrAbove first) other (All-permutation (AtOrAbove first) (first ∷ rows) other same
    (All-from_recursion (AtOrAbove first) (first ∷ rows) (inl refl, all_weaker _ (AtOrAbove first) (λ row h. inr h) rows above)))

same_first : (a b : Row) → AtOrAbove a b → AtOrAbove b a → a ≡ b
unfolding AtOrAbove order
same_first a b (inl is) other = sym is
same_first a b (inr above) (inl is) = is
same_first a b (inr above) (inr below) =
    let tie : value_cmp (rowid a) (rowid a) ≡ Less = value_cmp_total.trans (rowid a) (rowid b) (rowid a) above below in
    let wrong : true ≡ false = sym (ap is_lt tie) ∙ ap is_lt (tied_itself value_cmp_total (rowid a)) in
    cc

above_all : (first : Row) (rows : List Row) → AllByRecursion (λ row. order first row ≡ Less) rows → filter (λ row. is_lt (order first row)) (first ∷ rows) ≡ rows
above_all first rows above =
    rw (never_below_itself first) (filter_all (λ row. is_lt (order first row)) rows (all_weaker _ (λ row. is_lt (order first row) ≡ true) (λ row h. ap is_lt h) rows above))

pub rows_have_one_order : RowsHaveOneOrder
unfolding order
rows_have_one_order [] [] rises rises' same = refl
rows_have_one_order [] (b ∷ other) rises rises' same = absurd (omega (arith, length_permutation _ _ same))
rows_have_one_order (a ∷ rows) [] rises rises' same = absurd (omega (arith, length_permutation _ _ same))
rows_have_one_order (a ∷ rows) (b ∷ other) rises rises' same =
    let first : a ≡ b = same_first a b (all_above a rows (b ∷ other) rises.0 same).0 (all_above b other (a ∷ rows) rises'.0 (IsPermutation-sym _ _ same)).0 in
    let above : AllByRecursion (λ row. value_cmp (rowid a) (rowid row) ≡ Less) other = subst (λ c. AllByRecursion (λ row. value_cmp (rowid c) (rowid row) ≡ Less) other) (sym first) rises'.0 in
    let same_a : IsPermutation (a ∷ rows) (a ∷ other) = subst (λ c. IsPermutation (a ∷ rows) (c ∷ other)) (sym first) same in
    let tails = IsPermutation-filter (λ row. is_lt (order a row)) _ _ same_a in
    let rest : IsPermutation rows other = subst (λ l. IsPermutation l other) (above_all a rows rises.0) (subst (λ l. IsPermutation (filter (λ row. is_lt (order a row)) (a ∷ rows)) l) (above_all a other above) tails) in
    λ i. sym first i ∷ rows_have_one_order rows other rises.1 rises'.1 rest i
