-- The interchanges of an office: no number of a partner has two.
use Rattle.std.specs.Prelude.{count_by}
use Rattle.std.proofs.lemmas.List.Sorted.{IsPermutation-trans, sum_by-IsPermutation}
use Rattle.std.proofs.Common.{◌≡◌, ℕ, ◌+◌, ◌*◌, ◌-◌, ◌<◌, ◌≤◌, List, [], ◌∷◌, ◌++◌, map, true, cond, refl, ap, ap₂, subst, ◌∙◌}
use Rattle.sqlite.specs.{Order.column, Effect.Database}
use Rattle.office_rows.specs.Rows.{Interchange, Rows}
use Rattle.office_rows.specs.Values.{interchange_values}
use Rattle.office_rows.specs.Stored.{HasRows}
use Rattle.office_rows.specs.Effects.{is_pair}
use Rattle.office_rows.specs.Shown.{columns_at}
use Rattle.office_rows.specs.Opened.{NumberKept, OpenedRows, Shows, number_kept, reply_values}
use Rattle.office_rows.proofs.Listed.{unmapped}
use Rattle.office_history.specs.After.{AreKeptOnce}
use Rattle.office_history.proofs.Kept.{Rises, one_at}
use Rattle.office_history.proofs.Loads.{number_one, text_one}
use Rattle.office_history.proofs.Runs.{pair_of}

-- ---- what is kept, in the order of partners and numbers

-- the place of a partner's number among all
abbrev pub place_of : ℕ → ℕ → ℕ
place_of partner number = partner * 1000000000 + number

abbrev pub place : NumberKept → ℕ
place n = place_of n.partner n.number

-- ---- the interchanges

numbered_one : (i j : Interchange) → reply_values i ≡ columns_at (0 ∷ 1 ∷ 3 ∷ []) (interchange_values j) → number_kept i ≡ number_kept j
numbered_one i j e =
    let partner : i.partner ≡ j.partner = number_one i.partner j.partner (ap (λ r. column r 0) e) in
    let own : i.number ≡ j.number = number_one i.number j.number (ap (λ r. column r 1) e) in
    let reply : i.reply ≡ j.reply = text_one i.reply j.reply (ap (λ r. column r 2) e) in
    λ k. number_kept (record { partner = partner k; number = own k; body = i.body; reply = reply k })

pub numbers_same : (xs ys : List Interchange) → map reply_values xs ≡ map (columns_at (0 ∷ 1 ∷ 3 ∷ [])) (map interchange_values ys) → map number_kept xs ≡ map number_kept ys
numbers_same [] [] e = refl
numbers_same [] (y ∷ ys) e = cc
numbers_same (x ∷ xs) [] e = cc
numbers_same (x ∷ xs) (y ∷ ys) e =
    let first : reply_values x ≡ columns_at (0 ∷ 1 ∷ 3 ∷ []) (interchange_values y) = cc in
    let rest : map reply_values xs ≡ map (columns_at (0 ∷ 1 ∷ 3 ∷ [])) (map interchange_values ys) = cc in
    ap₂ ◌∷◌ (numbered_one x y first) (numbers_same xs ys rest)

abbrev place_in : Interchange → ℕ
place_in i = place_of i.partner i.number

rises_in : (low : ℕ) (xs : List Interchange) → Rises place low (map number_kept xs) → Rises place_in low xs
rises_in low [] rises = tt
rises_in low (x ∷ xs) rises = (rises.0, rises_in (place_in x) xs rises.1)

pair_at : (partner number : ℕ) (i : Interchange) → is_pair partner number i ≡ true → place_in i ≡ place_of partner number
pair_at partner number i passes = let pair = pair_of partner number i passes in ap₂ place_of pair.0 pair.1

-- if what the table shows rises by partner and number, none stands there twice
pub once_if_rising : (db : Database) (rows : Rows) (shown : OpenedRows) → HasRows rows db → Shows db shown → Rises place (place_of 1 0) shown.numbers → AreKeptOnce rows.interchanges
once_if_rising db rows shown has shows rises partner number =
    let its = shows.numbers in
    let table = its.shown in
    let placed = unmapped interchange_values rows.interchanges table.by_key (IsPermutation-trans _ _ _ has.rows_are.interchanges.same table.same) in
    let same : map number_kept its.interchanges ≡ map number_kept placed.0 = numbers_same its.interchanges placed.0 (table.is ∙ ap (map (columns_at (0 ∷ 1 ∷ 3 ∷ []))) placed.2) in
    let rise : Rises place (place_of 1 0) (map number_kept placed.0) = subst (Rises place (place_of 1 0)) (its.are ∙ same) rises in
    let one : count_by (is_pair partner number) placed.0 ≡ count_by (is_pair partner number) rows.interchanges =
    sum_by-IsPermutation (λ i. cond (is_pair partner number i) 1 0) rows.interchanges placed.0 placed.1 in
    subst (λ n. n ≤ 1) one (one_at place_in (is_pair partner number) (place_of partner number) (pair_at partner number) (place_of 1 0) placed.0 (rises_in (place_of 1 0) placed.0 rise))
