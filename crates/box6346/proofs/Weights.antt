-- The weighted sum of a container number, one character at a time.
use Rattle.std.proofs.{Common.{◌≡◌, ℕ, ◌+◌, ◌*◌, ◌^◌, ◌%◌, ◌<◌, ◌≤◌, List, length, drop, get_or, arith, sym, ◌∙◌, ap}, Math.Nat.mod-eq_of_lt, Math.Pow.pow_mono}
use Rattle.std.proofs.{lemmas.Nat.mul-le, lemmas.List.at_drop_more}
use Rattle.box6346.specs.NumberText.{weighted_sum, value_of}

-- a character's share of the sum is small
pub share_small : (value position : ℕ) → value < 2 ^ 8 → position < 10 → value * 2 ^ position ≤ 131072
share_small value position small within =
    let weight : 2 ^ position ≤ 2 ^ 9 = pow_mono {i = position} {j = 9} (omega arith) in
    let share : value * 2 ^ position ≤ 256 * 2 ^ 9 = mul-le value (2 ^ position) 256 (2 ^ 9) (omega arith) weight in
    share

-- so shifting it loses nothing
pub share_whole : (value position : ℕ) → value < 2 ^ 8 → position < 10 → value * 2 ^ position % 4294967296 ≡ value * 2 ^ position
share_whole value position small within =
    let share = share_small value position small within in
    mod-eq_of_lt (omega arith)

-- the sum from a position on is that character's share and the sum after it
pub weighted_sum-drop : (text : List ℕ) (position : ℕ) → position < length text →
    weighted_sum position (drop position text) ≡ value_of (get_or text position 0) * 2 ^ position + weighted_sum (position + 1) (drop (position + 1) text)
weighted_sum-drop text position within = at_drop_more (weighted_sum position) text position 0 within

-- one character more
pub share_added : (text : List ℕ) (position sum value : ℕ) → length text ≡ 10 → position < 10 → value < 2 ^ 8 → value ≡ value_of (get_or text position 0) →
    (sum + weighted_sum position (drop position text) ≡ weighted_sum 0 text) × (sum ≤ position * 131072) →
    (sum + value * 2 ^ position % 4294967296 + weighted_sum (position + 1) (drop (position + 1) text) ≡ weighted_sum 0 text)
    × (sum + value * 2 ^ position % 4294967296 ≤ (position + 1) * 131072)
share_added text position sum value long within small is before =
    let share = share_small value position small within in
    let whole = share_whole value position small within in
    let behind : weighted_sum position (drop position text) ≡ value * 2 ^ position + weighted_sum (position + 1) (drop (position + 1) text) =
    weighted_sum-drop text position (omega arith) ∙ ap (λ v. v * 2 ^ position + weighted_sum (position + 1) (drop (position + 1) text)) (sym is) in
    rw whole (omega arith, omega arith)
