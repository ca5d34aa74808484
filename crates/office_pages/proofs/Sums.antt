-- Sums over lists as the code has them.
use Rattle.std.{specs.{Borrow.Bor, List.fold, Map.values_of}, proofs.{Common.{◌≡◌, ℕ, ◌+◌, List, [], ◌∷◌, length, refl, sum_by}, lemmas.List.length-map}}
use Rattle.terminal_core.specs.State.{LineKey}
use Rattle.office_reports.specs.{Calls.{key_content, lists_content}, Lists.{list_contents, shown_line}, declared.calls.ListCount.ListCount}
use Rattle.office_reports.specs.declared.lists.ListedLine.{ListedLine}
use Rattle.office_pages.specs.Calls.{done_sum, open_sum}

abbrev Lists : Type 0
Lists = List ((Bor (List ℕ) × Bor (List ℕ) × ℕ) × ListCount)

-- as many as the map has entries
pub lists_len : (lists : Lists) → length (lists_content lists) ≡ length lists
lists_len lists = length-map lists (λ list. (key_content list.0, list.1))

-- a sum over the lists is one over their counts
summed : (f : ListCount → ℕ) (a : ℕ) (lists : Lists) → fold (λ n (list : LineKey × ListCount). n + f list.1) a (lists_content lists) ≡ fold (λ n (count : ListCount). n + f count) a (values_of lists)
summed f a [] = refl
summed f a (list ∷ lists) = summed f (a + f list.1) lists

pub open_summed : (lists : Lists) → open_sum (lists_content lists) ≡ sum_by (λ (count : ListCount). count.pending) (values_of lists)
open_summed lists = summed (λ count. count.pending) 0 lists

pub done_summed : (lists : Lists) → done_sum (lists_content lists) ≡ sum_by (λ (count : ListCount). count.done) (values_of lists)
done_summed lists = summed (λ count. count.done) 0 lists

-- a list has as many lines as its map has entries
pub lines_len : (lines : List (List ℕ × ListedLine)) → length (list_contents lines) ≡ length lines
lines_len lines = length-map lines (λ line. (line.0, shown_line line.1))
