-- The report on the vessels' calls: how far the list of each is (our own).
use Rattle.std.specs.{Prelude.{ℕ, ◌+◌, Bool, List, [], ◌∷◌, ◌++◌, ◌&&◌, map, count_by, codes, decimal}, Borrow.Bor, List.flat_map, Cmp.Lexicographic.slice_cmp}
use Rattle.std.specs.Ordering.{nat_cmp, eq_by_cmp}
use Rattle.terminal_core.specs.{declared.lines.LineState.LineState, declared.lines.LineState.TheVariants.{Pending, Done}, Drop.is_pending}
use Rattle.terminal_core.specs.State.{LineContent, LineKey, Lines}
use Rattle.office_reports.specs.{Lists.is_done, Names.line, OpenLines.side_name, declared.calls.ListCount.ListCount}
use Rattle.std.specs.FinMap as finite_map

-- a list goes by its vessel, its voyage and its side
abbrev pub list_of : LineKey → LineKey
list_of (vessel ∷ voyage ∷ side ∷ container ∷ []) = vessel ∷ voyage ∷ side ∷ []
list_of other = other

-- the line is on the list
abbrev pub is_on : LineKey → LineKey × LineContent → Bool
is_on list entry = eq_by_cmp (slice_cmp (slice_cmp nat_cmp)) list (list_of entry.0)

-- how many of a list's lines are open, and how many are done
abbrev pub count_on : List (LineKey × LineContent) → LineKey → ListCount
count_on lines list = record {
  pending = count_by (λ entry. is_on list entry && is_pending entry.1.state) lines;
  done = count_by (λ entry. is_on list entry && is_done entry.1.state) lines;
}

-- Each list that has a line, with its counts. A map's entries stand by their keys: lists by vessel, voyage and side, load
-- before discharge.
abbrev pub lists_in : List (LineKey × LineContent) → List (LineKey × ListCount)
lists_in lines = finite_map.entries (finite_map.from_entries {R = slice_cmp (slice_cmp nat_cmp)}
    (map (λ entry. (list_of entry.0, count_on lines (list_of entry.0))) lines))

-- VESSEL VOYAGE LOAD, or DISCHARGE
abbrev pub list_words : LineKey → List (List ℕ)
list_words (vessel ∷ voyage ∷ side ∷ []) = vessel ∷ voyage ∷ side_name side ∷ []
list_words other = []

-- the same, a OPEN b DONE
abbrev pub call_line : LineKey × ListCount → List ℕ
call_line list = line (list_words list.0
    ++ decimal list.1.pending ∷ codes "OPEN" ∷ decimal list.1.done ∷ codes "DONE" ∷ [])

-- a line for each list, and nothing if there is none
abbrev pub lists_text : List (LineKey × ListCount) → List ℕ
lists_text lists = flat_map call_line lists

abbrev pub calls_text : Lines → List ℕ
calls_text lines = lists_text (lists_in (finite_map.entries lines))

-- ---- lists as the code has them

-- one line more
abbrev pub count_with : ListCount → LineState → ListCount
count_with count Pending = record count { pending = count.pending + 1 }
count_with count Done = record count { done = count.done + 1 }

-- by vessel, voyage and the number of the side
abbrev pub key_content : Bor (List ℕ) × Bor (List ℕ) × ℕ → LineKey
key_content key = key.0.now ∷ key.1.now ∷ (key.2 ∷ []) ∷ []

abbrev pub lists_content : List ((Bor (List ℕ) × Bor (List ℕ) × ℕ) × ListCount) → List (LineKey × ListCount)
lists_content lists = map (λ list. (key_content list.0, list.1)) lists
