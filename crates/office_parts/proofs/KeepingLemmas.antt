-- Lines of lists that are away are done, so no open line is away.
use Rattle.std.specs.{Prelude.{filter, not, ◌&&◌, T}, List.AllByRecursion, FinMap.Entries.{below_all, where_key}, Cmp.eq_by_cmp_equiv}
use Rattle.std.specs.{Ordering.{eq_by_cmp, is_eq, is_lt}, declared.cmp.Ordering.Ordering, declared.cmp.Ordering.TheVariants.{Less, Equal, Greater}}
use Rattle.std.proofs.Common.{◌≡◌, List, [], ◌∷◌, map, Bool, true, false, cond, Some, refl, sym, ap, ◌∙◌}
use Rattle.terminal_core.specs.{declared.lines.LineState.TheVariants.Done, Changes.TerminalRows, Drop.is_pending, State.{LineContent, LineKey, Lines}}
use Rattle.terminal_core.proofs.Lined.{order, keys_total, same_key, tied_self}
use Rattle.office_rows.specs.{ByKey.{line_entry, lines_by}, Rows.ListingContent}
use Rattle.office_history.specs.After.{machine_after}
use Rattle.office_parts.specs.{Bringing.{is_list, is_of}, Keeping.{AreDoneIfAway, AwayLinesAreDone}, OwnLists.{ListName, list_name, list_of, own_lines}}
use Rattle.office_parts.proofs.{Takings.own_rows, BringingLemmas.own_entries}
use Rattle.std.specs.FinMap as finite_map

abbrev Entry : Type 0
Entry = LineKey × LineContent

-- ---- each line that is away is done

abbrev IsDoneRow : ListingContent → Type 0
IsDoneRow row = row.state ≡ Done

-- what the rows have under a key is done, if all rows of its list are
found_done : (key : LineKey) (line : LineContent) (rows : List ListingContent) → AllByRecursion IsDoneRow (filter (is_of (list_of key)) rows)
    → finite_map.find order key (map line_entry rows) ≡ Some line → line.state ≡ Done
found_done key line [] all found = cc
found_done key line (row ∷ rows) all found = by (eq_by_cmp order key (line_entry row).0) (is_of (list_of key) row) refl refl all found (found_done key line rows)
  where
    others : List ListingContent
    others = filter (is_of (list_of key)) rows

    by : (tie is : Bool) → eq_by_cmp order key (line_entry row).0 ≡ tie → is_of (list_of key) row ≡ is → AllByRecursion IsDoneRow (cond is (row ∷ others) others)
        → cond tie (Some (line_entry row).1) (finite_map.find order key (map line_entry rows)) ≡ Some line
        → (AllByRecursion IsDoneRow others → finite_map.find order key (map line_entry rows) ≡ Some line → line.state ≡ Done) → line.state ≡ Done
    by true true t e all found rest =
        let same : (line_entry row).1 ≡ line = cc in
        sym (ap (λ (l : LineContent). l.state) same) ∙ all.0
    by true false t e all found rest =
        let itself : is_of (list_of key) row ≡ true = ap (λ k. is_list (list_of k) (list_name row.call row.side)) (same_key key (line_entry row).0 t) ∙ tied_self (list_name row.call row.side) in
        let no : true ≡ false = sym itself ∙ e in
        cc
    by false true t e all found rest = rest all.1 found
    by false false t e all found rest = rest all found

pub away_done : AwayLinesAreDone
away_done content es archives away archived own whole are is_away key line there gone =
    let lines : lines_by own.lines ≡ (machine_after content es).terminal.lines = ap (λ (r : TerminalRows). r.lines) (own_rows content es archived own whole are) in
    found_done key line own.lines (is_away.kept (list_of key) gone).done
    (sym (finite_map.get-from_entries keys_total (map line_entry own.lines) key) ∙ ap (λ (l : Lines). finite_map.get l key) lines ∙ there)

-- ---- so each open line is there

first : (a b : Bool) → T (a && b) → T a
first true b p = tt
first false b p = p

second : (a b : Bool) → T (a && b) → T b
second true b p = p
second false b p = absurd p

is_less : (r : Ordering) → T (is_lt r) → is_eq r ≡ false
is_less Less p = refl
is_less Equal p = absurd p
is_less Greater p = absurd p

-- what is found among entries above a key has another
apart : (low key : LineKey) (line : LineContent) (es : List Entry) → T (below_all order low es) → finite_map.find order key es ≡ Some line → eq_by_cmp order key low ≡ false
apart low key line [] below found = cc
apart low key line (e ∷ es) below found = by (eq_by_cmp order key e.0) refl found (apart low key line es (second (is_lt (order low e.0)) (below_all order low es) below))
  where
    by : (tie : Bool) → eq_by_cmp order key e.0 ≡ tie → cond tie (Some e.1) (finite_map.find order key es) ≡ Some line → (finite_map.find order key es ≡ Some line → eq_by_cmp order key low ≡ false) → eq_by_cmp order key low ≡ false
    by true t found rest =
        (eq_by_cmp_equiv keys_total).symm key low ∙ ap (eq_by_cmp order low) (same_key key e.0 t)
        ∙ is_less (order low e.0) (first (is_lt (order low e.0)) (below_all order low es) below)
    by false t found rest = rest found

-- a test that only lines pass that are not done
abbrev PassesOpen : (test : Entry → Bool) → Type 0
PassesOpen test = (entry : Entry) → test entry ≡ true → is_pending entry.1.state ≡ true

module _ (away : ListName → Bool) (test : Entry → Bool) (passes : PassesOpen test) where
  abbrev stays : LineKey → Bool
  stays key = not (away (list_of key))

  abbrev AreDone : List Entry → Type 0
  AreDone es = (key : LineKey) (line : LineContent) → finite_map.find order key es ≡ Some line → away (list_of key) ≡ true → line.state ≡ Done

  gone : (a : Bool) → not a ≡ false → a ≡ true
  gone true e = refl
  gone false e = sym e

  later_done : (e : Entry) (es : List Entry) → T (below_all order e.0 es) → AreDone (e ∷ es) → AreDone es
  later_done e es below done key line found is =
      done key line (ap (λ b. cond b (Some e.1) (finite_map.find order key es)) (apart e.0 key line es below found) ∙ found) is

  passing_kept : (es : List Entry) → T (finite_map.is_sorted order es) → AreDone es → filter test (where_key order stays es) ≡ filter test es
  passing_kept [] sorted done = refl
  passing_kept (e ∷ es) sorted done =
      by (stays e.0) (test e) refl refl
      (passing_kept es (second (below_all order e.0 es) (finite_map.is_sorted order es) sorted)
      (later_done e es (first (below_all order e.0 es) (finite_map.is_sorted order es) sorted) done))
    where
      others : List Entry
      others = where_key order stays es

      by : (own is : Bool) → stays e.0 ≡ own → test e ≡ is → filter test others ≡ filter test es → filter test (cond own (e ∷ others) others) ≡ cond is (e ∷ filter test es) (filter test es)
      by true is o t rest = ap (λ b. cond b (e ∷ filter test others) (filter test others)) t ∙ ap (λ l. cond is (e ∷ l) l) rest
      by false true o t rest =
          let done_one : e.1.state ≡ Done = done e.0 e.1 (ap (λ b. cond b (Some e.1) (finite_map.find order e.0 es)) (tied_self e.0)) (gone (away (list_of e.0)) o) in
          let no : false ≡ true = sym (ap is_pending done_one) ∙ passes e t in
          cc
      by false false o t rest = rest

  -- of the lines without those that are away it passes the same
  pub open_kept : (lines : Lines) → AreDoneIfAway away lines → filter test (finite_map.entries (own_lines away lines)) ≡ filter test (finite_map.entries lines)
  open_kept lines done =
      ap (filter test) (own_entries away lines)
      ∙ passing_kept (finite_map.entries lines) (finite_map.entries_sorted lines) (λ key line found is. done key line (finite_map.get-entries lines key ∙ found) is)
