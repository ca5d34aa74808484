-- The lines of a call's list, by their containers.
use Rattle.std.specs.{Prelude.{◌&&◌, string_bytes}, BTreeMap.{BTreeMap, get, is_at}, Map.{lookup, keys_of}, Ordering.{nat_cmp, eq_by_cmp}, Str.bytes_eq}
use Rattle.std.{specs.{Cmp.Lexicographic.{slice_cmp, texts_ties}, List.Sorted.IsStrictlySortedBy}, proofs.Math.Bool.{and-false, and-true}}
use Rattle.std.proofs.Common.{◌≡◌, ℕ, ◌+◌, ◌<◌, ◌≤◌, List, [], ◌∷◌, ◌++◌, length, map, take, Bool, true, false, cond, Option, None, Some, refl, sym, ap, ◌∙◌, arith, subst, get_or, option_map, count_by, slice_get, filter, not, ◌-◌}
use Rattle.std.proofs.{lemmas.Cmp.{nat_list_cmp_total, eq_by_cmp_equiv}, lemmas.List.{map-append, take_more, take_all, length-map}}
use Rattle.std.proofs.{lemmas.List.Sums.length-filter, lemmas.List.Filters.length-filter_both, lemmas.Map.Keys.IsDistinct-from_sorted}
use Rattle.std.proofs.lemmas.Map.Views.{Contains-from_lookup, lookup-from_Contains}
use Rattle.edi_messages.specs.Purposes.{CallContent}
use Rattle.box6346.specs.declared.box_number.BoxNumber.{BoxNumber}
use Rattle.terminal_core.specs.{declared.lines.Listing.Listing, declared.lines.Side.Side, State.{TerminalState, LineContent, LineKey, line_key, line_of}}
use Rattle.terminal_core.{specs.{Listings.{key_of, line_content, line_entry, lines_of, is_line, is_side}, Restoring.AreOnce}, proofs.Open.same_self}
use Rattle.terminal_core.proofs.{Lined.{order, keys_total, same_key, line_tied, found_none}, Indexed.{none_before_one, some_counted}, Whole.contained}
use Rattle.office_reports.specs.{declared.lists.ListedLine.ListedLine, Listed.AreListed, Lists.{HasLine, is_on, is_done_line, shown_line, list_contents}}
use Rattle.office_reports.proofs.Standings.{same_text}
use Rattle.std.specs.FinMap as finite_map
use Rattle.std.specs.FinMap.Entries as entries

-- ---- what look-ups tell

module _ {X : Type 0} where
  pub listed_by : (GoesUnder : List ℕ → X → Type 0) (list : List (List ℕ × X)) → IsStrictlySortedBy (slice_cmp nat_cmp) (keys_of list)
      → ((q : List ℕ) (x : X) → GoesUnder q x → lookup (eq_by_cmp (slice_cmp nat_cmp) q) list ≡ Some x) → ((q : List ℕ) (x : X) → lookup (eq_by_cmp (slice_cmp nat_cmp) q) list ≡ Some x → GoesUnder q x) → AreListed GoesUnder list
  listed_by GoesUnder list sorted finds found = record {
    sorted = sorted;
    each = λ q x at. Contains-from_lookup same_text q x list (finds q x at);
    only = λ q x inside. found q x (lookup-from_Contains (eq_by_cmp_equiv nat_list_cmp_total) q x list (IsDistinct-from_sorted (slice_cmp nat_cmp) (keys_of list) sorted) inside);
  }

same_keys : (list : List (List ℕ × ListedLine)) → keys_of (list_contents list) ≡ keys_of list
same_keys [] = refl
same_keys (e ∷ list) = ap (λ keys. e.0 ∷ keys) (same_keys list)

shown_cond : (v : Bool) (line : ListedLine) (o : Option ListedLine) → cond v (Some (shown_line line)) (option_map shown_line o) ≡ option_map shown_line (cond v (Some line) o)
shown_cond true line o = refl
shown_cond false line o = refl

looked : (q : List ℕ) (list : List (List ℕ × ListedLine)) → lookup (is_at (slice_cmp nat_cmp q)) (list_contents list) ≡ option_map shown_line (lookup (is_at (slice_cmp nat_cmp q)) list)
looked q [] = refl
looked q (e ∷ list) = ap (cond (is_at (slice_cmp nat_cmp q) e.0) (Some (shown_line e.1))) (looked q list) ∙ shown_cond (is_at (slice_cmp nat_cmp q) e.0) e.1 (lookup (is_at (slice_cmp nat_cmp q)) list)

-- ---- rows of a list

regroup : (a b c d : Bool) → (((a && b) && c) && d) ≡ (a && ((b && c) && d))
regroup true b c d = refl
regroup false b c d = refl

line_on : (call : CallContent) (side : Side) (container : BoxNumber) (row : Listing) → is_line call side container row ≡ (bytes_eq row.container container && is_on call side row)
line_on call side container row = regroup (bytes_eq row.container container) (is_side row.side side) (bytes_eq (string_bytes row.call.voyage) call.voyage) (bytes_eq (string_bytes row.call.vessel) call.vessel)

-- an entry more that has another key
push_other : (es : List (LineKey × LineContent)) (e : LineKey × LineContent) (q : LineKey) → eq_by_cmp order q e.0 ≡ false → finite_map.find order q (es ++ e ∷ []) ≡ finite_map.find order q es
push_other [] e q other = ap (λ v. cond v (Some e.1) None) other
push_other (f ∷ es) e q other = ap (cond (eq_by_cmp order q f.0) (Some f.1)) (push_other es e q other)

pub none_there : {A : Type 0} (p : A → Bool) (xs : List A) → count_by p xs ≡ 0 → (k : ℕ) (x : A) → slice_get xs k ≡ Some x → (v : Bool) → p x ≡ v → v ≡ false
none_there p xs none k x at false is = refl
none_there p xs none k x at true is = let some : 1 ≤ count_by p xs = some_counted p xs x (contained xs k x at) is in absurd (omega arith)

-- the entries are those of the rows on a call's list
pub record Lists (call : CallContent) (side : Side) (rows : List Listing) (list : List (List ℕ × ListedLine)) : Type 0 where
  pub sorted : IsStrictlySortedBy (slice_cmp nat_cmp) (keys_of list)
  pub told : (container : List ℕ) → option_map shown_line (lookup (is_at (slice_cmp nat_cmp container)) list) ≡ finite_map.find order (line_key call side container) (map line_entry rows)

pub lists_none : (call : CallContent) (side : Side) (list : List (List ℕ × ListedLine)) → list ≡ [] → IsStrictlySortedBy (slice_cmp nat_cmp) (keys_of list) → Lists call side [] list
lists_none call side list none sorted = record { sorted = sorted; told = λ container. ap (λ l. option_map shown_line (lookup (is_at (slice_cmp nat_cmp container)) l)) none }

module _ (call : CallContent) (side : Side) (all : List Listing) (once : AreOnce all) (i : ℕ) (row : Listing) (low : i < length all) (is : row ≡ get_or all i row) where
  longer : map line_entry (take i all) ++ line_entry row ∷ [] ≡ map line_entry (take (i + 1) all)
  longer = sym (ap (map line_entry) (take_more all i row low ∙ ap (λ (r : Listing). take i all ++ r ∷ []) (sym is)) ∙ map-append line_entry (take i all) (row ∷ []))

  -- a row of another list
  pub row_off : (list : List (List ℕ × ListedLine)) → is_on call side row ≡ false → Lists call side (take i all) list → Lists call side (take (i + 1) all) list
  row_off list off lists = record {
    sorted = lists.sorted;
    told = λ container. lists.told container
        ∙ sym (push_other (map line_entry (take i all)) (line_entry row) (line_key call side container)
        (line_tied call side container row ∙ line_on call side container row ∙ ap (λ v. bytes_eq row.container container && v) off ∙ and-false (bytes_eq row.container container)))
        ∙ ap (finite_map.find order (line_key call side container)) longer;
  }

  -- a row of this list
  pub row_on : (line : ListedLine) (old new : BTreeMap (List ℕ) ListedLine) → is_on call side row ≡ true → shown_line line ≡ line_content row → IsStrictlySortedBy (slice_cmp nat_cmp) (keys_of new.entries)
      → ((q : List ℕ) → get (slice_cmp nat_cmp) new q ≡ cond (is_at (slice_cmp nat_cmp row.container) q) (Some line) (get (slice_cmp nat_cmp) old q))
      → Lists call side (take i all) old.entries → Lists call side (take (i + 1) all) new.entries
  row_on line old new on shows sorted puts lists =
      let tied : (container : List ℕ) → eq_by_cmp order (line_key call side container) (key_of row) ≡ is_at (slice_cmp nat_cmp row.container) container =
      λ container. line_tied call side container row ∙ line_on call side container row ∙ ap (λ v. bytes_eq row.container container && v) on ∙ and-true (bytes_eq row.container container) ∙ texts_ties row.container container in
      let its : is_line call side row.container row ≡ true = line_on call side row.container row ∙ ap (λ v. bytes_eq row.container row.container && v) on ∙ and-true (bytes_eq row.container row.container) ∙ same_self row.container in
      let key : line_key call side row.container ≡ key_of row = same_key (line_key call side row.container) (key_of row) (line_tied call side row.container row ∙ its) in
      let few : count_by (is_line call side row.container) (take i all) ≡ 0 = none_before_one (is_line call side row.container) all i row (once call side row.container) low is its in
      let none : finite_map.find order (line_key call side row.container) (map line_entry (take i all)) ≡ None =
      found_none call side row.container (take i all) (λ k other below there. none_there (is_line call side row.container) (take i all) few k other there (is_line call side row.container other) refl) in
      record {
        sorted = sorted;
        told = λ container. ap (option_map shown_line) (puts container) ∙ sym (shown_cond (is_at (slice_cmp nat_cmp row.container) container) line (get (slice_cmp nat_cmp) old container))
            ∙ (λ j. cond (sym (tied container) j) (Some (shows j)) (lists.told container j))
            ∙ sym (entries.find-append order keys_total (map line_entry (take i all)) (key_of row) (line_content row) (line_key call side container) (ap (λ k. finite_map.find order k (map line_entry (take i all))) (sym key) ∙ none))
            ∙ ap (finite_map.find order (line_key call side container)) longer;
      }

pub are_lines : (state : TerminalState) (call : CallContent) (side : Side) (all : List Listing) (i : ℕ) (list : List (List ℕ × ListedLine)) → lines_of all ≡ state.lines → length all ≤ i → Lists call side (take i all) list → AreListed (HasLine state call side) (list_contents list)
are_lines state call side all i list told whole lists =
    let of : (container : List ℕ) → line_of state call side container ≡ lookup (is_at (slice_cmp nat_cmp container)) (list_contents list) =
    λ container. ap (λ lines. finite_map.get lines (line_key call side container)) (sym told) ∙ finite_map.get-from_entries keys_total (map line_entry all) (line_key call side container)
    ∙ ap (λ rows. finite_map.find order (line_key call side container) (map line_entry rows)) (sym (take_all i all whole)) ∙ sym (lists.told container) ∙ sym (looked container list) in
    listed_by (HasLine state call side) (list_contents list) (subst (IsStrictlySortedBy (slice_cmp nat_cmp)) (sym (same_keys list)) lists.sorted) (λ q x at. sym (of q) ∙ at) (λ q x at. of q ∙ at)

-- ---- the counts

-- those that are not done are the others
pub other_count : (list : List (List ℕ × ListedLine)) (n done : ℕ) → n ≡ length list → done ≡ count_by is_done_line (list_contents list) → n - done ≡ count_by (λ entry. not (is_done_line entry)) (list_contents list)
other_count list n done all is =
    let p : List ℕ × LineContent → Bool = is_done_line in
    let q : List ℕ × LineContent → Bool = λ entry. not (is_done_line entry) in
    let both : length (filter p (list_contents list)) + length (filter q (list_contents list)) ≡ length (list_contents list) = length-filter_both p q (λ entry. refl) (list_contents list) in
    let long : length (list_contents list) ≡ length list = length-map list (λ entry. (entry.0, shown_line entry.1)) in
    let ps : length (filter p (list_contents list)) ≡ count_by p (list_contents list) = length-filter p (list_contents list) in
    let qs : length (filter q (list_contents list)) ≡ count_by q (list_contents list) = length-filter q (list_contents list) in
    omega arith
