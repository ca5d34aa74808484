use Rattle.std.specs.{List.list_any, Option.option_or}
use Rattle.std.proofs.Common.{◌≡◌, ◌||◌, ℕ, Bool, List, [], ◌∷◌, true, false, true≢false, cond, map, Option, None, Some, is_some, inl, inr, take, zero, suc, sym, refl, subst, ◌∙◌}
use Rattle.edi_messages.specs.Purposes.{CallContent}
use Rattle.terminal_core.specs.declared.lines.Side.{Side}
use Rattle.office_rows.specs.Rows.{ListingContent}
use Rattle.office_parts.specs.{Archives.Archive, Away.lines_away, OwnLists.{ListName, list_name}}
use Rattle.office_closing.specs.{Lists.{is_among, lines_of_list, list_content, lists_among}, declared.settled_lists.SettledList.SettledList}
use Rattle.office_closing.proofs.Created.{some_told}
use Rattle.office_archives.specs.Shelves.{IsKeptAs}
use Rattle.office_archives.proofs.many_archives.ManyArchivesArchives.has_lists.Goals as goal

kept_some : (call : CallContent) (side : Side) (text : List ℕ) (lines : Option (List ListingContent)) → IsKeptAs call side (Some text) lines → is_some lines ≡ true
kept_some call side text None kept = absurd kept
kept_some call side text (Some lines) kept = refl

kept_none : (call : CallContent) (side : Side) (lines : Option (List ListingContent)) → IsKeptAs call side None lines → lines ≡ None
kept_none call side None kept = refl
kept_none call side (Some lines) kept = absurd kept

-- what none of all has, none of the first has
none_before : (count : ℕ) (list : List Archive) (name : ListName) → lines_away list name ≡ None → lines_away (take count list) name ≡ None
none_before zero list name none = refl
none_before (suc count) [] name none = refl
none_before (suc count) (one ∷ list) name none = by (lines_away list name) (none_before count list name) none
  where
    by : (later : Option (List ListingContent)) → (later ≡ None → lines_away (take count list) name ≡ None) → option_or later (one.lists name) ≡ None → option_or (lines_away (take count list) name) (one.lists name) ≡ None
    by None before here = (λ i. option_or (before refl i) (one.lists name)) ∙ here
    by (Some lines) before here = absurd cc

-- ---- the lists of the first so many archives

none_among : (count : ℕ) (lists : List SettledList) → list_any (λ list. is_among count (list_content list)) lists ≡ false → lists_among count (map list_content lists) ≡ []
none_among count [] off = refl
none_among count (list ∷ lists) off = by (is_among count (list_content list)) (none_among count lists) off
  where
    by : (is : Bool) → (list_any (λ list. is_among count (list_content list)) lists ≡ false → lists_among count (map list_content lists) ≡ []) → (is || list_any (λ list. is_among count (list_content list)) lists) ≡ false → cond is (list_content list ∷ lists_among count (map list_content lists)) (lists_among count (map list_content lists)) ≡ []
    by true rest off = absurd (true≢false off)
    by false rest off = rest off

some_among : (count : ℕ) (lists : List SettledList) → list_any (λ list. is_among count (list_content list)) lists ≡ true → lists_among count (map list_content lists) ≡ [] → ⊥
some_among count [] on none = true≢false (sym on)
some_among count (list ∷ lists) on none = by (is_among count (list_content list)) (some_among count lists) on none
  where
    by : (is : Bool) → (list_any (λ list. is_among count (list_content list)) lists ≡ true → lists_among count (map list_content lists) ≡ [] → ⊥) → (is || list_any (λ list. is_among count (list_content list)) lists) ≡ true → cond is (list_content list ∷ lists_among count (map list_content lists)) (lists_among count (map list_content lists)) ≡ [] → ⊥
    by true rest found none = absurd cc
    by false rest found none = rest found none

-- the register keeps the lines of one, or of none
pub returns : goal.returns
returns g c archives are =
    let count = c.args.count in
    let own = c.args.self.now.register.lists.items in
    let rows = lists_among count (map list_content own) in
    let before = take count archives in
    record {
      none = λ off name. elim (are.are_named.of_calls name) [
        | inl never ↦ none_before count archives name never
        | inr is ↦
            let kept = are.are_named.among count is.0 is.1 in
            let none = none_among count own (sym c.has_lists.ensures ∙ off) in
            subst (λ n. lines_away before n ≡ None) is.2
            (kept_none is.0 is.1 (lines_away before (list_name is.0 is.1)) (subst (λ l. IsKeptAs is.0 is.1 (lines_of_list l is.0 is.1) (lines_away before (list_name is.0 is.1))) none kept))
      ];
      some = λ on.
          let told = some_told rows (some_among count own (sym c.has_lists.ensures ∙ on)) in
          let name = list_name told.0 told.1 in (
            name,
            kept_some told.0 told.1 told.2.0 (lines_away before name) (subst (λ text. IsKeptAs told.0 told.1 text (lines_away before name)) told.2.1 (are.are_named.among count told.0 told.1)),
          );
    }
