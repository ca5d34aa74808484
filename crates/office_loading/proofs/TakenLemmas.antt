-- A row that a page takes, or leaves.
use Rattle.std.{specs.{List.list_any, Ordering.is_ge, Io.KnownBytes.Appends}, proofs.{lemmas.List.length-map, lemmas.Bool.Decides.nat_tests}}
use Rattle.std.proofs.Common.{◌≡◌, ℕ, ◌<◌, ◌≤◌, ◌==◌, ◌||◌, List, [], ◌∷◌, ◌++◌, length, filter, Bool, true, false, Ordering, Less, Equal, Greater, is_gt, refl, ap, ◌∙◌, inl, arith, length-append, eq-eqb, not, Option, Some, None, suc, sym, subst, append-nil, append_assoc}
use Rattle.sqlite.specs.{declared.types.Value.TheVariants.Blob, Order.{Row, column, value_cmp}, Tree.rowid}
use Rattle.sqlite_rules.{specs.Lists.Has, proofs.ListLemmas.{has_filtered, some_from}}
use Rattle.edi_syntax.specs.Bytes.{line_feed}
use Rattle.office_rows.specs.Values.{number_value}
use Rattle.office_tables.specs.{Faults.{IsOfStore, IsOfStoreOr}, declared.table_fault.TableFault.TableFault}
use Rattle.office_tables.specs.declared.table_fault.TableFault.TheVariants.{Store, Damaged, Version, Memory}
use Rattle.office_loading.specs.{Texts.{is_after, is_from, has_reached, AreTextsAfter}, Pages.{TellsPage, TakesRow, Adds, has_room, lines_of}}
use Rattle.office_loading.specs.{declared.page.TextsPage.TextsPage, Writing.{WritesAll, WritesRow, written_if}}
use Rattle.office_loading.proofs.TextQuery.{AreRead, page_full, page_whole, more_lines}

pub row_taken : (most : ℕ) (row : Row) (old new : TextsPage) (taken : Bool) → taken ≡ true → TakesRow most row old new taken
    → (text : List ℕ) × (column row 0 ≡ Blob text) × (has_room most old.lines.items old.count text ≡ true) × Adds text old new
row_taken most row old new true is h = (h.text, h.is, h.room, h.takes)
row_taken most row old new false is h = absurd cc

pub row_left : (most : ℕ) (row : Row) (old new : TextsPage) (taken : Bool) → taken ≡ false → TakesRow most row old new taken
    → (text : List ℕ) × (column row 0 ≡ Blob text) × (has_room most old.lines.items old.count text ≡ false) × (new ≡ old)
row_left most row old new false is h = (h.text, h.is, h.room, h.takes)
row_left most row old new true is h = absurd cc

-- no text is shorter than its line
pub counted_more : (text : List ℕ) (old new : TextsPage) → Adds text old new → old.count ≤ length old.lines.items → new.count ≤ length new.lines.items
counted_more text old new adds low =
    let whole = ap length adds.lines in
    let first = length-append (old.lines.items ++ text) (line_feed ∷ []) in
    let second = length-append old.lines.items text in
    omega (arith, whole, first, second, adds.count, low)

-- that a row shows no text is no fault of one that shows a text
pub of_store_only : (shown : Type 0) → shown → (fault : TableFault) → IsOfStoreOr (¬ shown) fault → IsOfStore fault
of_store_only shown is (Store error) h = tt
of_store_only shown is Memory h = tt
of_store_only shown is Damaged h = absurd (h is)
of_store_only shown is Version h = h

-- ---- a page that is done

pub page_of_all : (from most : ℕ) (stored : List Row) (lines : List ℕ) (count : ℕ) (texts : List (List ℕ)) → AreRead most lines count texts → AreTextsAfter from stored texts → TellsPage from most stored lines count
page_of_all from most stored lines count texts read are = record { all = texts; after = are; page = texts; is_page = page_whole most lines count texts read; lines_are = read.lines_are; count_is = read.count_is }

pub page_of_first : (from most : ℕ) (stored : List Row) (lines : List ℕ) (count : ℕ) (texts : List (List ℕ)) → AreRead most lines count texts → (text : List ℕ) → has_room most lines count text ≡ false
    → (later : List (List ℕ)) → AreTextsAfter from stored (texts ++ text ∷ later) → TellsPage from most stored lines count
page_of_first from most stored lines count texts read text room later are = record {
  all = texts ++ text ∷ later;
  after = are;
  page = texts;
  is_page = page_full most lines count texts read text room later;
  lines_are = read.lines_are;
  count_is = read.count_is;
}

-- ---- whether a number is reached

-- all rows are reached after no text
pub reached_none : (from : ℕ) (stored : List Row) → from ≡ 0 → has_reached from stored ≡ true
reached_none from stored none = ap (λ b. b || list_any (is_from from) stored) (eq-eqb from 0 none)

-- where a text comes after the number, it is reached
pub reached_texts : (from : ℕ) (stored : List Row) (texts : List (List ℕ)) → AreTextsAfter from stored texts → 0 < length texts → has_reached from stored ≡ true
reached_texts from stored texts are some = by_rows stored (filter_some (filter (is_after from) stored) more)
  where
    more : 0 < length (filter (is_after from) stored)
    more =
        let blobs = ap length are in
        let left = length-map texts Blob in
        let right = length-map (filter (is_after from) stored) (λ row. column row 3) in
        omega (arith, blobs, left, right, some)

    filter_some : (rows : List Row) → 0 < length rows → (row : Row) × Has rows row
    filter_some [] none = absurd (omega (arith, none))
    filter_some (row ∷ rows) some = (row, inl refl)

    from_after : (o : Ordering) → is_gt o ≡ true → is_ge o ≡ true
    from_after Less h = absurd cc
    from_after Equal h = absurd cc
    from_after Greater h = refl

    or_true : (b : Bool) → (b || true) ≡ true
    or_true true = refl
    or_true false = refl

    by_rows : (rows : List Row) → (row : Row) × Has (filter (is_after from) rows) row → has_reached from rows ≡ true
    by_rows rows found =
        let there = has_filtered (is_after from) rows found.0 found.1 in
        let here : is_from from found.0 ≡ true = from_after (value_cmp (rowid found.0) (number_value from)) there.1 in
        ap (λ b. (from == 0) || b) (some_from (is_from from) rows found.0 there.0 here) ∙ or_true (from == 0)

pub reached_page : (from most : ℕ) (stored : List Row) (lines : List ℕ) (count : ℕ) → TellsPage from most stored lines count → 0 < count → has_reached from stored ≡ true
reached_page from most stored lines count tells some =
    let page = length-append tells.page tells.is_page.later in
    let front = ap length tells.is_page.front in
    reached_texts from stored tells.all tells.after (omega (arith, page, front, tells.count_is, some))

-- ==== WriteLemmas: What is written while the rows are read one at a time.

pub nothing_appended : (a : Option (List ℕ)) → Appends a a []
nothing_appended None = tt
nothing_appended (Some a) = sym (append-nil a)

pub appends_then : (a b c : Option (List ℕ)) (x y : List ℕ) → Appends a b x → Appends b c y → Appends a c (x ++ y)
appends_then None b c x y p q = tt
appends_then (Some a) None c x y p q = absurd p
appends_then (Some a) (Some b) None x y p q = absurd q
appends_then (Some a) (Some b) (Some c) x y p q = q ∙ ap (λ l. l ++ y) p ∙ append_assoc a x y

-- these texts were written so far, and whether there is one
pub record AreSoFar (old new : Option (List ℕ)) (has_some : Bool) (texts : List (List ℕ)) : Type 0 where
  pub some : has_some ≡ not (length texts == 0)
  pub appended : Appends old new (lines_of texts)

pub none_so_far : (a : Option (List ℕ)) → AreSoFar a a false []
none_so_far a = record { some = refl; appended = nothing_appended a }

pub more_so_far : (a b c : Option (List ℕ)) (has_some : Bool) (texts : List (List ℕ)) (text : List ℕ) → AreSoFar a b has_some texts → Appends b c (text ++ line_feed ∷ []) → AreSoFar a c true (texts ++ text ∷ [])
more_so_far a b c has_some texts text so_far appended = record {
  some = one_more texts;
  appended = subst (Appends a c) (sym (append_assoc (lines_of texts) text (line_feed ∷ [])) ∙ sym (more_lines texts text)) (appends_then a b c (lines_of texts) (text ++ line_feed ∷ []) so_far.appended appended);
}
  where
    not_none : (n : ℕ) → true ≡ not (suc n == 0)
    not_none n = grind (arith, nat_tests)

    one_more : (xs : List (List ℕ)) → true ≡ not (length (xs ++ text ∷ []) == 0)
    one_more [] = refl
    one_more (x ∷ xs) = not_none (length (xs ++ text ∷ []))

pub all_so_far : (from : ℕ) (stored : List Row) (old new : Option (List ℕ)) (has_some : Bool) (texts : List (List ℕ)) → AreSoFar old new has_some texts → AreTextsAfter from stored texts
    → WritesAll from stored old new (written_if has_some)
all_so_far from stored old new true texts so_far are =
    (reached_texts from stored texts are (above texts so_far.some), record { texts = texts; after = are; appended = so_far.appended })
  where
    above : (xs : List (List ℕ)) → true ≡ not (length xs == 0) → 0 < length xs
    above [] some = absurd cc
    above (x ∷ xs) some = omega arith
all_so_far from stored old new false texts so_far are =
    let none = empty texts so_far.some in
    (subst (AreTextsAfter from stored) none are, subst (λ (l : List (List ℕ)). Appends old new (lines_of l)) none so_far.appended)
  where
    empty : (xs : List (List ℕ)) → false ≡ not (length xs == 0) → xs ≡ []
    empty [] some = refl
    empty (x ∷ xs) some = absurd (grind (arith, nat_tests))

pub row_written : (row : Row) (old new : Option (List ℕ)) (failed failed' : Bool) (taken : Bool) → taken ≡ true → WritesRow row old new failed failed' taken
    → (text : List ℕ) × (column row 0 ≡ Blob text) × Appends old new (text ++ line_feed ∷ []) × (failed' ≡ failed)
row_written row old new failed failed' true is h = h
row_written row old new failed failed' false is h = absurd cc
