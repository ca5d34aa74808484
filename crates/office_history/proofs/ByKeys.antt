-- The tables' rows by their keys, as changes go over them.
use Rattle.std.specs.{Prelude.{find, filter, ◌&&◌, not, ◌==◌, count_by}, Option.option_map, Str.bytes_eq, Map.update, declared.cmp.Ordering.Ordering}
use Rattle.std.specs.{Ordering.{nat_cmp, eq_by_cmp, is_eq, ordering_then}, declared.cmp.Ordering.TheVariants.{Less, Equal, Greater}, Cmp.eq_by_cmp_equiv}
use Rattle.std.{specs.Cmp.Lexicographic.{slice_cmp, nat_list_cmp_total, texts_ties}, proofs.{Math.Bool.and-true, lemmas.List.map-append}}
use Rattle.std.proofs.Common.{◌≡◌, ℕ, ◌+◌, ◌≤◌, List, [], ◌∷◌, ◌++◌, map, Bool, true, false, cond, Option, None, Some, is_some, refl, sym, ap, subst, ◌∙◌, arith}
use Rattle.std.proofs.lemmas.List.Sums.{length-filter}
use Rattle.box6346.specs.{declared.box_number.BoxNumber.BoxNumber, declared.slot.Slot.Slot}
use Rattle.edi_messages.specs.Purposes.{CallContent}
use Rattle.terminal_core.{specs.{declared.lines.LineState.TheVariants.{Pending, Done}, declared.lines.Side.Side}, proofs.Open.{same_bytes, none_counted}}
use Rattle.terminal_core.specs.{declared.lines.Side.TheVariants.{Load, Discharge}, State.{LineContent, LineKey, Lines, line_key, side_code}}
use Rattle.terminal_core.specs.Rows.{ChangeContent, visit_opened, visit_closed, placed_at, moved_to, removed_from, listed_on, line_done, unlisted}
use Rattle.terminal_core.specs.Changes.{Standing, standing_in, standing_elsewhere, TerminalRows, with_line_done, rows_with, rows_with_all, IsApplicable, AreApplicable}
use Rattle.terminal_core.proofs.{Indexed.{counted_more, none_if, one_if}, Lined.{order, keys_total, keys_apart, same_key}}
use Rattle.office_rows.specs.{Rows.{PlaceContent, ListingContent, Rows}, Effects.{stands_for, is_line, with_change}}
use Rattle.office_rows.specs.ByKey.{standing_by, line_entry, lines_by, terminal_rows, ArePlacedOnce, AreListedOnce}
use Rattle.office_history.{specs.{Cascade.with_changes, Laws.AreRowsByKey}, proofs.Kept.count_more}
use Rattle.std.specs.FinMap as finite_map

-- ---- places

abbrev shown : PlaceContent → Standing
shown place = standing_in place.visit place.slot

-- the first place decides
head : (q : BoxNumber) (p : PlaceContent) (places : List PlaceContent) (here : Bool) → bytes_eq p.container q ≡ here → standing_by (p ∷ places) q ≡ cond here (Some (shown p)) (standing_by places q)
head q p places true e = ap (λ v. option_map shown (cond v (Some p) (find (stands_for q) places))) e
head q p places false e = ap (λ v. option_map shown (cond v (Some p) (find (stands_for q) places))) e

-- the same container has the same answer
alike : (a b q : BoxNumber) → bytes_eq a q ≡ true → bytes_eq a b ≡ bytes_eq q b
alike a b q e = ap (λ x. bytes_eq x b) (sym (same_bytes a q e))

same_answer : (a b q : BoxNumber) → bytes_eq b q ≡ true → bytes_eq a b ≡ bytes_eq a q
same_answer a b q e = ap (bytes_eq a) (sym (same_bytes b q e))

-- ---- one place more

at_end : (here is : Bool) (r : Standing) (p o : Option Standing) → (is ≡ true → cond here (Some r) o ≡ None) → cond here (Some r) (cond is p o) ≡ cond is p (cond here (Some r) o)
at_end true true r p o h = let bad : Some r ≡ None = h refl in cc
at_end true false r p o h = refl
at_end false is r p o h = refl

found_at_end : (q : BoxNumber) (places : List PlaceContent) (p : PlaceContent) (is : Bool) → bytes_eq p.container q ≡ is → (is ≡ true → standing_by places q ≡ None)
    → standing_by (places ++ p ∷ []) q ≡ cond is (Some (shown p)) (standing_by places q)
found_at_end q [] p is e none = head q p [] is e
found_at_end q (r ∷ places) p is e none =
    let here = bytes_eq r.container q in
    let before = head q r places here refl in
    head q r (places ++ p ∷ []) here refl
    ∙ ap (cond here (Some (shown r))) (found_at_end q places p is e (λ yes. rest here (sym before ∙ none yes)))
    ∙ at_end here is (shown r) (Some (shown p)) (standing_by places q) (λ yes. sym before ∙ none yes)
    ∙ ap (cond is (Some (shown p))) (sym before)
  where
    rest : (b : Bool) → cond b (Some (shown r)) (standing_by places q) ≡ None → standing_by places q ≡ None
    rest true h = cc
    rest false h = h

pub placed_by : (places : List PlaceContent) (p : PlaceContent) → standing_by places p.container ≡ None → standing_by (places ++ p ∷ []) ≡ update bytes_eq (standing_by places) p.container (Some (shown p))
placed_by places p none i q =
    found_at_end q places p (bytes_eq p.container q) refl (λ e. ap (standing_by places) (same_bytes p.container q e) ∙ none) i

-- ---- one elsewhere

abbrev elsewhere : BoxNumber → Slot → PlaceContent → PlaceContent
elsewhere container slot p = cond (stands_for container p) (record p { slot = slot }) p

own_container : (own : Bool) (slot : Slot) (p : PlaceContent) (q : BoxNumber) → bytes_eq (cond own (record p { slot = slot }) p).container q ≡ bytes_eq p.container q
own_container true slot p q = refl
own_container false slot p q = refl

own_shown : (own : Bool) (slot : Slot) (p : PlaceContent) → shown (cond own (record p { slot = slot }) p) ≡ cond own (standing_elsewhere slot (shown p)) (shown p)
own_shown true slot p = refl
own_shown false slot p = refl

changed : {A : Type 0} (change : A → A) (own here is : Bool) (x : A) (c o : Option A) → (is ≡ true → own ≡ here) → (is ≡ true → c ≡ o) → (own ≡ true → here ≡ is)
    → cond here (Some (cond own (change x) x)) (cond is (option_map change c) o) ≡ cond is (option_map change (cond own (Some x) c)) (cond here (Some x) o)
changed change true true false x c o h k m = let bad : true ≡ false = m refl in cc
changed change true false true x c o h k m = let bad : true ≡ false = h refl in cc
changed change false true true x c o h k m = let bad : false ≡ true = h refl in cc
changed change own here is x c o h k m = refl

none_changed : {A : Type 0} (change : A → A) (b : Bool) → ◌≡◌ {A = Option A} None (cond b (option_map change None) None)
none_changed change true = refl
none_changed change false = refl

moved_at : (container q : BoxNumber) (slot : Slot) (places : List PlaceContent)
    → standing_by (map (elsewhere container slot) places) q ≡ cond (bytes_eq container q) (option_map (standing_elsewhere slot) (standing_by places container)) (standing_by places q)
moved_at container q slot [] = none_changed (standing_elsewhere slot) (bytes_eq container q)
moved_at container q slot (p ∷ places) =
    let own = bytes_eq p.container container in
    let here = bytes_eq p.container q in
    let is = bytes_eq container q in
    head q (elsewhere container slot p) (map (elsewhere container slot) places) here (own_container own slot p q)
    ∙ ap (λ s. cond here (Some s) (standing_by (map (elsewhere container slot) places) q)) (own_shown own slot p)
    ∙ ap (cond here (Some (cond own (standing_elsewhere slot (shown p)) (shown p)))) (moved_at container q slot places)
    ∙ changed (standing_elsewhere slot) own here is (shown p) (standing_by places container) (standing_by places q) (λ e. same_answer p.container container q e) (λ e. ap (standing_by places) (sym (same_bytes container q e))) (λ e. alike p.container q container e)
    ∙ ap (λ o. cond is (option_map (standing_elsewhere slot) o) (cond here (Some (shown p)) (standing_by places q))) (sym (head container p places own refl))
    ∙ ap (cond is (option_map (standing_elsewhere slot) (standing_by (p ∷ places) container))) (sym (head q p places here refl))

pub moved_by : (container : BoxNumber) (slot : Slot) (places : List PlaceContent)
    → standing_by (map (elsewhere container slot) places) ≡ update bytes_eq (standing_by places) container (option_map (standing_elsewhere slot) (standing_by places container))
moved_by container slot places i q = moved_at container q slot places i

-- ---- one less

abbrev others : BoxNumber → List PlaceContent → List PlaceContent
others container places = filter (λ p. not (stands_for container p)) places

left_out : (own here : Bool) (q : BoxNumber) (p : PlaceContent) (rest : List PlaceContent) → bytes_eq p.container q ≡ here
    → standing_by (cond (not own) (p ∷ rest) rest) q ≡ cond own (standing_by rest q) (cond here (Some (shown p)) (standing_by rest q))
left_out true here q p rest e = refl
left_out false here q p rest e = head q p rest here e

leaves : {A : Type 0} (own here is : Bool) (x f o : Option A) → f ≡ cond is None o → (own ≡ true → here ≡ is) → (is ≡ true → own ≡ here) → cond own f (cond here x f) ≡ cond is None (cond here x o)
leaves true true false x f o e h k = let bad : true ≡ false = h refl in cc
leaves true false true x f o e h k = let bad : false ≡ true = h refl in cc
leaves false true true x f o e h k = let bad : false ≡ true = k refl in cc
leaves false true false x f o e h k = refl
leaves own here is x f o e h k = e

none_left : {A : Type 0} (b : Bool) → ◌≡◌ {A = Option A} None (cond b None None)
none_left true = refl
none_left false = refl

removed_at : (container q : BoxNumber) (places : List PlaceContent) → standing_by (others container places) q ≡ cond (bytes_eq container q) None (standing_by places q)
removed_at container q [] = none_left (bytes_eq container q)
removed_at container q (p ∷ places) =
    let own = bytes_eq p.container container in
    let here = bytes_eq p.container q in
    let is = bytes_eq container q in
    left_out own here q p (others container places) refl
    ∙ leaves own here is (Some (shown p)) (standing_by (others container places) q) (standing_by places q) (removed_at container q places) (λ e. alike p.container q container e) (λ e. same_answer p.container container q e)
    ∙ ap (cond is None) (sym (head q p places here refl))

pub removed_by : (container : BoxNumber) (places : List PlaceContent) → standing_by (others container places) ≡ update bytes_eq (standing_by places) container None
removed_by container places i q = removed_at container q places i

-- ---- lines

abbrev pub key_of : ListingContent → LineKey
key_of line = line_key line.call line.side line.container

abbrev pub said : ListingContent → LineContent
said line = record { port = line.port; state = line.state }

abbrev pub finds : LineKey → List ListingContent → Option LineContent
finds q lines = finite_map.find order q (map line_entry lines)

both : (a b : Ordering) → is_eq (ordering_then a b) ≡ (is_eq a && is_eq b)
both Less b = refl
both Equal b = refl
both Greater b = refl

pub sides : (a b : Side) → is_eq (slice_cmp nat_cmp (side_code a ∷ []) (side_code b ∷ [])) ≡ (side_code b == side_code a)
sides Load Load = refl
sides Load Discharge = refl
sides Discharge Load = refl
sides Discharge Discharge = refl

turned : (a b : List ℕ) → is_eq (slice_cmp nat_cmp a b) ≡ bytes_eq b a
turned a b = (eq_by_cmp_equiv nat_list_cmp_total).symm a b ∙ sym (texts_ties b a)

-- the line is that of the key
pub line_tied : (call : CallContent) (side : Side) (container : BoxNumber) (line : ListingContent) → eq_by_cmp order (line_key call side container) (key_of line) ≡ is_line call side container line
line_tied call side container line =
    let vessel : Ordering = slice_cmp nat_cmp call.vessel line.call.vessel in
    let voyage : Ordering = slice_cmp nat_cmp call.voyage line.call.voyage in
    let part : Ordering = slice_cmp nat_cmp (side_code side ∷ []) (side_code line.side ∷ []) in
    let box_ : Ordering = slice_cmp nat_cmp container line.container in
    both vessel (ordering_then voyage (ordering_then part (ordering_then box_ Equal)))
    ∙ ap (λ v. is_eq vessel && v) (both voyage (ordering_then part (ordering_then box_ Equal)) ∙ ap (λ v. is_eq voyage && v) (both part (ordering_then box_ Equal) ∙ ap (λ v. is_eq part && v) (both box_ Equal ∙ and-true (is_eq box_))))
    ∙ ap (λ v. v && (is_eq voyage && (is_eq part && is_eq box_))) (turned call.vessel line.call.vessel)
    ∙ ap (λ v. bytes_eq line.call.vessel call.vessel && (v && (is_eq part && is_eq box_))) (turned call.voyage line.call.voyage)
    ∙ ap (λ v. bytes_eq line.call.vessel call.vessel && (bytes_eq line.call.voyage call.voyage && (v && is_eq box_))) (sides side line.side)
    ∙ ap (λ v. bytes_eq line.call.vessel call.vessel && (bytes_eq line.call.voyage call.voyage && ((side_code line.side == side_code side) && v))) (turned container line.container)

-- one more
pub lines_added : (lines : List ListingContent) (line : ListingContent) → finite_map.get (lines_by lines) (key_of line) ≡ None
    → lines_by (lines ++ line ∷ []) ≡ finite_map.insert (lines_by lines) (key_of line) (said line)
lines_added lines line none =
    ap finite_map.from_entries (map-append line_entry lines (line ∷ []))
    ∙ finite_map.from_entries_push keys_total keys_apart (map line_entry lines) (key_of line) (said line) (sym (finite_map.get-from_entries keys_total (map line_entry lines) (key_of line)) ∙ none)

-- one done
abbrev as_done : LineContent → LineContent
as_done line = record line { state = Done }

abbrev done_line : CallContent → Side → BoxNumber → ListingContent → ListingContent
done_line call side container line = cond (is_line call side container line) (record line { state = Done }) line

done_key : (b : Bool) (line : ListingContent) → key_of (cond b (record line { state = Done }) line) ≡ key_of line
done_key true line = refl
done_key false line = refl

done_said : (b : Bool) (line : ListingContent) → said (cond b (record line { state = Done }) line) ≡ cond b (as_done (said line)) (said line)
done_said true line = refl
done_said false line = refl

module _ (call : CallContent) (side : Side) (container : BoxNumber) where
  abbrev key : LineKey
  key = line_key call side container

  done_at : (q : LineKey) (lines : List ListingContent) → finds q (map (done_line call side container) lines) ≡ cond (eq_by_cmp order q key) (option_map as_done (finds key lines)) (finds q lines)
  done_at q [] = none_changed as_done (eq_by_cmp order q key)
  done_at q (line ∷ lines) =
      let own = is_line call side container line in
      let here = eq_by_cmp order q (key_of line) in
      let is = eq_by_cmp order q key in
      ap (λ k. cond (eq_by_cmp order q k) (Some (said (done_line call side container line))) (finds q (map (done_line call side container) lines))) (done_key own line)
      ∙ ap (λ s. cond here (Some s) (finds q (map (done_line call side container) lines))) (done_said own line)
      ∙ ap (cond here (Some (cond own (as_done (said line)) (said line)))) (done_at q lines)
      ∙ changed as_done own here is (said line) (finds key lines) (finds q lines)
      (λ e. sym (line_tied call side container line) ∙ ap (λ k. eq_by_cmp order k (key_of line)) (sym (same_key q key e)))
      (λ e. ap (λ k. finds k lines) (sym (same_key q key e)))
      (λ e. ap (eq_by_cmp order q) (sym (same_key key (key_of line) (line_tied call side container line ∙ e))))
      ∙ ap (λ v. cond is (option_map as_done (cond v (Some (said line)) (finds key lines))) (cond here (Some (said line)) (finds q lines))) (sym (line_tied call side container line))

  -- the line is there
  pub lines_done : (lines : List ListingContent) (line : LineContent) → finite_map.get (lines_by lines) key ≡ Some line
      → lines_by (map (done_line call side container) lines) ≡ finite_map.insert (lines_by lines) key (as_done line)
  lines_done lines line there = finite_map.same_map keys_total keys_apart _ _
      (λ q. finite_map.get-from_entries keys_total (map line_entry (map (done_line call side container) lines)) q
      ∙ done_at q lines
      ∙ ap (λ o. cond (eq_by_cmp order q key) (option_map as_done o) (finds q lines)) (sym (finite_map.get-from_entries keys_total (map line_entry lines) key) ∙ there)
      ∙ ap (cond (eq_by_cmp order q key) (Some (as_done line))) (sym (finite_map.get-from_entries keys_total (map line_entry lines) q))
      ∙ sym (finite_map.get-insert keys_total (lines_by lines) key (as_done line) q))

  out : (own : Bool) (q : LineKey) (line : ListingContent) (rest : List ListingContent) → finds q (cond (not own) (line ∷ rest) rest) ≡ cond own (finds q rest) (cond (eq_by_cmp order q (key_of line)) (Some (said line)) (finds q rest))
  out true q line rest = refl
  out false q line rest = refl

  left_at : (q : LineKey) (lines : List ListingContent) → finds q (filter (λ l. not (is_line call side container l)) lines) ≡ cond (eq_by_cmp order q key) None (finds q lines)
  left_at q [] = none_left (eq_by_cmp order q key)
  left_at q (line ∷ lines) =
      let own = is_line call side container line in
      let here = eq_by_cmp order q (key_of line) in
      let is = eq_by_cmp order q key in
      let rest = filter (λ l. not (is_line call side container l)) lines in
      out own q line rest
      ∙ leaves own here is (Some (said line)) (finds q rest) (finds q lines) (left_at q lines)
      (λ e. ap (eq_by_cmp order q) (sym (same_key key (key_of line) (line_tied call side container line ∙ e))))
      (λ e. sym (line_tied call side container line) ∙ ap (λ k. eq_by_cmp order k (key_of line)) (sym (same_key q key e)))

  pub lines_left : (lines : List ListingContent) → lines_by (filter (λ l. not (is_line call side container l)) lines) ≡ finite_map.remove (lines_by lines) key
  lines_left lines = finite_map.same_map keys_total keys_apart _ _
      (λ q. finite_map.get-from_entries keys_total (map line_entry (filter (λ l. not (is_line call side container l)) lines)) q
      ∙ left_at q lines
      ∙ ap (cond (eq_by_cmp order q key) None) (sym (finite_map.get-from_entries keys_total (map line_entry lines) q))
      ∙ sym (finite_map.get-remove keys_total (lines_by lines) key q))

-- ---- no key twice

pub once_more : {A : Type 0} (p : A → Bool) (xs : List A) (x : A) (is : Bool) → p x ≡ is → count_by p xs ≤ 1 → (is ≡ true → count_by p xs ≡ 0) → count_by p (xs ++ x ∷ []) ≤ 1
once_more p xs x true e few none = omega (arith, counted_more p xs x, one_if (p x) e, none refl)
once_more p xs x false e few none = omega (arith, counted_more p xs x, none_if (p x) e)

pub count_mapped : {A : Type 0} (p : A → Bool) (f : A → A) → ((x : A) → p (f x) ≡ p x) → (xs : List A) → count_by p (map f xs) ≡ count_by p xs
count_mapped p f same [] = refl
count_mapped p f same (x ∷ xs) =
    count_more p (f x) (map f xs) (p x) (same x) ∙ ap (λ n. cond (p x) 1 0 + n) (count_mapped p f same xs) ∙ sym (count_more p x xs (p x) refl)

left_one : {A : Type 0} (p : A → Bool) (x : A) (xs all : List A) (b : Bool) → count_by p xs ≤ count_by p all → count_by p (cond b (x ∷ xs) xs) ≤ cond (p x) 1 0 + count_by p all
left_one p x xs all true h = omega (arith, count_more p x xs (p x) refl)
left_one p x xs all false h = omega arith

count_left : {A : Type 0} (p q : A → Bool) (xs : List A) → count_by p (filter q xs) ≤ count_by p xs
count_left p q [] = omega arith
count_left p q (x ∷ xs) = omega (arith, count_more p x xs (p x) refl, left_one p x (filter q xs) xs (q x) (count_left p q xs))

pub none_found : {A : Type 0} (p : A → Bool) (xs : List A) → find p xs ≡ None → count_by p xs ≡ 0
none_found p xs e = sym (length-filter p xs) ∙ none_counted p xs (ap is_some e)

pub none_mapped : {A B : Type 0} (f : A → B) (o : Option A) → option_map f o ≡ None → o ≡ None
none_mapped f None e = refl
none_mapped f (Some x) e = cc

no_standing : (q : BoxNumber) (places : List PlaceContent) → standing_by places q ≡ None → count_by (stands_for q) places ≡ 0
no_standing q places e = none_found (stands_for q) places (none_mapped shown (find (stands_for q) places) e)

lined : (here : Bool) (x : LineContent) (o : Option LineContent) → cond here (Some x) o ≡ None → (here ≡ false) × (o ≡ None)
lined true x o e = cc
lined false x o e = (refl, e)

no_line : (call : CallContent) (side : Side) (container : BoxNumber) (lines : List ListingContent) → finds (line_key call side container) lines ≡ None → count_by (is_line call side container) lines ≡ 0
no_line call side container [] e = refl
no_line call side container (line ∷ lines) e =
    let is = lined (is_line call side container line) (said line) (finds (line_key call side container) lines)
    (sym (ap (λ b. cond b (Some (said line)) (finds (line_key call side container) lines)) (line_tied call side container line)) ∙ e) in
    omega (arith, count_more (is_line call side container) line lines false is.0, no_line call side container lines is.1)

pub find_mapped : {A : Type 0} (p : A → Bool) (f : A → A) → ((x : A) → p (f x) ≡ p x) → (xs : List A) → find p (map f xs) ≡ option_map f (find p xs)
find_mapped p f same [] = refl
find_mapped p f same (x ∷ xs) = ap (λ b. cond b (Some (f x)) (find p (map f xs))) (same x) ∙ ap (cond (p x) (Some (f x))) (find_mapped p f same xs) ∙ out (p x) f x (find p xs)
  where
    out : {A : Type 0} (b : Bool) (f : A → A) (x : A) (o : Option A) → cond b (Some (f x)) (option_map f o) ≡ option_map f (cond b (Some x) o)
    out true f x o = refl
    out false f x o = refl

-- ---- a change

with_line : (lines : Lines) (key : LineKey) (o : Option LineContent) (line : LineContent) → o ≡ Some line → with_line_done lines key o ≡ finite_map.insert lines key (as_done line)
with_line lines key o line e = ap (with_line_done lines key) e

change_agrees : (rows : Rows) (change : ChangeContent) → ArePlacedOnce rows.places → AreListedOnce rows.lines → IsApplicable (terminal_rows rows) change → AreRowsByKey (with_change change rows) (rows_with (terminal_rows rows) change)
change_agrees rows (visit_opened visit) placed listed fits = record { same = refl; placed_once = placed; listed_once = listed }
change_agrees rows (visit_closed number departure) placed listed fits = record { same = refl; placed_once = placed; listed_once = listed }
change_agrees rows (placed_at container visit slot) placed listed fits = record {
  same = ap (λ (f : BoxNumber → Option Standing). record (terminal_rows rows) { places = f }) (placed_by rows.places (record { container = container; visit = visit; slot = slot }) fits.absent);
  placed_once = λ q. once_more (stands_for q) rows.places (record { container = container; visit = visit; slot = slot }) (bytes_eq container q) refl (placed q)
      (λ e. no_standing q rows.places (ap (standing_by rows.places) (same_bytes container q e) ∙ fits.absent));
  listed_once = listed;
}
change_agrees rows (moved_to container slot) placed listed fits = record {
  same = ap (λ (f : BoxNumber → Option Standing). record (terminal_rows rows) { places = f }) (moved_by container slot rows.places);
  placed_once = λ q. subst (λ n. n ≤ 1) (sym (count_mapped (stands_for q) (elsewhere container slot) (λ p. own_container (stands_for container p) slot p q) rows.places)) (placed q);
  listed_once = listed;
}
change_agrees rows (removed_from container) placed listed fits = record {
  same = ap (λ (f : BoxNumber → Option Standing). record (terminal_rows rows) { places = f }) (removed_by container rows.places);
  placed_once = λ q.
      let less : count_by (stands_for q) (others container rows.places) ≤ count_by (stands_for q) rows.places = count_left (stands_for q) (λ p. not (stands_for container p)) rows.places in
      let few : count_by (stands_for q) rows.places ≤ 1 = placed q in
      omega arith;
  listed_once = listed;
}
change_agrees rows (listed_on call side container port) placed listed fits =
    let line : ListingContent = record { call = call; side = side; container = container; port = port; state = Pending } in
    record {
      same = ap (λ (l : Lines). record (terminal_rows rows) { lines = l }) (lines_added rows.lines line fits);
      placed_once = placed;
      listed_once = λ c s b. once_more (is_line c s b) rows.lines line (is_line c s b line) refl (listed c s b)
          (λ e. no_line c s b rows.lines (
          ap (λ k. finds k rows.lines) (same_key (line_key c s b) (line_key call side container) (line_tied c s b line ∙ e))
          ∙ sym (finite_map.get-from_entries keys_total (map line_entry rows.lines) (line_key call side container)) ∙ fits));
    }
change_agrees rows (line_done call side container) placed listed fits = record {
  same = ap (λ (l : Lines). record (terminal_rows rows) { lines = l })
      (lines_done call side container rows.lines fits.line fits.there
      ∙ sym (with_line (lines_by rows.lines) (line_key call side container) (finite_map.get (lines_by rows.lines) (line_key call side container)) fits.line fits.there));
  placed_once = placed;
  listed_once = λ c s b. subst (λ n. n ≤ 1) (sym (count_mapped (is_line c s b) (done_line call side container) (λ line. kept (is_line call side container line) c s b line) rows.lines)) (listed c s b);
}
  where
    kept : (own : Bool) (c : CallContent) (s : Side) (b : BoxNumber) (line : ListingContent) → is_line c s b (cond own (record line { state = Done }) line) ≡ is_line c s b line
    kept true c s b line = refl
    kept false c s b line = refl
change_agrees rows (unlisted call side container) placed listed fits = record {
  same = ap (λ (l : Lines). record (terminal_rows rows) { lines = l }) (lines_left call side container rows.lines);
  placed_once = placed;
  listed_once = λ c s b.
      let less : count_by (is_line c s b) (filter (λ l. not (is_line call side container l)) rows.lines) ≤ count_by (is_line c s b) rows.lines = count_left (is_line c s b) (λ l. not (is_line call side container l)) rows.lines in
      let few : count_by (is_line c s b) rows.lines ≤ 1 = listed c s b in
      omega arith;
}

pub changes_agree : (changes : List ChangeContent) (rows : Rows) (terminal : TerminalRows) → AreRowsByKey rows terminal → AreApplicable terminal changes → AreRowsByKey (with_changes changes rows) (rows_with_all terminal changes)
changes_agree [] rows terminal are fits = are
changes_agree (change ∷ changes) rows terminal are fits =
    changes_agree changes (with_change change rows) (rows_with terminal change) (first terminal are.same are fits.0) fits.1
  where
    first : (t : TerminalRows) → terminal_rows rows ≡ t → AreRowsByKey rows t → IsApplicable t change → AreRowsByKey (with_change change rows) (rows_with t change)
    first t same it fits =
        let own = change_agrees rows change it.placed_once it.listed_once (subst (λ r. IsApplicable r change) (sym same) fits) in
        record { same = own.same ∙ ap (λ r. rows_with r change) same; placed_once = own.placed_once; listed_once = own.listed_once }
