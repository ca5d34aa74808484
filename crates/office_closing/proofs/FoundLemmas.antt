-- The lists that are found, line by line.
use Rattle.std.specs.{Prelude.{Contains, count_by, IsPermutation, ◌↔◌, ◌&&◌, ◌==◌, IfNone, IfSome, option_to_list, slice_get, find}, List.{flat_map, list_any}}
use Rattle.std.specs.{Option.option_map, Ordering.{nat_cmp, is_eq, ordering_then, eq_by_cmp}, declared.cmp.Ordering.Ordering, Cmp.eq_by_cmp_equiv, Str.bytes_eq}
use Rattle.std.specs.{declared.cmp.Ordering.TheVariants.{Less, Equal, Greater}, Cmp.Lexicographic.{slice_cmp, nat_list_cmp_total, texts_ties}}
use Rattle.std.proofs.Common.{◌≡◌, ◌≤◌, inl, inr, List, [], ◌∷◌, Bool, true, cond, refl, sym, subst, arith, ℕ, ◌<◌, ◌++◌, length, get_or, map, false, Option, None, Some, ap, ◌∙◌}
use Rattle.std.proofs.lemmas.List.Sorted.{Contains-permutation, IsPermutation-cons, IsPermutation-refl, IsPermutation-remove, IsPermutation-sym, IsPermutation-trans, sum_by-IsPermutation}
use Rattle.std.proofs.lemmas.Map.Made.{Contains-tail}
use Rattle.std.proofs.lemmas.List.{append-nil}
use Rattle.std.proofs.lemmas.List.Elements.{Contains-push, Contains-push_cases, Contains-append_left}
use Rattle.sqlite_rules.{specs.Lists.Has, proofs.ProbeLemmas.{has_mapped, mapped_has}}
use Rattle.sqlite_rules.proofs.ListLemmas.{has_either, has_left, has_right, all_has, contains_had, has_contained, has_filtered, has_kept, some_from, some_has}
use Rattle.terminal_core.specs.{State.{side_code, LineContent, LineKey}, declared.lines.LineState.TheVariants.Done, declared.lines.Listing.Listing}
use Rattle.terminal_core.{specs.{declared.lines.Side.Side, declared.lines.Side.TheVariants.{Load, Discharge}, Listings.lines_of}, proofs.Whole.contained}
use Rattle.terminal_core.proofs.{Indexed.{some_counted, found_is}, Lined.{same_key, tied_self, order, keys_total}}
use Rattle.office_history.proofs.{Kept.{count_more, head_in, tail_in, found_only}, ByKeys.{sides, finds, key_of, line_tied, said}}
use Rattle.edi_messages.specs.Purposes.{CallContent}
use Rattle.office_rows.specs.{Rows.{ListingContent, listing_content}, ByKey.{AreListedOnce, line_entry, lines_by}, Effects.is_line}
use Rattle.office_closing.specs.Lists.{SettledListContent, list_content}
use Rattle.office_closing.specs.declared.settled_lists.SettledList.{SettledList}
use Rattle.office_closing.specs.Found.{AreAllDone, HasLineOf, IsFoundAs, list_on}
use Rattle.office_closing.specs.Going.{AreDone, AreNamedOnce, IsAmong, lines_on, name_of}
use Rattle.office_parts.specs.{Bringing.is_of, Named.named_list_content, OwnLists.{ListName, list_name}, declared.naming.NamedList.NamedList}
use Rattle.sqlite_trees.proofs.ListLemmas.{map-map}
use Rattle.std.specs.FinMap as finite_map

-- ==== ListLemmas: Members of lists.

-- ---- of what each element gives

pub flat_has : {A B : Type 0} (f : A → List B) (xs : List A) (y : B) → Has (flat_map f xs) y → (x : A) × Has xs x × Has (f x) y
flat_has f [] y has = absurd has
flat_has f (x ∷ xs) y has = elim (has_either (f x) (flat_map f xs) y has) [
  | inl here ↦ (x, inl refl, here)
  | inr there ↦ let more = flat_has f xs y there in (more.0, inr more.1, more.2)
]

pub has_flat : {A B : Type 0} (f : A → List B) (xs : List A) (x : A) (y : B) → Has xs x → Has (f x) y → Has (flat_map f xs) y
has_flat f [] x y has own = absurd has
has_flat f (z ∷ xs) x y (inl same) own = has_left (f z) (flat_map f xs) y (subst (λ w. Has (f w) y) same own)
has_flat f (z ∷ xs) x y (inr there) own = has_right (f z) (flat_map f xs) y (has_flat f xs x y there own)

-- ---- lists with the same members, none of them twice

module _ {A : Type 0} (ties : A → A → Bool) (self : (x : A) → ties x x ≡ true) where
  abbrev pub AreApart : List A → Type 0
  AreApart xs = (x : A) → count_by (ties x) xs ≤ 1

  not_again : (x : A) (xs : List A) → AreApart (x ∷ xs) → Contains xs x → ⊥
  not_again x xs apart inside =
      let more = count_more (ties x) x xs true (self x) in
      let there = some_counted (ties x) xs x inside (self x) in
      absurd (omega (arith, apart x, more, there))

  rest_apart : (x : A) (xs : List A) → AreApart (x ∷ xs) → AreApart xs
  rest_apart x xs apart y =
      let more = count_more (ties y) x xs (ties y x) refl in
      omega (arith, apart y, more)

  apart_in_any_order : (xs ys : List A) → IsPermutation xs ys → AreApart xs → AreApart ys
  apart_in_any_order xs ys same apart x = subst (λ n. n ≤ 1) (sym (sum_by-IsPermutation (λ y. cond (ties x y) 1 0) xs ys same)) (apart x)

  among_rest : (x z : A) (xs ys : List A) → AreApart (x ∷ xs) → Contains xs z → Contains (x ∷ ys) z → Contains ys z
  among_rest x z xs ys apart inside there = Contains-tail x ys z (λ e. not_again x xs apart (subst (Contains xs) (sym e) inside)) there

  pub same_members : (xs ys : List A) → AreApart xs → AreApart ys → ((x : A) → Contains xs x → Contains ys x) → ((y : A) → Contains ys y → Contains xs y) → IsPermutation xs ys
  same_members [] [] a b to from = IsPermutation-refl []
  same_members [] (y ∷ ys) a b to from = let bad = from y (head_in y ys) in absurd (omega (arith, bad.1))
  same_members (x ∷ xs) ys a b to from =
      let here = to x (head_in x xs) in
      rest _ (IsPermutation-remove ys here.0 x here.1 (sym here.2)) (λ left b to from. same_members xs left (rest_apart x xs a) b to from)
    where
      rest : (left : List A) → IsPermutation ys (x ∷ left) → ((left : List A) → AreApart left → ((z : A) → Contains xs z → Contains left z) → ((z : A) → Contains left z → Contains xs z) → IsPermutation xs left) → IsPermutation (x ∷ xs) ys
      rest left taken again =
          let apart : AreApart (x ∷ left) = apart_in_any_order ys (x ∷ left) taken b in
          let same : IsPermutation xs left = again left (rest_apart x left apart)
          (λ z inside. among_rest x z xs left a inside (Contains-permutation ys (x ∷ left) z taken (to z (tail_in x z xs inside))))
          (λ z inside. among_rest x z left xs apart inside (from z (Contains-permutation (x ∷ left) ys z (IsPermutation-sym ys (x ∷ left) taken) (tail_in x z left inside)))) in
          IsPermutation-trans _ _ _ (IsPermutation-cons x xs left same) (IsPermutation-sym ys (x ∷ left) taken)

-- ==== FoundLemmas: The lists that are found, line by line.

-- ---- the list of a line

both : (a b : Ordering) → is_eq (ordering_then a b) ≡ (is_eq a && is_eq b)
both Less b = refl
both Equal b = refl
both Greater b = refl

and_true : (b : Bool) → (b && true) ≡ b
and_true true = refl
and_true false = refl

turned : (a b : List ℕ) → is_eq (slice_cmp nat_cmp a b) ≡ bytes_eq b a
turned a b = (eq_by_cmp_equiv nat_list_cmp_total).symm a b ∙ sym (texts_ties b a)

-- a line is of a list if vessel, voyage and side are
pub list_tied : (call : CallContent) (side : Side) (line : ListingContent) → is_of (list_name call side) line ≡ (bytes_eq line.call.vessel call.vessel && (bytes_eq line.call.voyage call.voyage && (side_code line.side == side_code side)))
list_tied call side line =
    let vessel : Ordering = slice_cmp nat_cmp call.vessel line.call.vessel in
    let voyage : Ordering = slice_cmp nat_cmp call.voyage line.call.voyage in
    let part : Ordering = slice_cmp nat_cmp (side_code side ∷ []) (side_code line.side ∷ []) in
    both vessel (ordering_then voyage (ordering_then part Equal))
    ∙ ap (λ v. is_eq vessel && v) (both voyage (ordering_then part Equal) ∙ ap (λ v. is_eq voyage && v) (both part Equal ∙ and_true (is_eq part)))
    ∙ ap (λ v. v && (is_eq voyage && is_eq part)) (turned call.vessel line.call.vessel)
    ∙ ap (λ v. bytes_eq line.call.vessel call.vessel && (v && is_eq part)) (turned call.voyage line.call.voyage)
    ∙ ap (λ v. bytes_eq line.call.vessel call.vessel && (bytes_eq line.call.voyage call.voyage && v)) (sides side line.side)

pub is_own : (line : ListingContent) → is_of (list_on line) line ≡ true
is_own line = tied_self (list_on line)

pub own_list : (list : ListName) (line : ListingContent) → is_of list line ≡ true → list ≡ list_on line
own_list list line is = same_key list (list_on line) is

pub line_of_list : (list : ListName) (line : ListingContent) (lines : List ListingContent) → Contains lines line → list_on line ≡ list → Has (lines_on list lines) line
line_of_list list line lines inside its = has_kept (is_of list) lines line (has_contained lines line inside) (ap (λ (l : ListName). is_of l line) (sym its) ∙ is_own line)

-- a line of these, as a row has it
pub content_in : (lines : List Listing) (index : ℕ) (line : Listing) → index < length lines → line ≡ get_or lines index line → Contains (map listing_content lines) (listing_content line)
content_in lines index line low at = contains_had _ _ (mapped_has listing_content lines line (has_contained lines line (index, low, sym at)))

-- the last of these lines is of the line's list
pub last_line : (before : List Listing) (place : ℕ) (last line : Listing) → Some last ≡ slice_get before place → is_of (list_on (listing_content line)) (listing_content last) ≡ true → HasLineOf (map listing_content before) (list_on (listing_content line))
last_line before place last line at is = record {
  line = listing_content last;
  has = contains_had _ _ (mapped_has listing_content before last (has_contained before last (contained before place last (sym at))));
  is_its = sym (own_list (list_on (listing_content line)) (listing_content last) is);
}

-- ---- named lists

pub named_tied : (named : List NamedList) (line : ListingContent) → (list_any (λ (n : NamedList). is_of (named_list_content n) line) named ≡ true) ↔ Contains (map named_list_content named) (list_on line)
named_tied named line = (
  λ any.
      let one = some_has (λ (n : NamedList). is_of (named_list_content n) line) named any in
      contains_had _ _ (subst (Has (map named_list_content named)) (own_list (named_list_content one.0) line one.2) (mapped_has named_list_content named one.0 one.1)),
  λ inside.
      let one = has_mapped named_list_content named (list_on line) (has_contained _ _ inside) in
      some_from (λ (n : NamedList). is_of (named_list_content n) line) named one.0 one.1 (ap (λ (l : ListName). is_of l line) (sym one.2) ∙ is_own line),
)

-- ---- the text of a list

module _ (list : ListName) where
  -- a line of it that is not done
  pub not_all : (lines : List ListingContent) (line : ListingContent) → Contains lines line → is_of list line ≡ true → (line.state ≡ Done → ⊥) → AreAllDone (lines_on list lines) → ⊥
  not_all lines line inside own unlike all =
      unlike (all_has (λ (l : ListingContent). l.state ≡ Done) (lines_on list lines) line all (has_kept (is_of list) lines line (has_contained lines line inside) own))

-- ---- what was found

pub found_tied : (found : List SettledList) (line : ListingContent) → (list_any (λ (f : SettledList). is_of (name_of (list_content f)) line) found ≡ true) ↔ IsAmong (map list_content found) (list_on line)
found_tied found line = (
  λ any.
      let one = some_has (λ (f : SettledList). is_of (name_of (list_content f)) line) found any in
      record { one = list_content one.0; has = contains_had _ _ (mapped_has list_content found one.0 one.1); named = own_list (name_of (list_content one.0)) line one.2 },
  λ among.
      let one = has_mapped list_content found among.one (has_contained _ _ among.has) in
      some_from (λ (f : SettledList). is_of (name_of (list_content f)) line) found one.0 one.1 (ap (λ (l : ListName). is_of l line) (ap name_of (sym one.2) ∙ among.named) ∙ is_own line),
)

-- of all lines, the lists of those that were seen
pub record AreFoundOf (lines : List ListingContent) (named : List ListName) (archive : ℕ) (seen : List ListingContent) (found : List SettledListContent) : Type 0 where
  pub each : (one : SettledListContent) → Contains found one → IsFoundAs lines named archive (name_of one) one × HasLineOf lines (name_of one)
  pub all : (line : ListingContent) → Contains seen line → AreAllDone (lines_on (list_on line) lines) → ¬ Contains named (list_on line) → IsAmong found (list_on line)
  pub once : AreNamedOnce found

-- one more of another name
once_more : (found : List SettledListContent) (one : SettledListContent) → ¬ IsAmong found (name_of one) → AreNamedOnce found → AreNamedOnce (found ++ one ∷ [])
once_more [] one none once = (λ among. absurd (has_contained [] among.one among.has), tt)
once_more (first ∷ found) one none once = (
  λ among. elim (Contains-push_cases found one among.one among.has) [
    | inl before ↦ once.0 (record { one = among.one; has = before; named = among.named })
    | inr same ↦ none (record { one = first; has = contains_had (first ∷ found) first (inl refl); named = sym among.named ∙ ap name_of (sym same) })
  ],
  once_more found one (λ among. none (record { one = among.one; has = contains_had (first ∷ found) among.one (inr (has_contained found among.one among.has)); named = among.named })) once.1,
)

module _ (lines : List ListingContent) (named : List ListName) (archive : ℕ) where
  abbrev Are : List ListingContent → List SettledListContent → Type 0
  Are seen found = AreFoundOf lines named archive seen found

  abbrev pub IsSeen : List SettledListContent → ListName → Type 0
  IsSeen found list = AreAllDone (lines_on list lines) → ¬ Contains named list → IsAmong found list

  seen_more : (seen : List ListingContent) (line : ListingContent) (found : List SettledListContent) → ((l : ListingContent) → Contains seen l → IsSeen found (list_on l)) → IsSeen found (list_on line)
      → (l : ListingContent) → Contains (seen ++ line ∷ []) l → IsSeen found (list_on l)
  seen_more seen line found before own l inside = elim (Contains-push_cases seen line l inside) [
    | inl earlier ↦ before l earlier
    | inr same ↦ subst (λ (l : ListingContent). IsSeen found (list_on l)) same own
  ]

  -- the list was seen already
  pub found_before : (seen : List ListingContent) (line : ListingContent) (found : List SettledListContent) → HasLineOf seen (list_on line) → Are seen found → Are (seen ++ line ∷ []) found
  found_before seen line found earlier are = record {
    each = are.each;
    once = are.once;
    all = seen_more seen line found are.all (subst (IsSeen found) earlier.is_its (are.all earlier.line earlier.has));
  }

  -- the list was found already
  pub found_already : (seen : List ListingContent) (line : ListingContent) (found : List SettledListContent) → IsAmong found (list_on line) → Are seen found → Are (seen ++ line ∷ []) found
  found_already seen line found among are = record {
    each = are.each;
    once = are.once;
    all = seen_more seen line found are.all (λ done unnamed. among);
  }

  -- the list stays
  pub found_none : (seen : List ListingContent) (line : ListingContent) (found : List SettledListContent) → (AreAllDone (lines_on (list_on line) lines) → Contains named (list_on line)) → Are seen found → Are (seen ++ line ∷ []) found
  found_none seen line found stays are = record {
    each = are.each;
    once = are.once;
    all = seen_more seen line found are.all (λ done unnamed. absurd (unnamed (stays done)));
  }

  among_more : (found : List SettledListContent) (one : SettledListContent) (list : ListName) → IsAmong found list → IsAmong (found ++ one ∷ []) list
  among_more found one list among = record { one = among.one; has = Contains-append_left found (one ∷ []) among.one among.has; named = among.named }

  -- the list goes
  pub found_more : (seen : List ListingContent) (line : ListingContent) (found : List SettledListContent) (one : SettledListContent) → Contains lines line → IsFoundAs lines named archive (list_on line) one → ¬ IsAmong found (list_on line) → Are seen found → Are (seen ++ line ∷ []) (found ++ one ∷ [])
  found_more seen line found one inside is new are = record {
    once = once_more found one (λ among. new (record { one = among.one; has = among.has; named = among.named ∙ is.its })) are.once;
    each = λ other has. elim (Contains-push_cases found one other has) [
      | inl before ↦ are.each other before
      | inr same ↦ subst (λ (o : SettledListContent). IsFoundAs lines named archive (name_of o) o × HasLineOf lines (name_of o)) same
          (subst (λ (l : ListName). IsFoundAs lines named archive l one) (sym is.its) is, record { line = line; has = inside; is_its = sym is.its })
    ];
    all = seen_more seen line (found ++ one ∷ [])
        (λ l earlier done unnamed. among_more found one (list_on l) (are.all l earlier done unnamed))
        (λ done unnamed. record { one = one; has = Contains-push found one; named = is.its });
  }

  -- what was looked for
  pub found_step : (seen : List ListingContent) (line : ListingContent) (found all : List SettledListContent) (o : Option SettledList) → Contains lines line → IfSome o (λ list. IsFoundAs lines named archive (list_on line) (list_content list)) →
      IfNone o (AreAllDone (lines_on (list_on line) lines) → Contains named (list_on line)) → all ≡ found ++ option_to_list (option_map list_content o) → ¬ IsAmong found (list_on line) → Are seen found → Are (seen ++ line ∷ []) all
  found_step seen line found all None inside some none is new are = subst (Are (seen ++ line ∷ [])) (sym (is ∙ append-nil found)) (found_none seen line found none are)
  found_step seen line found all (Some list) inside some none is new are = subst (Are (seen ++ line ∷ [])) (sym is) (found_more seen line found (list_content list) inside some new are)

  some_line : (list : ListName) (on : List ListingContent) → lines_on list lines ≡ on → (on ≡ [] → ⊥) → (line : ListingContent) × Has lines line × (is_of list line ≡ true)
  some_line list [] e some = absurd (some refl)
  some_line list (l ∷ on) e some = let own = has_filtered (is_of list) lines l (subst (λ (all : List ListingContent). Has all l) (sym e) (inl refl)) in (l, own.0, own.1)

  -- all lines were seen
  pub found_all : (found : List SettledListContent) → Are lines found → AreDone lines named archive found
  found_all found are = record {
    done = λ one inside.
        let its = are.each one inside in
        record {
          some = λ none. subst (λ (l : List ListingContent). Has l its.1.line) none (line_of_list (name_of one) its.1.line lines its.1.has its.1.is_its);
          done = its.0.tells.done;
        };
    unnamed = λ one inside. (are.each one inside).0.unnamed;
    text = λ one inside. (are.each one inside).0.tells.is_text;
    archive_is = λ one inside. (are.each one inside).0.archive_is;
    once = are.once;
    all = λ list done unnamed.
        let line = some_line list (lines_on list lines) refl done.some in
        let its : list ≡ list_on line.0 = own_list list line.0 line.2 in
        subst (IsAmong found) (sym its) (are.all line.0 (contains_had lines line.0 line.1) (subst (λ (l : ListName). AreAllDone (lines_on l lines)) its done.done) (λ inside. unnamed (subst (Contains named) (sym its) inside)));
  }

-- ==== OnceLemmas: Lines of which none stands twice, by key and in some order.

-- ---- a line by its key

pub sides_same : (a b : Side) → side_code a ≡ side_code b → a ≡ b
sides_same Load Load e = refl
sides_same Discharge Discharge e = refl
sides_same a b e = absurd (omega (arith, e))

same_line : (a b : ListingContent) → key_of a ≡ key_of b → said a ≡ said b → a ≡ b
same_line a b key is =
    let vessel : a.call.vessel ≡ b.call.vessel = cc in
    let voyage : a.call.voyage ≡ b.call.voyage = cc in
    let code : side_code a.side ≡ side_code b.side = cc in
    let side : a.side ≡ b.side = sides_same a.side b.side code in
    let container : a.container ≡ b.container = cc in
    let port : a.port ≡ b.port = ap (λ (l : LineContent). l.port) is in
    let state : a.state ≡ b.state = ap (λ (l : LineContent). l.state) is in
    λ i. record { call = record { vessel = vessel i; voyage = voyage i }; side = side i; container = container i; port = port i; state = state i }

abbrev keyed : LineKey → ListingContent → Bool
keyed q line = eq_by_cmp order q (key_of line)

finds_line : (q : LineKey) (lines : List ListingContent) → finds q lines ≡ option_map said (find (keyed q) lines)
finds_line q [] = refl
finds_line q (l ∷ lines) = first (keyed q l) (finds_line q lines)
  where
    first : (b : Bool) → finds q lines ≡ option_map said (find (keyed q) lines)
        → cond b (Some (said l)) (finds q lines) ≡ option_map said (cond b (Some l) (find (keyed q) lines))
    first true e = refl
    first false e = e

-- what the lines have under a key
under : (q : LineKey) (lines : List ListingContent) → finite_map.get (lines_by lines) q ≡ option_map said (find (keyed q) lines)
under q lines = finite_map.get-from_entries keys_total (map line_entry lines) q ∙ finds_line q lines

ties_keyed : (x y : ListingContent) → keyed (key_of x) y ≡ is_line x.call x.side x.container y
ties_keyed x y = line_tied x.call x.side x.container y

keyed_self : (x : ListingContent) → is_line x.call x.side x.container x ≡ true
keyed_self x = sym (ties_keyed x x) ∙ tied_self (key_of x)

keyed_once : (x : ListingContent) (lines : List ListingContent) → AreListedOnce lines → count_by (keyed (key_of x)) lines ≤ 1
keyed_once x lines once =
    let same : is_line x.call x.side x.container ≡ keyed (key_of x) = λ i y. sym (ties_keyed x y) i in
    subst (λ f. count_by f lines ≤ 1) same (once x.call x.side x.container)

some_found : (q : LineKey) (x : ListingContent) (lines : List ListingContent) (o : Option ListingContent) → q ≡ key_of x → find (keyed q) lines ≡ o → option_map said o ≡ Some (said x) → Contains lines x
some_found q x lines None key e is = let bad : ◌≡◌ {A = Option LineContent} None (Some (said x)) = is in absurd cc
some_found q x lines (Some y) key e is =
    let here = found_is (keyed q) lines y e in
    let its : said y ≡ said x = cc in
    let same : y ≡ x = same_line y x (sym (same_key q (key_of y) here.2) ∙ key) its in
    subst (Contains lines) same (contained lines here.0 y here.1)

-- a line that stands there is under its key
pub line_under : (x : ListingContent) (lines : List ListingContent) → AreListedOnce lines → Contains lines x → finite_map.get (lines_by lines) (key_of x) ≡ Some (said x)
line_under x lines once inside = under (key_of x) lines ∙ ap (option_map said) (found_only (keyed (key_of x)) lines x (keyed_once x lines once) inside (tied_self (key_of x)))

there_too : (xs ys : List ListingContent) → AreListedOnce xs → lines_by xs ≡ lines_by ys → (x : ListingContent) → Contains xs x → Contains ys x
there_too xs ys once same x inside =
    let q = key_of x in
    some_found q x ys (find (keyed q) ys) refl refl (sym (under q ys) ∙ ap (λ m. finite_map.get m q) (sym same) ∙ line_under x xs once inside)

-- Lines of which none stands twice, and that are the same by key, are the same in some order.
pub once_same : (xs ys : List ListingContent) → AreListedOnce xs → AreListedOnce ys → lines_by xs ≡ lines_by ys → IsPermutation xs ys
once_same xs ys a b same =
    same_members (λ x. is_line x.call x.side x.container) keyed_self xs ys (λ x. a x.call x.side x.container) (λ x. b x.call x.side x.container)
    (there_too xs ys a same) (there_too ys xs b (sym same))

-- ---- lines as the terminal has them

pub listings_by : (listings : List Listing) → lines_of listings ≡ lines_by (map listing_content listings)
listings_by listings = sym (ap finite_map.from_entries (map-map line_entry listing_content listings))
