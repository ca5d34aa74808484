-- A closing adds an archive to those that the store's register names.
use Rattle.std.specs.{Prelude.{◌&&◌, ◌||◌, Contains}, List.{AllByRecursion, list_all}, Cmp.IsTotalOrder, Cmp.Lexicographic.slice_cmp}
use Rattle.std.{specs.Ordering.{is_eq, is_lt, nat_cmp, ordering_reverse, ordering_then}, proofs.lemmas.Bool.and_parts}
use Rattle.std.proofs.Common.{◌≡◌, inl, inr, ℕ, List, [], ◌∷◌, ◌++◌, length, Bool, true, false, cond, Option, None, Some, Ordering, Less, Equal, Greater, refl, sym, ap, subst, ◌∙◌}
use Rattle.std.proofs.lemmas.Cmp.{nat_cmp_total, nat_list_cmp_total, on_total, then_total, tied_itself}
use Rattle.sqlite_rules.{specs.Lists.Has, proofs.ListLemmas.has_contained}
use Rattle.terminal_core.{specs.State.side_code, proofs.Lined.{same_key, tied_self}}
use Rattle.office_rows.specs.Rows.{ListingContent}
use Rattle.office_history.proofs.Kept.{head_in, tail_in}
use Rattle.office_parts.specs.{Bringing.is_list, OwnLists.{ListName, list_name}, Archives.Archive}
use Rattle.office_closing.specs.{Changes.unmarked, Lists.{SettledListContent, comes_before, list_cmp, put_list, put_lists}, Register.RegisterContent}
use Rattle.office_closing.specs.Sound.{are_rising, are_sound_archives, are_sound_lists, are_sound_segments, are_sound_sealed, are_sound_taken, comes_after, is_sound_mark, may_be_list}
use Rattle.office_closing.specs.{Closes.{Closing, Held, IsClosing, closed_after, raised_register}, Copies.FileNames, Deleting.is_one_of}
use Rattle.office_closing.specs.PuttingAway.{AreNamedThen, HasLists}
use Rattle.office_archives.specs.Shelves.{IsKeptAs}
use Rattle.office_archive_files.specs.ClosedStores.{ClosingsAddAnArchive}

-- ---- lists in order

list_total : IsTotalOrder list_cmp
list_total =
    then_total (on_total (λ (l : SettledListContent). l.call.vessel) nat_list_cmp_total)
    (then_total (on_total (λ (l : SettledListContent). l.call.voyage) nat_list_cmp_total)
    (then_total (on_total (λ (l : SettledListContent). side_code l.side) nat_cmp_total) (on_total (λ (l : SettledListContent). l.archive) nat_cmp_total)))

-- they are not of one list and one archive
abbrev AreApart : SettledListContent → SettledListContent → Type 0
AreApart x y = is_eq (list_cmp x y) ≡ false

abbrev AreAllApart : List SettledListContent → Type 0
AreAllApart [] = Unit {0}
AreAllApart (x ∷ lists) = AllByRecursion (AreApart x) lists × AreAllApart lists

less : (r : Ordering) → is_lt r ≡ true → r ≡ Less
less Less e = refl
less Equal e = absurd cc
less Greater e = absurd cc

turned : (r : Ordering) → is_eq (ordering_reverse r) ≡ is_eq r
turned Less = refl
turned Equal = refl
turned Greater = refl

apart_turned : (x y : SettledListContent) → AreApart x y → AreApart y x
apart_turned x y apart = ap is_eq (list_total.antisymm y x) ∙ turned (list_cmp x y) ∙ apart

all_later : (x y : SettledListContent) (lists : List SettledListContent) → list_cmp x y ≡ Less → AllByRecursion (λ z. list_cmp y z ≡ Less) lists → AllByRecursion (λ z. list_cmp x z ≡ Less) lists
all_later x y [] first all = tt
all_later x y (z ∷ lists) first all = (list_total.trans x y z first all.0, all_later x y lists first all.1)

all_after : (x : SettledListContent) (lists : List SettledListContent) → are_rising (Some x) lists ≡ true → AllByRecursion (λ z. list_cmp x z ≡ Less) lists
all_after x [] rising = tt
all_after x (y ∷ lists) rising =
    let both = and_parts (comes_before x y) (are_rising (Some y) lists) rising in
    let first : list_cmp x y ≡ Less = less (list_cmp x y) both.0 in
    (first, all_later x y lists first (all_after y lists both.1))

apart_if_after : (x : SettledListContent) (lists : List SettledListContent) → AllByRecursion (λ z. list_cmp x z ≡ Less) lists → AllByRecursion (AreApart x) lists
apart_if_after x [] all = tt
apart_if_after x (y ∷ lists) all = (ap is_eq all.0, apart_if_after x lists all.1)

rising_apart : (before : Option SettledListContent) (lists : List SettledListContent) → are_rising before lists ≡ true → AreAllApart lists
rising_apart before [] rising = tt
rising_apart before (x ∷ lists) rising =
    let both = and_parts (comes_after before x) (are_rising (Some x) lists) rising in
    (apart_if_after x lists (all_after x lists both.1), rising_apart (Some x) lists both.1)

-- ---- lists that are put into others

all_put : (P : SettledListContent → Type 0) (x : SettledListContent) (lists : List SettledListContent) → AllByRecursion P (put_list x lists) → P x × AllByRecursion P lists
all_put P x [] all = (all.0, tt)
all_put P x (z ∷ lists) all = by (comes_before x z) (all_put P x lists) all
  where
    by : (first : Bool) → (AllByRecursion P (put_list x lists) → P x × AllByRecursion P lists) → AllByRecursion P (cond first (x ∷ z ∷ lists) (z ∷ put_list x lists)) → P x × AllByRecursion P (z ∷ lists)
    by true rest all = (all.0, all.1)
    by false rest all = let split = rest all.1 in (split.0, (all.0, split.1))

apart_put : (x : SettledListContent) (lists : List SettledListContent) → AreAllApart (put_list x lists) → AllByRecursion (AreApart x) lists × AreAllApart lists
apart_put x [] apart = (tt, tt)
apart_put x (z ∷ lists) apart = by (comes_before x z) (apart_put x lists) apart
  where
    by : (first : Bool) → (AreAllApart (put_list x lists) → AllByRecursion (AreApart x) lists × AreAllApart lists) → AreAllApart (cond first (x ∷ z ∷ lists) (z ∷ put_list x lists)) → AllByRecursion (AreApart x) (z ∷ lists) × AreAllApart (z ∷ lists)
    by true rest apart = (apart.0, apart.1)
    by false rest apart =
        let split = all_put (AreApart z) x lists apart.0 in
        let later = rest apart.1 in
        ((apart_turned z x split.0, later.0), (split.1, later.1))

-- all of them are apart from one that was put into the others, and from the others
all_split : (x : SettledListContent) (lists more : List SettledListContent) → AllByRecursion (λ y. AllByRecursion (AreApart y) (put_list x lists)) more → AllByRecursion (AreApart x) more × AllByRecursion (λ y. AllByRecursion (AreApart y) lists) more
all_split x lists [] all = (tt, tt)
all_split x lists (y ∷ more) all =
    let first = all_put (AreApart y) x lists all.0 in
    let rest = all_split x lists more all.1 in
    ((apart_turned y x first.0, rest.0), (first.1, rest.1))

record ApartFrom (more lists : List SettledListContent) : Type 0 where
  among : AreAllApart more
  from : AllByRecursion (λ y. AllByRecursion (AreApart y) lists) more
  others : AreAllApart lists

apart_puts : (more lists : List SettledListContent) → AreAllApart (put_lists more lists) → ApartFrom more lists
apart_puts [] lists apart = record { among = tt; from = tt; others = apart }
apart_puts (x ∷ more) lists apart =
    let rest = apart_puts more (put_list x lists) apart in
    let first = apart_put x lists rest.others in
    let split = all_split x lists more rest.from in
    record { among = (split.0, rest.among); from = (first.0, split.1); others = first.1 }

-- ---- their names

abbrev pub name_of : SettledListContent → ListName
name_of one = list_name one.call one.side

abbrev AreNamedApart : List SettledListContent → Type 0
AreNamedApart [] = Unit {0}
AreNamedApart (x ∷ lists) = AllByRecursion (λ y. is_list (name_of x) (name_of y) ≡ false) lists × AreNamedApart lists

tied_texts : (xs ys : List ℕ) (rest : Ordering) → xs ≡ ys → ordering_then (slice_cmp nat_cmp xs ys) rest ≡ rest
tied_texts xs ys rest e = ap (λ l. ordering_then (slice_cmp nat_cmp xs l) rest) (sym e) ∙ ap (λ o. ordering_then o rest) (tied_itself nat_list_cmp_total xs)

tied_numbers : (m n : ℕ) (rest : Ordering) → m ≡ n → ordering_then (nat_cmp m n) rest ≡ rest
tied_numbers m n rest e = ap (λ k. ordering_then (nat_cmp m k) rest) (sym e) ∙ ap (λ o. ordering_then o rest) (tied_itself nat_cmp_total m)

tied : (x y : SettledListContent) → name_of x ≡ name_of y → x.archive ≡ y.archive → list_cmp x y ≡ Equal
tied x y same archive =
    let vessel : x.call.vessel ≡ y.call.vessel = cc in
    let voyage : x.call.voyage ≡ y.call.voyage = cc in
    let code : side_code x.side ≡ side_code y.side = cc in
    let by_archive : Ordering = nat_cmp x.archive y.archive in
    let by_side : Ordering = ordering_then (nat_cmp (side_code x.side) (side_code y.side)) by_archive in
    tied_texts x.call.vessel y.call.vessel (ordering_then (slice_cmp nat_cmp x.call.voyage y.call.voyage) by_side) vessel
    ∙ tied_texts x.call.voyage y.call.voyage by_side voyage
    ∙ tied_numbers (side_code x.side) (side_code y.side) by_archive code
    ∙ ap (nat_cmp x.archive) (sym archive)
    ∙ tied_itself nat_cmp_total x.archive

names_apart : (x y : SettledListContent) → AreApart x y → x.archive ≡ y.archive → is_list (name_of x) (name_of y) ≡ false
names_apart x y apart archive = by (is_list (name_of x) (name_of y)) refl
  where
    by : (is : Bool) → is_list (name_of x) (name_of y) ≡ is → is ≡ false
    by true e = sym (ap is_eq (tied x y (same_key (name_of x) (name_of y) e) archive)) ∙ apart
    by false e = refl

all_named_apart : (place : ℕ) (x : SettledListContent) (lists : List SettledListContent) → x.archive ≡ place → AllByRecursion (λ (y : SettledListContent). y.archive ≡ place) lists → AllByRecursion (AreApart x) lists
    → AllByRecursion (λ y. is_list (name_of x) (name_of y) ≡ false) lists
all_named_apart place x [] at placed apart = tt
all_named_apart place x (y ∷ lists) at placed apart = (names_apart x y apart.0 (at ∙ sym placed.0), all_named_apart place x lists at placed.1 apart.1)

named_apart : (place : ℕ) (lists : List SettledListContent) → AllByRecursion (λ (y : SettledListContent). y.archive ≡ place) lists → AreAllApart lists → AreNamedApart lists
named_apart place [] placed apart = tt
named_apart place (x ∷ lists) placed apart = (all_named_apart place x lists placed.0 placed.1 apart.0, named_apart place lists placed.1 apart.1)

-- ---- their lines

-- these are the lines of the list
abbrev HasLinesOf : SettledListContent → Type 0
HasLinesOf one = (lines : List ListingContent) × IsKeptAs one.call one.side (Some one.lines) (Some lines)

abbrev HaveLines : List SettledListContent → Type 0
HaveLines lists = (one : SettledListContent) → Contains lists one → HasLinesOf one

abbrev have_rest : (x : SettledListContent) (lists : List SettledListContent) → HaveLines (x ∷ lists) → HaveLines lists
have_rest x lists have one has = have one (tail_in x one lists has)

abbrev lines_by : (lists : List SettledListContent) → HaveLines lists → ListName → Option (List ListingContent)
lines_by [] have list = None
lines_by (x ∷ lists) have list = cond (is_list (name_of x) list) (Some (have x (head_in x lists)).0) (lines_by lists (have_rest x lists have) list)

neither : (a b : Bool) → (a || b) ≡ false → (a ≡ false) × (b ≡ false)
neither true b e = absurd cc
neither false b e = (refl, e)

none_by : (lists : List SettledListContent) (have : HaveLines lists) (list : ListName) → is_one_of lists list ≡ false → lines_by lists have list ≡ None
none_by [] have list none = refl
none_by (x ∷ lists) have list none =
    let both = neither (is_list (name_of x) list) (is_one_of lists list) none in
    ap (λ b. cond b (Some (have x (head_in x lists)).0) (lines_by lists (have_rest x lists have) list)) both.0 ∙ none_by lists (have_rest x lists have) list both.1

pub all_has : (P : SettledListContent → Type 0) (lists : List SettledListContent) (one : SettledListContent) → AllByRecursion P lists → Has lists one → P one
all_has P [] one all has = absurd has
all_has P (x ∷ lists) one all (inl same) = subst P (sym same) all.0
all_has P (x ∷ lists) one all (inr later) = all_has P lists one all.1 later

-- the lines that are found under the name of one of the lists are its
abbrev AreFound : (lists : List SettledListContent) → HaveLines lists → SettledListContent → Type 0
AreFound lists have one = (lines : List ListingContent) × (lines_by lists have (name_of one) ≡ Some lines) × IsKeptAs one.call one.side (Some one.lines) (Some lines)

each_by : (lists : List SettledListContent) (have : HaveLines lists) → AreNamedApart lists → (one : SettledListContent) → Has lists one → AreFound lists have one
each_by [] have apart one has = absurd has
each_by (x ∷ lists) have apart one (inl same) = subst (AreFound (x ∷ lists) have) (sym same) (its.0, ap (λ b. cond b (Some its.0) (lines_by lists (have_rest x lists have) (name_of x))) (tied_self (name_of x)), its.1)
  where
    its : HasLinesOf x
    its = have x (head_in x lists)
each_by (x ∷ lists) have apart one (inr later) =
    let rest = each_by lists (have_rest x lists have) apart.1 one later in
    let other = all_has (λ y. is_list (name_of x) (name_of y) ≡ false) lists one apart.0 later in
    (rest.0, ap (λ b. cond b (Some (have x (head_in x lists)).0) (lines_by lists (have_rest x lists have) (name_of one))) other ∙ rest.1, rest.2)

-- ---- the archive

module _ (archives : List Archive) (held : Held) (names : FileNames) (closing : Closing) (is : IsClosing held names closing) (new : held.register ≡ unmarked held.copied) where
  have : HaveLines closing.lists
  have one has = let goes = is.lists.goes one (is.lists.only new one has) in (goes.kept, goes.is_text)

  apart : AreNamedApart closing.lists
  apart =
      let raised : RegisterContent = raised_register held closing in
      let most : ℕ = length raised.archives in
      let lists : Bool = are_sound_lists most raised.lists in
      let last : Bool = are_sound_taken most raised.taken && (are_sound_sealed most raised.sealed && is_sound_mark raised.closed_for) in
      let all = and_parts (are_sound_archives raised.archives) (are_sound_segments most raised.segments && (lists && last)) is.sound.tested in
      let rest = and_parts (are_sound_segments most raised.segments) (lists && last) all.1 in
      let sound = (and_parts lists last rest.1).0 in
      let rising = (and_parts (list_all (may_be_list most) raised.lists) (are_rising None raised.lists) sound).1 in
      named_apart closing.archive.place closing.lists is.lists.placed (apart_puts closing.lists held.copied.lists (rising_apart None raised.lists rising)).among

  abbrev added : Archive
  added = record { rows = held.copy; last_closed = closed_after held closing; lists = lines_by closing.lists have }

  has_lists : HasLists added closing.lists
  has_lists = record {
    each = λ list inside. let found = each_by closing.lists have apart list (has_contained closing.lists list inside) in record { lines = found.0; are = found.1; is_text = found.2 };
    only = none_by closing.lists have;
  }

  named : AreNamedThen held closing archives (archives ++ added ∷ [])
  named = record { before = archives; one = added; are = refl; rows = refl; closes = refl; lists = has_lists; named = inl (new, refl) }

pub closings_add_an_archive : ClosingsAddAnArchive
closings_add_an_archive archives held names closing is new = (archives ++ added archives held names closing is new ∷ [], named archives held names closing is new)
