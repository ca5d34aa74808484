-- A closing that goes on names the archives that it named.
use Rattle.std.{specs.{Prelude.{◌&&◌, nat_le}, List.{AllByRecursion, list_all}}, proofs.lemmas.Bool.{and_parts, leb-true}}
use Rattle.std.proofs.Common.{◌≡◌, ◌⊎◌, inl, inr, ℕ, ◌+◌, ◌≤◌, List, [], ◌∷◌, ◌++◌, length, Bool, true, false, cond, refl, sym, ap, subst, ◌∙◌, arith, None}
use Rattle.sqlite_rules.{specs.Lists.Has, proofs.ListLemmas.{contains_had, has_contained, some_from, some_has}}
use Rattle.edi_messages.specs.Texts.{is_name}
use Rattle.office_parts.specs.{Bringing.is_list, OwnLists.ListName, Archives.Archive}
use Rattle.office_closing.specs.{Changes.unmarked, Lists.{SettledListContent, comes_before, put_list, put_lists}, Copies.FileNames, Deleting.is_one_of}
use Rattle.office_closing.specs.{Register.{ArchiveContent, RegisterContent, last_closed}, Closes.{Closing, Held, IsClosing, raised_register}}
use Rattle.office_closing.specs.Sound.{IsSound, are_rising, are_sound_archives, are_sound_lists, are_sound_segments, are_sound_sealed, are_sound_taken, is_sound_mark, may_be_list}
use Rattle.office_closing.specs.PuttingAway.{AreNamedThen, HasLists}
use Rattle.office_archive_files.{specs.ClosedStores.ClosingsGoOn, proofs.AddedLemmas.{all_has, name_of}}

-- ---- lists that were put into others

put_new : (x : SettledListContent) (lists : List SettledListContent) → Has (put_list x lists) x
put_new x [] = inl refl
put_new x (z ∷ lists) = by (comes_before x z) (put_new x lists)
  where
    by : (first : Bool) → Has (put_list x lists) x → Has (cond first (x ∷ z ∷ lists) (z ∷ put_list x lists)) x
    by true rest = inl refl
    by false rest = inr rest

put_old : (x : SettledListContent) (lists : List SettledListContent) (y : SettledListContent) → Has lists y → Has (put_list x lists) y
put_old x [] y has = absurd has
put_old x (z ∷ lists) y has = by (comes_before x z) (put_old x lists y) has
  where
    by : (first : Bool) → (Has lists y → Has (put_list x lists) y) → (y ≡ z) ⊎ Has lists y → Has (cond first (x ∷ z ∷ lists) (z ∷ put_list x lists)) y
    by true rest has = inr has
    by false rest (inl same) = inl same
    by false rest (inr later) = inr (rest later)

new_or_old : (x : SettledListContent) (lists : List SettledListContent) (y : SettledListContent) → Has (put_list x lists) y → (y ≡ x) ⊎ Has lists y
new_or_old x [] y has = has
new_or_old x (z ∷ lists) y has = by (comes_before x z) (new_or_old x lists y) has
  where
    by : (first : Bool) → (Has (put_list x lists) y → (y ≡ x) ⊎ Has lists y) → Has (cond first (x ∷ z ∷ lists) (z ∷ put_list x lists)) y → (y ≡ x) ⊎ ((y ≡ z) ⊎ Has lists y)
    by true rest has = has
    by false rest (inl same) = inr (inl same)
    by false rest (inr later) = elim (rest later) [ inl new ↦ inl new | inr old ↦ inr (inr old) ]

puts_old : (more lists : List SettledListContent) (y : SettledListContent) → Has lists y → Has (put_lists more lists) y
puts_old [] lists y has = has
puts_old (x ∷ more) lists y has = puts_old more (put_list x lists) y (put_old x lists y has)

puts_new : (more lists : List SettledListContent) (y : SettledListContent) → Has more y → Has (put_lists more lists) y
puts_new [] lists y has = absurd has
puts_new (x ∷ more) lists y (inl same) = puts_old more (put_list x lists) y (subst (Has (put_list x lists)) (sym same) (put_new x lists))
puts_new (x ∷ more) lists y (inr later) = puts_new more (put_list x lists) y later

among_puts : (more lists : List SettledListContent) (y : SettledListContent) → Has (put_lists more lists) y → Has more y ⊎ Has lists y
among_puts [] lists y has = inr has
among_puts (x ∷ more) lists y has = elim (among_puts more (put_list x lists) y has) [
  | inl later ↦ inl (inr later)
  | inr put ↦ elim (new_or_old x lists y put) [ inl new ↦ inl (inl new) | inr old ↦ inr old ]
]

-- ---- lists that were put away with one archive

passes : (p : SettledListContent → Bool) (lists : List SettledListContent) (x : SettledListContent) → list_all p lists ≡ true → Has lists x → p x ≡ true
passes p [] x all has = absurd has
passes p (y ∷ lists) x all (inl same) = ap p same ∙ (and_parts (p y) (list_all p lists) all).0
passes p (y ∷ lists) x all (inr later) = passes p lists x (and_parts (p y) (list_all p lists) all).1 later

-- those of one archive are the same if they make the same of lists of archives before it
same_lists : (first second lists : List SettledListContent) (place most : ℕ) → AllByRecursion (λ (one : SettledListContent). one.archive ≡ place) first → list_all (may_be_list most) lists ≡ true → place ≡ most + 1
    → put_lists first lists ≡ put_lists second lists → (x : SettledListContent) → Has first x → Has second x
same_lists first second lists place most placed low next same x has =
    elim (among_puts second lists x (subst (λ l. Has l x) same (puts_new first lists x has))) [
      | inl its ↦ its
      | inr old ↦
          let at : x.archive ≡ place = all_has (λ (one : SettledListContent). one.archive ≡ place) first x placed has in
          let may = passes (may_be_list most) lists x low old in
          let within = (and_parts (nat_le 1 x.archive) (nat_le x.archive most) (and_parts (is_name x.call.vessel && is_name x.call.voyage) (nat_le 1 x.archive && nat_le x.archive most) may).1).1 in
          let high : x.archive ≤ most = leb-true x.archive most within in
          absurd (omega (arith, at, next, high))
    ]

-- what is none of them is none of the others
none_of : (first second : List SettledListContent) → ((x : SettledListContent) → Has first x → Has second x) → (list : ListName) → is_one_of second list ≡ false → is_one_of first list ≡ false
none_of first second within list none = by (is_one_of first list) refl
  where
    by : (is : Bool) → is_one_of first list ≡ is → is ≡ false
    by true e =
        let found = some_has (λ (one : SettledListContent). is_list (name_of one) list) first e in
        sym (some_from (λ (one : SettledListContent). is_list (name_of one) list) second found.0 (within found.0 found.1) found.2) ∙ none
    by false e = refl

-- ---- the closing that goes on

longer : (archives : List ArchiveContent) (archive : ArchiveContent) → length (archives ++ archive ∷ []) ≡ length archives + 1
longer [] archive = refl
longer (one ∷ archives) archive = let rest = longer archives archive in omega (arith, rest)

module _ (archives after : List Archive) (held again : Held) (names : FileNames) (closing next : Closing) (sound : IsSound held.copied) (is : IsClosing held names closing) (are : AreNamedThen held closing archives after)
    (raised : again.register ≡ raised_register held closing) (copy : again.copy ≡ held.copy) (copied : unmarked again.copied ≡ unmarked held.copied) (is_next : IsClosing again names next) where
  -- the register has the archive
  has_it : again.register ≡ raised_register again next
  has_it = elim is_next.register [
    | inl new ↦
        let same : raised_register held closing ≡ unmarked held.copied = sym raised ∙ new ∙ copied in
        let more : length (held.copied.archives ++ closing.archive ∷ []) ≡ length held.copied.archives = ap (λ (r : RegisterContent). length r.archives) same in
        let by_one = longer held.copied.archives closing.archive in
        absurd (omega (arith, more, by_one))
    | inr old ↦ old
  ]

  same : raised_register held closing ≡ raised_register again next
  same = sym raised ∙ has_it

  low : list_all (may_be_list (length held.copied.archives)) held.copied.lists ≡ true
  low =
      let most : ℕ = length held.copied.archives in
      let lists : Bool = are_sound_lists most held.copied.lists in
      let last : Bool = are_sound_taken most held.copied.taken && (are_sound_sealed most held.copied.sealed && is_sound_mark held.copied.closed_for) in
      let all = and_parts (are_sound_archives held.copied.archives) (are_sound_segments most held.copied.segments && (lists && last)) sound.tested in
      let rest = and_parts (are_sound_segments most held.copied.segments) (lists && last) all.1 in
      (and_parts (list_all (may_be_list most) held.copied.lists) (are_rising None held.copied.lists) (and_parts lists last rest.1).0).0

  same_put : put_lists closing.lists held.copied.lists ≡ put_lists next.lists held.copied.lists
  same_put = ap (λ (r : RegisterContent). r.lists) same ∙ ap (λ (r : RegisterContent). put_lists next.lists r.lists) copied

  forth : (x : SettledListContent) → Has closing.lists x → Has next.lists x
  forth = same_lists closing.lists next.lists held.copied.lists closing.archive.place (length held.copied.archives) is.lists.placed low is.place same_put

  back : (x : SettledListContent) → Has next.lists x → Has closing.lists x
  back =
      same_lists next.lists closing.lists held.copied.lists next.archive.place (length held.copied.archives) is_next.lists.placed low
      (is_next.place ∙ ap (λ (r : RegisterContent). length r.archives + 1) copied) (sym same_put)

  has_lists : HasLists are.one next.lists
  has_lists = record {
    each = λ list inside. are.lists.each list (contains_had closing.lists list (back list (has_contained next.lists list inside)));
    only = λ list none. are.lists.only list (none_of closing.lists next.lists forth list none);
  }

  goes_on : AreNamedThen again next after after
  goes_on = record {
    before = are.before;
    one = are.one;
    are = are.are;
    rows = are.rows ∙ sym copy;
    closes = are.closes ∙ ap (λ (r : RegisterContent). last_closed r.segments) same;
    lists = has_lists;
    named = inr (has_it, refl);
  }

pub closings_go_on : ClosingsGoOn
closings_go_on archives after held again names closing next sound is are raised copy copied is_next = goes_on archives after held again names closing next sound is are raised copy copied is_next
