-- The tables show a sound register in one way, and it fits the types of a register.
use Rattle.std.specs.{Prelude.IsUtf8, List.{AllByRecursion, list_all}, Cmp.IsTotalOrder, Ordering.{int_cmp, is_lt, nat_cmp, ordering_then}}
use Rattle.std.proofs.Common.{◌≡◌, ℕ, pos, ◌+◌, ◌<◌, ◌≤◌, ◌==◌, ◌&&◌, ◌⊎◌, inl, inr, Bool, true, false, cond, List, [], ◌∷◌, map, length, Option, None, Some, nat_le, nat_lt, refl, sym, ap, ap₂, subst, ◌∙◌, arith, Ordering, Less, Equal, Greater, is_gt, true≢false}
use Rattle.std.proofs.{lemmas.Bool.{cases_Bool, and_parts}, lemmas.Bool.Decides.nat_tests, lemmas.Int.ints, lemmas.List.Sorted.IsPermutation-sym}
use Rattle.std.proofs.lemmas.Cmp.{tied_itself, then_total, on_total, nat_cmp_total, nat_list_cmp_total}
use Rattle.sqlite.specs.{Order.Row, Table.Table, Effect.Database}
use Rattle.sqlite_value.{specs.Order.value_cmp, proofs.OrderLemmas.{value_cmp-Int, value_cmp-Text, value_cmp_total}}
use Rattle.sqlite_trees.specs.Tree.{IsAscending}
use Rattle.sqlite_keyed.proofs.{ListLemmas.{all_weaker, ascending_weaker}, SortLemmas.sorted_unique}
use Rattle.sqlite_exec.proofs.PartitionLemmas.{sorted_from_ascending}
use Rattle.office_rows.specs.{Values.number_value, Stored.Holds, Shown.{columns_at, ShowsTable}}
use Rattle.office_loading.proofs.{VersionLemmas.{keys_cmp, keys_total, in_order, same_rows}, RowLemmas.name_text}
use Rattle.terminal_core.specs.{State.side_code, declared.lines.Side.Side, declared.lines.Side.TheVariants.{Load, Discharge}}
use Rattle.office_closing.specs.{Lists.{SettledListContent, list_cmp}, declared.register.Segment.Segment}
use Rattle.office_closing.specs.Register.{ArchiveContent, RegisterContent, SealedContent}
use Rattle.office_closing.specs.Reading.{FitsArchive, FitsSealed, FitsSegment, FitsList, FitsRegister, FailsTables, ShowsNoSound}
use Rattle.office_closing.specs.Sound.{may_be_archive, are_numbered, is_within, comes_later, are_in_order, may_be_list, are_rising, are_sound_archives, are_sound_segments, are_sound_taken, are_sound_sealed, may_be_sealed, are_sealed_in_turn, is_sound_mark, IsSound, is_sound}
use Rattle.office_closing.specs.Stored.{HasRegisterIn, HoldsLists, HoldsTaken, HoldsSealed, ShowsLists, ShowsTaken, ShowsSealed, ShowsRegister, list_values, archive_values, segment_values, sealed_values, file_values, if_any}
use Rattle.office_closing.specs.Tables.{archive_table, segment_table, closed_for_table, settled_table, taken_table, sealed_table, Layout, older, former, unsealed, whole}
use Rattle.office_tables.specs.{declared.table_fault.TableFault.TableFault, Faults.{IsOfStore, IsOfStoreOr}}
use Rattle.office_tables.proofs.WritesLemmas.{of_store_weaker, of_store_alone}

-- ---- numbers

equal_of : (m n : ℕ) → (m == n) ≡ true → m ≡ n
equal_of m n h = grind (arith, nat_tests)

most_of : (m n : ℕ) → nat_le m n ≡ true → m ≤ n
most_of m n h = grind (arith, nat_tests)

less_of : (m n : ℕ) → nat_lt m n ≡ true → m < n
less_of m n h = grind (arith, nat_tests)

naturals : (m n : ℕ) → m < n → int_cmp (pos m) (pos n) ≡ Less
naturals m n h = grind (arith, ints, nat_tests)

less_first : (m n : ℕ) (rest : Ordering) → m < n → ordering_then (value_cmp (number_value m) (number_value n)) rest ≡ Less
less_first m n rest low = ap (λ o. ordering_then o rest) (value_cmp-Int (pos m) (pos n) ∙ naturals m n low)

less_second : (m : ℕ) (rest : Ordering) → rest ≡ Less → ordering_then (value_cmp (number_value m) (number_value m)) rest ≡ Less
less_second m rest low = ap (λ o. ordering_then o rest) (tied_itself value_cmp_total (number_value m)) ∙ low

-- ---- archives

numbered_above : (place visits : ℕ) (archives : List ArchiveContent) → are_numbered place visits archives ≡ true → AllByRecursion (λ (a : ArchiveContent). place ≤ a.place) archives
numbered_above place visits [] h = tt
numbered_above place visits (a ∷ archives) h =
    let parts = and_parts _ _ h in
    let here : a.place ≡ place = equal_of a.place place (and_parts _ _ parts.0).0 in
    (omega arith, all_weaker _ _ (λ b above. omega (arith, above)) archives (numbered_above (place + 1) a.visits archives parts.1))

archives_after : (place : ℕ) (a : ArchiveContent) (archives : List ArchiveContent) → a.place < place → AllByRecursion (λ (b : ArchiveContent). place ≤ b.place) archives
    → AllByRecursion (λ r. keys_cmp (0 ∷ []) (archive_values a) r ≡ Less) (map archive_values archives)
archives_after place a [] low all = tt
archives_after place a (b ∷ archives) low all = (less_first a.place b.place Equal (omega (arith, all.0)), archives_after place a archives low all.1)

archives_rise : (place visits : ℕ) (archives : List ArchiveContent) → are_numbered place visits archives ≡ true → IsAscending (λ x y. keys_cmp (0 ∷ []) x y ≡ Less) (map archive_values archives)
archives_rise place visits [] h = tt
archives_rise place visits (a ∷ archives) h =
    let parts = and_parts _ _ h in
    let here : a.place ≡ place = equal_of a.place place (and_parts _ _ parts.0).0 in
    (archives_after (place + 1) a archives (omega arith) (numbered_above (place + 1) a.visits archives parts.1), archives_rise (place + 1) a.visits archives parts.1)

archives_fit : (place visits : ℕ) (archives : List ArchiveContent) → place + length archives ≤ 10000 → are_numbered place visits archives ≡ true → list_all may_be_archive archives ≡ true
    → AllByRecursion (λ (a : ArchiveContent). IsUtf8 a.file) archives → AllByRecursion FitsArchive archives
archives_fit place visits [] few h may texts = tt
archives_fit place visits (a ∷ archives) few h may texts =
    let parts = and_parts _ _ h in
    let both = and_parts _ _ may in
    let here : a.place ≡ place = equal_of a.place place (and_parts _ _ parts.0).0 in
    let newest : a.visits ≤ 999999999 = most_of a.visits 999999999 (and_parts _ _ both.0).1 in
    (record { place = omega arith; file = texts.0; visits = omega arith }, archives_fit (place + 1) a.visits archives (omega arith) parts.1 both.1 texts.1)

-- ---- segments

abbrev IsLater : ℕ → ℕ → Segment → Type 0
IsLater archive partner segment = (archive < segment.archive) ⊎ ((segment.archive ≡ archive) × (partner < segment.partner))

as_later : (archive partner : ℕ) (s : Segment) → comes_later archive partner s ≡ true → IsLater archive partner s
as_later archive partner s h = elim (cases_Bool (nat_lt archive s.archive)) [
  | inl low ↦ inl (less_of archive s.archive low)
  | inr other ↦
      let more : ((s.archive == archive) && nat_lt partner s.partner) ≡ true = rw other at h in
      let parts = and_parts _ _ more in
      inr (equal_of s.archive archive parts.0, less_of partner s.partner parts.1)
]

chained : (archive partner : ℕ) (x y : Segment) → IsLater archive partner x → IsLater x.archive x.partner y → IsLater archive partner y
chained archive partner x y (inl p) (inl q) = inl (omega (arith, p, q))
chained archive partner x y (inl p) (inr q) = inl (omega (arith, p, q.0))
chained archive partner x y (inr p) (inl q) = inl (omega (arith, p.0, q))
chained archive partner x y (inr p) (inr q) = inr (q.0 ∙ p.0, omega (arith, p.1, q.1))

all_later : (archive partner : ℕ) (segments : List Segment) → are_in_order archive partner segments ≡ true → AllByRecursion (IsLater archive partner) segments
all_later archive partner [] h = tt
all_later archive partner (s ∷ segments) h =
    let parts = and_parts _ _ h in
    let first = as_later archive partner s parts.0 in
    (first, all_weaker (IsLater s.archive s.partner) (IsLater archive partner) (λ t later. chained archive partner s t first later) segments (all_later s.archive s.partner segments parts.1))

later_row : (x y : Segment) → IsLater x.archive x.partner y → keys_cmp (1 ∷ 0 ∷ []) (segment_values x) (segment_values y) ≡ Less
later_row x y (inl p) = less_first x.archive y.archive _ p
later_row x y (inr p) =
    let rest = ordering_then (value_cmp (number_value x.partner) (number_value y.partner)) Equal in
    subst (λ n. ordering_then (value_cmp (number_value x.archive) (number_value n)) rest ≡ Less) (sym p.0) (less_second x.archive rest (less_first x.partner y.partner Equal p.1))

segments_after : (s : Segment) (segments : List Segment) → AllByRecursion (IsLater s.archive s.partner) segments → AllByRecursion (λ r. keys_cmp (1 ∷ 0 ∷ []) (segment_values s) r ≡ Less) (map segment_values segments)
segments_after s [] all = tt
segments_after s (t ∷ segments) all = (later_row s t all.0, segments_after s segments all.1)

segments_rise : (archive partner : ℕ) (segments : List Segment) → are_in_order archive partner segments ≡ true → IsAscending (λ x y. keys_cmp (1 ∷ 0 ∷ []) x y ≡ Less) (map segment_values segments)
segments_rise archive partner [] h = tt
segments_rise archive partner (s ∷ segments) h =
    let parts = and_parts _ _ h in
    (segments_after s segments (all_later s.archive s.partner segments parts.1), segments_rise s.archive s.partner segments parts.1)

segments_fit : (archives : ℕ) (segments : List Segment) → archives ≤ 9999 → list_all (is_within archives) segments ≡ true → AllByRecursion FitsSegment segments
segments_fit archives [] few h = tt
segments_fit archives (s ∷ segments) few h =
    let parts = and_parts _ _ h in
    let sides = and_parts _ _ parts.0 in
    let whose = and_parts _ _ sides.0 in
    let partner : s.partner ≤ 999 = most_of s.partner 999 (and_parts _ _ whose.0).1 in
    let archive : s.archive ≤ archives = most_of s.archive archives (and_parts _ _ whose.1).1 in
    let last : s.last ≤ 999999999 = most_of s.last 999999999 (and_parts _ _ sides.1).1 in
    (record { partner = omega arith; archive = omega arith; last = omega arith }, segments_fit archives segments few parts.1)

-- ---- seals

sealed_above : (archive : ℕ) (sealed : List SealedContent) → are_sealed_in_turn archive sealed ≡ true → AllByRecursion (λ (s : SealedContent). archive < s.archive) sealed
sealed_above archive [] h = tt
sealed_above archive (s ∷ sealed) h =
    let parts = and_parts _ _ h in
    let first : archive < s.archive = less_of archive s.archive parts.0 in
    (first, all_weaker (λ (t : SealedContent). s.archive < t.archive) (λ (t : SealedContent). archive < t.archive) (λ t above. omega (arith, first, above)) sealed (sealed_above s.archive sealed parts.1))

sealed_after : (s : SealedContent) (sealed : List SealedContent) → AllByRecursion (λ (t : SealedContent). s.archive < t.archive) sealed → AllByRecursion (λ r. keys_cmp (0 ∷ []) (sealed_values s) r ≡ Less) (map sealed_values sealed)
sealed_after s [] all = tt
sealed_after s (t ∷ sealed) all = (less_first s.archive t.archive Equal all.0, sealed_after s sealed all.1)

sealed_rise : (archive : ℕ) (sealed : List SealedContent) → are_sealed_in_turn archive sealed ≡ true → IsAscending (λ x y. keys_cmp (0 ∷ []) x y ≡ Less) (map sealed_values sealed)
sealed_rise archive [] h = tt
sealed_rise archive (s ∷ sealed) h =
    let parts = and_parts _ _ h in
    (sealed_after s sealed (sealed_above s.archive sealed parts.1), sealed_rise s.archive sealed parts.1)

sealed_fit : (archives : ℕ) (sealed : List SealedContent) → archives ≤ 9999 → list_all (may_be_sealed archives) sealed ≡ true → AllByRecursion FitsSealed sealed
sealed_fit archives [] few h = tt
sealed_fit archives (s ∷ sealed) few h =
    let parts = and_parts _ _ h in
    let both = and_parts _ _ parts.0 in
    let archive : s.archive ≤ archives = most_of s.archive archives (and_parts _ _ both.0).1 in
    (record { archive = omega (arith, archive, few); terminal = name_text s.terminal both.1 }, sealed_fit archives sealed few parts.1)

-- ---- lists

pub list_total : IsTotalOrder list_cmp
list_total =
    then_total (on_total (λ (l : SettledListContent). l.call.vessel) nat_list_cmp_total)
    (then_total (on_total (λ (l : SettledListContent). l.call.voyage) nat_list_cmp_total)
    (then_total (on_total (λ (l : SettledListContent). side_code l.side) nat_cmp_total) (on_total (λ (l : SettledListContent). l.archive) nat_cmp_total)))

before_is : (o : Ordering) → is_lt o ≡ true → o ≡ Less
before_is Less h = refl
before_is Equal h = absurd cc
before_is Greater h = absurd cc

whole_order : (o : Ordering) → ordering_then o Equal ≡ o
whole_order Less = refl
whole_order Equal = refl
whole_order Greater = refl

tied_naturals : (m n : ℕ) → m ≡ n → int_cmp (pos m) (pos n) ≡ Equal
tied_naturals m n h = grind (arith, ints, nat_tests)

higher_naturals : (m n : ℕ) → n < m → int_cmp (pos m) (pos n) ≡ Greater
higher_naturals m n h = grind (arith, ints, nat_tests)

above_of : (m n : ℕ) → nat_lt m n ≡ false → (m == n) ≡ false → n < m
above_of m n low tied = grind (arith, nat_tests)

naturals_cmp : (m n : ℕ) → int_cmp (pos m) (pos n) ≡ nat_cmp m n
naturals_cmp m n = by (nat_lt m n) (m == n) refl refl
  where
    by : (low tied : Bool) → nat_lt m n ≡ low → (m == n) ≡ tied → int_cmp (pos m) (pos n) ≡ nat_cmp m n
    by true tied p q = naturals m n (less_of m n p) ∙ sym (ap (λ b. cond b Less (cond (m == n) Equal Greater)) p)
    by false true p q = tied_naturals m n (equal_of m n q) ∙ sym (ap (λ b. cond b Less (cond (m == n) Equal Greater)) p ∙ ap (λ b. cond b Equal Greater) q)
    by false false p q = higher_naturals m n (above_of m n p q) ∙ sym (ap (λ b. cond b Less (cond (m == n) Equal Greater)) p ∙ ap (λ b. cond b Equal Greater) q)

numbers_cmp : (m n : ℕ) → value_cmp (number_value m) (number_value n) ≡ nat_cmp m n
numbers_cmp m n = value_cmp-Int (pos m) (pos n) ∙ naturals_cmp m n

rows_cmp : (x y : SettledListContent) → keys_cmp (0 ∷ 1 ∷ 2 ∷ 3 ∷ []) (list_values x) (list_values y) ≡ list_cmp x y
rows_cmp x y = λ i.
    ordering_then (value_cmp-Text x.call.vessel y.call.vessel i)
    (ordering_then (value_cmp-Text x.call.voyage y.call.voyage i)
    (ordering_then (numbers_cmp (side_code x.side) (side_code y.side) i) ((ap (λ o. ordering_then o Equal) (numbers_cmp x.archive y.archive) ∙ whole_order (nat_cmp x.archive y.archive)) i)))

abbrev pub IsAfter : SettledListContent → SettledListContent → Type 0
IsAfter x y = list_cmp x y ≡ Less

pub all_after : (x : SettledListContent) (lists : List SettledListContent) → are_rising (Some x) lists ≡ true → AllByRecursion (IsAfter x) lists
all_after x [] h = tt
all_after x (y ∷ lists) h =
    let parts = and_parts _ _ h in
    let first : list_cmp x y ≡ Less = before_is (list_cmp x y) parts.0 in
    (first, all_weaker (IsAfter y) (IsAfter x) (λ z later. list_total.trans x y z first later) lists (all_after y lists parts.1))

lists_after : (x : SettledListContent) (lists : List SettledListContent) → AllByRecursion (IsAfter x) lists → AllByRecursion (λ r. keys_cmp (0 ∷ 1 ∷ 2 ∷ 3 ∷ []) (list_values x) r ≡ Less) (map list_values lists)
lists_after x [] all = tt
lists_after x (y ∷ lists) all = (rows_cmp x y ∙ all.0, lists_after x lists all.1)

lists_rise : (before : Option SettledListContent) (lists : List SettledListContent) → are_rising before lists ≡ true → IsAscending (λ x y. keys_cmp (0 ∷ 1 ∷ 2 ∷ 3 ∷ []) x y ≡ Less) (map list_values lists)
lists_rise before [] h = tt
lists_rise before (x ∷ lists) h =
    let parts = and_parts _ _ h in
    (lists_after x lists (all_after x lists parts.1), lists_rise (Some x) lists parts.1)

lists_fit : (archives : ℕ) (lists : List SettledListContent) → archives ≤ 9999 → list_all (may_be_list archives) lists ≡ true → AllByRecursion (λ (list : SettledListContent). IsUtf8 list.lines) lists → AllByRecursion FitsList lists
lists_fit archives [] few h texts = tt
lists_fit archives (x ∷ lists) few h texts =
    let parts = and_parts _ _ h in
    let sides = and_parts _ _ parts.0 in
    let names = and_parts _ _ sides.0 in
    let archive : x.archive ≤ archives = most_of x.archive archives (and_parts _ _ sides.1).1 in
    (record { vessel = name_text x.call.vessel names.0; voyage = name_text x.call.voyage names.1; archive = omega (arith, archive, few); lines = texts.0 }, lists_fit archives lists few parts.1 texts.1)

-- ---- one table

whole_columns : {A : Type 0} (columns : List ℕ) (values : A → Row) → ((a : A) → columns_at columns (values a) ≡ values a) → (xs : List A) → map (columns_at columns) (map values xs) ≡ map values xs
whole_columns columns values all [] = refl
whole_columns columns values all (x ∷ xs) = ap₂ ◌∷◌ (all x) (whole_columns columns values all xs)

at_most : (key : List ℕ) (rows : List Row) → IsAscending (λ x y. keys_cmp key x y ≡ Less) rows → IsAscending (λ x y. is_gt (keys_cmp key x y) ≡ false) rows
at_most key = ascending_weaker (λ x y. keys_cmp key x y ≡ Less) (λ x y. is_gt (keys_cmp key x y) ≡ false) (λ x y low. ap is_gt low)

module _ (table : Table) (shown key : List ℕ) (sees : (r : Row) → columns_at key (columns_at shown r) ≡ columns_at key r) (db : Database) {A : Type 0} (values : A → Row) (records : List A) (rise : IsAscending (λ x y. keys_cmp key x y ≡ Less) (map values records)) where
  -- records that rise are shown as they stand
  held_shown : ((a : A) → columns_at shown (values a) ≡ values a) → Holds table values records (db.trees table.tree) → ShowsTable table shown key db (map values records)
  held_shown all held = record {
    by_key = map values records;
    same = IsPermutation-sym _ _ held.same;
    ordered = sorted_from_ascending (keys_cmp key) (keys_total key) (map values records) (at_most key (map values records) rise);
    is = sym (whole_columns shown values all records);
  }

  -- and in no other way
  shown_once : (rows : List Row) → ShowsTable table shown key db (map values records) → ShowsTable table shown key db rows → rows ≡ map values records
  shown_once rows it that = sorted_unique (keys_cmp key) (keys_total key) (map values records) rows rise (same_rows table shown key sees db (map values records) rows it that) (in_order table shown key sees db rows that)

-- ---- records

one_by_one : {A : Type 0} (values : A → Row) → ((x y : A) → values x ≡ values y → x ≡ y) → (xs ys : List A) → map values xs ≡ map values ys → xs ≡ ys
one_by_one values one [] [] same = refl
one_by_one values one [] (y ∷ ys) same = absurd cc
one_by_one values one (x ∷ xs) [] same = absurd cc
one_by_one values one (x ∷ xs) (y ∷ ys) same =
    let first : values x ≡ values y = cc in
    let rest : map values xs ≡ map values ys = cc in
    ap₂ ◌∷◌ (one x y first) (one_by_one values one xs ys rest)

one_archive : (x y : ArchiveContent) → archive_values x ≡ archive_values y → x ≡ y
one_archive x y same =
    let place : x.place ≡ y.place = cc in
    let file : x.file ≡ y.file = cc in
    let visits : x.visits ≡ y.visits = cc in
    λ i. record { place = place i; file = file i; visits = visits i }

one_segment : (x y : Segment) → segment_values x ≡ segment_values y → x ≡ y
one_segment x y same =
    let partner : x.partner ≡ y.partner = cc in
    let archive : x.archive ≡ y.archive = cc in
    let last : x.last ≡ y.last = cc in
    λ i. record { partner = partner i; archive = archive i; last = last i }

one_sealed : (x y : SealedContent) → sealed_values x ≡ sealed_values y → x ≡ y
one_sealed x y same =
    let archive : x.archive ≡ y.archive = cc in
    let terminal : x.terminal ≡ y.terminal = cc in
    let seals : x.seals ≡ y.seals = cc in
    λ i. record { archive = archive i; terminal = terminal i; seals = seals i }

one_side : (x y : Side) → number_value (side_code x) ≡ number_value (side_code y) → x ≡ y
one_side Load Load same = refl
one_side Load Discharge same = absurd cc
one_side Discharge Load same = absurd cc
one_side Discharge Discharge same = refl

one_list : (x y : SettledListContent) → list_values x ≡ list_values y → x ≡ y
one_list x y same =
    let vessel : x.call.vessel ≡ y.call.vessel = cc in
    let voyage : x.call.voyage ≡ y.call.voyage = cc in
    let code : number_value (side_code x.side) ≡ number_value (side_code y.side) = cc in
    let side : x.side ≡ y.side = one_side x.side y.side code in
    let archive : x.archive ≡ y.archive = cc in
    let lines : x.lines ≡ y.lines = cc in
    λ i. record { call = record { vessel = vessel i; voyage = voyage i }; side = side i; archive = archive i; lines = lines i }

one_file : (x y : List ℕ) → file_values x ≡ file_values y → x ≡ y
one_file x y same = cc

one_mark : (x y : Option (List ℕ)) → if_any x ≡ if_any y → x ≡ y
one_mark None None same = refl
one_mark None (Some y) same = absurd cc
one_mark (Some x) None same = absurd cc
one_mark (Some x) (Some y) same = let e : x ≡ y = cc in ap Some e

files_rise : (file : Option (List ℕ)) → IsAscending (λ x y. keys_cmp (0 ∷ []) x y ≡ Less) (map file_values (if_any file))
files_rise None = tt
files_rise (Some file) = (tt, tt)

-- ---- the register

module _ (content : RegisterContent) (sound : IsSound content) where
  numbered : are_numbered 1 0 content.archives ≡ true
  numbered = (and_parts _ _ (and_parts _ _ (and_parts _ _ sound.tested).0).1).0

  few : length content.archives ≤ 9999
  few = most_of (length content.archives) 9999 (and_parts _ _ (and_parts _ _ (and_parts _ _ sound.tested).0).0).0

  may : list_all may_be_archive content.archives ≡ true
  may = (and_parts _ _ (and_parts _ _ (and_parts _ _ sound.tested).0).0).1

  within : list_all (is_within (length content.archives)) content.segments ≡ true
  within = (and_parts _ _ (and_parts _ _ (and_parts _ _ sound.tested).1).0).0

  ordered : are_in_order 0 0 content.segments ≡ true
  ordered = (and_parts _ _ (and_parts _ _ (and_parts _ _ (and_parts _ _ sound.tested).1).0).1).0

  abbrev may_be : Bool
  may_be = list_all (may_be_list (length content.archives)) content.lists

  abbrev rise : Bool
  rise = are_rising None content.lists

  abbrev known : Bool
  known = are_sound_taken (length content.archives) content.taken

  abbrev closed : Bool
  closed = are_sound_sealed (length content.archives) content.sealed

  abbrev marked : Bool
  marked = is_sound_mark content.closed_for

  of_rest : ((may_be && rise) && (known && (closed && marked))) ≡ true
  of_rest =
      let segments = are_sound_segments (length content.archives) content.segments in
      let rest = (may_be && rise) && (known && (closed && marked)) in
      (and_parts segments rest (and_parts (are_sound_archives content.archives) (segments && rest) sound.tested).1).1

  of_lists : (may_be && rise) ≡ true
  of_lists = (and_parts (may_be && rise) (known && (closed && marked)) of_rest).0

  of_taken : known ≡ true
  of_taken = (and_parts known (closed && marked) (and_parts (may_be && rise) (known && (closed && marked)) of_rest).1).0

  of_sealed : closed ≡ true
  of_sealed = (and_parts closed marked (and_parts known (closed && marked) (and_parts (may_be && rise) (known && (closed && marked)) of_rest).1).1).0

  abbrev sealed_with_any : Bool
  sealed_with_any = list_all (may_be_sealed (length content.archives)) content.sealed

  pub sealed_within : sealed_with_any ≡ true
  sealed_within = (and_parts sealed_with_any (are_sealed_in_turn 0 content.sealed) of_sealed).0

  sealed_ordered : are_sealed_in_turn 0 content.sealed ≡ true
  sealed_ordered = (and_parts sealed_with_any (are_sealed_in_turn 0 content.sealed) of_sealed).1

  abbrev known_within : Bool
  known_within = list_all (is_within (length content.archives)) content.taken

  pub taken_within : known_within ≡ true
  taken_within = (and_parts known_within (are_in_order 0 0 content.taken) of_taken).0

  taken_ordered : are_in_order 0 0 content.taken ≡ true
  taken_ordered = (and_parts known_within (are_in_order 0 0 content.taken) of_taken).1

  pub settled : list_all (may_be_list (length content.archives)) content.lists ≡ true
  settled = (and_parts may_be rise of_lists).0

  pub rising : are_rising None content.lists ≡ true
  rising = (and_parts may_be rise of_lists).1

  pub sound_fits : FitsRegister content
  sound_fits = record {
    archives = archives_fit 1 0 content.archives (omega (arith, few)) numbered may sound.texts.files;
    segments = segments_fit (length content.archives) content.segments few within;
    closed_for = sound.texts.closed_for;
    lists = lists_fit (length content.archives) content.lists few settled sound.texts.lines;
    taken = segments_fit (length content.archives) content.taken few taken_within;
    sealed = sealed_fit (length content.archives) content.sealed few sealed_within;
  }

  lists_shown : (layout : Layout) (db : Database) → HoldsLists layout content.lists db.trees → ShowsLists layout db content.lists
  lists_shown older db held = held
  lists_shown former db held = held_shown settled_table (0 ∷ 1 ∷ 2 ∷ 3 ∷ 4 ∷ []) (0 ∷ 1 ∷ 2 ∷ 3 ∷ []) (λ r. refl) db list_values content.lists (lists_rise None content.lists rising) (λ a. refl) held
  lists_shown unsealed db held = held_shown settled_table (0 ∷ 1 ∷ 2 ∷ 3 ∷ 4 ∷ []) (0 ∷ 1 ∷ 2 ∷ 3 ∷ []) (λ r. refl) db list_values content.lists (lists_rise None content.lists rising) (λ a. refl) held
  lists_shown whole db held = held_shown settled_table (0 ∷ 1 ∷ 2 ∷ 3 ∷ 4 ∷ []) (0 ∷ 1 ∷ 2 ∷ 3 ∷ []) (λ r. refl) db list_values content.lists (lists_rise None content.lists rising) (λ a. refl) held

  one_showing : (layout : Layout) (db : Database) (other : List SettledListContent) → ShowsLists layout db content.lists → ShowsLists layout db other → other ≡ content.lists
  one_showing older db other it that = that ∙ sym it
  one_showing former db other it that = one_by_one list_values one_list other content.lists (shown_once settled_table (0 ∷ 1 ∷ 2 ∷ 3 ∷ 4 ∷ []) (0 ∷ 1 ∷ 2 ∷ 3 ∷ []) (λ r. refl) db list_values content.lists (lists_rise None content.lists rising) _ it that)
  one_showing unsealed db other it that = one_by_one list_values one_list other content.lists (shown_once settled_table (0 ∷ 1 ∷ 2 ∷ 3 ∷ 4 ∷ []) (0 ∷ 1 ∷ 2 ∷ 3 ∷ []) (λ r. refl) db list_values content.lists (lists_rise None content.lists rising) _ it that)
  one_showing whole db other it that = one_by_one list_values one_list other content.lists (shown_once settled_table (0 ∷ 1 ∷ 2 ∷ 3 ∷ 4 ∷ []) (0 ∷ 1 ∷ 2 ∷ 3 ∷ []) (λ r. refl) db list_values content.lists (lists_rise None content.lists rising) _ it that)

  taken_shown : (layout : Layout) (db : Database) → HoldsTaken layout content.taken db.trees → ShowsTaken layout db content.taken
  taken_shown older db held = held
  taken_shown former db held = held
  taken_shown unsealed db held = held_shown taken_table (0 ∷ 1 ∷ 2 ∷ []) (1 ∷ 0 ∷ []) (λ r. refl) db segment_values content.taken (segments_rise 0 0 content.taken taken_ordered) (λ a. refl) held
  taken_shown whole db held = held_shown taken_table (0 ∷ 1 ∷ 2 ∷ []) (1 ∷ 0 ∷ []) (λ r. refl) db segment_values content.taken (segments_rise 0 0 content.taken taken_ordered) (λ a. refl) held

  one_taking : (layout : Layout) (db : Database) (other : List Segment) → ShowsTaken layout db content.taken → ShowsTaken layout db other → other ≡ content.taken
  one_taking older db other it that = that ∙ sym it
  one_taking former db other it that = that ∙ sym it
  one_taking unsealed db other it that = one_by_one segment_values one_segment other content.taken (shown_once taken_table (0 ∷ 1 ∷ 2 ∷ []) (1 ∷ 0 ∷ []) (λ r. refl) db segment_values content.taken (segments_rise 0 0 content.taken taken_ordered) _ it that)
  one_taking whole db other it that = one_by_one segment_values one_segment other content.taken (shown_once taken_table (0 ∷ 1 ∷ 2 ∷ []) (1 ∷ 0 ∷ []) (λ r. refl) db segment_values content.taken (segments_rise 0 0 content.taken taken_ordered) _ it that)

  sealed_shown : (layout : Layout) (db : Database) → HoldsSealed layout content.sealed db.trees → ShowsSealed layout db content.sealed
  sealed_shown older db held = held
  sealed_shown former db held = held
  sealed_shown unsealed db held = held
  sealed_shown whole db held = held_shown sealed_table (0 ∷ 1 ∷ 2 ∷ []) (0 ∷ []) (λ r. refl) db sealed_values content.sealed (sealed_rise 0 content.sealed sealed_ordered) (λ a. refl) held

  one_sealing : (layout : Layout) (db : Database) (other : List SealedContent) → ShowsSealed layout db content.sealed → ShowsSealed layout db other → other ≡ content.sealed
  one_sealing older db other it that = that ∙ sym it
  one_sealing former db other it that = that ∙ sym it
  one_sealing unsealed db other it that = that ∙ sym it
  one_sealing whole db other it that = one_by_one sealed_values one_sealed other content.sealed (shown_once sealed_table (0 ∷ 1 ∷ 2 ∷ []) (0 ∷ []) (λ r. refl) db sealed_values content.sealed (sealed_rise 0 content.sealed sealed_ordered) _ it that)

  pub sound_shown : (layout : Layout) (db : Database) → HasRegisterIn layout content db → ShowsRegister layout content db
  sound_shown layout db has = record {
    archives = held_shown archive_table (0 ∷ 1 ∷ 2 ∷ []) (0 ∷ []) (λ r. refl) db archive_values content.archives (archives_rise 1 0 content.archives numbered) (λ a. refl) has.archives;
    segments = held_shown segment_table (0 ∷ 1 ∷ 2 ∷ []) (1 ∷ 0 ∷ []) (λ r. refl) db segment_values content.segments (segments_rise 0 0 content.segments ordered) (λ a. refl) has.segments;
    closed_for = held_shown closed_for_table (0 ∷ []) (0 ∷ []) (λ r. refl) db file_values (if_any content.closed_for) (files_rise content.closed_for) (λ a. refl) has.closed_for;
    lists = lists_shown layout db has.lists;
    taken = taken_shown layout db has.taken;
    sealed = sealed_shown layout db has.sealed;
  }

  -- no other register is shown
  pub one_register : (layout : Layout) (db : Database) (other : RegisterContent) → ShowsRegister layout content db → ShowsRegister layout other db → other ≡ content
  one_register layout db other it that =
      let archives = one_by_one archive_values one_archive other.archives content.archives (shown_once archive_table (0 ∷ 1 ∷ 2 ∷ []) (0 ∷ []) (λ r. refl) db archive_values content.archives (archives_rise 1 0 content.archives numbered) _ it.archives that.archives) in
      let segments = one_by_one segment_values one_segment other.segments content.segments (shown_once segment_table (0 ∷ 1 ∷ 2 ∷ []) (1 ∷ 0 ∷ []) (λ r. refl) db segment_values content.segments (segments_rise 0 0 content.segments ordered) _ it.segments that.segments) in
      let files = one_by_one file_values one_file (if_any other.closed_for) (if_any content.closed_for) (shown_once closed_for_table (0 ∷ []) (0 ∷ []) (λ r. refl) db file_values (if_any content.closed_for) (files_rise content.closed_for) _ it.closed_for that.closed_for) in
      let mark = one_mark other.closed_for content.closed_for files in
      let lists = one_showing layout db other.lists it.lists that.lists in
      let taken = one_taking layout db other.taken it.taken that.taken in
      let sealed = one_sealing layout db other.sealed it.sealed that.sealed in
      λ i. record { archives = archives i; segments = segments i; lists = lists i; taken = taken i; sealed = sealed i; closed_for = mark i }

-- ==== RegisterLemmas: What reading the tables says of the register.

pub fits_sound : (content : RegisterContent) → FitsRegister content → is_sound content ≡ true → IsSound content
fits_sound content fits tested = record {
  tested = tested;
  texts = record {
    files = all_weaker FitsArchive (λ (a : ArchiveContent). IsUtf8 a.file) (λ a fit. fit.file) content.archives fits.archives;
    lines = all_weaker FitsList (λ (l : SettledListContent). IsUtf8 l.lines) (λ l fit. fit.lines) content.lists fits.lists;
    closed_for = fits.closed_for;
  };
}

module _ (layout : Layout) (db : Database) where
  pub register_fails : (fault : TableFault) → FailsTables layout db fault → IsOfStoreOr (ShowsNoSound layout db) fault
  register_fails = of_store_weaker ((content : RegisterContent) → ShowsRegister layout content db → ¬ FitsRegister content) (ShowsNoSound layout db) (λ none content shown sound. none content shown (sound_fits content sound))

  -- a sound register that the database has is shown
  pub kept_fails : (fault : TableFault) → IsOfStoreOr (ShowsNoSound layout db) fault → (content : RegisterContent) → HasRegisterIn layout content db → IsSound content → IsOfStore fault
  kept_fails fault h content has sound = of_store_alone (ShowsNoSound layout db) (λ none. none content (sound_shown content sound layout db has) sound) fault h

  pub none_sound : (read : RegisterContent) → ShowsRegister layout read db → is_sound read ≡ false → ShowsNoSound layout db
  none_sound read shown other content it = λ sound.
      let same : read ≡ content = one_register content sound layout db read it shown in
      true≢false (sym sound.tested ∙ ap is_sound (sym same) ∙ other)

  pub read_again : (read content : RegisterContent) → ShowsRegister layout read db → HasRegisterIn layout content db → IsSound content → read ≡ content
  read_again read content shown has sound = one_register content sound layout db read (sound_shown content sound layout db has) shown
