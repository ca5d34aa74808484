-- The interchanges that are kept, partner after partner.
use Rattle.std.{specs.{List.range_with_len, Prelude.slice_get, Option.option_map}, proofs.{lemmas.List.Elements.All-more, lemmas.Bool.cases_order}}
use Rattle.std.proofs.Common.{◌≡◌, ℕ, ◌+◌, ◌<◌, ◌≤◌, suc, List, [], ◌∷◌, ◌++◌, length, take, drop, map, get_or, sym, ap, ◌∙◌, arith, subst, All, add-one, drop-cons, ◌≢◌, ◌-◌, length-append, Bool, true, false, IsTrue, refl, ◌↔◌, zero, Some, string_bytes, inl, inr, below_more, codes, decimal}
use Rattle.std.proofs.lemmas.List.{take_more, take_all, length-map, get_or-map, map-append, take-map, drop-map, take-append-drop}
use Rattle.std.proofs.lemmas.List.FromFn.{map-range_with_len_more, get_or-map-range_with_len, length-map-range_with_len}
use Rattle.std.proofs.{Math.Seq.{take-append_seam, drop-append_seam}, lemmas.Option.{same_Some, slice_get-map}}
use Rattle.edi_messages.specs.{declared.codes.PartnerKind.PartnerKind, Codes.table_texts}
use Rattle.office_rows.specs.{Rows.{Partner, Setting}, Opened.NumberKept, Office.{AreWaiting, AreAccounts, settings_with, settings_by_name}}
use Rattle.office_rows.specs.Opening.{tables_version}
use Rattle.office_loading.specs.{Accounts.accounts_in, Checks.{taken_beyond, IsKeptBeyond, AreKeptBeyond}, Owned.{AreOwn, BeginsElse}}
use Rattle.office_loading.specs.{Contents.{number_content, partner_content, setting_content}, declared.numbers.NumberRow.NumberRow}
use Rattle.office_loading.specs.{declared.numbers.PartnerRow.PartnerRow, Said.{setting_names, names_of, values_of, code_values}}
use Rattle.office_admission.specs.{Given.AreDistinct, Setups.SetupContent}
use Rattle.office_loading.specs.declared.settings.Setting as read

-- ==== Lists: A list from a place on.

pub next_of : {A : Type 0} (xs : List A) (i : ℕ) (d x : A) → i < length xs → x ≡ get_or xs i d → drop i xs ≡ x ∷ drop (i + 1) xs
next_of xs i d x low at = rw (add-one, drop-cons xs i d) (ap (λ z. z ∷ drop (suc i) xs) (sym at))

pub one_more : {A : Type 0} (xs : List A) (i : ℕ) (d x : A) → i < length xs → x ≡ get_or xs i d → take (i + 1) xs ≡ take i xs ++ x ∷ []
one_more xs i d x low at = take_more xs i d low ∙ ap (λ z. take i xs ++ z ∷ []) (sym at)

-- ---- what holds of each

pub each_mapped : {A B : Type 0} (P : B → Type 0) (f : A → B) (xs : List A) → All P (map f xs) → All (λ x. P (f x)) xs
each_mapped P f xs all k d low =
    let within : length (map f xs) ≡ length xs = length-map xs f in
    subst P (get_or-map f xs k d (f d) low) (all k (f d) (omega arith))

module _ {A : Type 0} (P : A → Type 0) (xs : List A) (i : ℕ) where
  pub each_more : (d x : A) → i < length xs → x ≡ get_or xs i d → P x → All P (take i xs) → All P (take (i + 1) xs)
  each_more d x low at here all = All-more P xs i d low all (subst P at here)

  pub each_of : length xs ≤ i → All P (take i xs) → All P xs
  each_of low all = let Q : List A → Type 0 = All P in subst Q (take_all i xs low) all

-- ==== Kept: The interchanges that are kept, partner after partner.

-- ---- one partner's

own_append : (id : ℕ) (a b : List NumberKept) → AreOwn id a → AreOwn id b → AreOwn id (a ++ b)
own_append id [] b x y = y
own_append id (r ∷ a) b x y = (x.0, own_append id a b x.1 y)

pub own_more : (id : ℕ) (rows : List NumberRow) (i : ℕ) (d row : NumberRow) → i < length rows → row ≡ get_or rows i d → row.partner ≡ id → AreOwn id (map number_content (take i rows)) → AreOwn id (map number_content (take (i + 1) rows))
own_more id rows i d row low at is before =
    let P : List NumberKept → Type 0 = AreOwn id in
    subst P (sym (map-append number_content (take i rows) (row ∷ [])) ∙ ap (map number_content) (sym (one_more rows i d row low at))) (own_append id (map number_content (take i rows)) (number_content row ∷ []) before (is, tt))

own_taken : (id : ℕ) (numbers : List ℕ) → AreOwn id (map (λ number. record { partner = id; number = number; is_taken = true }) numbers)
own_taken id [] = tt
own_taken id (n ∷ numbers) = (refl, own_taken id numbers)

own_waiting : (id above : ℕ) (rows : List NumberKept) → AreWaiting id above rows → AreOwn id rows
own_waiting id above [] w = tt
own_waiting id above (r ∷ rows) w = (w.0, own_waiting id r.number rows w.4)

own_kept : (closed : ℕ → ℕ) (partner : Partner) (rows : List NumberKept) → IsKeptBeyond closed partner rows → AreOwn partner.id rows
own_kept closed partner rows k =
    let P : List NumberKept → Type 0 = AreOwn partner.id in
    subst P (sym k.are)
    (own_append partner.id (taken_beyond closed partner) k.waiting (own_taken partner.id (range_with_len (closed partner.id + 1) (partner.next - 1 - closed partner.id))) (own_waiting partner.id partner.next k.waiting k.wait))

-- two lists that are cut where the partner's end are cut alike
one_cut : (id : ℕ) (a b c d : List NumberKept) → a ++ b ≡ c ++ d → AreOwn id a → BeginsElse id b → AreOwn id c → BeginsElse id d → (a ≡ c) × (b ≡ d)
one_cut id [] b [] d e x y z w = (refl, e)
one_cut id [] [] (r ∷ c) d e x y z w = absurd (cc)
one_cut id [] (s ∷ b) (r ∷ c) d e x y z w =
    let same : s ≡ r = cc in
    absurd (y (ap (λ (n : NumberKept). n.partner) same ∙ z.0))
one_cut id (r ∷ a) b [] [] e x y z w = absurd (cc)
one_cut id (r ∷ a) b [] (s ∷ d) e x y z w =
    let same : s ≡ r = cc in
    absurd (w (ap (λ (n : NumberKept). n.partner) same ∙ x.0))
one_cut id (r ∷ a) b (s ∷ c) d e x y z w =
    let same : r ≡ s = cc in
    let tails : a ++ b ≡ c ++ d = cc in
    let rest = one_cut id a b c d tails x.1 y z.1 w in
    (ap (λ n. n ∷ a) same ∙ ap (λ l. s ∷ l) rest.0, rest.1)

-- ---- the partners after it

abbrev BeginsFrom : ℕ → List NumberKept → Type 0
BeginsFrom id [] = Unit {0}
BeginsFrom id (row ∷ rows) = id ≤ row.partner

from_joined : (id : ℕ) (own others : List NumberKept) → AreOwn id own → BeginsFrom (id + 1) others → BeginsFrom id (own ++ others)
from_joined id [] [] x y = tt
from_joined id [] (r ∷ others) x y = omega (arith, y)
from_joined id (r ∷ own) others x y = omega (arith, x.0)

begins_from : (closed : ℕ → ℕ) (id : ℕ) (partners : List Partner) (accounts : List (List ℕ × PartnerKind)) (rows : List NumberKept) → AreAccounts id partners accounts → AreKeptBeyond closed partners rows → BeginsFrom id rows
begins_from closed id [] accounts rows are kept = let P : List NumberKept → Type 0 = BeginsFrom id in subst P (sym kept) tt
begins_from closed id (p ∷ partners) [] rows are kept = absurd are
begins_from closed id (p ∷ partners) (a ∷ accounts) rows are kept =
    let P : List NumberKept → Type 0 = BeginsFrom id in
    let Q : ℕ → Type 0 = λ n. AreOwn n kept.0 in
    subst P (sym kept.2) (from_joined id kept.0 kept.1 (subst Q are.0 (own_kept closed p kept.0 kept.3)) (begins_from closed (id + 1) partners accounts kept.1 are.5 kept.4))

else_of : (id : ℕ) (rows : List NumberKept) → BeginsFrom (id + 1) rows → BeginsElse id rows
else_of id [] f = tt
else_of id (r ∷ rows) f = λ e. absurd (omega (arith, e, f))

-- ---- row after row

module _ (partner next : ℕ) (rows : List NumberRow) (above i : ℕ) (d row : NumberRow) (low : i < length rows) (at : row ≡ get_or rows i d) (test : Bool)
    (tells : IsTrue test ↔ ((row.partner ≡ partner) × (row.is_taken ≡ false) × (above < row.number) × (row.number ≤ 999999999)))
    (so : AreWaiting partner next (map number_content rows) ↔ AreWaiting partner above (map number_content (drop i rows))) where
  abbrev Rest : List NumberRow → Type 0
  Rest r = AreWaiting partner above (map number_content r)

  pub waits_more : test ≡ true → AreWaiting partner next (map number_content rows) ↔ AreWaiting partner row.number (map number_content (drop (i + 1) rows))
  waits_more is = (
    λ all. (let rest : Rest (row ∷ drop (i + 1) rows) = subst Rest (next_of rows i d row low at) (so.0 all) in rest.4),
    λ rest. so.1 (subst Rest (sym (next_of rows i d row low at)) (let facts = tells.0 is in (facts.0, facts.1, facts.2, facts.3, rest))),
  )

  pub waits_not : test ≡ false → ¬ AreWaiting partner next (map number_content rows)
  waits_not isnt all =
      let rest : Rest (row ∷ drop (i + 1) rows) = subst Rest (next_of rows i d row low at) (so.0 all) in
      let is : test ≡ true = tells.1 (rest.0, rest.1, rest.2, rest.3) in
      cc

abbrev taken_from : ℕ → ℕ → ℕ → List NumberKept
taken_from partner first count = map (λ number. record { partner = partner; number = number; is_taken = true }) (range_with_len first count)

module _ (partner first : ℕ) (rows : List NumberRow) (i : ℕ) (d row : NumberRow) (low : i < length rows) (at : row ≡ get_or rows i d) (test : Bool)
    (tells : IsTrue test ↔ ((row.partner ≡ partner) × (row.number ≡ first + i) × (row.is_taken ≡ true))) where
  pub taken_more : map number_content (take i rows) ≡ taken_from partner first i → test ≡ true → map number_content (take (i + 1) rows) ≡ taken_from partner first (i + 1)
  taken_more so is =
      let facts = tells.0 is in
      let same : number_content row ≡ record { partner = partner; number = first + i; is_taken = true } = λ j. record { partner = facts.0 j; number = facts.1 j; is_taken = facts.2 j } in
      ap (map number_content) (one_more rows i d row low at) ∙ map-append number_content (take i rows) (row ∷ []) ∙ ap (λ l. l ++ number_content row ∷ []) so
      ∙ ap (λ n. taken_from partner first i ++ n ∷ []) same ∙ sym (map-range_with_len_more (λ number. record { partner = partner; number = number; is_taken = true }) first i (first + i) (omega arith))

  pub taken_not : test ≡ false → map number_content rows ≡ taken_from partner first (length rows) → ⊥
  taken_not isnt all =
      let here : number_content row ≡ record { partner = partner; number = first + i; is_taken = true } =
      ap number_content at ∙ sym (get_or-map number_content rows i d (number_content d) low) ∙ ap (λ (l : List NumberKept). get_or l i (number_content d)) all
      ∙ get_or-map-range_with_len (λ number. record { partner = partner; number = number; is_taken = true }) first (length rows) i (first + i) (number_content d) low (omega arith) in
      let is : test ≡ true = tells.1 (ap (λ (n : NumberKept). n.partner) here, ap (λ (n : NumberKept). n.number) here, ap (λ (n : NumberKept). n.is_taken) here) in
      cc

-- ---- both parts of one partner's

module _ (closed : ℕ → ℕ) (p : Partner) (rows taken waiting : List NumberRow) (last count : ℕ) (last_is : last ≡ closed p.id) (count_is : count ≡ p.next - 1 - last) where
  are_beyond : taken_from p.id (last + 1) count ≡ taken_beyond closed p
  are_beyond = ap (taken_from p.id (last + 1)) count_is ∙ ap (λ n. taken_from p.id (n + 1) (p.next - 1 - n)) last_is

  many : length (taken_beyond closed p) ≡ count
  many = ap length (sym are_beyond) ∙ length-map-range_with_len (λ number. record { partner = p.id; number = number; is_taken = true }) (last + 1) count

  pub too_few : length rows < count → ¬ IsKeptBeyond closed p (map number_content rows)
  too_few few kept =
      let long : length (map number_content rows) ≡ length (taken_beyond closed p ++ kept.waiting) = ap length kept.are in
      let all : length (map number_content rows) ≡ length rows = length-map rows number_content in
      let sum : length (taken_beyond closed p ++ kept.waiting) ≡ length (taken_beyond closed p) + length kept.waiting = length-append (taken_beyond closed p) kept.waiting in
      let first : length (taken_beyond closed p) ≡ count = many in
      omega arith

  pub kept_of : length taken ≡ count → taken ≡ take count rows → waiting ≡ drop count rows → map number_content taken ≡ taken_from p.id (last + 1) (length taken)
      → AreWaiting p.id p.next (map number_content waiting) → IsKeptBeyond closed p (map number_content rows)
  kept_of long front back are wait = record {
    waiting = map number_content waiting;
    wait = wait;
    are = ap (map number_content) (sym (take-append-drop count rows) ∙ ap (λ (l : List NumberRow). l ++ drop count rows) (sym front) ∙ ap (λ (l : List NumberRow). taken ++ l) (sym back))
        ∙ map-append number_content taken waiting ∙ ap (λ (l : List NumberKept). l ++ map number_content waiting) (are ∙ ap (taken_from p.id (last + 1)) long ∙ are_beyond);
  }

  pub parts_of : length taken ≡ count → taken ≡ take count rows → waiting ≡ drop count rows → IsKeptBeyond closed p (map number_content rows)
      → (map number_content taken ≡ taken_from p.id (last + 1) (length taken)) × AreWaiting p.id p.next (map number_content waiting)
  parts_of long front back kept =
      let first : length (taken_beyond closed p) ≡ count = many in
      let W : List NumberKept → Type 0 = AreWaiting p.id p.next in
      let left : map number_content taken ≡ taken_beyond closed p =
      ap (map number_content) front ∙ sym (take-map number_content count rows) ∙ ap (take count) kept.are ∙ ap (λ n. take n (taken_beyond closed p ++ kept.waiting)) (sym first) ∙ take-append_seam (taken_beyond closed p) kept.waiting in
      let right : kept.waiting ≡ map number_content waiting =
      sym (ap (map number_content) back ∙ sym (drop-map number_content count rows) ∙ ap (drop count) kept.are ∙ ap (λ n. drop n (taken_beyond closed p ++ kept.waiting)) (sym first) ∙ drop-append_seam (taken_beyond closed p) kept.waiting) in
      (left ∙ sym are_beyond ∙ ap (taken_from p.id (last + 1)) (sym long), subst W right kept.wait)

-- ---- partner after partner

step_to : (closed : ℕ → ℕ) (id : ℕ) (p : Partner) (partners : List Partner) (a : List ℕ × PartnerKind) (accounts : List (List ℕ × PartnerKind)) (own others : List NumberKept) → AreAccounts id (p ∷ partners) (a ∷ accounts)
    → AreOwn p.id own → BeginsElse p.id others → AreKeptBeyond closed (p ∷ partners) (own ++ others) → IsKeptBeyond closed p own × AreKeptBeyond closed partners others
step_to closed id p partners a accounts own others are x y kept =
    let B : ℕ → Type 0 = λ n. BeginsElse n kept.1 in
    let cut = one_cut p.id kept.0 kept.1 own others (sym kept.2) (own_kept closed p kept.0 kept.3) (subst B (sym are.0) (else_of id kept.1 (begins_from closed (id + 1) partners accounts kept.1 are.5 kept.4))) x y in
    let P : List NumberKept → Type 0 = IsKeptBeyond closed p in
    let Q : List NumberKept → Type 0 = AreKeptBeyond closed partners in
    (subst P cut.0 kept.3, subst Q cut.1 kept.4)

module _ (closed : ℕ → ℕ) (partners : List PartnerRow) (numbers rest own others : List NumberRow) (i n : ℕ) (d partner : PartnerRow) (low : i < length partners) (at : partner ≡ get_or partners i d)
    (front : own ≡ take n rest) (back : others ≡ drop n rest) (are_own : AreOwn partner.id (map number_content (take n rest))) (begins : BeginsElse partner.id (map number_content (drop n rest)))
    (accounts : AreAccounts (i + 1) (map partner_content (drop i partners)) (accounts_in (drop i partners)))
    (so : AreKeptBeyond closed (map partner_content partners) (map number_content numbers) ↔ AreKeptBeyond closed (map partner_content (drop i partners)) (map number_content rest)) where
  abbrev Accounts : List PartnerRow → Type 0
  Accounts l = AreAccounts (i + 1) (map partner_content l) (accounts_in l)

  these : Accounts (partner ∷ drop (i + 1) partners)
  these = subst Accounts (next_of partners i d partner low at) accounts

  pub accounts_more : AreAccounts (i + 1 + 1) (map partner_content (drop (i + 1) partners)) (accounts_in (drop (i + 1) partners))
  accounts_more = these.5

  joined : map number_content own ++ map number_content others ≡ map number_content rest
  joined = sym (map-append number_content own others) ∙ ap (map number_content) (ap (λ (l : List NumberRow). l ++ others) front ∙ ap (λ (l : List NumberRow). take n rest ++ l) back ∙ take-append-drop n rest)

  parts : AreKeptBeyond closed (map partner_content partners) (map number_content numbers)
      → IsKeptBeyond closed (partner_content partner) (map number_content own) × AreKeptBeyond closed (map partner_content (drop (i + 1) partners)) (map number_content others)
  parts all =
      let P : List PartnerRow → Type 0 = λ l. AreKeptBeyond closed (map partner_content l) (map number_content rest) in
      let Q : List NumberKept → Type 0 = AreKeptBeyond closed (partner_content partner ∷ map partner_content (drop (i + 1) partners)) in
      let O : List NumberRow → Type 0 = λ l. AreOwn partner.id (map number_content l) in
      let B : List NumberRow → Type 0 = λ l. BeginsElse partner.id (map number_content l) in
      step_to closed (i + 1) (partner_content partner) (map partner_content (drop (i + 1) partners)) _ (accounts_in (drop (i + 1) partners)) (map number_content own) (map number_content others) these
      (subst O (sym front) are_own) (subst B (sym back) begins) (subst Q (sym joined) (subst P (next_of partners i d partner low at) (so.0 all)))

  pub kept_more : (test : Bool) → (IsTrue test ↔ IsKeptBeyond closed (partner_content partner) (map number_content own)) → test ≡ true
      → AreKeptBeyond closed (map partner_content partners) (map number_content numbers) ↔ AreKeptBeyond closed (map partner_content (drop (i + 1) partners)) (map number_content others)
  kept_more test tells is = (
    λ all. (parts all).1,
    λ kept. (let P : List PartnerRow → Type 0 = λ l. AreKeptBeyond closed (map partner_content l) (map number_content rest) in
        so.1 (subst P (sym (next_of partners i d partner low at)) (map number_content own, map number_content others, sym joined, tells.0 is, kept))),
  )

  pub kept_not : (test : Bool) → (IsTrue test ↔ IsKeptBeyond closed (partner_content partner) (map number_content own)) → test ≡ false → ¬ AreKeptBeyond closed (map partner_content partners) (map number_content numbers)
  kept_not test tells isnt all =
      let is : test ≡ true = tells.1 (parts all).0 in
      cc

-- ==== Accounted: Accounts by their places.

abbrev pub IsAccount : ℕ → PartnerRow → Type 0
IsAccount id row = (row.id ≡ id) × (1 ≤ row.next) × (row.next ≤ 1000000000)

pub account_at : (id : ℕ) (rows : List PartnerRow) (k : ℕ) (row : PartnerRow) → AreAccounts id (map partner_content rows) (accounts_in rows) → slice_get rows k ≡ Some row → IsAccount (k + id) row
account_at id [] k row are at = absurd (cc)
account_at id (r ∷ rows) zero row are at =
    let P : PartnerRow → Type 0 = IsAccount (0 + id) in
    subst P (same_Some r row at) (are.0 ∙ omega arith, are.3, are.4)
account_at id (r ∷ rows) (suc k) row are at =
    let rest = account_at (id + 1) rows k row are.5 at in
    (rest.0 ∙ omega arith, rest.1, rest.2)

pub accounts_from : (id : ℕ) (rows : List PartnerRow) → ((k : ℕ) (row : PartnerRow) → slice_get rows k ≡ Some row → IsAccount (k + id) row) → AreAccounts id (map partner_content rows) (accounts_in rows)
accounts_from id [] each = tt
accounts_from id (r ∷ rows) each =
    let first = each 0 r refl in (
      first.0 ∙ omega arith,
      refl,
      refl,
      first.1,
      first.2,
      accounts_from (id + 1) rows (λ k row at. (let one = each (suc k) row at in (one.0 ∙ omega arith, one.1, one.2))),
    )

-- the accounts of a set-up are those that the rows say
pub accounts_are : (id : ℕ) (rows : List PartnerRow) (accounts : List (List ℕ × PartnerKind)) → AreAccounts id (map partner_content rows) accounts → accounts ≡ accounts_in rows
accounts_are id [] [] are = refl
accounts_are id [] (a ∷ accounts) are = absurd are
accounts_are id (r ∷ rows) [] are = absurd are
accounts_are id (r ∷ rows) (a ∷ accounts) are =
    let same : a ≡ (string_bytes r.code, r.kind) = λ i. (sym are.1 i, sym are.2 i) in
    ap (λ (x : List ℕ × PartnerKind). x ∷ accounts) same ∙ ap (λ (l : List (List ℕ × PartnerKind)). (string_bytes r.code, r.kind) ∷ l) (accounts_are (id + 1) rows accounts are.5)

-- ---- codes

account_row : (rows : List PartnerRow) (k : ℕ) (account : List ℕ × PartnerKind) → slice_get (accounts_in rows) k ≡ Some account → (row : PartnerRow) × (slice_get rows k ≡ Some row) × (string_bytes row.code ≡ account.0)
account_row [] k account at = absurd (cc)
account_row (r ∷ rows) zero account at = (r, refl, ap (λ (a : List ℕ × PartnerKind). a.0) (same_Some (string_bytes r.code, r.kind) account at))
account_row (r ∷ rows) (suc k) account at = account_row rows k account at

pub distinct_from : (rows : List PartnerRow) → ((j k : ℕ) (a b : PartnerRow) → j < k → slice_get rows j ≡ Some a → slice_get rows k ≡ Some b → string_bytes a.code ≢ string_bytes b.code) → AreDistinct (accounts_in rows)
distinct_from rows apart i j a b e f same =
    let first = account_row rows i a e in
    let second = account_row rows j b f in
    elim (cases_order i j) [
      | inl equal ↦ equal
      | inr differ ↦ elim differ [
        | inl before ↦ absurd (apart i j first.0 second.0 before first.1 second.1 (first.2 ∙ same ∙ sym second.2))
        | inr later ↦ absurd (apart j i second.0 first.0 later second.1 first.1 (second.2 ∙ sym same ∙ sym first.2))
      ]
    ]

pub distinct_at : (rows : List PartnerRow) (j k : ℕ) (a b : PartnerRow) → AreDistinct (accounts_in rows) → slice_get rows j ≡ Some a → slice_get rows k ≡ Some b → string_bytes a.code ≡ string_bytes b.code → j ≡ k
distinct_at rows j k a b apart e f same =
    apart j k (string_bytes a.code, a.kind) (string_bytes b.code, b.kind) (slice_get-map (λ (row : PartnerRow). (string_bytes row.code, row.kind)) rows j ∙ ap (option_map (λ (row : PartnerRow). (string_bytes row.code, row.kind))) e)
    (slice_get-map (λ (row : PartnerRow). (string_bytes row.code, row.kind)) rows k ∙ ap (option_map (λ (row : PartnerRow). (string_bytes row.code, row.kind))) f) same

pub before_in : (rows : List PartnerRow) (i k : ℕ) (row : PartnerRow) → slice_get (take i rows) k ≡ Some row → (k < i) × (slice_get rows k ≡ Some row)
before_in rows zero k row at = absurd (cc)
before_in [] (suc i) k row at = absurd (cc)
before_in (r ∷ rows) (suc i) zero row at = (omega arith, at)
before_in (r ∷ rows) (suc i) (suc k) row at = let rest = before_in rows i k row at in (omega (arith, rest.0), rest.1)

pub before_of : (rows : List PartnerRow) (i k : ℕ) (row : PartnerRow) → k < i → slice_get rows k ≡ Some row → slice_get (take i rows) k ≡ Some row
before_of rows zero k row low at = absurd (omega arith)
before_of [] (suc i) k row low at = absurd (cc)
before_of (r ∷ rows) (suc i) zero row low at = at
before_of (r ∷ rows) (suc i) (suc k) row low at = before_of rows i k row (omega arith) at

-- a property of all below a place and of the next
pub rows_more : (P : ℕ → PartnerRow → Type 0) (rows : List PartnerRow) (i : ℕ) (row : PartnerRow) → slice_get rows i ≡ Some row → P i row → ((k : ℕ) (r : PartnerRow) → k < i → slice_get rows k ≡ Some r → P k r)
    → (k : ℕ) (r : PartnerRow) → k < i + 1 → slice_get rows k ≡ Some r → P k r
rows_more P rows i row at here before k r low there =
    below_more (λ n. (r : PartnerRow) → slice_get rows n ≡ Some r → P n r) i (λ n below r there. before n r below there) (λ r there. subst (P i) (same_Some row r (sym at ∙ there)) here) k low r there

-- ==== Told: What the ten settings say, by their places.

pub name_in : (settings : List read.Setting) (k : ℕ) (s : read.Setting) → slice_get settings k ≡ Some s → slice_get (names_of (map setting_content settings)) k ≡ Some (string_bytes s.name)
name_in settings k s at = slice_get-map (λ (row : Setting). row.name) (map setting_content settings) k ∙ ap (option_map (λ (row : Setting). row.name)) (slice_get-map setting_content settings k ∙ ap (option_map setting_content) at)

pub value_in : (settings : List read.Setting) (k : ℕ) (s : read.Setting) → slice_get settings k ≡ Some s → slice_get (values_of (map setting_content settings)) k ≡ Some (string_bytes s.value)
value_in settings k s at = slice_get-map (λ (row : Setting). row.value) (map setting_content settings) k ∙ ap (option_map (λ (row : Setting). row.value)) (slice_get-map setting_content settings k ∙ ap (option_map setting_content) at)

-- the codes by the places of their values
pub seven_codes : (values : List (List ℕ)) (x2 x3 x9 x0 x4 x1 x5 : List ℕ) → length values ≡ 10 → slice_get values 2 ≡ Some x2 → slice_get values 3 ≡ Some x3 → slice_get values 9 ≡ Some x9 → slice_get values 0 ≡ Some x0 → slice_get values 4 ≡ Some x4 → slice_get values 1 ≡ Some x1 → slice_get values 5 ≡ Some x5
    → code_values values ≡ x2 ∷ x3 ∷ x9 ∷ x0 ∷ x4 ∷ x1 ∷ x5 ∷ []
seven_codes (v0 ∷ v1 ∷ v2 ∷ v3 ∷ v4 ∷ v5 ∷ v6 ∷ v7 ∷ v8 ∷ v9 ∷ []) x2 x3 x9 x0 x4 x1 x5 ten e2 e3 e9 e0 e4 e1 e5 =
    let s2 : v2 ≡ x2 = same_Some v2 x2 e2 in
    let s3 : v3 ≡ x3 = same_Some v3 x3 e3 in
    let s9 : v9 ≡ x9 = same_Some v9 x9 e9 in
    let s0 : v0 ≡ x0 = same_Some v0 x0 e0 in
    let s4 : v4 ≡ x4 = same_Some v4 x4 e4 in
    let s1 : v1 ≡ x1 = same_Some v1 x1 e1 in
    let s5 : v5 ≡ x5 = same_Some v5 x5 e5 in
    λ i. s2 i ∷ s3 i ∷ s9 i ∷ s0 i ∷ s4 i ∷ s1 i ∷ s5 i ∷ []
seven_codes values x2 x3 x9 x0 x4 x1 x5 ten e2 e3 e9 e0 e4 e1 e5 = absurd (omega (arith, ten))

-- ---- the settings of a set-up

module _ (rows : List Setting) (content : SetupContent) (are : rows ≡ settings_by_name content) where
  pub names_so : names_of rows ≡ setting_names
  names_so = ap names_of are

  pub limit_so : slice_get (values_of rows) 8 ≡ Some (decimal content.visit_limit)
  limit_so = ap (λ (r : List Setting). slice_get (values_of r) 8) are

pub ten_long : (rows : List Setting) → names_of rows ≡ setting_names → length rows ≡ 10
ten_long rows named = sym (length-map rows (λ (row : Setting). row.name)) ∙ ap length named

named_as : (row : Setting) (name value : List ℕ) → row.name ≡ name → row.value ≡ value → row ≡ record { name = name; value = value }
named_as row name value e f = λ i. record { name = e i; value = f i }

pub settings_so : (rows : List Setting) (content : SetupContent) → names_of rows ≡ setting_names → slice_get (values_of rows) 6 ≡ Some content.terminal → slice_get (values_of rows) 7 ≡ Some tables_version
    → slice_get (values_of rows) 8 ≡ Some (decimal content.visit_limit) → table_texts content.codes ≡ code_values (values_of rows) → rows ≡ settings_by_name content
settings_so (r0 ∷ r1 ∷ r2 ∷ r3 ∷ r4 ∷ r5 ∷ r6 ∷ r7 ∷ r8 ∷ r9 ∷ []) content named terminal version limit table =
    let n0 : r0.name ≡ codes "discharge-list" = ap (λ (l : List (List ℕ)). get_or l 0 []) named in
    let n1 : r1.name ≡ codes "discharge-report" = ap (λ (l : List (List ℕ)). get_or l 1 []) named in
    let n2 : r2.name ≡ codes "gate-in" = ap (λ (l : List (List ℕ)). get_or l 2 []) named in
    let n3 : r3.name ≡ codes "gate-out" = ap (λ (l : List (List ℕ)). get_or l 3 []) named in
    let n4 : r4.name ≡ codes "load-list" = ap (λ (l : List (List ℕ)). get_or l 4 []) named in
    let n5 : r5.name ≡ codes "load-report" = ap (λ (l : List (List ℕ)). get_or l 5 []) named in
    let n6 : r6.name ≡ codes "terminal" = ap (λ (l : List (List ℕ)). get_or l 6 []) named in
    let n7 : r7.name ≡ codes "version" = ap (λ (l : List (List ℕ)). get_or l 7 []) named in
    let n8 : r8.name ≡ codes "visits" = ap (λ (l : List (List ℕ)). get_or l 8 []) named in
    let n9 : r9.name ≡ codes "yard-move" = ap (λ (l : List (List ℕ)). get_or l 9 []) named in
    let s0 : r0 ≡ record { name = codes "discharge-list"; value = r0.value } = named_as r0 (codes "discharge-list") r0.value n0 refl in
    let s1 : r1 ≡ record { name = codes "discharge-report"; value = r1.value } = named_as r1 (codes "discharge-report") r1.value n1 refl in
    let s2 : r2 ≡ record { name = codes "gate-in"; value = r2.value } = named_as r2 (codes "gate-in") r2.value n2 refl in
    let s3 : r3 ≡ record { name = codes "gate-out"; value = r3.value } = named_as r3 (codes "gate-out") r3.value n3 refl in
    let s4 : r4 ≡ record { name = codes "load-list"; value = r4.value } = named_as r4 (codes "load-list") r4.value n4 refl in
    let s5 : r5 ≡ record { name = codes "load-report"; value = r5.value } = named_as r5 (codes "load-report") r5.value n5 refl in
    let s6 : r6 ≡ record { name = codes "terminal"; value = content.terminal } = named_as r6 (codes "terminal") content.terminal n6 (same_Some r6.value content.terminal terminal) in
    let s7 : r7 ≡ record { name = codes "version"; value = tables_version } = named_as r7 (codes "version") tables_version n7 (same_Some r7.value tables_version version) in
    let s8 : r8 ≡ record { name = codes "visits"; value = (decimal content.visit_limit) } = named_as r8 (codes "visits") (decimal content.visit_limit) n8 (same_Some r8.value (decimal content.visit_limit) limit) in
    let s9 : r9 ≡ record { name = codes "yard-move"; value = r9.value } = named_as r9 (codes "yard-move") r9.value n9 refl in
    let all : r0 ∷ r1 ∷ r2 ∷ r3 ∷ r4 ∷ r5 ∷ r6 ∷ r7 ∷ r8 ∷ r9 ∷ [] ≡ settings_with content (code_values (values_of (r0 ∷ r1 ∷ r2 ∷ r3 ∷ r4 ∷ r5 ∷ r6 ∷ r7 ∷ r8 ∷ r9 ∷ []))) = λ i. s0 i ∷ s1 i ∷ s2 i ∷ s3 i ∷ s4 i ∷ s5 i ∷ s6 i ∷ s7 i ∷ s8 i ∷ s9 i ∷ [] in
    all ∙ ap (settings_with content) (sym table)
settings_so rows content named terminal version limit table = let ten = ten_long rows named in absurd (omega (arith, ten))
