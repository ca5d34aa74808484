-- What an archive closes, by its numbers and by its segments.
use Rattle.std.specs.{Prelude.{◌↔◌, Contains, None, All, slice_get, nat_le, nat_lt}, List.{AllByRecursion, list_any, range_with_len}}
use Rattle.std.proofs.Common.{◌≡◌, inl, inr, ℕ, suc, ◌<◌, ◌≤◌, ◌==◌, ◌||◌, List, [], ◌∷◌, Bool, true, false, cond, not, filter, get_or, refl, sym, ap, ap₂, subst, ◌∙◌, arith, ◌⊎◌, ◌+◌, ◌-◌, ◌&&◌, max, ◌++◌, if◌then◌else◌, map, length, Ok, Err, IsTrue}
use Rattle.std.proofs.{lemmas.Bool.{cases_Bool, eqb-true, le-leb, leb-true, and_parts, eq-eqb, lt-ltb, ltb-true}, lemmas.Bool.Decides.nat_tests}
use Rattle.std.proofs.{lemmas.List.{get_or_default, append-nil}, lemmas.List.Elements.{filter_passes, recursion_from_All}, lemmas.Option.same_Some}
use Rattle.terminal_core.{specs.{Rows.VisitContent, State.{AreNumbered, last_from, last_number}}, proofs.Whole.{found_at, same_index}}
use Rattle.office_rows.specs.Rows.{Interchange, Rows, Partner}
use Rattle.office_parts.specs.{Archives.HoldsWhatGoes, Closing.{is_closed, is_beyond, carried}, LeftOver.{rows_beyond, rows_without}, Parts.Archived}
use Rattle.office_parts.{specs.OwnTerminal.{own_visits, IsOverOrStays, MayStay}, proofs.{LeftOver.may_go, Opening.own_beyond}}
use Rattle.office_closing.specs.{declared.comparing.Numbers.Numbers, Comparing.{IsComparedAs, IsOfFile}, Visits.{AreToGo, GoesBelow}, Files.Files}
use Rattle.office_closing.specs.{Deleting.{all_but, without_visits, goes, is_of, is_among}, declared.register.Segment.Segment, declared.faults.Refusal.Refusal}
use Rattle.office_closing.specs.{Laws.{Raises, ComparedIsHeld, ClearingLeavesTheRest, ClearedIsCarried}, Register.{last_closed, RegisterContent}}
use Rattle.office_closing.specs.Copies.{AreAtMost, ClosesNone, closes_some, numbers_from, segment_of, segments_of, FileNames, IsOpened, OfficeContent}
use Rattle.office_closing.specs.{declared.faults.CloseFault.CloseFault, Planning.IsRefused, Arriving.{HasAll, HasFirst, HasTexts, arrivals}}
use Rattle.office_closing.specs.Refusing.{IsOfOtherTerminal, HasReason, HasUnfit, HasUnread, IsOfComparing, IsOfOpening, IsOfOrdering, IsOfThis, IsOtherwise, IsUnopened, IsWhy, HaveNoNexts}
use Rattle.office_closing.specs.{Steps.{IsOfWriting, StepsIf}, Transactions.{Becomes, HasBecome}, Closes.{Held, IsFaultIn, Tells}, declared.faults.File.File}
use Rattle.office_history.proofs.Kept.{head_in, tail_in}
use Rattle.sqlite.{specs.State.{State, HasCleanDisk, Survives}, proofs.StateLemmas.survives_weaker}
use Rattle.office_tables.{specs.{Faults.{IsOfStore, IsOfStoreOr}, declared.table_fault.TableFault.TableFault}, proofs.WritesLemmas.survives_here}
use Rattle.office_tables.specs.declared.table_fault.TableFault.TheVariants.{Store, Damaged, Version, Memory}
use Rattle.office_closing.specs.Register as register
use Rattle.office_closing.specs.declared.faults.CloseFault.TheVariants as fault
use Rattle.office_closing.specs.declared.faults.File.TheVariants as file
use Rattle.office_closing.specs.declared.faults.Refusal.TheVariants as refusal

-- ==== LawLemmas: The laws of a closing.

-- ---- visits

equal_numbers : (m n : ℕ) → (m == n) ≡ true → m ≡ n
equal_numbers m n e = eqb-true m n e

any_back : (n : ℕ) (numbers : List ℕ) → list_any (λ m. m == n) numbers ≡ true → Contains numbers n
any_back n [] e = absurd cc
any_back n (m ∷ numbers) e = elim (cases_Bool (m == n)) [
  | inl here ↦ (0, omega arith, equal_numbers m n here)
  | inr other ↦ (let rest = any_back n numbers (ap (λ b. b || list_any (λ m. m == n) numbers) (sym other) ∙ e) in (suc rest.0, omega (arith, rest.1), rest.2))
]

pub gone_contained : (numbers : List ℕ) (n : ℕ) → all_but numbers n ≡ false → Contains numbers n
gone_contained numbers n e = any_back n numbers (not_false (list_any (λ m. m == n) numbers) e)
  where
    not_false : (b : Bool) → not b ≡ false → b ≡ true
    not_false true e = refl
    not_false false e = absurd cc

module _ (own copy : List VisitContent) (numbers : List ℕ) (are : AreNumbered 0 own) (to_go : AreToGo own copy numbers) where
  -- a visit whose number does not stay goes
  pub goes_if_not : (visit : VisitContent) → Contains own visit → all_but numbers visit.number ≡ false → GoesBelow (last_number own) copy visit
  goes_if_not visit here e =
      let found = (to_go visit.number).0 (gone_contained numbers visit.number e) in
      let at = found_at own visit here in
      let at' = found_at own found.0 found.2 in
      let index : here.0 ≡ found.2.0 = same_index 0 own here.0 found.2.0 visit found.0 are at at' (sym found.1) in
      let same : found.0 ≡ visit = same_Some found.0 visit (sym at' ∙ ap (slice_get own) (sym index) ∙ at) in
      subst (GoesBelow (last_number own) copy) same found.3

  pub stays_if_newest : (number : ℕ) → last_number own ≤ number → all_but numbers number ≡ true
  stays_if_newest number high = elim (cases_Bool (all_but numbers number)) [
    | inl stays ↦ stays
    | inr not_ ↦ (let found = (to_go number).0 (gone_contained numbers number not_) in absurd (omega (arith, high, found.1, found.3.not_newest)))
  ]

  pub last_kept : (stays : ℕ → Bool) (above : ℕ) (visits : List VisitContent) → stays (last_from above visits) ≡ true → last_from above (own_visits stays visits) ≡ last_from above visits
  last_kept stays above [] e = refl
  last_kept stays above (v ∷ []) e = ap (λ b. last_from above (cond b (v ∷ []) [])) e
  last_kept stays above (v ∷ w ∷ visits) e = elim (cases_Bool (stays v.number)) [
    | inl here ↦ ap (λ b. last_from above (cond b (v ∷ own_visits stays (w ∷ visits)) (own_visits stays (w ∷ visits)))) here ∙ last_kept stays v.number (w ∷ visits) e
    | inr other ↦ ap (λ b. last_from above (cond b (v ∷ own_visits stays (w ∷ visits)) (own_visits stays (w ∷ visits)))) other ∙ last_kept stays above (w ∷ visits) e
  ]

  pub may_stay : MayStay (all_but numbers) own
  may_stay = record {
    over = recursion_from_All (IsOverOrStays (all_but numbers)) own (λ k d below gone. (goes_if_not (get_or own k d) (k, below, get_or_default own k (get_or own k d) d below) gone).over);
    later = λ number high. stays_if_newest number (omega (arith, high));
    newest = last_kept (all_but numbers) 0 own (stays_if_newest (last_number own) (omega arith));
  }

pub compared_held : (archived : Archived) (own copy : Rows) (closing : List Numbers) (last_closed : ℕ → ℕ) (visits : List ℕ) → Raises archived.last_closed closing last_closed → IsComparedAs closing own copy None
    → AreNumbered 0 own.visits → AreToGo own.visits copy.visits visits → HoldsWhatGoes archived own copy last_closed (all_but visits) × MayStay (all_but visits) own.visits
compared_held archived own copy closing last_closed visits raises compared are to_go = (
  record {
    texts = λ partner number above within. (compared partner number (raises.each partner number above within)).text;
    replies = λ partner number above within. (compared partner number (raises.each partner number above within)).reply;
    visits = λ visit here gone. (goes_if_not own.visits copy.visits visits are to_go visit here gone).is_copied;
  },
  may_stay own.visits copy.visits visits are to_go,
)

-- ---- interchanges

pub gone_is_closed : (before after : ℕ → ℕ) (closing : List Numbers) → Raises before closing after → (i : Interchange) → goes closing i ≡ true → is_closed after i ≡ true
gone_is_closed before after closing raises i e = le-leb _ _ (raises.only i.partner i.number e)

pub beyond_is_above : (before : ℕ → ℕ) (i : Interchange) → is_beyond before i ≡ true → before i.partner < i.number
beyond_is_above before i e = grind (arith, nat_tests, e)

same_test : (before after : ℕ → ℕ) (closing : List Numbers) → Raises before closing after → (i : Interchange) → is_beyond before i ≡ true → goes closing i ≡ is_closed after i
same_test before after closing raises i e = elim (cases_Bool (is_closed after i)) [
  | inl closed ↦ raises.each i.partner i.number (beyond_is_above before i e) (leb-true _ _ closed) ∙ sym closed
  | inr beyond ↦ elim (cases_Bool (goes closing i)) [
    | inl gone ↦ absurd (let closed = gone_is_closed before after closing raises i gone in cc)
    | inr stays ↦ stays ∙ sym beyond
  ]
]

filters_agree : (p q r : Interchange → Bool) → ((i : Interchange) → r i ≡ true → p i ≡ q i) → (xs : List Interchange) → AllByRecursion (λ i. r i ≡ true) xs → filter p xs ≡ filter q xs
filters_agree p q r same [] all = refl
filters_agree p q r same (x ∷ xs) all = ap₂ (λ b l. cond b (x ∷ l) l) (same x all.0) (filters_agree p q r same xs all.1)

each_passes : (r : Interchange → Bool) (xs : List Interchange) → filter r xs ≡ xs → AllByRecursion (λ i. r i ≡ true) xs
each_passes r xs e = recursion_from_All (λ i. r i ≡ true) xs (subst (All (λ i. r i ≡ true)) e (filter_passes r xs))

pub cleared_carried : (archived : Archived) (own : Rows) (closing : List Numbers) (last_closed : ℕ → ℕ) (visits : List ℕ) → rows_beyond archived.last_closed own ≡ own → Raises archived.last_closed closing last_closed
    → without_visits visits (rows_without (goes closing) own) ≡ carried last_closed (all_but visits) own
cleared_carried archived own closing last_closed visits beyond raises =
    ap (λ l. let r : Rows = record own { interchanges = l; visits = own_visits (all_but visits) own.visits } in r)
    (filters_agree (λ i. not (goes closing i)) (is_beyond last_closed) (is_beyond archived.last_closed) (λ i e. ap not (same_test archived.last_closed last_closed closing raises i e)) own.interchanges
    (each_passes (is_beyond archived.last_closed) own.interchanges (ap (λ (r : Rows). r.interchanges) beyond)))

-- ---- the laws

pub compared : ComparedIsHeld
compared = compared_held

pub the_rest : ClearingLeavesTheRest
the_rest before after closing rows left raises it =
    ap (rows_beyond after) it.is ∙ may_go after it.deleted rows (λ i gone. gone_is_closed before after closing raises i (it.only i gone))

pub carried_on : ClearedIsCarried
carried_on content es archived own whole closing last_closed visits are = cleared_carried archived own closing last_closed visits (own_beyond content es archived own whole are)

-- ==== PlanLemmas: What an archive closes, by its numbers and by its segments.

-- ---- the greater of two

max_assoc : (a b c : ℕ) → max a (max b c) ≡ max (max a b) c
max_assoc a b c = grind (arith, nat_tests)

max_none : (a : ℕ) → a ≡ max 0 a
max_none a = grind (arith, nat_tests)

left_within : (a b : ℕ) → a ≤ max a b
left_within a b = grind (arith, nat_tests)

right_within : (a b : ℕ) → b ≤ max a b
right_within a b = grind (arith, nat_tests)

beyond_first : (a b n : ℕ) → n ≤ max a b → nat_le n a ≡ false → n ≤ b
beyond_first a b n h other = grind (arith, nat_tests)

one_reaches : (a b n : ℕ) → n ≤ max a b → (n ≤ a) ⊎ (n ≤ b)
one_reaches a b n h = elim (cases_Bool (nat_le n a)) [
  | inl here ↦ inl (leb-true n a here)
  | inr other ↦ inr (beyond_first a b n h other)
]

-- ---- the last numbers that are closed

pub last_append : (xs ys : List Segment) (partner : ℕ) → last_closed (xs ++ ys) partner ≡ max (last_closed xs partner) (last_closed ys partner)
last_append [] ys partner = max_none (last_closed ys partner)
last_append (x ∷ xs) ys partner =
    ap (max (if register.is_of partner x then x.last else 0)) (last_append xs ys partner)
    ∙ max_assoc (if register.is_of partner x then x.last else 0) (last_closed xs partner) (last_closed ys partner)

or_left : (a b : Bool) → a ≡ true → (a || b) ≡ true
or_left a b e = ap (λ x. x || b) e

or_right : (a b : Bool) → b ≡ true → (a || b) ≡ true
or_right true b e = refl
or_right false b e = e

or_parts : (a b : Bool) → (a || b) ≡ true → (a ≡ true) ⊎ (b ≡ true)
or_parts true b e = inl refl
or_parts false b e = inr e

-- the numbers from that one on
abbrev pub AreFrom : (before : ℕ → ℕ) → List Numbers → Type 0
AreFrom before numbers = AllByRecursion (λ (n : Numbers). n.from ≡ before n.partner) numbers

module _ (before : ℕ → ℕ) (place : ℕ) where
  -- a number that the segments reach is one of them
  reached : (numbers : List Numbers) → AreFrom before numbers → (partner number : ℕ) → before partner < number → number ≤ last_closed (segments_of place numbers) partner → is_among numbers partner number ≡ true
  reached [] from partner number above within = absurd (omega (arith, above, within))
  reached (k ∷ numbers) from partner number above within = elim (cases_Bool (closes_some k)) [
    | inl some ↦
        let here : number ≤ max (if k.partner == partner then k.to else 0) (last_closed (segments_of place numbers) partner) =
        subst (λ b. number ≤ last_closed (map (segment_of place) (cond b (k ∷ filter closes_some numbers) (filter closes_some numbers))) partner) some within in
        elim (one_reaches (if k.partner == partner then k.to else 0) (last_closed (segments_of place numbers) partner) number here) [
          | inl first ↦ or_left _ _ (elim (cases_Bool (k.partner == partner)) [
            | inl same ↦
                let its : partner ≡ k.partner = sym (eqb-true k.partner partner same) in
                let low : k.from < number = omega (arith, from.0, ap before its, above) in
                let high : number ≤ k.to = subst (λ b. number ≤ (if b then k.to else 0)) same first in
                both (partner == k.partner) (nat_lt k.from number) (nat_le number k.to) (eq-eqb partner k.partner its) (lt-ltb k.from number low) (le-leb number k.to high)
            | inr other ↦
                let low : number ≤ 0 = subst (λ b. number ≤ (if b then k.to else 0)) other first in
                absurd (omega (arith, low, above))
          ])
          | inr rest ↦ or_right _ _ (reached numbers from.1 partner number above rest)
        ]
    | inr none ↦
        or_right _ _ (reached numbers from.1 partner number above
        (subst (λ b. number ≤ last_closed (map (segment_of place) (cond b (k ∷ filter closes_some numbers) (filter closes_some numbers))) partner) none within))
  ]
    where
      both : (a b c : Bool) → a ≡ true → b ≡ true → c ≡ true → (a && (b && c)) ≡ true
      both a b c e f g = ap (λ x. x && (b && c)) e ∙ ap (λ x. x && c) f ∙ g

  -- and each of them is reached
  among_within : (numbers : List Numbers) (partner number : ℕ) → is_among numbers partner number ≡ true → number ≤ last_closed (segments_of place numbers) partner
  among_within [] partner number e = absurd cc
  among_within (k ∷ numbers) partner number e = elim (or_parts (is_of partner number k) (is_among numbers partner number) e) [
    | inl first ↦
        let parts = and_parts (partner == k.partner) _ first in
        let within = and_parts (nat_lt k.from number) (nat_le number k.to) parts.1 in
        let its : partner ≡ k.partner = eqb-true partner k.partner parts.0 in
        let low : k.from < number = ltb-true k.from number within.0 in
        let high : number ≤ k.to = leb-true number k.to within.1 in
        let some : closes_some k ≡ true = lt-ltb k.from k.to (omega (arith, low, high)) in
        subst (λ b. number ≤ last_closed (map (segment_of place) (cond b (k ∷ filter closes_some numbers) (filter closes_some numbers))) partner) (sym some)
        (subst (λ b. number ≤ max (if b then k.to else 0) (last_closed (segments_of place numbers) partner)) (sym (eq-eqb k.partner partner (sym its)))
        (omega (arith, high, left_within k.to (last_closed (segments_of place numbers) partner))))
    | inr rest ↦
        let later = among_within numbers partner number rest in
        elim (cases_Bool (closes_some k)) [
          | inl some ↦
              subst (λ b. number ≤ last_closed (map (segment_of place) (cond b (k ∷ filter closes_some numbers) (filter closes_some numbers))) partner) (sym some)
              (omega (arith, later, right_within (if k.partner == partner then k.to else 0) (last_closed (segments_of place numbers) partner)))
          | inr none ↦ subst (λ b. number ≤ last_closed (map (segment_of place) (cond b (k ∷ filter closes_some numbers) (filter closes_some numbers))) partner) (sym none) later
        ]
  ]

pub numbers_are_from : (before : ℕ → ℕ) (id : ℕ) (nexts : List ℕ) → AreFrom before (numbers_from before id nexts)
numbers_are_from before id [] = tt
numbers_are_from before id (next ∷ nexts) = (refl, numbers_are_from before (id + 1) nexts)

-- the segments raise the last numbers by these
pub segments_raise : (segments : List Segment) (place : ℕ) (numbers : List Numbers) → AreFrom (last_closed segments) numbers → Raises (last_closed segments) numbers (last_closed (segments ++ segments_of place numbers))
segments_raise segments place numbers from = record {
  each = λ partner number above within.
      let here : number ≤ max (last_closed segments partner) (last_closed (segments_of place numbers) partner) = subst (λ n. number ≤ n) (last_append segments (segments_of place numbers) partner) within in
      reached (last_closed segments) place numbers from partner number above (elim (one_reaches (last_closed segments partner) (last_closed (segments_of place numbers) partner) number here) [
        | inl first ↦ absurd (omega (arith, first, above))
        | inr rest ↦ rest
      ]);
  only = λ partner number e.
      let most = among_within (last_closed segments) place numbers partner number e in
      subst (λ n. number ≤ n) (sym (last_append segments (segments_of place numbers) partner)) (omega (arith, most, right_within (last_closed segments partner) (last_closed (segments_of place numbers) partner)));
}

pub segments_rise : (segments more : List Segment) (partner : ℕ) → last_closed segments partner ≤ last_closed (segments ++ more) partner
segments_rise segments more partner = subst (λ n. last_closed segments partner ≤ n) (sym (last_append segments more partner)) (left_within (last_closed segments partner) (last_closed more partner))

-- ---- the accounts

abbrev id_of : Partner → ℕ
id_of p = p.id

-- a number that is closed is one of an account, and below its next
pub account_found : (before : ℕ → ℕ) (id : ℕ) (nexts others : List ℕ) (accounts : List Partner) → AreAtMost nexts others → others ≡ map (λ (p : Partner). p.next) accounts → map id_of accounts ≡ range_with_len id (length accounts)
    → (partner number : ℕ) → is_among (numbers_from before id nexts) partner number ≡ true → (account : Partner) × Contains accounts account × (account.id ≡ partner) × (number < account.next)
account_found before id [] others accounts most are ids partner number e = absurd cc
account_found before id (next ∷ nexts) [] accounts most are ids partner number e = absurd most
account_found before id (next ∷ nexts) (other ∷ others) [] most are ids partner number e = absurd cc
account_found before id (next ∷ nexts) (other ∷ others) (a ∷ accounts) most are ids partner number e =
    let its_next : other ≡ a.next = cc in
    let rest_next : others ≡ map (λ (p : Partner). p.next) accounts = cc in
    let its_id : a.id ≡ id = cc in
    let rest_id : map id_of accounts ≡ range_with_len (id + 1) (length accounts) = cc in
    elim (or_parts (is_of partner number (record { partner = id; from = before id; to = next - 1 })) (is_among (numbers_from before (id + 1) nexts) partner number) e) [
      | inl first ↦
          let parts = and_parts (partner == id) _ first in
          let within = and_parts (nat_lt (before id) number) (nat_le number (next - 1)) parts.1 in
          let same : partner ≡ id = eqb-true partner id parts.0 in
          let low : before id < number = ltb-true (before id) number within.0 in
          let high : number ≤ next - 1 = leb-true number (next - 1) within.1 in
          (a, head_in a accounts, its_id ∙ sym same, omega (arith, low, high, most.0, its_next))
      | inr rest ↦
          let found = account_found before (id + 1) nexts others accounts most.1 rest_next rest_id partner number rest in
          (found.0, tail_in a found.0 accounts found.1, found.2, found.3)
    ]

-- ==== RefuseLemmas: Faults, and why an archive is refused.

pub or_damaged : (P : Type 0) (why : TableFault) → IsOfStore why → IsOfStoreOr P why
or_damaged P (Store error) is = tt
or_damaged P Memory is = tt
or_damaged P Damaged is = absurd is
or_damaged P Version is = absurd is

pub this_more : (at : File) (Is Or : TableFault → Type 0) → ((of : TableFault) → Is of → Or of) → (why : CloseFault) → IsOfThis at Is why → IsOfThis at Or why
this_more at Is Or more (fault.Archive why) is = absurd is
this_more at Is Or more (fault.File of) is = (is.0, more of.fault is.1)
this_more at Is Or more (fault.Comparing of) is = absurd is
this_more at Is Or more fault.Memory is = tt

-- what is wanted of texts may be less
pub texts_for : {Wants Less : Type 0} {closed : ℕ → ℕ} {own copy : Rows} → (Less → Wants) → HasTexts Wants closed own copy → HasTexts Less closed own copy
texts_for f texts = record { first = texts.first; all = λ less. texts.all (f less) }

-- texts that are the same, that are the first of more, and others
pub same_copied : (Wants : Type 0) (closed : ℕ → ℕ) (own copy : Rows) → HasAll closed own copy → HasTexts Wants closed own copy
same_copied Wants closed own copy all = record { first = ([], sym all ∙ sym (append-nil (arrivals closed copy.interchanges))); all = λ wants. all }

pub first_copied : (Wants : Type 0) (closed : ℕ → ℕ) (own copy : Rows) (wants : Bool) → (wants ≡ true) ↔ Wants → HasFirst closed own copy × ¬ HasAll closed own copy
    → (not wants ≡ true) ↔ HasTexts Wants closed own copy
first_copied Wants closed own copy true is told = (λ e. absurd cc, λ texts. absurd (told.1 (texts.all (is.0 refl))))
first_copied Wants closed own copy false is told = (λ e. record { first = told.0; all = λ wants. absurd (let e = is.1 wants in cc) }, λ texts. refl)

pub other_copied : (Wants : Type 0) (closed : ℕ → ℕ) (own copy : Rows) → ¬ HasFirst closed own copy → (false ≡ true) ↔ HasTexts Wants closed own copy
other_copied Wants closed own copy told = (λ e. absurd cc, λ texts. absurd (told texts.first))

of_store_if : (P : Type 0) (why : TableFault) → IsOfStoreOr ⊥ why → IsOfStoreOr P why
of_store_if P (Store e) is = tt
of_store_if P Memory is = tt
of_store_if P Damaged is = absurd is
of_store_if P Version is = is

module _ (held : Held) (names : FileNames) (files : Files) where
  abbrev own : Rows
  own = held.own

  abbrev copy : Rows
  copy = held.copy

  pub of_store_there : (at : File) (why : TableFault) → IsOfStore why → IsFaultIn held files at why
  of_store_there file.Store why is = inr (or_damaged (HasUnread held.own) why is)
  of_store_there file.Register why is = or_damaged (IsOfOtherTerminal held.register files.store.now) why is
  of_store_there file.Archive why is = inr (or_damaged (HaveNoNexts held.copied held.copy) why is)
  of_store_there file.ArchiveRegister why is = or_damaged (IsOfOtherTerminal held.copied files.archive.now) why is

  this_tells : (at : File) (Is : TableFault → Type 0) → ((of : TableFault) → Is of → IsFaultIn held files at of) → (why : CloseFault) → IsOfThis at Is why → Tells held names files why
  this_tells at Is so (fault.Archive why) is = absurd is
  this_tells at Is so (fault.File of) is = subst (λ (f : File). IsFaultIn held files f of.fault) (sym is.0) (so of.fault is.1)
  this_tells at Is so (fault.Comparing of) is = absurd is
  this_tells at Is so fault.Memory is = tt

  pub own_tells : (why : CloseFault) → IsOfOpening file.Store file.Register held.register held.own files.store.now why → Tells held names files why
  own_tells why (inl is) = this_tells file.Register (IsOfStoreOr (IsOfOtherTerminal held.register files.store.now)) (λ of so. so) why is
  own_tells why (inr is) = this_tells file.Store (IsUnopened held.register held.own files.store.now) (λ of so. inl so) why is

  pub copy_tells : (why : CloseFault) → IsOfOpening file.Archive file.ArchiveRegister held.copied held.copy files.archive.now why → Tells held names files why
  copy_tells why (inl is) = this_tells file.ArchiveRegister (IsOfStoreOr (IsOfOtherTerminal held.copied files.archive.now)) (λ of so. so) why is
  copy_tells why (inr is) = this_tells file.Archive (IsUnopened held.copied held.copy files.archive.now) (λ of so. so) why is

  pub waiting_tells : (why : CloseFault) → IsOfThis file.Store (IsOfStoreOr (HasUnread held.own)) why → Tells held names files why
  waiting_tells why is = this_tells file.Store (IsOfStoreOr (HasUnread held.own)) (λ of so. inr so) why is

  pub written_tells : (why : CloseFault) → IsOfWriting why → Tells held names files why
  written_tells (fault.Archive why) is = absurd is
  written_tells (fault.File of) is = of_store_there of.file of.fault is
  written_tells (fault.Comparing of) is = absurd is
  written_tells fault.Memory is = absurd is

  why_by : (why : Refusal) → HasReason names files why → IsWhy held.register held.copied own copy names files why
  why_by (refusal.Interchange difference) has = absurd has.is_reason
  why_by refusal.Closed has = has
  why_by refusal.Office has = has
  why_by refusal.Later has = has
  why_by refusal.Register has = has
  why_by refusal.Order has = absurd has.is_reason
  why_by refusal.Seals has = absurd has.is_reason
  why_by (refusal.Visit number) has = has

  pub plan_tells : (here there : OfficeContent) → IsOpened files.store.now files.register.now here → IsOpened files.archive.now files.archive_register.now there → (why : CloseFault) → IsRefused here there names why → Tells held names files why
  plan_tells here there a b (fault.Archive why) is = why_by why (record { own = here; copy = there; own_opens = a; copy_opens = b; is_reason = is })
  plan_tells here there a b (fault.File of) is = absurd is
  plan_tells here there a b (fault.Comparing of) is = absurd is
  plan_tells here there a b fault.Memory is = tt

  otherwise_told : (why : Refusal) → IsOtherwise own copy why → IsWhy held.register held.copied own copy names files why
  otherwise_told (refusal.Interchange difference) is = is
  otherwise_told refusal.Closed is = absurd is
  otherwise_told refusal.Office is = absurd is
  otherwise_told refusal.Later is = absurd is
  otherwise_told refusal.Register is = absurd is
  otherwise_told refusal.Order is = absurd is
  otherwise_told refusal.Seals is = absurd is
  otherwise_told (refusal.Visit number) is = absurd is

  pub compared_tells : (why : CloseFault) → IsOfComparing own copy why → Tells held names files why
  compared_tells (fault.Archive why) is = otherwise_told why is
  compared_tells (fault.File of) is = absurd is
  compared_tells (fault.Comparing of) is = is
  compared_tells fault.Memory is = absurd is

  -- what is wanted is so if the closing begins and closes no number
  pub ordering_tells : (Wants : Type 0) → (Wants → ClosesNone held.register held.copied copy) → (why : CloseFault)
      → IsOfOrdering Wants (last_closed held.register.segments) own copy files.store.now files.archive.now why → Tells held names files why
  ordering_tells Wants so (fault.Archive refusal.Order) is = λ order order' texts. is order order' (texts_for so texts)
  ordering_tells Wants so (fault.Archive (refusal.Interchange difference)) is = absurd is
  ordering_tells Wants so (fault.Archive refusal.Closed) is = absurd is
  ordering_tells Wants so (fault.Archive refusal.Office) is = absurd is
  ordering_tells Wants so (fault.Archive refusal.Later) is = absurd is
  ordering_tells Wants so (fault.Archive refusal.Register) is = absurd is
  ordering_tells Wants so (fault.Archive refusal.Seals) is = absurd is
  ordering_tells Wants so (fault.Archive (refusal.Visit number)) is = absurd is
  ordering_tells Wants so (fault.File of) is = absurd is
  ordering_tells Wants so (fault.Comparing of) is = no_more of.file of.fault is
    where
      no_more : (at : File) (why : TableFault) → IsOfFile ⊥ ⊥ at why → IsOfFile (HasUnfit own) (HasUnfit copy) at why
      no_more file.Store why is = of_store_if (HasUnfit own) why is
      no_more file.Archive why is = of_store_if (HasUnfit copy) why is
      no_more file.Register why is = is
      no_more file.ArchiveRegister why is = is
  ordering_tells Wants so fault.Memory is = tt

-- ==== Numbers that are at most others.

pub most_no_more : (numbers others : List ℕ) → AreAtMost numbers others → length numbers ≤ length others
most_no_more [] others most = omega arith
most_no_more (n ∷ numbers) [] most = absurd most
most_no_more (n ∷ numbers) (m ∷ others) most = omega (arith, most_no_more numbers others most.1)

-- ==== StepLemmas: A step that was due, and one that was not.

module _ (from to : RegisterContent → RegisterContent) (old new : State) where
  pub stepped : {X : Type 0} (x : X) → new.in_transaction ≡ false → (HasCleanDisk new → Becomes from to old new) → Survives old new (HasBecome from to old) → StepsIf true from to old new (Ok x)
  stepped x idle made crash = record {
    idle = idle;
    made = λ clean due. made clean;
    kept = λ off. absurd cc;
    undone = λ clean is_open. tt;
    crash = survives_weaker old new _ _ (λ clean db left. (refl, left)) crash;
    fault = tt;
  }

  pub stopped : {X : Type 0} (why : CloseFault) → new.in_transaction ≡ false → (HasCleanDisk new → IsTrue new.is_open → (new.now ≡ old.committed) × (new.committed ≡ old.committed)) → Survives old new (HasBecome from to old) → IsOfWriting why
      → StepsIf {T = X} true from to old new (Err why)
  stopped why idle undone crash of = record {
    idle = idle;
    made = λ clean due. tt;
    kept = λ off. absurd cc;
    undone = λ clean is_open. (undone clean is_open).1;
    crash = survives_weaker old new _ _ (λ clean db left. (refl, left)) crash;
    fault = of;
  }

pub not_due : {X : Type 0} (from to : RegisterContent → RegisterContent) (now : State) (x : X) → now.in_transaction ≡ false → StepsIf false from to now now (Ok x)
not_due from to now x idle = record {
  idle = idle;
  made = λ clean due. absurd cc;
  kept = λ off. record { now = refl; committed = refl; is_open = refl };
  undone = λ clean is_open. tt;
  crash = survives_here now _;
  fault = tt;
}
