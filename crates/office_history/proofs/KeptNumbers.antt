-- What an office keeps for its partners: each number below a partner's next was taken, and those beyond it wait.
use Rattle.std.specs.{Prelude.{◌==◌, not, find, count_by, Contains, slice_index_or}, List.{range_with_len, AllByRecursion}, List.Sorted.IsPermutation}
use Rattle.std.{specs.{Option.{option_map, option_and_then}, Ordering.{nat_cmp, ordering_then}}, proofs.{lemmas.List.append-nil, lemmas.Bool.Decides.nat_tests}}
use Rattle.std.proofs.Common.{◌≡◌, ℕ, List, [], ◌∷◌, ◌++◌, None, refl, sym, ap, subst, ◌∙◌, ◌⊎◌, zero, suc, ◌+◌, ◌-◌, ◌<◌, ◌≤◌, inl, inr, length, map, Bool, true, false, cond, Option, Some, is_some, ap₂, arith, Less, Equal, is_lt}
use Rattle.std.proofs.lemmas.Bool.{cases_order, eq-eqb, ne_eqb, cond-true, cond-false}
use Rattle.std.proofs.lemmas.List.Sorted.{IsPermutation-sym, Contains-permutation, sum_by-IsPermutation}
use Rattle.partner_core.specs.{ByPlace.{taken_by_place, AreNumbered, FoldsByPlace}, Deliveries.Delivery, Machine.Taking, Order.{state, reply_of}}
use Rattle.partner_core.proofs.ByPlace.{rules_by_place}
use Rattle.partner_core.proofs.Orders.{option_or-none}
use Rattle.terminal_core.specs.{Changes.rows_of, Versions.newest, declared.change.Version.Version, declared.change.Version.TheVariants.{First, Second, Third}}
use Rattle.terminal_core.proofs.{Indexed.{found_is, one_place}, Whole.contained}
use Rattle.office_replies.specs.Events.{Event, migrated}
use Rattle.office_admission.specs.{Setups.SetupContent, Accounts.content_after, Admission.number_said, Deliveries.deliveries_of}
use Rattle.office_admission.{specs.Taking.{MachineState, interchange_taken_by}, proofs.Adding.{content_on, migration_adds}}
use Rattle.office_rows.specs.{Rows.{Rows, Partner, Interchange}, Migrated.{migrated_settings, migrated_rows}, Opening.settings_in, Effects.is_pair}
use Rattle.office_rows.specs.Values.{number_value, interchange_values}
use Rattle.office_rows.specs.Opened.{NumberKept, number_kept}
use Rattle.office_rows.specs.Office.{AreAccounts, AreKept}
use Rattle.office_history.specs.After.{opening_of, migration_in, taking_in, AreRowsOf, AreAfterBy, AreAfter, AreKeptOnce, accounts_from, reply_if_any, reply_in}
use Rattle.office_history.{specs.{Laws.MigrationGoesOn, Cascade.text_in}, proofs.Places.{numbered, taking_unmigrated, taking_migrated, moved}}
use Rattle.office_history.proofs.Kept.{taken_by, Rise, Has, IsWithinRuns, IsComplete, all_kept, fewer, found_only, head_in, tail_in}
use Rattle.office_history.proofs.Runs.{is_pair_at, pair_of, InTurn, is_before, number_order}
use Rattle.sqlite_value.specs.Order.{value_cmp}
use Rattle.edi_messages.specs.declared.codes.PartnerKind.{PartnerKind}

-- ==== Migrating: The rows after a migration.

settings_migrated : (version : Version) (content : SetupContent) → migrated_settings (settings_in version content) ≡ settings_in newest content
settings_migrated First content = refl
settings_migrated Second content = refl
settings_migrated Third content = refl

module _ (content : SetupContent) (version : Version) (es : List Event) (rows : Rows) (none : migration_in es ≡ None) (are : AreAfterBy version content es rows) where
  abbrev now : SetupContent
  now = content_after content es

  abbrev D : List Delivery
  D = deliveries_of content es

  abbrev more : List Event
  more = es ++ migrated version ∷ []

  abbrev old : Taking MachineState
  old = interchange_taken_by version

  abbrev by_place : Taking MachineState
  by_place = taken_by_place number_said D old (interchange_taken_by newest)

  end : D ++ [] ≡ D
  end = append-nil D

  folds : FoldsByPlace number_said old (interchange_taken_by newest) (opening_of now) D []
  folds = rules_by_place number_said old (interchange_taken_by newest) (opening_of now) D [] (subst (AreNumbered number_said) (sym end) (numbered content es))

  state_same : state by_place (opening_of now) D ≡ state old (opening_of now) D
  state_same = ap (state by_place (opening_of now)) (sym end) ∙ folds.state_is

  reply_same : (p k : ℕ) → reply_of by_place (opening_of now) D p k ≡ reply_of old (opening_of now) D p k
  reply_same p k = ap (λ E. reply_of by_place (opening_of now) E p k) (sym end) ∙ folds.replies p k ∙ option_or-none (reply_of old (opening_of now) D p k)

  rows_by_old : AreRowsOf version old now D rows
  rows_by_old = subst (λ taking. AreRowsOf version taking now D rows) (taking_unmigrated version content es none) are

  rows_by_place : AreRowsOf newest by_place now D (migrated_rows rows)
  rows_by_place = record {
    partners = rows_by_old.partners;
    texts = rows_by_old.texts;
    replies = λ p k. rows_by_old.replies p k ∙ sym (reply_same p k);
    kept_once = rows_by_old.kept_once;
    terminal = rows_by_old.terminal ∙ ap (λ (m : MachineState). rows_of m.terminal) (sym state_same);
    placed_once = rows_by_old.placed_once;
    listed_once = rows_by_old.listed_once;
    settings = ap migrated_settings rows_by_old.settings ∙ settings_migrated version now;
    blocks = rows_by_old.blocks;
  }

  goes_on_behind : AreAfter content more (migrated_rows rows)
  goes_on_behind =
      moved newest by_place (taking_in newest content more) now (content_after content more) D (deliveries_of content more) (migrated_rows rows)
      (taking_migrated newest version content es none) (content_on es (migrated version ∷ []) content) (migration_adds es content version) rows_by_place

pub migration_goes_on : MigrationGoesOn
migration_goes_on content version es rows none are = goes_on_behind content version es rows none are

-- ==== KeptNumbers: What an office keeps for its partners: each number below a partner's next was taken, and those beyond it wait.

-- ---- the accounts

-- the accounts by id from that one on, each with a run of its partner that its next number follows
pub record HaveRuns (id : ℕ) (partners : List Partner) (accounts : List (List ℕ × PartnerKind)) : Type 0 where
  pub runs : ℕ → ℕ
  pub are : partners ≡ accounts_from id (λ p. runs p + 1) accounts
  pub high : (p : ℕ) → runs p ≤ 999999999
  pub below : (p : ℕ) → p < id → runs p ≡ 0
  pub beyond : (p : ℕ) → id + length accounts ≤ p → runs p ≡ 0

accounts_beyond : (id low run : ℕ) (runs : ℕ → ℕ) (accounts : List (List ℕ × PartnerKind)) → low < id →
    accounts_from id (λ p. cond (p == low) run (runs p) + 1) accounts ≡ accounts_from id (λ p. runs p + 1) accounts
accounts_beyond id low run runs [] far = refl
accounts_beyond id low run runs (account ∷ accounts) far =
    ap₂ (λ n l. (record { id = id; code = account.0; kind = account.1; next = n + 1 }) ∷ l)
    (cond-false (id == low) run (runs id) (ne_eqb id low (λ e. absurd (omega (arith, e, far)))))
    (accounts_beyond (id + 1) low run runs accounts (omega (arith, far)))

pub have_runs : (id : ℕ) (partners : List Partner) (accounts : List (List ℕ × PartnerKind)) → AreAccounts id partners accounts → HaveRuns id partners accounts
have_runs id [] [] are = record { runs = λ p. 0; are = refl; high = λ p. omega arith; below = λ p low. refl; beyond = λ p far. refl }
have_runs id [] (account ∷ accounts) are = absurd are
have_runs id (partner ∷ partners) [] are = absurd are
have_runs id (partner ∷ partners) (account ∷ accounts) are =
    let rest = have_runs (id + 1) partners accounts are.5 in
    let runs : ℕ → ℕ = λ p. cond (p == id) (partner.next - 1) (rest.runs p) in
    let low : 1 ≤ partner.next = are.3 in
    let most : partner.next ≤ 1000000000 = are.4 in
    let here : runs id ≡ partner.next - 1 = cond-true (id == id) (partner.next - 1) (rest.runs id) (eq-eqb id id refl) in
    let next : partner.next ≡ runs id + 1 = omega (arith, here, low) in
    let other : (p : ℕ) → (p ≡ id → ⊥) → runs p ≡ rest.runs p = λ p apart. cond-false (p == id) (partner.next - 1) (rest.runs p) (ne_eqb p id apart) in
    record {
      runs = runs;
      are = ap₂ ◌∷◌ (λ i. record { id = are.0 i; code = are.1 i; kind = are.2 i; next = next i }) (rest.are ∙ sym (accounts_beyond (id + 1) id (partner.next - 1) rest.runs accounts (omega arith)));
      high = λ p. high (p == id) (rest.runs p) (rest.high p);
      below = λ p far. other p (λ e. absurd (omega (arith, e, far))) ∙ rest.below p (omega (arith, far));
      beyond = λ p far. other p (λ e. absurd (omega (arith, e, far))) ∙ rest.beyond p (omega (arith, far));
    }
  where
    high : (own : Bool) (run : ℕ) → run ≤ 999999999 → cond own (partner.next - 1) run ≤ 999999999
    high true run most = let its : partner.next ≤ 1000000000 = are.4 in omega (arith, its)
    high false run most = most

-- ---- where a number stands

pub has_left : (p k : ℕ) (ns ms : List NumberKept) → Has p k ns → Has p k (ns ++ ms)
has_left p k [] ms has = absurd has
has_left p k (n ∷ ns) ms (inl here) = inl here
has_left p k (n ∷ ns) ms (inr later) = inr (has_left p k ns ms later)

pub has_right : (p k : ℕ) (ns ms : List NumberKept) → Has p k ms → Has p k (ns ++ ms)
has_right p k [] ms has = has
has_right p k (n ∷ ns) ms has = inr (has_right p k ns ms has)

pub has_taken : (p k from many : ℕ) → from ≤ k → k < from + many → Has p k (map (taken_by p) (range_with_len from many))
has_taken p k from zero low below = absurd (omega (arith, low, below))
has_taken p k from (suc many) low below = elim (cases_order from k) [
  | inl same ↦ inl (refl, same)
  | inr o ↦ elim o [
    | inl less ↦ inr (has_taken p k (from + 1) many (omega (arith, less)) (omega (arith, below)))
    | inr more ↦ absurd (omega (arith, more, low))
  ]
]

-- ---- what is kept for one account after the other

module _ (count : ℕ) (runs : ℕ → ℕ) (high : (p : ℕ) → runs p ≤ 999999999) where
  abbrev next : ℕ → ℕ
  next p = runs p + 1

-- ---- by partner and number

-- up to its partner's run each number was taken, the next is not there, and those beyond wait
pub record KeepsNumbers (count : ℕ) (runs : ℕ → ℕ) (rows : Rows) : Type 0 where
  pub once : AreKeptOnce rows.interchanges
  pub within : (p k : ℕ) (text : List ℕ) → text_in rows p k ≡ Some text → (1 ≤ p) × (p ≤ count) × (1 ≤ k) × (k ≤ 999999999)
  pub there : (p k : ℕ) → 1 ≤ k → k ≤ runs p → is_some (text_in rows p k) ≡ true
  pub taken : (p k : ℕ) → 1 ≤ k → k ≤ runs p → is_some (reply_in rows p k) ≡ true
  pub free : (p : ℕ) → text_in rows p (runs p + 1) ≡ None
  pub waits : (p k : ℕ) → runs p < k → reply_in rows p k ≡ None

pub found_pair : (rows : Rows) (p k : ℕ) (i : Interchange) → find (is_pair p k) rows.interchanges ≡ Some i → Contains rows.interchanges i × (i.partner ≡ p) × (i.number ≡ k)
found_pair rows p k i e =
    let here = found_is (is_pair p k) rows.interchanges i e in
    let pair = pair_of p k i here.2 in
    (contained rows.interchanges here.0 i here.1, pair.0, pair.1)

-- what was taken has a reply
pub replies : (reply : List ℕ) → is_some (reply_if_any reply) ≡ not (length reply == 0)
replies [] = refl
replies (byte ∷ bytes) = sym (ap not (ne_eqb (length (byte ∷ bytes)) 0 (λ none. absurd (omega arith))))

-- ---- from what is kept in order

pub within_at : (P : NumberKept → Type 0) (zs : List Interchange) (i : Interchange) (k : ℕ) → AllByRecursion P (map number_kept zs) → k < length zs → slice_index_or zs k i ≡ i → P (number_kept i)
within_at P [] i k all below is = absurd (omega (arith, below))
within_at P (z ∷ zs) i zero all below is = subst (λ x. P (number_kept x)) is all.0
within_at P (z ∷ zs) i (suc k) all below is = within_at P zs i k all.1 (omega (arith, below)) is

pub has_in : (zs : List Interchange) (p k : ℕ) → Has p k (map number_kept zs) → (i : Interchange) × Contains zs i × (i.partner ≡ p) × (i.number ≡ k)
has_in [] p k has = absurd has
has_in (z ∷ zs) p k (inl here) = (z, head_in z zs, here.0, here.1)
has_in (z ∷ zs) p k (inr later) = let rest = has_in zs p k later in (rest.0, tail_in z rest.0 zs rest.1, rest.2, rest.3)

-- ---- in the order of partners and numbers

pub less_first : (m n : ℕ) → m < n → nat_cmp m n ≡ Less
less_first m n below = grind (arith, nat_tests)

pub same_number : (m n : ℕ) → m ≡ n → nat_cmp m n ≡ Equal
same_number m n same = grind (arith, nat_tests)

-- of two pairs in order the second isn't before the first
pub pair_order : (p k q j : ℕ) → is_lt (ordering_then (value_cmp (number_value q) (number_value p)) (ordering_then (value_cmp (number_value j) (number_value k)) Equal)) ≡ false → (p < q) ⊎ ((q ≡ p) × (k ≤ j))
pair_order p k q j after =
    let whole : is_lt (ordering_then (nat_cmp q p) (ordering_then (nat_cmp j k) Equal)) ≡ false =
    sym (ap₂ (λ a b. is_lt (ordering_then a (ordering_then b Equal))) (number_order q p) (number_order j k)) ∙ after in
    elim (cases_order p q) [
      | inl same ↦ elim (cases_order j k) [
        | inl one ↦ inr (sym same, omega arith)
        | inr o ↦ elim o [
          | inl below ↦
              let bad : true ≡ false = sym (ap₂ (λ a b. is_lt (ordering_then a (ordering_then b Equal))) (same_number q p (sym same)) (less_first j k below)) ∙ whole in
              absurd cc
          | inr above ↦ inr (sym same, omega arith)
        ]
      ]
      | inr o ↦ elim o [
        | inl below ↦ inl below
        | inr above ↦
            let bad : true ≡ false = sym (ap (λ a. is_lt (ordering_then a (ordering_then (nat_cmp j k) Equal))) (less_first q p above)) ∙ whole in
            absurd cc
      ]
    ]

abbrev pair_values : Interchange → Interchange → Bool
pair_values = is_before (0 ∷ 1 ∷ []) interchange_values

-- no two of them have one number
pub apart : (p k : ℕ) (i j : Interchange) (zs : List Interchange) → count_by (is_pair p k) (i ∷ j ∷ zs) ≤ 1 → is_pair p k i ≡ true → is_pair p k j ≡ true → ⊥
apart p k i j zs once one two = let bad : ◌≡◌ {A = ℕ} 0 1 = one_place (is_pair p k) (i ∷ j ∷ zs) 0 1 i j once refl refl one two in absurd (omega arith)

-- in order they rise
rise_of : (zs : List Interchange) → InTurn pair_values zs → ((p k : ℕ) → count_by (is_pair p k) zs ≤ 1) → Rise (map number_kept zs)
rise_of [] turn once = tt
rise_of (i ∷ []) turn once = (tt, tt)
rise_of (i ∷ j ∷ zs) turn once = (starts (pair_order i.partner i.number j.partner j.number turn.0), rise_of (j ∷ zs) turn.1 (λ p k. fewer (is_pair p k) i (j ∷ zs) (once p k)))
  where
    starts : (i.partner < j.partner) ⊎ ((j.partner ≡ i.partner) × (i.number ≤ j.number)) → (i.partner < j.partner) ⊎ ((j.partner ≡ i.partner) × (i.number < j.number))
    starts (inl far) = inl far
    starts (inr near) = elim (cases_order i.number j.number) [
      | inl same ↦ absurd (apart i.partner i.number i j zs (once i.partner i.number) (is_pair_at i.partner i.number i refl refl) (is_pair_at i.partner i.number j near.0 (sym same)))
      | inr o ↦ elim o [ inl below ↦ inr (near.0, below) | inr above ↦ absurd (omega (arith, near.1, above)) ]
    ]

pub has_at : (zs : List Interchange) (i : Interchange) (k : ℕ) → k < length zs → slice_index_or zs k i ≡ i → Has i.partner i.number (map number_kept zs)
has_at [] i k below is = absurd (omega arith)
has_at (z ∷ zs) i zero below is = inl (ap (λ (x : Interchange). x.partner) is, ap (λ (x : Interchange). x.number) is)
has_at (z ∷ zs) i (suc k) below is = inr (has_at zs i k (omega arith) is)

pub all_numbered : (P : NumberKept → Type 0) (zs : List Interchange) → ((i : Interchange) → Contains zs i → P (number_kept i)) → AllByRecursion P (map number_kept zs)
all_numbered P [] each = tt
all_numbered P (z ∷ zs) each = (each z (head_in z zs), all_numbered P zs (λ i inside. each i (tail_in z i zs inside)))

module _ (count : ℕ) (runs : ℕ → ℕ) (rows : Rows) (keeps : KeepsNumbers count runs rows) where
  found : (i : Interchange) → Contains rows.interchanges i → find (is_pair i.partner i.number) rows.interchanges ≡ Some i
  found i inside = found_only (is_pair i.partner i.number) rows.interchanges i (keeps.once i.partner i.number) inside (is_pair_at i.partner i.number i refl refl)

  own_text : (i : Interchange) → Contains rows.interchanges i → text_in rows i.partner i.number ≡ Some i.body
  own_text i inside = ap (option_map (λ (x : Interchange). x.body)) (found i inside)

  pub own_reply : (i : Interchange) → Contains rows.interchanges i → reply_in rows i.partner i.number ≡ reply_if_any i.reply
  own_reply i inside = ap (option_and_then (λ (x : Interchange). reply_if_any x.reply)) (found i inside)

  past_next : (i : Interchange) → Contains rows.interchanges i → i.number ≡ runs i.partner + 1 → ⊥
  past_next i inside at = let bad : Some i.body ≡ None = sym (own_text i inside) ∙ ap (text_in rows i.partner) at ∙ keeps.free i.partner in cc

  beyond_next : (i : Interchange) → Contains rows.interchanges i → runs i.partner < i.number → runs i.partner + 1 < i.number
  beyond_next i inside beyond = elim (cases_order (runs i.partner + 1) i.number) [
    | inl same ↦ absurd (past_next i inside (sym same))
    | inr o ↦ elim o [ inl below ↦ below | inr above ↦ absurd (omega (arith, above, beyond)) ]
  ]

  within_runs : (i : Interchange) → Contains rows.interchanges i → IsWithinRuns count runs (number_kept i)
  within_runs i inside =
      let range = keeps.within i.partner i.number i.body (own_text i inside) in
      record {
        partner_low = range.0;
        partner_high = range.1;
        low = range.2;
        high = range.3;
        taken = λ within. sym (replies i.reply) ∙ ap is_some (sym (own_reply i inside)) ∙ keeps.taken i.partner i.number range.2 within;
        waits = λ beyond. (beyond_next i inside beyond, sym (replies i.reply) ∙ ap is_some (sym (own_reply i inside) ∙ keeps.waits i.partner i.number beyond));
      }

  pub body_found : (o : Option Interchange) → is_some (option_map (λ (x : Interchange). x.body) o) ≡ true → (i : Interchange) × (o ≡ Some i)
  body_found None e = cc
  body_found (Some i) e = (i, refl)

  complete : (zs : List Interchange) → IsPermutation rows.interchanges zs → IsComplete count runs 0 (map number_kept zs)
  complete zs same q k far one within =
      let there = body_found (find (is_pair q k) rows.interchanges) (keeps.there q k one within) in
      let pair = found_pair rows q k there.0 there.1 in
      let inside : Contains zs there.0 = Contains-permutation rows.interchanges zs there.0 same pair.0 in
      let has : Has there.0.partner there.0.number (map number_kept zs) = has_at zs there.0 inside.0 inside.1 inside.2 in
      subst (λ m. Has q m (map number_kept zs)) pair.2 (subst (λ r. Has r there.0.number (map number_kept zs)) pair.1 has)

  once_in : (zs : List Interchange) → IsPermutation rows.interchanges zs → (p k : ℕ) → count_by (is_pair p k) zs ≤ 1
  once_in zs same p k =
      let one : count_by (is_pair p k) zs ≡ count_by (is_pair p k) rows.interchanges = sum_by-IsPermutation (λ x. cond (is_pair p k x) 1 0) rows.interchanges zs same in
      subst (λ n. n ≤ 1) (sym one) (keeps.once p k)

  pub numbers_kept : (accounts : List (List ℕ × PartnerKind)) (zs : List Interchange) → length accounts ≡ count → IsPermutation rows.interchanges zs → InTurn (is_before (0 ∷ 1 ∷ []) interchange_values) zs →
      AreKept (accounts_from 1 (λ p. runs p + 1) accounts) (map number_kept zs)
  numbers_kept accounts zs counted same turn =
      all_kept count runs accounts (map number_kept zs) counted (rise_of zs turn (once_in zs same))
      (all_numbered (IsWithinRuns count runs) zs (λ i inside. within_runs i (Contains-permutation zs rows.interchanges i (IsPermutation-sym rows.interchanges zs same) inside)))
      (complete zs same)
