-- What a store's own rows are checked for when it is opened.
use Rattle.std.specs.{List.{range_with_len, AllByRecursion}, Prelude.{Contains, ◌==◌, not, nat_le, find, count_by, filter}, List.Sorted.IsPermutation}
use Rattle.std.{specs.Option.{option_map, option_and_then}, proofs.lemmas.Bool.{cases_order, le-leb, leb-true, ne_eqb}}
use Rattle.std.proofs.Common.{◌≡◌, ◌⊎◌, ℕ, zero, suc, ◌+◌, ◌-◌, ◌<◌, ◌≤◌, inl, inr, List, [], ◌∷◌, ◌++◌, length, map, true, false, refl, sym, ap, ap₂, subst, ◌∙◌, arith, Bool, cond, Option, None, Some, is_some}
use Rattle.std.proofs.lemmas.List.Sorted.{IsPermutation-sym, Contains-permutation, sum_by-IsPermutation}
use Rattle.edi_messages.specs.declared.codes.PartnerKind.{PartnerKind}
use Rattle.office_rows.specs.{Rows.{Partner, Interchange, Rows}, Opened.{NumberKept, number_kept, reply_values}, Office.AreWaiting, Effects.is_pair}
use Rattle.office_rows.specs.{Tables.interchange_table, Values.interchange_values}
use Rattle.office_history.specs.After.{accounts_from, content_after, deliveries_of, opening_of, machine_after, taking_in, reply_if_any, reply_in}
use Rattle.office_history.{specs.Cascade.text_in, proofs.{Kept.{Starts, Rise, Has, found_only, head_in, tail_in}, Afters.{state_sound, unreplied}}}
use Rattle.office_history.proofs.{Places.sound_in, Runs.{is_pair_at, pair_of, InTurn, is_before, shows_records, by_keys}, Accounted.delivered_within}
use Rattle.office_history.proofs.KeptNumbers.{all_numbered, has_at}
use Rattle.office_loading.specs.Checks.{taken_beyond, AreKeptBeyond, visits_after, numbers_beyond}
use Rattle.sqlite_trees.proofs.ListLemmas.{IsPermutation-filter}
use Rattle.partner_core.{specs.{Deliveries.{Delivery, first_text, run}, Machine.Taking}, proofs.OnceEach.within_replied}
use Rattle.partner_core.proofs.Orders.{used_within_run, free_after_run}
use Rattle.terminal_core.{specs.{OneByOne.GoOneByOne, Rows.VisitContent, State.{AreNumbered, last_from, last_number}, Versions.newest}, proofs.Indexed.found_is}
use Rattle.terminal_core.proofs.{Whole.contained, Open.last_highest}
use Rattle.office_admission.{specs.{Given.IsGiven, Setups.SetupContent, TakingLaws.IsSoundMachine, Taking.MachineState}, proofs.Adding.given_after}
use Rattle.office_replies.specs.Events.{Event}
use Rattle.office_parts.specs.{OwnTerminal.own_visits, Parts.{Archived, ArePartsAfter}, Closing.{is_closed, is_beyond}, LeftOver.rows_beyond}
use Rattle.office_parts.{specs.Laws.{OwnAreBeyond, NewVisitsAreNew, OwnNumbersAreKept, OwnVisitsGoOn}, proofs.{Takings.visits_same, LeftOver.far_beyond}}
use Rattle.office_parts.proofs.Orders.{StandInOrder, in_order, order_filtered, rise_of, beyond_numbered, found_beyond, once_here, numbers_told, closed_within}
use Rattle.office_parts.proofs.Splits.{own_rise, Has as HasElement, has_contained, contained_has, has_right}

-- ==== Beyond: The interchanges that a store keeps beyond what is closed.

-- what is kept is one of so many partners', beyond what is closed, and was taken if it is within the partner's run
pub record IsBeyond (closed : ℕ → ℕ) (count : ℕ) (runs : ℕ → ℕ) (n : NumberKept) : Type 0 where
  pub partner_low : 1 ≤ n.partner
  pub partner_high : n.partner ≤ count
  pub low : closed n.partner < n.number
  pub high : n.number ≤ 999999999
  pub taken : n.number ≤ runs n.partner → n.is_taken ≡ true
  pub waits : runs n.partner < n.number → (runs n.partner + 1 < n.number) × (n.is_taken ≡ false)

-- each number beyond what is closed, within the runs of partners after that one, is there
abbrev pub IsComplete : (closed runs : ℕ → ℕ) → ℕ → List NumberKept → Type 0
IsComplete closed runs p ns = (q k : ℕ) → p < q → closed q < k → k ≤ runs q → Has q k ns

abbrev From : ℕ → List NumberKept → Type 0
From p [] = Unit {0}
From p (n ∷ ns) = p ≤ n.partner

-- what follows in order comes after
has_after : (q m : ℕ) (ns : List NumberKept) (p k : ℕ) → Starts q m ns → Rise ns → Has p k ns → (q < p) ⊎ ((p ≡ q) × (m < k))
has_after q m [] p k starts rise has = absurd has
has_after q m (n ∷ ns) p k starts rise (inl here) = elim starts [
  | inl far ↦ inl (omega (arith, here.0, far))
  | inr near ↦ inr (sym here.0 ∙ near.0, omega (arith, here.1, near.1))
]
has_after q m (n ∷ ns) p k starts rise (inr later) = elim (has_after n.partner n.number ns p k rise.0 rise.1 later) [
  | inl beyond ↦ elim starts [ inl far ↦ inl (omega (arith, beyond, far)) | inr near ↦ inl (omega (arith, beyond, near.0)) ]
  | inr own ↦ elim starts [ inl far ↦ inl (omega (arith, own.0, far)) | inr near ↦ inr (own.0 ∙ near.0, omega (arith, own.1, near.1)) ]
]

module _ (closed : ℕ → ℕ) (count : ℕ) (runs : ℕ → ℕ) (below : (p : ℕ) → 1 ≤ p → p ≤ count → closed p ≤ runs p) where
  abbrev next : ℕ → ℕ
  next p = runs p + 1

  abbrev Complete : ℕ → List NumberKept → Type 0
  Complete = IsComplete closed runs

  behind : (p : ℕ) (n : NumberKept) (ns : List NumberKept) → n.partner ≡ p → Complete p (n ∷ ns) → Complete p ns
  behind p n ns own there q k far one within = elim (there q k far one within) [
    | inl here ↦ absurd (omega (arith, far, here.0, own))
    | inr later ↦ later
  ]

  -- those that wait for a partner, and those of the partners after it
  record Parts (p above : ℕ) (ns : List NumberKept) : Type 0 where
    waiting : List NumberKept
    others : List NumberKept
    are : ns ≡ waiting ++ others
    wait : AreWaiting p above waiting
    from : From (p + 1) others
    rise : Rise others
    all : AllByRecursion (IsBeyond closed count runs) others
    there : Complete p others

  waiting_first : (p above : ℕ) (ns : List NumberKept) → runs p < above → Starts p above ns → Rise ns → AllByRecursion (IsBeyond closed count runs) ns → Complete p ns → Parts p above ns
  waiting_first p above [] far starts rise all there = record { waiting = []; others = []; are = refl; wait = tt; from = tt; rise = tt; all = tt; there = there }
  waiting_first p above (n ∷ ns) far (inl beyond) rise all there = record { waiting = []; others = n ∷ ns; are = refl; wait = tt; from = omega arith; rise = rise; all = all; there = there }
  waiting_first p above (n ∷ ns) far (inr own) rise all there =
      let own_run : runs n.partner ≡ runs p = ap runs own.0 in
      let higher : above < n.number = own.1 in
      let its = all.0.waits (omega arith) in
      let rest = waiting_first p n.number ns (omega arith) (subst (λ q. Starts q n.number ns) own.0 rise.0) rise.1 all.1 (behind p n ns own.0 there) in
      record {
        waiting = n ∷ rest.waiting;
        others = rest.others;
        are = ap (λ l. n ∷ l) rest.are;
        wait = (own.0, its.1, own.1, all.0.high, rest.wait);
        from = rest.from;
        rise = rest.rise;
        all = rest.all;
        there = rest.there;
      }

  abbrev taken_by : ℕ → ℕ → NumberKept
  taken_by p number = record { partner = p; number = number; is_taken = true }

  -- those that were taken of a partner, from a number on, those that wait, and those of the partners after it
  record Own (p above many : ℕ) (ns : List NumberKept) : Type 0 where
    waiting : List NumberKept
    others : List NumberKept
    are : ns ≡ (map (taken_by p) (range_with_len (above + 1) many) ++ waiting) ++ others
    wait : AreWaiting p (next p) waiting
    from : From (p + 1) others
    rise : Rise others
    all : AllByRecursion (IsBeyond closed count runs) others
    there : Complete p others

  past_run : (p above : ℕ) (ns : List NumberKept) → above ≡ runs p → Starts p above ns → AllByRecursion (IsBeyond closed count runs) ns → Starts p (next p) ns
  past_run p above [] e starts all = tt
  past_run p above (n ∷ ns) e (inl beyond) all = inl beyond
  past_run p above (n ∷ ns) e (inr own) all =
      let own_run : runs n.partner ≡ runs p = ap runs own.0 in
      let higher : above < n.number = own.1 in
      let its = all.0.waits (omega arith) in
      inr (own.0, omega (arith, its.0))

  -- the number is the first
  is_first : (p above : ℕ) (n : NumberKept) (ns : List NumberKept) → Starts p above (n ∷ ns) → Rise (n ∷ ns) → Has p (above + 1) (n ∷ ns) → (n.partner ≡ p) × (n.number ≡ above + 1)
  is_first p above n ns starts rise (inl here) = here
  is_first p above n ns starts rise (inr later) = elim (has_after n.partner n.number ns p (above + 1) rise.0 rise.1 later) [
    | inl beyond ↦ elim starts [ inl far ↦ absurd (omega (arith, beyond, far)) | inr near ↦ absurd (omega (arith, beyond, near.0)) ]
    | inr own ↦ elim starts [ inl far ↦ absurd (omega (arith, own.0, far)) | inr near ↦ absurd (omega (arith, own.1, near.1)) ]
  ]

  taken_first : (p above many : ℕ) (ns : List NumberKept) → above + many ≡ runs p → Starts p above ns → Rise ns → AllByRecursion (IsBeyond closed count runs) ns
      → ((k : ℕ) → above < k → k ≤ runs p → Has p k ns) → Complete p ns → Own p above many ns
  taken_first p above zero ns e starts rise all own_there there =
      let end : above ≡ runs p = omega arith in
      let rest = waiting_first p (next p) ns (omega arith) (past_run p above ns end starts all) rise all there in
      record { waiting = rest.waiting; others = rest.others; are = rest.are; wait = rest.wait; from = rest.from; rise = rest.rise; all = rest.all; there = rest.there }
  taken_first p above (suc many) [] e starts rise all own_there there = absurd (own_there (above + 1) (omega arith) (omega arith))
  taken_first p above (suc many) (n ∷ ns) e starts rise all own_there there =
      let here = is_first p above n ns starts rise (own_there (above + 1) (omega arith) (omega arith)) in
      let own : n.partner ≡ p = here.0 in
      let number : n.number ≡ above + 1 = here.1 in
      let own_run : runs n.partner ≡ runs p = ap runs own in
      let taken : n.is_taken ≡ true = all.0.taken (omega arith) in
      let is : n ≡ taken_by p (above + 1) = λ i. record { partner = own i; number = number i; is_taken = taken i } in
      let rest = taken_first p (above + 1) many ns (omega arith) (subst (λ k. Starts p k ns) number (subst (λ q. Starts q n.number ns) own rise.0)) rise.1 all.1
      (λ k far within. elim (own_there k (omega arith) within) [ inl one ↦ absurd (omega (arith, one.1, number, far)) | inr later ↦ later ])
      (behind p n ns own there) in
      record {
        waiting = rest.waiting;
        others = rest.others;
        are = ap₂ (λ m l. m ∷ l) is rest.are;
        wait = rest.wait;
        from = rest.from;
        rise = rest.rise;
        all = rest.all;
        there = rest.there;
      }

  start : (p : ℕ) (ns : List NumberKept) → From p ns → AllByRecursion (IsBeyond closed count runs) ns → Starts p (closed p) ns
  start p [] from all = tt
  start p (n ∷ ns) from all = elim (cases_order p n.partner) [
    | inl same ↦ inr (sym same, (let own : closed p ≡ closed n.partner = ap closed same in omega (arith, own, all.0.low)))
    | inr o ↦ elim o [ inl far ↦ inl far | inr before ↦ absurd (omega arith) ]
  ]

  none_left : (id : ℕ) (ns : List NumberKept) → id ≡ count + 1 → From id ns → AllByRecursion (IsBeyond closed count runs) ns → ns ≡ []
  none_left id [] e from all = refl
  none_left id (n ∷ ns) e from all = absurd (omega (arith, all.0.partner_high))

  kept_from : (id low : ℕ) (accounts : List (List ℕ × PartnerKind)) (ns : List NumberKept) → low + 1 ≡ id → id + length accounts ≡ count + 1 → From id ns → Rise ns → AllByRecursion (IsBeyond closed count runs) ns → Complete low ns
      → AreKeptBeyond closed (accounts_from id next accounts) ns
  kept_from id low [] ns e ends from rise all there = none_left id ns (omega arith) from all
  kept_from id low (account ∷ accounts) ns e ends from rise all there =
      let own = taken_first id (closed id) (runs id - closed id) ns (let b = below id (omega arith) (omega (arith, ends)) in omega (arith, b)) (start id ns from all) rise all (λ k above within. there id k (omega arith) above within) (λ q k far one within. there q k (omega arith) one within) in
      let partner : Partner = record { id = id; code = account.0; kind = account.1; next = next id } in
      let many : runs id + 1 - 1 - closed id ≡ runs id - closed id = omega arith in
      let taken : taken_beyond closed partner ≡ map (taken_by id) (range_with_len (closed id + 1) (runs id - closed id)) = ap (λ c. map (taken_by id) (range_with_len (closed id + 1) c)) many in (
        map (taken_by id) (range_with_len (closed id + 1) (runs id - closed id)) ++ own.waiting,
        own.others,
        own.are,
        record { waiting = own.waiting; wait = own.wait; are = ap (λ l. l ++ own.waiting) (sym taken) },
        kept_from (id + 1) id accounts own.others refl (omega arith) own.from own.rise own.all own.there,
      )

  first_account : (ns : List NumberKept) → AllByRecursion (IsBeyond closed count runs) ns → From 1 ns
  first_account [] all = tt
  first_account (n ∷ ns) all = all.0.partner_low

  -- what is kept in order is that of all the accounts
  pub all_kept : (accounts : List (List ℕ × PartnerKind)) (ns : List NumberKept) → length accounts ≡ count → Rise ns → AllByRecursion (IsBeyond closed count runs) ns → Complete 0 ns → AreKeptBeyond closed (accounts_from 1 next accounts) ns
  all_kept accounts ns counted rise all there = kept_from 1 0 accounts ns refl (omega arith) (first_account ns all) rise all there

-- ==== Opening: What a store's own rows are checked for when it is opened.

-- ---- visits

pub sound_after : (content : SetupContent) (es : List Event) → IsGiven content → IsSoundMachine (machine_after content es)
sound_after content es given = state_sound (taking_in newest content es) (content_after content es) (deliveries_of content es) (sound_in newest content es) (given_after es content given)

-- no number is above the last
at_most_last : (above : ℕ) (visits : List VisitContent) (visit : VisitContent) → AreNumbered above visits → HasElement visits visit → visit.number ≤ last_from above visits
at_most_last above [] visit numbered has = absurd has
at_most_last above (v ∷ visits) visit numbered (inl here) =
    let same : v.number ≡ visit.number = ap (λ (w : VisitContent). w.number) here in
    let high = last_highest v.number visits numbered.1 in
    omega (arith, same, high)
at_most_last above (v ∷ visits) visit numbered (inr later) = at_most_last v.number visits visit numbered.1 later

pub new_visits : NewVisitsAreNew
new_visits content es archived own whole visit given are has =
    let sound = sound_after content es given in
    let numbered : AreNumbered 0 whole.visits = subst (AreNumbered 0) (sym (visits_same content es whole are.after)) sound.whole.numbered in
    let high = at_most_last 0 whole.visits visit numbered (has_contained whole.visits visit has) in
    let same : last_number own.visits ≡ last_number whole.visits = ap last_number are.parts.visits ∙ are.stay.newest in
    omega (arith, high, same)

-- those above a number from which each stays are the whole's
own_after : (stays : ℕ → Bool) (m : ℕ) → ((number : ℕ) → m < number → stays number ≡ true) → (visits : List VisitContent) → visits_after m (own_visits stays visits) ≡ visits_after m visits
own_after stays m later [] = refl
own_after stays m later (v ∷ visits) = by (stays v.number) (nat_le v.number m) refl refl (own_after stays m later visits)
  where
    by : (own low : Bool) → stays v.number ≡ own → nat_le v.number m ≡ low → visits_after m (own_visits stays visits) ≡ visits_after m visits
        → visits_after m (cond own (v ∷ own_visits stays visits) (own_visits stays visits)) ≡ cond (not low) (v ∷ visits_after m visits) (visits_after m visits)
    by true low e f rest = ap (λ b. cond (not b) (v ∷ visits_after m (own_visits stays visits)) (visits_after m (own_visits stays visits))) f ∙ ap (λ l. cond (not low) (v ∷ l) l) rest
    by false true e f rest = rest
    by false false e f rest = elim (cases_order m v.number) [
      | inl same ↦ let bad : true ≡ false = sym (le-leb v.number m (omega (arith, same))) ∙ f in absurd (differ bad)
      | inr o ↦ elim o [
        | inl far ↦ absurd (differ (sym (later v.number far) ∙ e))
        | inr below ↦ let bad : true ≡ false = sym (le-leb v.number m (omega (arith, below))) ∙ f in absurd (differ bad)
      ]
    ]
      where
        differ : true ≡ false → ⊥
        differ e = cc

pub all_after : (m k : ℕ) (visits : List VisitContent) → m < k → GoOneByOne k visits → visits_after m visits ≡ visits
all_after m k [] far go = refl
all_after m k (v ∷ visits) far go = by (nat_le v.number m) refl (all_after m (k + 1) visits (omega (arith, far)) go.1)
  where
    by : (low : Bool) → nat_le v.number m ≡ low → visits_after m visits ≡ visits → cond (not low) (v ∷ visits_after m visits) (visits_after m visits) ≡ v ∷ visits
    by true e rest = let its : v.number ≡ k = go.0 in absurd (omega (arith, leb-true v.number m e, its, far))
    by false e rest = ap (λ l. v ∷ l) rest

go_after : (m k : ℕ) (visits : List VisitContent) → k ≤ m + 1 → GoOneByOne k visits → GoOneByOne (m + 1) (visits_after m visits)
go_after m k [] near go = tt
go_after m k (v ∷ visits) near go = elim (cases_order k (m + 1)) [
  | inl same ↦ subst (GoOneByOne (m + 1)) (sym (all_after m (m + 1) (v ∷ visits) (omega arith) (subst (λ n. GoOneByOne n (v ∷ visits)) same go))) (subst (λ n. GoOneByOne n (v ∷ visits)) same go)
  | inr o ↦ elim o [
    | inl below ↦
        let its : v.number ≡ k = go.0 in
        let low : nat_le v.number m ≡ true = le-leb v.number m (omega (arith, its, below)) in
        subst (GoOneByOne (m + 1)) (sym (ap (λ b. cond (not b) (v ∷ visits_after m visits) (visits_after m visits)) low)) (go_after m (k + 1) visits (omega (arith, below)) go.1)
    | inr above ↦ absurd (omega (arith, above, near))
  ]
]

pub own_visits_go : OwnVisitsGoOn
own_visits_go content es archived own whole m given are later =
    let sound = sound_after content es given in
    let same = visits_same content es whole are.after in
    let numbered : AreNumbered 0 whole.visits = subst (AreNumbered 0) (sym same) sound.whole.numbered in
    let go : GoOneByOne 1 whole.visits = subst (GoOneByOne 1) (sym same) sound.one_by_one in
    record {
      rise = subst (AreNumbered 0) (sym are.parts.visits) (own_rise archived.stays 0 whole.visits numbered);
      one_by_one = subst (GoOneByOne (m + 1)) (sym (ap (visits_after m) are.parts.visits ∙ own_after archived.stays m later whole.visits)) (go_after m 1 whole.visits (omega arith) go);
    }

-- ---- interchanges

has_reply : (reply : List ℕ) → is_some (reply_if_any reply) ≡ not (length reply == 0)
has_reply [] = refl
has_reply (byte ∷ bytes) = sym (ap not (ne_eqb (length (byte ∷ bytes)) 0 (λ none. absurd (omega arith))))

module _ (content : SetupContent) (es : List Event) (archived : Archived) (own whole : Rows) (are : ArePartsAfter content es archived own whole) where
  abbrev D : List Delivery
  D = deliveries_of content es

  abbrev now : SetupContent
  now = content_after content es

  abbrev taking : Taking MachineState
  taking = taking_in newest content es

  found : (i : Interchange) → Contains own.interchanges i → find (is_pair i.partner i.number) own.interchanges ≡ Some i
  found i inside = found_only (is_pair i.partner i.number) own.interchanges i (once_here archived own whole i.partner i.number are.parts are.after.kept_once) inside (is_pair_at i.partner i.number i refl refl)

  own_text : (i : Interchange) → Contains own.interchanges i → text_in own i.partner i.number ≡ Some i.body
  own_text i inside = ap (option_map (λ (x : Interchange). x.body)) (found i inside)

  own_reply : (i : Interchange) → Contains own.interchanges i → reply_in own i.partner i.number ≡ reply_if_any i.reply
  own_reply i inside = ap (option_and_then (λ (x : Interchange). reply_if_any x.reply)) (found i inside)

  in_whole : (i : Interchange) → Contains own.interchanges i → Contains whole.interchanges i
  in_whole i inside =
      subst (λ l. Contains l i) (sym are.parts.interchanges)
      (contained_has (archived.interchanges ++ own.interchanges) i (has_right archived.interchanges own.interchanges i (has_contained own.interchanges i inside)))

  -- it is the first text that was delivered under its number
  first_of : (i : Interchange) → Contains own.interchanges i → first_text D i.partner i.number ≡ Some i.body
  first_of i inside =
      sym (are.after.texts i.partner i.number)
      ∙ ap (option_map (λ (x : Interchange). x.body)) (found_only (is_pair i.partner i.number) whole.interchanges i (are.after.kept_once i.partner i.number) (in_whole i inside) (is_pair_at i.partner i.number i refl refl))

  none_some : (text : List ℕ) → Some text ≡ None → ⊥
  none_some text e = cc

  -- what is closed the store has not
  past_closed : (i : Interchange) → Contains own.interchanges i → 1 ≤ i.number → i.number ≤ archived.last_closed i.partner → ⊥
  past_closed i inside one within = none_some i.body (sym (own_text i inside) ∙ (numbers_told content es archived own whole i.partner i.number are).own_none one within)

  beyond_closed : (i : Interchange) → Contains own.interchanges i → 1 ≤ i.number → archived.last_closed i.partner < i.number
  beyond_closed i inside one = elim (cases_order (archived.last_closed i.partner) i.number) [
    | inl same ↦ absurd (past_closed i inside one (omega (arith, same)))
    | inr o ↦ elim o [ inl far ↦ far | inr near ↦ absurd (past_closed i inside one (omega (arith, near))) ]
  ]

  not_next : (i : Interchange) → Contains own.interchanges i → i.number ≡ run D i.partner + 1 → ⊥
  not_next i inside at = none_some i.body (sym (first_of i inside) ∙ ap (first_text D i.partner) at ∙ free_after_run D i.partner)

  past_next : (i : Interchange) → Contains own.interchanges i → run D i.partner < i.number → run D i.partner + 1 < i.number
  past_next i inside beyond = elim (cases_order (run D i.partner + 1) i.number) [
    | inl same ↦ absurd (not_next i inside (sym same))
    | inr o ↦ elim o [ inl below ↦ below | inr above ↦ absurd (omega (arith, above, beyond)) ]
  ]

  whole_reply : (i : Interchange) → Contains own.interchanges i → 1 ≤ i.number → reply_in whole i.partner i.number ≡ reply_if_any i.reply
  whole_reply i inside one =
      ap (option_and_then (λ (x : Interchange). reply_if_any x.reply)) (found_beyond archived own whole i.partner i.number are.closed are.parts (beyond_closed i inside one)) ∙ own_reply i inside

  pub is_beyond_closed : (i : Interchange) → Contains own.interchanges i → IsBeyond archived.last_closed (length now.partners) (run D) (number_kept i)
  is_beyond_closed i inside =
      let range = delivered_within content es i.partner i.number i.body (first_of i inside) in
      let reply = whole_reply i inside range.2 in
      record {
        partner_low = range.0;
        partner_high = range.1;
        low = beyond_closed i inside range.2;
        high = range.3;
        taken = λ within. sym (has_reply i.reply) ∙ ap is_some (sym reply ∙ are.after.replies i.partner i.number) ∙ within_replied taking (opening_of now) D i.partner i.number range.2 within;
        waits = λ beyond. (past_next i inside beyond, sym (has_reply i.reply) ∙ ap is_some (sym reply ∙ unreplied newest taking now D whole i.partner i.number are.after (omega (arith, beyond))));
      }

  pub body_found : (o : Option Interchange) → is_some (option_map (λ (x : Interchange). x.body) o) ≡ true → (i : Interchange) × (o ≡ Some i)
  body_found None e = cc
  body_found (Some i) e = (i, refl)

  -- each number beyond what is closed and within the run is there
  complete : (zs : List Interchange) → IsPermutation own.interchanges zs → IsComplete archived.last_closed (run D) 0 (map number_kept zs)
  complete zs same q k some far within =
      let text : is_some (text_in own q k) ≡ true = ap is_some ((numbers_told content es archived own whole q k are).own_text far) ∙ used_within_run D q k (omega (arith, far)) within in
      let there = body_found (find (is_pair q k) own.interchanges) text in
      let here = found_is (is_pair q k) own.interchanges there.0 there.1 in
      let pair = pair_of q k there.0 here.2 in
      let inside : Contains zs there.0 = Contains-permutation own.interchanges zs there.0 same (contained own.interchanges here.0 there.0 here.1) in
      let has : Has there.0.partner there.0.number (map number_kept zs) = has_at zs there.0 inside.0 inside.1 inside.2 in
      subst (λ m. Has q m (map number_kept zs)) pair.1 (subst (λ r. Has r there.0.number (map number_kept zs)) pair.0 has)

  once_in : (zs : List Interchange) → IsPermutation own.interchanges zs → (p n : ℕ) → count_by (is_pair p n) zs ≤ 1
  once_in zs same p n =
      let one : count_by (is_pair p n) zs ≡ count_by (is_pair p n) own.interchanges = sum_by-IsPermutation (λ x. cond (is_pair p n x) 1 0) own.interchanges zs same in
      subst (λ m. m ≤ 1) (sym one) (once_here archived own whole p n are.parts are.after.kept_once)

  kept_in : (zs : List Interchange) → IsPermutation own.interchanges zs → StandInOrder zs → AreKeptBeyond archived.last_closed own.partners (map number_kept zs)
  kept_in zs same stand =
      subst (λ l. AreKeptBeyond archived.last_closed l (map number_kept zs)) (sym (sym are.parts.partners ∙ are.after.partners))
      (all_kept archived.last_closed (length now.partners) (run D) (λ p one most. closed_within content es archived own whole p are) now.partners (map number_kept zs) refl (rise_of zs stand (once_in zs same))
      (all_numbered (IsBeyond archived.last_closed (length now.partners) (run D)) zs (λ i inside. is_beyond_closed i (Contains-permutation zs own.interchanges i (IsPermutation-sym own.interchanges zs same) inside)))
      (complete zs same))

  all_beyond : (xs : List Interchange) → ((i : Interchange) → Contains xs i → Contains own.interchanges i) → filter (is_beyond archived.last_closed) xs ≡ xs
  all_beyond [] each = refl
  all_beyond (x ∷ xs) each =
      let inside = each x (head_in x xs) in
      let range = delivered_within content es x.partner x.number x.body (first_of x inside) in
      ap (λ b. cond b (x ∷ filter (is_beyond archived.last_closed) xs) (filter (is_beyond archived.last_closed) xs)) (far_beyond archived.last_closed x (is_closed archived.last_closed x) refl (beyond_closed x inside range.2))
      ∙ ap (λ l. x ∷ l) (all_beyond xs (λ i here. each i (tail_in x i xs here)))

  module _ (rows : Rows) (left : rows_beyond archived.last_closed rows ≡ own) (zs : List Interchange) (same : IsPermutation rows.interchanges zs) (turn : InTurn (is_before (0 ∷ 1 ∷ []) interchange_values) zs) where
    kept_beyond : AreKeptBeyond archived.last_closed own.partners (numbers_beyond archived.last_closed (map number_kept zs))
    kept_beyond =
        subst (AreKeptBeyond archived.last_closed own.partners) (sym (beyond_numbered archived.last_closed zs))
        (kept_in (filter (is_beyond archived.last_closed) zs)
        (subst (λ l. IsPermutation l (filter (is_beyond archived.last_closed) zs)) (ap (λ (r : Rows). r.interchanges) left) (IsPermutation-filter (is_beyond archived.last_closed) rows.interchanges zs same))
        (order_filtered (is_beyond archived.last_closed) zs (in_order zs turn)))

pub own_beyond : OwnAreBeyond
own_beyond content es archived own whole are = ap (λ l. record own { interchanges = l }) (all_beyond content es archived own whole are own.interchanges (λ i inside. inside))

pub own_numbers : OwnNumbersAreKept
own_numbers content es archived own whole rows db are left has =
    let zs = by_keys (0 ∷ 1 ∷ []) interchange_values rows.interchanges in (
      map number_kept zs.0,
      record {
        interchanges = zs.0;
        shown = shows_records interchange_table (0 ∷ 1 ∷ 3 ∷ []) (0 ∷ 1 ∷ []) interchange_values reply_values rows.interchanges zs.0 db (λ i. refl) has.rows_are.interchanges zs.1 zs.2;
        are = refl;
      },
      kept_beyond content es archived own whole are rows left zs.0 zs.1 zs.2,
    )
