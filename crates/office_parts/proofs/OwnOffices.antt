-- Rows of which some were put away: what a database shows of them are a store's own.
use Rattle.std.specs.Prelude.{Contains, codes, count_by, filter, not, nat_le}
use Rattle.std.specs.List.{AllByRecursion}
use Rattle.std.specs.List.Sorted.{IsPermutation}
use Rattle.std.proofs.lemmas.Bool.{leb-true, leb-false}
use Rattle.std.proofs.Common.{◌≡◌, suc, ◌⊎◌, ℕ, ◌+◌, ◌<◌, ◌≤◌, inl, inr, List, [], ◌∷◌, length, map, All, Bool, true, false, cond, refl, sym, ap, subst, ◌∙◌, arith, Equal}
use Rattle.std.proofs.lemmas.List.Elements.{All-cons, All-nil}
use Rattle.std.proofs.lemmas.List.Sorted.{IsPermutation-refl, IsPermutation-sym, Contains-permutation, sum_by-IsPermutation}
use Rattle.sqlite.specs.Effect.{Database}
use Rattle.edi_messages.specs.declared.codes.PartnerKind.{PartnerKind}
use Rattle.terminal_core.specs.{Changes.{TerminalRows, rows_of}, Forms.IsWellFormed, Rows.VisitContent, State.{TerminalState, IsWhole}}
use Rattle.office_admission.specs.{Given.IsGiven, Setups.SetupContent}
use Rattle.office_rows.specs.{Rows.{Partner, Interchange, Rows}, Stored.AreRows, Effects.{stands_for, is_line, is_pair}}
use Rattle.office_rows.specs.Values.{partner_values, interchange_values, visit_values, place_values, line_values, setting_values, block_values}
use Rattle.office_rows.specs.{Opened.{NumberKept, number_kept, reply_values, OpenedRows, Shows}, Office.{settings_by_name, AreAccounts, HasAccounts}}
use Rattle.office_rows.specs.Tables.{partner_table, interchange_table, visit_table, place_table, listing_table, block_table, setting_table as settings_table}
use Rattle.office_loading.specs.{Checks.{numbers_beyond, AreKeptBeyond, AreOwnVisits}, Closed.ClosedContent}
use Rattle.office_loading.specs.OwnOffice.{ComesAfter, AreInOrder, IsClosedBelow, AreOwnNumbers, IsOwnOffice}
use Rattle.office_history.{specs.{After.{AreKeptOnce, accounts_from}, Laws.AreRowsByKey}, proofs.Kept.{Starts, Rise, Has, accounts_are, Rises, count_more}}
use Rattle.office_history.proofs.Loads.{accounts_rise, numbered_rise, letter_key, blocks_rise, any_head, places_same, lines_same}
use Rattle.office_history.proofs.{Runs.{InTurn, is_before, shows_records, by_keys}, KeptNumbers.{all_numbered, has_at}}
use Rattle.office_history.proofs.Offices.{not_before, not_before_byte, rising_in_turn, text_after}
use Rattle.office_parts.{specs.Closing.is_beyond, proofs.{Opening.{IsBeyond, IsComplete, all_kept}, Splits.{Has as HasElement, has_contained, contained_has}}}
use Rattle.office_parts.proofs.Orders.{in_order, order_filtered, rise_of, beyond_numbered}

-- ---- keys in order

settings_in_turn : (content : SetupContent) → InTurn (is_before (0 ∷ []) setting_values) (settings_by_name content)
settings_in_turn content = (
  text_after (codes "discharge-report") (codes "discharge-list") refl,
  (
    text_after (codes "gate-in") (codes "discharge-report") refl,
    (
      text_after (codes "gate-out") (codes "gate-in") refl,
      (
        text_after (codes "load-list") (codes "gate-out") refl,
        (
          text_after (codes "load-report") (codes "load-list") refl,
          (
            text_after (codes "terminal") (codes "load-report") refl,
            (
              text_after (codes "version") (codes "terminal") refl,
              (
                text_after (codes "visits") (codes "version") refl,
                (
                  text_after (codes "yard-move") (codes "visits") refl,
                  (tt, tt),
                ),
              ),
            ),
          ),
        ),
      ),
    ),
  ),
)

-- ---- the interchanges beyond what is closed

module _ (closed : ℕ → ℕ) where
  abbrev pub far : Interchange → Bool
  far = is_beyond closed

  had_beyond : (xs : List Interchange) (i : Interchange) → HasElement xs i → closed i.partner < i.number → HasElement (filter far xs) i
  had_beyond [] i has above = absurd has
  had_beyond (x ∷ xs) i has above = by (nat_le x.number (closed x.partner)) refl has (λ later. had_beyond xs i later above)
    where
      by : (low : Bool) → nat_le x.number (closed x.partner) ≡ low → HasElement (x ∷ xs) i → (HasElement xs i → HasElement (filter far xs) i) → HasElement (cond (not low) (x ∷ filter far xs) (filter far xs)) i
      by true e (inl here) more =
          let its : closed x.partner < x.number = subst (λ (y : Interchange). closed y.partner < y.number) (sym here) above in
          absurd (omega (arith, leb-true x.number (closed x.partner) e, its))
      by true e (inr later) more = more later
      by false e (inl here) more = inl here
      by false e (inr later) more = inr (more later)

  only_beyond : (xs : List Interchange) (i : Interchange) → HasElement (filter far xs) i → (HasElement xs i) × (closed i.partner < i.number)
  only_beyond [] i has = absurd has
  only_beyond (x ∷ xs) i has = by (nat_le x.number (closed x.partner)) refl has (λ here. only_beyond xs i here)
    where
      by : (low : Bool) → nat_le x.number (closed x.partner) ≡ low → HasElement (cond (not low) (x ∷ filter far xs) (filter far xs)) i → (HasElement (filter far xs) i → (HasElement xs i) × (closed i.partner < i.number)) → (HasElement (x ∷ xs) i) × (closed i.partner < i.number)
      by true e here more = let rest = more here in (inr rest.0, rest.1)
      by false e (inl here) more = (inl here, subst (λ (y : Interchange). closed y.partner < y.number) here (leb-false x.number (closed x.partner) e))
      by false e (inr later) more = let rest = more later in (inr rest.0, rest.1)

  pub beyond_in : (xs : List Interchange) (i : Interchange) → Contains xs i → closed i.partner < i.number → Contains (filter far xs) i
  beyond_in xs i inside above = contained_has (filter far xs) i (had_beyond xs i (has_contained xs i inside) above)

  pub in_beyond : (xs : List Interchange) (i : Interchange) → Contains (filter far xs) i → Contains xs i × (closed i.partner < i.number)
  in_beyond xs i inside = let its = only_beyond xs i (has_contained (filter far xs) i inside) in (contained_has xs i its.0, its.1)

-- ---- what is kept

-- Beyond what is closed each number up to its partner's run was taken, and those beyond it wait. No number is kept twice,
-- and each is of an account.
pub record KeepsOwn (closed : ℕ → ℕ) (count : ℕ) (runs : ℕ → ℕ) (rows : Rows) : Type 0 where
  pub once : AreKeptOnce rows.interchanges
  pub range : (i : Interchange) → Contains rows.interchanges i → (1 ≤ i.partner) × (i.partner ≤ count) × (1 ≤ i.number) × (i.number ≤ 999999999)
  pub beyond : (i : Interchange) → Contains rows.interchanges i → closed i.partner < i.number → IsBeyond closed count runs (number_kept i)
  pub there : (p k : ℕ) → closed p < k → k ≤ runs p → (i : Interchange) × Contains rows.interchanges i × (i.partner ≡ p) × (i.number ≡ k)
  pub below : (p : ℕ) → 1 ≤ p → p ≤ count → closed p ≤ runs p

fewer_left : {A : Type 0} (p q : A → Bool) (xs : List A) → count_by p (filter q xs) ≤ count_by p xs
fewer_left p q [] = omega arith
fewer_left p q (x ∷ xs) = by (q x) (p x) refl (fewer_left p q xs)
  where
    by : (own is : Bool) → p x ≡ is → count_by p (filter q xs) ≤ count_by p xs → count_by p (cond own (x ∷ filter q xs) (filter q xs)) ≤ count_by p (x ∷ xs)
    by true is e rest = omega (arith, count_more p x (filter q xs) is e, count_more p x xs is e, rest)
    by false is e rest = omega (arith, count_more p x xs is e, rest)

module _ (closed : ℕ → ℕ) (count : ℕ) (runs : ℕ → ℕ) (rows : Rows) (keeps : KeepsOwn closed count runs rows) (zs : List Interchange) (same : IsPermutation rows.interchanges zs) (turn : InTurn (is_before (0 ∷ 1 ∷ []) interchange_values) zs) where
  abbrev numbers : List NumberKept
  numbers = map number_kept zs

  back : (i : Interchange) → Contains zs i → Contains rows.interchanges i
  back i inside = Contains-permutation zs rows.interchanges i (IsPermutation-sym rows.interchanges zs same) inside

  once_in : (p k : ℕ) → count_by (is_pair p k) zs ≤ 1
  once_in p k =
      let one : count_by (is_pair p k) zs ≡ count_by (is_pair p k) rows.interchanges = sum_by-IsPermutation (λ x. cond (is_pair p k x) 1 0) rows.interchanges zs same in
      subst (λ n. n ≤ 1) (sym one) (keeps.once p k)

  abbrev IsRanged : NumberKept → Type 0
  IsRanged n = (1 ≤ n.partner) × (n.partner ≤ count) × (1 ≤ n.number) × (n.number ≤ 999999999)

  ranged : AllByRecursion IsRanged numbers
  ranged = all_numbered IsRanged zs (λ i inside. keeps.range i (back i inside))

  ordered : (p k : ℕ) (ns : List NumberKept) → Starts p k ns → Rise ns → AllByRecursion IsRanged ns → AreInOrder count p k ns
  ordered p k [] starts rise all = tt
  ordered p k (n ∷ ns) starts rise all = ((after starts, all.0.1, all.0.3), ordered n.partner n.number ns rise.0 rise.1 all.1)
    where
      after : (p < n.partner) ⊎ ((n.partner ≡ p) × (k < n.number)) → ComesAfter p k n
      after (inl far) = inr (far, all.0.2)
      after (inr near) = inl near

  starts_from : (ns : List NumberKept) → AllByRecursion IsRanged ns → Starts 1 0 ns
  starts_from [] all = tt
  starts_from (n ∷ ns) all = at (nat_le n.partner 1) refl
    where
      at : (first : Bool) → nat_le n.partner 1 ≡ first → (1 < n.partner) ⊎ ((n.partner ≡ 1) × (0 < n.number))
      at true e = inr (omega (arith, leb-true n.partner 1 e, all.0.0), all.0.2)
      at false e = inl (leb-false n.partner 1 e)

  complete : IsComplete closed runs 0 (map number_kept (filter (far closed) zs))
  complete q k some above within =
      let there = keeps.there q k above within in
      let its : closed there.0.partner < there.0.number = subst (λ n. closed there.0.partner < n) (sym there.3) (subst (λ r. closed r < k) (sym there.2) above) in
      let inside = beyond_in closed zs there.0 (Contains-permutation rows.interchanges zs there.0 same there.1) its in
      let has : Has there.0.partner there.0.number (map number_kept (filter (far closed) zs)) = has_at (filter (far closed) zs) there.0 inside.0 inside.1 inside.2 in
      subst (λ m. Has q m (map number_kept (filter (far closed) zs))) there.3 (subst (λ r. Has r there.0.number (map number_kept (filter (far closed) zs))) there.2 has)

  fewer_beyond : (p k : ℕ) → count_by (is_pair p k) (filter (far closed) zs) ≤ 1
  fewer_beyond p k = omega (arith, fewer_left (is_pair p k) (far closed) zs, once_in p k)

  kept_beyond : (accounts : List (List ℕ × PartnerKind)) → length accounts ≡ count → AreKeptBeyond closed (accounts_from 1 (λ p. runs p + 1) accounts) (numbers_beyond closed numbers)
  kept_beyond accounts counted =
      subst (AreKeptBeyond closed (accounts_from 1 (λ p. runs p + 1) accounts)) (sym (beyond_numbered closed zs))
      (all_kept closed count runs keeps.below accounts (map number_kept (filter (far closed) zs)) counted (rise_of (filter (far closed) zs) (order_filtered (far closed) zs (in_order zs turn)) fewer_beyond)
      (all_numbered (IsBeyond closed count runs) (filter (far closed) zs) (λ i inside. (let its = in_beyond closed zs i inside in keeps.beyond i (back i its.0) its.1)))
      complete)

  below_all : (id : ℕ) (accounts : List (List ℕ × PartnerKind)) → 1 ≤ id → id + length accounts ≡ count + 1 → All (IsClosedBelow closed) (accounts_from id (λ p. runs p + 1) accounts)
  below_all id [] one ends = All-nil (IsClosedBelow closed)
  below_all id (account ∷ accounts) one ends =
      let most : id ≤ count = omega (arith, ends) in
      All-cons (IsClosedBelow closed) _ (accounts_from (id + 1) (λ p. runs p + 1) accounts) (omega (arith, keeps.below id one most)) (below_all (id + 1) accounts (omega arith) (omega (arith, ends)))

  many_from : (id : ℕ) (f : ℕ → ℕ) (accounts : List (List ℕ × PartnerKind)) → length (accounts_from id f accounts) ≡ length accounts
  many_from id f [] = refl
  many_from id f (account ∷ accounts) = ap suc (many_from (id + 1) f accounts)

  pub own_numbers_of : (accounts : List (List ℕ × PartnerKind)) → length accounts ≡ count → AreOwnNumbers closed (accounts_from 1 (λ p. runs p + 1) accounts) numbers
  own_numbers_of accounts counted = record {
    in_order = subst (λ n. AreInOrder n 1 0 numbers) (sym (many_from 1 (λ p. runs p + 1) accounts ∙ counted)) (ordered 1 0 numbers (starts_from numbers ranged) (rise_of zs (in_order zs turn) once_in) ranged);
    below = below_all 1 accounts (omega arith) (omega (arith, counted));
    kept = kept_beyond accounts counted;
  }

-- ---- all of them

-- the rows, accounts, visits and blocks in the order of their keys, are a store's own, of a set-up and a terminal
pub record AreOfOwn (closed : ClosedContent) (content : SetupContent) (runs : ℕ → ℕ) (rows : Rows) (state : TerminalState) : Type 0 where
  pub given : IsGiven content
  pub partners : rows.partners ≡ accounts_from 1 (λ p. runs p + 1) content.partners
  pub high : (p : ℕ) → runs p ≤ 999999999
  pub keeps : KeepsOwn closed.last_closed (length content.partners) runs rows
  pub by_key : AreRowsByKey rows (rows_of state)
  pub settings : IsPermutation rows.settings (settings_by_name content)
  pub blocks : rows.blocks ≡ content.blocks
  pub plan : state.yard.plan ≡ content.blocks
  pub limit : state.limit ≡ content.visit_limit
  pub whole : IsWhole state
  pub own_visits : AreOwnVisits closed.newest_closed state.visits
  pub formed : IsWellFormed state
  pub accounted : (visit : VisitContent) → Contains state.visits visit → HasAccounts (length content.partners) visit

module _ (closed : ClosedContent) (content : SetupContent) (runs : ℕ → ℕ) (rows : Rows) (state : TerminalState) (db : Database) (are : AreOfOwn closed content runs rows state) (has : AreRows rows db.trees) where
  visits_are : rows.visits ≡ state.visits
  visits_are = ap (λ (r : TerminalRows). r.visits) are.by_key.same

  partners_in_turn : InTurn (is_before (0 ∷ []) partner_values) rows.partners
  partners_in_turn =
      rising_in_turn (λ (p : Partner). p.id) (is_before (0 ∷ []) partner_values) (λ x y below. not_before y.id x.id Equal below) 0 rows.partners
      (subst (Rises (λ (p : Partner). p.id) 0) (sym are.partners) (accounts_rise 1 0 (λ p. runs p + 1) content.partners refl))

  visits_in_turn : InTurn (is_before (0 ∷ []) visit_values) rows.visits
  visits_in_turn =
      rising_in_turn (λ (v : VisitContent). v.number) (is_before (0 ∷ []) visit_values) (λ x y below. not_before y.number x.number Equal below) 0 rows.visits
      (subst (Rises (λ (v : VisitContent). v.number) 0) (sym visits_are) (numbered_rise 0 state.visits are.whole.numbered))

  blocks_in_turn : InTurn (is_before (0 ∷ []) block_values) rows.blocks
  blocks_in_turn =
      rising_in_turn letter_key (is_before (0 ∷ []) block_values) (λ x y below. not_before_byte y.letter x.letter Equal (omega arith)) 0 rows.blocks
      (subst (Rises letter_key 0) (sym are.blocks) (blocks_rise 0 content.blocks are.given.by_letter are.given.plan.apart (any_head content.blocks)))

  abbrev InOrderBy : {A : Type 0} → (A → A → Bool) → List A → Type 0
  InOrderBy {A} lt records = (zs : List A) × IsPermutation records zs × InTurn lt zs

  module _ (interchanges : InOrderBy (is_before (0 ∷ 1 ∷ []) interchange_values) rows.interchanges) (places : InOrderBy (is_before (0 ∷ []) place_values) rows.places)
      (lines : InOrderBy (is_before (0 ∷ 1 ∷ 2 ∷ 3 ∷ []) line_values) rows.lines) where
    abbrev shown : OpenedRows
    shown = record {
      partners = rows.partners;
      numbers = map number_kept interchanges.0;
      visits = rows.visits;
      places = places.0;
      lines = lines.0;
      settings = settings_by_name content;
      blocks = rows.blocks;
    }

    shows : Shows db shown
    shows = record {
      partners = shows_records partner_table (0 ∷ 1 ∷ 2 ∷ 3 ∷ []) (0 ∷ []) partner_values partner_values rows.partners rows.partners db (λ p. refl) has.partners (IsPermutation-refl rows.partners) partners_in_turn;
      numbers = record {
        interchanges = interchanges.0;
        shown = shows_records interchange_table (0 ∷ 1 ∷ 3 ∷ []) (0 ∷ 1 ∷ []) interchange_values reply_values rows.interchanges interchanges.0 db (λ i. refl) has.interchanges interchanges.1 interchanges.2;
        are = refl;
      };
      visits = shows_records visit_table (0 ∷ 1 ∷ 2 ∷ 3 ∷ 4 ∷ 5 ∷ 6 ∷ 7 ∷ 8 ∷ 9 ∷ 10 ∷ 11 ∷ 12 ∷ 13 ∷ 14 ∷ []) (0 ∷ []) visit_values visit_values rows.visits rows.visits db (λ v. refl) has.visits (IsPermutation-refl rows.visits) visits_in_turn;
      places = shows_records place_table (0 ∷ 1 ∷ 2 ∷ []) (0 ∷ []) place_values place_values rows.places places.0 db (λ p. refl) has.places places.1 places.2;
      lines = shows_records listing_table (0 ∷ 1 ∷ 2 ∷ 3 ∷ 4 ∷ 5 ∷ []) (0 ∷ 1 ∷ 2 ∷ 3 ∷ []) line_values line_values rows.lines lines.0 db (λ l. refl) has.lines lines.1 lines.2;
      settings = shows_records settings_table (0 ∷ 1 ∷ []) (0 ∷ []) setting_values setting_values rows.settings (settings_by_name content) db (λ s. refl) has.settings are.settings (settings_in_turn content);
      blocks = shows_records block_table (0 ∷ 1 ∷ 2 ∷ 3 ∷ []) (0 ∷ []) block_values block_values rows.blocks rows.blocks db (λ b. refl) has.blocks (IsPermutation-refl rows.blocks) blocks_in_turn;
    }

    office : IsOwnOffice closed shown content state
    office = record {
      given = are.given;
      settings = refl;
      blocks = are.blocks;
      accounts = subst (λ l. AreAccounts 1 l content.partners) (sym are.partners) (accounts_are 1 runs content.partners are.high);
      own_numbers = subst (λ l. AreOwnNumbers closed.last_closed l (map number_kept interchanges.0)) (sym are.partners)
          (own_numbers_of closed.last_closed (length content.partners) runs rows are.keeps interchanges.0 interchanges.1 interchanges.2 content.partners refl);
      plan = are.plan;
      limit = are.limit;
      whole = are.whole;
      own_visits = are.own_visits;
      formed = are.formed;
      accounted = are.accounted;
      placed_once = λ container. subst (λ n. n ≤ 1) (sym (sum_by-IsPermutation (λ p. cond (stands_for container p) 1 0) rows.places places.0 places.1)) (are.by_key.placed_once container);
      listed_once = λ call side container. subst (λ n. n ≤ 1) (sym (sum_by-IsPermutation (λ l. cond (is_line call side container l) 1 0) rows.lines lines.0 lines.1)) (are.by_key.listed_once call side container);
      terminal = (λ i. record { visits = rows.visits; places = places_same rows.places places.0 are.by_key.placed_once places.1 i; lines = lines_same rows.lines lines.0 are.by_key.listed_once lines.1 i }) ∙ are.by_key.same;
    }

  -- a database shows them
  pub own_shown : (shown : OpenedRows) × Shows db shown × IsOwnOffice closed shown content state
  own_shown =
      let interchanges = by_keys (0 ∷ 1 ∷ []) interchange_values rows.interchanges in
      let places = by_keys (0 ∷ []) place_values rows.places in
      let lines = by_keys (0 ∷ 1 ∷ 2 ∷ 3 ∷ []) line_values rows.lines in
      (shown interchanges places lines, shows interchanges places lines, office interchanges places lines)
