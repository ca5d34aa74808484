-- The rows after a run are those of an office again.
use Rattle.std.{specs.{Prelude.{◌==◌, ◌&&◌}, List.Sorted.IsPermutation, Option.option_or}, proofs.lemmas.List.length-map}
use Rattle.std.proofs.Common.{◌≡◌, ℕ, ◌+◌, ◌<◌, ◌≤◌, List, [], ◌∷◌, length, map, Bool, true, false, cond, None, Some, is_some, refl, sym, ap, subst, ◌∙◌, arith, zero, suc, ◌-◌, inl, inr, Option, ◌≢◌}
use Rattle.std.proofs.lemmas.Bool.{cond-false, cases_order, cond-true, eq-eqb, ne_eqb, cases_eq, eqb-true}
use Rattle.std.proofs.lemmas.List.Sorted.{IsPermutation-map, IsPermutation-refl, IsPermutation-sym, IsPermutation-trans}
use Rattle.sqlite.specs.{Order.Row, Table.Table, Effect.Database}
use Rattle.terminal_core.specs.{State.{TerminalState, IsWhole}, Versions.newest, Forms.IsWellFormed}
use Rattle.office_rows.specs.{Rows.Rows, Values.{partner_values, visit_values, place_values, line_values, setting_values, block_values}, Effects.with_waiting}
use Rattle.office_rows.specs.{Stored.{HasRows, Holds, columns_of}, Shown.{ShowsTable, columns_at}, Office.{settings_by_name, HasAccounts}}
use Rattle.office_rows.specs.{Opened.{OpenedRows, Shows}, Tables.{partner_table, visit_table, place_table, listing_table, block_table, setting_table}}
use Rattle.office_admission.{specs.{Setups.SetupContent, Taking.{MachineState, interchange_taken}}, proofs.Forming.{interchange_formed, terminal_alone}}
use Rattle.office_admission.proofs.Takings.{interchange_leads}
use Rattle.office_loading.specs.{Closed.ClosedContent, Tables.LoadsOwn, Checks.AreOwnVisits}
use Rattle.office_history.{specs.{Cascade.{text_in, TakenContent, AreTakenFrom, texts_with, with_run}, After.{machine_with, reply_in}}, proofs.Kept.shown_in}
use Rattle.office_history.proofs.{Afters.{once_with, pair_is, reply_with, text_with, RunTaken, run_taken}, Accounted.{IsAccounted, interchange_keeps}}
use Rattle.office_history.proofs.Ground.{OnGround, interchange_stays}
use Rattle.office_parts.proofs.OwnOffices.{AreOfOwn, own_shown}
use Rattle.office_desk.proofs.{DeliverLemmas.{keeps_accounts, interchange_keeps_own}, OwnNumbers.{KeepsBeyond, by_interchange}}
use Rattle.partner_core.specs.Cascade.{TakesTexts, for_each_partner}
use Rattle.partner_core.specs.Machine.{Taking}
use Rattle.partner_core.specs.Order.{numbers_above, reply_among}
use Rattle.partner_core.proofs.Orders.{some_of}

-- ==== OfficeSteps: An office's rows in the order of their keys, and what is kept for later.

-- ---- the rows as the tables show them

-- the rows of each table in the order of its keys, and the interchanges as they are
abbrev pub in_order : Rows → OpenedRows → Rows
in_order rows shown = record {
  partners = shown.partners;
  interchanges = rows.interchanges;
  visits = shown.visits;
  places = shown.places;
  lines = shown.lines;
  settings = shown.settings;
  blocks = shown.blocks;
}

holds_shown : {A : Type 0} (table : Table) (columns key : List ℕ) (values : A → Row) (records shown : List A) (db : Database) → ((a : A) → columns_at columns (values a) ≡ values a) → Holds table values records (db.trees table.tree) →
    ShowsTable table columns key db (map values shown) → Holds table values shown (db.trees table.tree)
holds_shown table columns key values records shown db all held it =
    let placed = shown_in table columns key values records db (map values shown) all held it in
    record {
      shaped = held.shaped;
      same = subst (λ l. IsPermutation l (map (columns_of table) (db.trees table.tree))) (sym placed.2)
          (IsPermutation-trans _ _ _ (IsPermutation-sym _ _ (IsPermutation-map values records placed.0 placed.1)) held.same);
    }

-- a database has them too
pub has_in_order : (rows : Rows) (shown : OpenedRows) (db : Database) → HasRows rows db → Shows db shown → HasRows (in_order rows shown) db
has_in_order rows shown db has shows = record {
  schema = has.schema;
  lists = has.lists;
  rows_are = record {
    partners = holds_shown partner_table (0 ∷ 1 ∷ 2 ∷ 3 ∷ []) (0 ∷ []) partner_values rows.partners shown.partners db (λ p. refl) has.rows_are.partners shows.partners;
    interchanges = has.rows_are.interchanges;
    visits = holds_shown visit_table (0 ∷ 1 ∷ 2 ∷ 3 ∷ 4 ∷ 5 ∷ 6 ∷ 7 ∷ 8 ∷ 9 ∷ 10 ∷ 11 ∷ 12 ∷ 13 ∷ 14 ∷ []) (0 ∷ []) visit_values rows.visits shown.visits db (λ v. refl) has.rows_are.visits shows.visits;
    places = holds_shown place_table (0 ∷ 1 ∷ 2 ∷ []) (0 ∷ []) place_values rows.places shown.places db (λ p. refl) has.rows_are.places shows.places;
    lines = holds_shown listing_table (0 ∷ 1 ∷ 2 ∷ 3 ∷ 4 ∷ 5 ∷ []) (0 ∷ 1 ∷ 2 ∷ 3 ∷ []) line_values rows.lines shown.lines db (λ l. refl) has.rows_are.lines shows.lines;
    settings = holds_shown setting_table (0 ∷ 1 ∷ []) (0 ∷ []) setting_values rows.settings shown.settings db (λ s. refl) has.rows_are.settings shows.settings;
    blocks = holds_shown block_table (0 ∷ 1 ∷ 2 ∷ 3 ∷ []) (0 ∷ []) block_values rows.blocks shown.blocks db (λ b. refl) has.rows_are.blocks shows.blocks;
  };
}

-- they are a store's own
pub office_of : (closed : ClosedContent) (content : SetupContent) (rows : Rows) (terminal : TerminalState) (db : Database) → (has : HasRows rows db) → (loads : LoadsOwn closed db content terminal) →
    AreOfOwn closed content (keeps_accounts closed content rows terminal db has loads).0.runs (in_order rows loads.0) terminal
office_of closed content rows terminal db has loads =
    let office = loads.2 in
    let found = keeps_accounts closed content rows terminal db has loads in
    let its = by_interchange closed.last_closed (length content.partners) found.0.runs rows found.0.keeps in
    record {
      given = office.given;
      partners = found.1;
      high = found.0.high;
      keeps = record { once = its.once; range = its.range; beyond = its.beyond; there = its.there; below = its.below };
      by_key = record { same = office.terminal; placed_once = office.placed_once; listed_once = office.listed_once };
      settings = subst (λ l. IsPermutation l (settings_by_name content)) (sym office.settings) (IsPermutation-refl (settings_by_name content));
      blocks = office.blocks;
      plan = office.plan;
      limit = office.limit;
      whole = office.whole;
      own_visits = record { rise = office.own_visits.rise; one_by_one = office.own_visits.one_by_one };
      formed = office.formed;
      accounted = office.accounted;
    }

-- ---- a text more

module _ (rows : Rows) (p k : ℕ) (text : List ℕ) (free : text_in rows p k ≡ None) where
  abbrev is_here : ℕ → ℕ → Bool
  is_here q j = (p == q) && (k == j)

  -- one that waits is kept among the others
  keeps_early : (closed : ℕ → ℕ) (count : ℕ) (runs : ℕ → ℕ) → 1 ≤ p → p ≤ count → k ≤ 999999999 → runs p + 1 < k → KeepsBeyond closed count runs rows → KeepsBeyond closed count runs (with_waiting p k text rows)
  keeps_early closed count runs one most high far keeps = record {
    once = once_with rows p k text free keeps.once;
    within = λ q j t e. within q j t (is_here q j) refl (sym (text_with rows p k text free q j) ∙ e);
    there = λ q j low below. ap is_some (text_with rows p k text free q j) ∙ still q j (is_here q j) (keeps.there q j low below);
    taken = λ q j low below. ap is_some (reply_with rows p k text q j) ∙ keeps.taken q j low below;
    free = λ q. text_with rows p k text free q (runs q + 1) ∙ not_next q (is_here q (runs q + 1)) refl;
    waits = λ q j beyond. reply_with rows p k text q j ∙ keeps.waits q j beyond;
    below = keeps.below;
  }
    where
      within : (q j : ℕ) (t : List ℕ) (b : Bool) → is_here q j ≡ b → cond (is_here q j) (Some text) (text_in rows q j) ≡ Some t → (1 ≤ q) × (q ≤ count) × (1 ≤ j) × (j ≤ 999999999)
      within q j t true e is =
          let here = pair_is p k q j e in
          (omega (arith, here.0, one), omega (arith, here.0, most), omega (arith, here.1, far), omega (arith, here.1, high))
      within q j t false e is = keeps.within q j t (sym (cond-false (is_here q j) (Some text) (text_in rows q j) e) ∙ is)

      still : (q j : ℕ) (b : Bool) → is_some (text_in rows q j) ≡ true → is_some (cond b (Some text) (text_in rows q j)) ≡ true
      still q j true there = refl
      still q j false there = there

      not_next : (q : ℕ) (b : Bool) → is_here q (runs q + 1) ≡ b → cond (is_here q (runs q + 1)) (Some text) (text_in rows q (runs q + 1)) ≡ None
      not_next q true e =
          let here = pair_is p k q (runs q + 1) e in
          let own_run : runs q ≡ runs p = ap runs here.0 in
          absurd (omega (arith, here.1, own_run, far))
      not_next q false e = cond-false (is_here q (runs q + 1)) (Some text) (text_in rows q (runs q + 1)) e ∙ keeps.free q

pub early_loads : (closed : ClosedContent) (content : SetupContent) (rows : Rows) (p k : ℕ) (text : List ℕ) (terminal : TerminalState) (db db' : Database) → (has : HasRows rows db) → (loads : LoadsOwn closed db content terminal) →
    HasRows (with_waiting p k text (in_order rows loads.0)) db' → 1 ≤ p → p ≤ length content.partners → k ≤ 999999999 → (keeps_accounts closed content rows terminal db has loads).0.runs p + 1 < k → text_in rows p k ≡ None → LoadsOwn closed db' content terminal
early_loads closed content rows p k text terminal db db' has loads has' one most high far free =
    let placed : Rows = in_order rows loads.0 in
    let found = (keeps_accounts closed content rows terminal db has loads).0 in
    let keeps = found.keeps in
    let office = office_of closed content rows terminal db has loads in
    let now = by_interchange closed.last_closed (length content.partners) found.runs (with_waiting p k text placed)
    (keeps_early placed p k text free closed.last_closed (length content.partners) found.runs one most high far
    (record { once = keeps.once; within = keeps.within; there = keeps.there; taken = keeps.taken; free = keeps.free; waits = keeps.waits; below = keeps.below })) in
    own_shown closed content found.runs (with_waiting p k text placed) terminal db'
    (record {
      given = office.given;
      partners = office.partners;
      high = office.high;
      keeps = now;
      by_key = record { same = office.by_key.same; placed_once = office.by_key.placed_once; listed_once = office.by_key.listed_once };
      settings = office.settings;
      blocks = office.blocks;
      plan = office.plan;
      limit = office.limit;
      whole = office.whole;
      own_visits = record { rise = office.own_visits.rise; one_by_one = office.own_visits.one_by_one };
      formed = office.formed;
      accounted = office.accounted;
    })
    has'.rows_are

-- ==== RunSteps: What a run leaves of an office's terminal.

-- ---- interchanges, one after the other

-- the machine is sound as that of a store is whose newest closing was that, and stands on the ground of the first
pub record StandsOn (newest_closed : ℕ) (first machine : MachineState) : Type 0 where
  pub ground : OnGround first.terminal machine.terminal
  pub few : length machine.kinds ≤ 999
  pub whole : IsWhole machine.terminal
  pub own_visits : AreOwnVisits newest_closed machine.terminal.visits
  pub formed : IsWellFormed machine.terminal
  pub accounted : IsAccounted first.parties machine

stands_next : (newest_closed : ℕ) (first machine : MachineState) (p : ℕ) (text : List ℕ) → StandsOn newest_closed first machine → StandsOn newest_closed first (interchange_taken machine p text).0
stands_next newest_closed first machine p text stands =
    let stays = interchange_stays newest machine p text in
    let kinds = ap (λ (m : MachineState). length m.kinds) (terminal_alone newest machine p text) in
    record {
      ground = record { plan = stays.plan ∙ stands.ground.plan; limit = stays.limit ∙ stands.ground.limit };
      few = subst (λ n. n ≤ 999) (sym kinds) stands.few;
      whole = (interchange_leads machine p text stands.whole).whole;
      own_visits = interchange_keeps_own newest_closed machine p text stands.whole (record { rise = stands.own_visits.rise; one_by_one = stands.own_visits.one_by_one });
      formed = interchange_formed machine p text stands.few stands.whole stands.formed;
      accounted = interchange_keeps newest first.parties machine p text stands.accounted;
    }

pub run_stands : (newest_closed : ℕ) (first : MachineState) (p : ℕ) (texts : ℕ → Option (List ℕ)) (number : ℕ) (old : MachineState) (taken : List TakenContent) (new : MachineState) → AreTakenFrom p texts number old taken new → StandsOn newest_closed first old →
    StandsOn newest_closed first new
run_stands newest_closed first p texts number old [] new taken stands = subst (StandsOn newest_closed first) (sym taken.1) stands
run_stands newest_closed first p texts number old (t ∷ later) new taken stands =
    run_stands newest_closed first p texts (number + 1) (interchange_taken old p taken.0).0 later new taken.5 (stands_next newest_closed first old p taken.0 stands)

-- ---- the replies of a run

among_some : {S : Type 0} (taken : Taking S) (texts : ℕ → ℕ → List ℕ) (p low n : ℕ) (s : S) (k : ℕ) → low < k → k ≤ low + n → is_some (reply_among taken texts (numbers_above p low n) s p k) ≡ true
among_some taken texts p low zero s k above below = absurd (omega (arith, above, below))
among_some taken texts p low (suc n) s k above below = elim (cases_order (low + 1) k) [
  | inl same ↦
      ap is_some (cond-true ((p == p) && (low + 1 == k)) (Some (taken s p (texts p (low + 1))).1) (reply_among taken texts (numbers_above p (low + 1) n) (taken s p (texts p (low + 1))).0 p k)
      (ap (λ b. b && (low + 1 == k)) (eq-eqb p p refl) ∙ eq-eqb (low + 1) k same))
  | inr o ↦ elim o [
    | inl less ↦
        ap is_some (cond-false ((p == p) && (low + 1 == k)) (Some (taken s p (texts p (low + 1))).1) (reply_among taken texts (numbers_above p (low + 1) n) (taken s p (texts p (low + 1))).0 p k)
        (ap (λ b. b && (low + 1 == k)) (eq-eqb p p refl) ∙ ne_eqb (low + 1) k (λ e. absurd (omega (arith, e, less)))))
        ∙ among_some taken texts p (low + 1) n (taken s p (texts p (low + 1))).0 k less (omega (arith, below))
    | inr more ↦ absurd (omega (arith, more, above))
  ]
]

among_none : {S : Type 0} (taken : Taking S) (texts : ℕ → ℕ → List ℕ) (p low n : ℕ) (s : S) (k : ℕ) → low + n < k → reply_among taken texts (numbers_above p low n) s p k ≡ None
among_none taken texts p low zero s k above = refl
among_none taken texts p low (suc n) s k above =
    cond-false ((p == p) && (low + 1 == k)) (Some (taken s p (texts p (low + 1))).1) (reply_among taken texts (numbers_above p (low + 1) n) (taken s p (texts p (low + 1))).0 p k)
    (ap (λ b. b && (low + 1 == k)) (eq-eqb p p refl) ∙ ne_eqb (low + 1) k (λ e. absurd (omega (arith, e, above))))
    ∙ among_none taken texts p (low + 1) n (taken s p (texts p (low + 1))).0 k (omega (arith, above))

or_some : (one other : Option (List ℕ)) → is_some one ≡ true → is_some (option_or one other) ≡ true
or_some (Some x) other is = refl
or_some None other is = absurd cc

or_other : (one other : Option (List ℕ)) → is_some other ≡ true → is_some (option_or one other) ≡ true
or_other (Some x) other is = refl
or_other None other is = is

-- a number of the run has a reply, one before it its own, and one after it none
module _ {S : Type 0} (taken : Taking S) (p : ℕ) (texts : ℕ → Option (List ℕ)) (count last : ℕ) (replies replies' : ℕ → Option (List ℕ)) (s s' : S) (takes : TakesTexts taken p texts count last replies replies' s s') where
  many : count + (last - count) ≡ last
  many = let grows : count ≤ last = takes.grows in omega arith

  pub reply_before : (k : ℕ) → is_some (replies k) ≡ true → is_some (replies' k) ≡ true
  reply_before k is = ap is_some (takes.replies_are k) ∙ or_some (replies k) _ is

  pub reply_within : (k : ℕ) → count < k → k ≤ last → is_some (replies' k) ≡ true
  reply_within k above below =
      ap is_some (takes.replies_are k)
      ∙ or_other (replies k) _ (among_some taken (for_each_partner texts) p count (last - count) s k above (omega (arith, below, many)))

  pub none_behind : (k : ℕ) → last < k → replies k ≡ None → replies' k ≡ None
  none_behind k above none =
      takes.replies_are k ∙ ap (λ o. option_or o (reply_among taken (for_each_partner texts) (numbers_above p count (last - count)) s p k)) none
      ∙ among_none taken (for_each_partner texts) p count (last - count) s k (omega (arith, above, many))

-- ==== RunLoads: The rows after a run are those of an office again.

module _ (closed : ClosedContent) (content : SetupContent) (rows : Rows) (terminal : TerminalState) (db : Database) (has : HasRows rows db) (loads : LoadsOwn closed db content terminal) (p : ℕ) (text : List ℕ) where
  abbrev placed : Rows
  placed = in_order rows loads.0

  abbrev runs : ℕ → ℕ
  runs = (keeps_accounts closed content rows terminal db has loads).0.runs

  -- what is kept, by number
  keeps : KeepsBeyond closed.last_closed (length content.partners) runs rows
  keeps = (keeps_accounts closed content rows terminal db has loads).0.keeps

  office : AreOfOwn closed content runs placed terminal
  office = office_of closed content rows terminal db has loads

  module _ (k : ℕ) (taken : List TakenContent) (new : TerminalState) (free : text_in rows p k ≡ None) (is_next : k ≡ runs p + 1) (one : 1 ≤ p) (most : p ≤ length content.partners)
      (from : AreTakenFrom p (texts_with rows p k text) k (machine_with content terminal) taken (machine_with content new)) where
    abbrev after : Rows
    after = with_run p k text taken placed

    abbrev last : ℕ
    last = runs p + length taken

    left : RunTaken content.partners runs (machine_with content terminal) placed p k text last after (machine_with content new)
    left = run_taken content.partners runs (machine_with content terminal) (machine_with content new) placed p k text taken office.partners office.whole office.by_key keeps.once
        (λ j later. keeps.waits p j (omega (arith, later))) free is_next from

    -- ---- the accounts and what is kept for them

    abbrev counts : ℕ → ℕ
    counts q = cond (q == p) last (runs q)

    counts_here : counts p ≡ last
    counts_here = cond-true (p == p) last (runs p) (eq-eqb p p refl)

    counts_apart : (q : ℕ) → q ≢ p → counts q ≡ runs q
    counts_apart q apart = cond-false (q == p) last (runs q) (ne_eqb q p apart)

    text_other : (q j : ℕ) → q ≢ p → text_in after q j ≡ text_in rows q j
    text_other q j apart = left.texts q j ∙ ap (λ b. cond (b && (k == j)) (Some text) (text_in rows q j)) (ne_eqb p q (λ e. apart (sym e)))

    text_own : (j : ℕ) → text_in after p j ≡ texts_with rows p k text j
    text_own j = left.texts p j ∙ ap (λ b. cond (b && (k == j)) (Some text) (text_in rows p j)) (eq-eqb p p refl)

    own_range : (j : ℕ) (t : List ℕ) (is : Bool) → (k == j) ≡ is → texts_with rows p k text j ≡ Some t → k ≤ 999999999 → (1 ≤ p) × (p ≤ length content.partners) × (1 ≤ j) × (j ≤ 999999999)
    own_range j t true e there high =
        let here : k ≡ j = eqb-true k j e in
        (one, most, omega (arith, here, is_next), omega (arith, here, high))
    own_range j t false e there high = keeps.within p j t (sym (cond-false (k == j) (Some text) (text_in rows p j) e) ∙ there)

    module _ (high : k ≤ 999999999) where
      within : (q j : ℕ) (t : List ℕ) → text_in after q j ≡ Some t → (1 ≤ q) × (q ≤ length content.partners) × (1 ≤ j) × (j ≤ 999999999)
      within q j t there = elim (cases_eq q p) [
        | inl e ↦
            let own = own_range j t (k == j) refl (sym (text_own j) ∙ ap (λ r. text_in after r j) (sym e) ∙ there) high in
            (omega (arith, e, own.0), omega (arith, e, own.1), own.2, own.3)
        | inr ne ↦ keeps.within q j t (sym (text_other q j ne) ∙ there)
      ]

      text_there : (j : ℕ) → closed.last_closed p < j → j ≤ last → is_some (text_in after p j) ≡ true
      text_there j low below = elim (cases_order (runs p) j) [
        | inl same ↦ own j (k == j) refl low (omega (arith, same))
        | inr o ↦ elim o [ inl above ↦ left.takes.kept j above below | inr before ↦ own j (k == j) refl low (omega (arith, before)) ]
      ]
        where
          own : (j : ℕ) (is : Bool) → (k == j) ≡ is → closed.last_closed p < j → j ≤ runs p → is_some (text_in after p j) ≡ true
          own j true e low below = ap is_some (text_own j) ∙ ap is_some (cond-true (k == j) (Some text) (text_in rows p j) e)
          own j false e low below = ap is_some (text_own j) ∙ ap is_some (cond-false (k == j) (Some text) (text_in rows p j) e) ∙ keeps.there p j low below

      reply_there : (j : ℕ) → closed.last_closed p < j → j ≤ last → is_some (reply_in after p j) ≡ true
      reply_there j low below = elim (cases_order (runs p) j) [
        | inl same ↦ before j low (omega (arith, same))
        | inr o ↦ elim o [
          | inl above ↦ reply_within interchange_taken p (text_in after p) (runs p) last (reply_in placed p) (reply_in after p) (machine_with content terminal) (machine_with content new) left.takes j above below
          | inr behind ↦ before j low (omega (arith, behind))
        ]
      ]
        where
          before : (j : ℕ) → closed.last_closed p < j → j ≤ runs p → is_some (reply_in after p j) ≡ true
          before j low below =
              reply_before interchange_taken p (text_in after p) (runs p) last (reply_in placed p) (reply_in after p) (machine_with content terminal) (machine_with content new) left.takes j (keeps.taken p j low below)

      numbers : KeepsBeyond closed.last_closed (length content.partners) counts after
      numbers = record {
        once = left.once;
        within = within;
        there = λ q j low below. elim (cases_eq q p) [
          | inl e ↦ ap (λ r. is_some (text_in after r j)) e ∙ text_there j (subst (λ r. closed.last_closed r < j) e low) (omega (arith, below, ap counts e, counts_here))
          | inr ne ↦ ap is_some (text_other q j ne) ∙ keeps.there q j low (omega (arith, below, counts_apart q ne))
        ];
        taken = λ q j low below. elim (cases_eq q p) [
          | inl e ↦ ap (λ r. is_some (reply_in after r j)) e ∙ reply_there j (subst (λ r. closed.last_closed r < j) e low) (omega (arith, below, ap counts e, counts_here))
          | inr ne ↦ ap is_some (left.other q j ne) ∙ keeps.taken q j low (omega (arith, below, counts_apart q ne))
        ];
        free = λ q. elim (cases_eq q p) [
          | inl e ↦ ap (λ r. text_in after r (counts r + 1)) e ∙ ap (λ n. text_in after p (n + 1)) counts_here ∙ left.ends
          | inr ne ↦ ap (λ n. text_in after q (n + 1)) (counts_apart q ne) ∙ text_other q (runs q + 1) ne ∙ keeps.free q
        ];
        waits = λ q j beyond. elim (cases_eq q p) [
          | inl e ↦
              ap (λ r. reply_in after r j) e
              ∙ none_behind interchange_taken p (text_in after p) (runs p) last (reply_in placed p) (reply_in after p) (machine_with content terminal) (machine_with content new) left.takes j
              (omega (arith, beyond, ap counts e, counts_here))
              (keeps.waits p j (omega (arith, beyond, ap counts e, counts_here)))
          | inr ne ↦ left.other q j ne ∙ keeps.waits q j (omega (arith, beyond, counts_apart q ne))
        ];
        below = λ q one' most'. (
            let low = keeps.below q one' most' in
            elim (cases_eq q p) [
              | inl e ↦ omega (arith, low, ap runs e, ap counts e, counts_here)
              | inr ne ↦ omega (arith, low, counts_apart q ne)
            ]);
      }

      last_high : last ≤ 999999999
      last_high = elim (cases_order (length taken) 0) [
        | inl none ↦ omega (arith, none, office.high p)
        | inr o ↦ elim o [
          | inl less ↦ absurd (omega (arith, less))
          | inr some ↦
              let there = some_of (text_in after p last) (text_there last (omega (arith, some, keeps.below p one most)) (omega arith)) in
              (within p last there.0 there.1).3
        ]
      ]

      counts_high : (q : ℕ) → counts q ≤ 999999999
      counts_high q = at (q == p)
        where
          at : (is : Bool) → cond is last (runs q) ≤ 999999999
          at true = last_high
          at false = office.high q

      -- ---- the terminal

      stands : StandsOn closed.newest_closed (machine_with content terminal) (machine_with content new)
      stands = run_stands closed.newest_closed (machine_with content terminal) p (texts_with rows p k text) k (machine_with content terminal) taken (machine_with content new) from
          (record {
            ground = record { plan = refl; limit = refl };
            few = subst (λ n. n ≤ 999) (sym (length-map content.partners _)) office.given.counted.1;
            whole = office.whole;
            own_visits = record { rise = office.own_visits.rise; one_by_one = office.own_visits.one_by_one };
            formed = office.formed;
            accounted = record { own = refl; visits = λ v inside. subst (λ n. HasAccounts n v) (sym (length-map content.partners _)) (office.accounted v inside) };
          })

      -- ---- all tables

      pub run_loads : (db' : Database) → HasRows after db' → LoadsOwn closed db' content new
      run_loads db' has' =
          own_shown closed content counts after new db'
          (record {
            given = office.given;
            partners = left.partners;
            high = counts_high;
            keeps = by_interchange closed.last_closed (length content.partners) counts after numbers;
            by_key = left.by_key;
            settings = subst (λ l. IsPermutation l (settings_by_name content)) (sym left.settings) office.settings;
            blocks = left.blocks ∙ office.blocks;
            plan = stands.ground.plan ∙ office.plan;
            limit = stands.ground.limit ∙ office.limit;
            whole = stands.whole;
            own_visits = record { rise = stands.own_visits.rise; one_by_one = stands.own_visits.one_by_one };
            formed = stands.formed;
            accounted = λ v inside. subst (λ n. HasAccounts n v) (length-map content.partners _) (stands.accounted.visits v inside);
          })
          has'.rows_are
