-- The store's tables show a store's own rows, whichever closed interchanges still stand there.
use Rattle.std.{specs.{Prelude.{Contains, find, filter}, List.Sorted.IsPermutation, Option.option_map}, proofs.lemmas.Bool.cases_order}
use Rattle.std.proofs.Common.{◌≡◌, [], ◌∷◌, ℕ, ◌<◌, ◌≤◌, inl, inr, List, length, true, Some, is_some, refl, sym, ap, subst, ◌∙◌, arith}
use Rattle.partner_core.{specs.Deliveries.{Delivery, first_text, run}, proofs.Orders.{some_of, used_within_run}}
use Rattle.terminal_core.{specs.{Changes.{TerminalRows, rows_of}, State.TerminalState, Versions.newest}, proofs.{Indexed.found_is, Whole.contained}}
use Rattle.office_admission.{specs.{Given.IsGiven, Setups.SetupContent}, proofs.Adding.given_after}
use Rattle.office_replies.specs.Events.{Event}
use Rattle.office_rows.specs.{Effects.is_pair, Office.settings_by_name, Opening.settings_in, Rows.{Interchange, Rows}}
use Rattle.office_rows.specs.ByKey.{terminal_rows, ArePlacedOnce, AreListedOnce}
use Rattle.office_loading.specs.Checks.{AreOwnVisits}
use Rattle.office_history.{specs.{After.{AreKeptOnce, content_after, deliveries_of, opening_of, machine_after}, Cascade.text_in}, proofs.Ground.state_on_ground}
use Rattle.office_history.proofs.{Accounted.{state_accounted, delivered_within}, Runs.{is_pair_at, pair_of}, Kept.found_only}
use Rattle.office_parts.specs.{OwnTerminal.{is_own, own_visits, own_terminal, MayStay}, Parts.{Archived, ArePartsAfter}, Closing.is_beyond}
use Rattle.office_parts.{specs.{LeftOver.rows_beyond, Laws.OwnRowsAreOwnOffice}, proofs.{Takings.{visits_same, own_rows}, Orders.{numbers_told, closed_within}}}
use Rattle.office_parts.proofs.Opening.{sound_after, own_visits_go, is_beyond_closed, body_found}
use Rattle.office_parts.proofs.OwnOffices.{KeepsOwn, AreOfOwn, beyond_in, in_beyond, own_shown}
use Rattle.office_parts.proofs.Splits.{has_contained, contained_has, had_filtered, own_sound}

-- the settings by their names, as exchanges of two at a time give them, the last first
settings_shuffled : (content : SetupContent) → IsPermutation (settings_in newest content) (settings_by_name content)
settings_shuffled content = record {
  moves = (7, 8) ∷ (6, 8) ∷ (5, 9) ∷ (4, 7) ∷ (3, 4) ∷ (2, 3) ∷ (1, 8) ∷ (0, 6) ∷ [];
  below = (omega arith, omega arith, (omega arith, omega arith, (omega arith, omega arith, (omega arith, omega arith, (omega arith, omega arith, (omega arith, omega arith, (omega arith, omega arith, (omega arith, omega arith, tt))))))));
  is = refl;
}

-- no run goes past the numbers of interchanges
run_high : (content : SetupContent) (es : List Event) (p : ℕ) → run (deliveries_of content es) p ≤ 999999999
run_high content es p = elim (cases_order (run (deliveries_of content es) p) 0) [
  | inl none ↦ omega arith
  | inr o ↦ elim o [
    | inl below ↦ absurd (omega arith)
    | inr some ↦
        let last = some_of (first_text (deliveries_of content es) p (run (deliveries_of content es) p)) (used_within_run (deliveries_of content es) p (run (deliveries_of content es) p) (omega arith) (omega arith)) in
        (delivered_within content es p (run (deliveries_of content es) p) last.0 last.1).3
  ]
]

module _ (content : SetupContent) (es : List Event) (archived : Archived) (own whole rows : Rows) (newest_closed : ℕ) (given : IsGiven content) (are : ArePartsAfter content es archived own whole)
    (left : rows_beyond archived.last_closed rows ≡ own) (once : AreKeptOnce rows.interchanges) (of_whole : (i : Interchange) → Contains rows.interchanges i → Contains whole.interchanges i)
    (later : (number : ℕ) → newest_closed < number → archived.stays number ≡ true) where
  abbrev D : List Delivery
  D = deliveries_of content es

  abbrev now : SetupContent
  now = content_after content es

  abbrev theirs : TerminalState
  theirs = (machine_after content es).terminal

  abbrev mine : TerminalState
  mine = own_terminal archived.stays theirs

  abbrev closed : ℕ → ℕ
  closed = archived.last_closed

  first_of : (i : Interchange) → Contains rows.interchanges i → first_text D i.partner i.number ≡ Some i.body
  first_of i inside =
      sym (are.after.texts i.partner i.number)
      ∙ ap (option_map (λ (x : Interchange). x.body)) (found_only (is_pair i.partner i.number) whole.interchanges i (are.after.kept_once i.partner i.number) (of_whole i inside) (is_pair_at i.partner i.number i refl refl))

  interchanges_are : filter (is_beyond closed) rows.interchanges ≡ own.interchanges
  interchanges_are = ap (λ (r : Rows). r.interchanges) left

  in_own : (i : Interchange) → Contains rows.interchanges i → closed i.partner < i.number → Contains own.interchanges i
  in_own i inside far = subst (λ l. Contains l i) interchanges_are (beyond_in closed rows.interchanges i inside far)

  in_rows : (i : Interchange) → Contains own.interchanges i → Contains rows.interchanges i
  in_rows i inside = (in_beyond closed rows.interchanges i (subst (λ l. Contains l i) (sym interchanges_are) inside)).0

  there : (p k : ℕ) → closed p < k → k ≤ run D p → (i : Interchange) × Contains rows.interchanges i × (i.partner ≡ p) × (i.number ≡ k)
  there p k far within =
      let text : is_some (text_in own p k) ≡ true = ap is_some ((numbers_told content es archived own whole p k are).own_text far) ∙ used_within_run D p k (omega (arith, far)) within in
      let found = body_found content es archived own whole are (find (is_pair p k) own.interchanges) text in
      let here = found_is (is_pair p k) own.interchanges found.0 found.1 in
      let pair = pair_of p k found.0 here.2 in
      (found.0, in_rows found.0 (contained own.interchanges here.0 found.0 here.1), pair.0, pair.1)

  keeps : KeepsOwn closed (length now.partners) (run D) rows
  keeps = record {
    once = once;
    range = λ i inside. delivered_within content es i.partner i.number i.body (first_of i inside);
    beyond = λ i inside far. is_beyond_closed content es archived own whole are i (in_own i inside far);
    there = there;
    below = λ p one most. closed_within content es archived own whole p are;
  }

  may : MayStay archived.stays theirs.visits
  may = subst (MayStay archived.stays) (visits_same content es whole are.after) are.stay

  places_are : rows.places ≡ whole.places
  places_are = ap (λ (r : Rows). r.places) left ∙ sym are.parts.places

  lines_are : rows.lines ≡ whole.lines
  lines_are = ap (λ (r : Rows). r.lines) left ∙ sym are.parts.lines

  same : terminal_rows rows ≡ rows_of mine
  same = ap terminal_rows left ∙ own_rows content es archived own whole are

  visits_are : own.visits ≡ mine.visits
  visits_are = ap (λ (r : TerminalRows). r.visits) (own_rows content es archived own whole are)

  pub are_own : AreOfOwn (record { last_closed = closed; newest_closed = newest_closed }) now (run D) rows mine
  are_own =
      let sound = sound_after content es given in
      let kept = own_sound archived.stays theirs sound.whole sound.formed may in
      let ground = state_on_ground newest content es (opening_of now) D in
      record {
        given = given_after es content given;
        partners = ap (λ (r : Rows). r.partners) left ∙ sym are.parts.partners ∙ are.after.partners;
        high = run_high content es;
        keeps = keeps;
        by_key = record {
          same = same;
          placed_once = subst ArePlacedOnce (sym places_are) are.after.placed_once;
          listed_once = subst AreListedOnce (sym lines_are) are.after.listed_once;
        };
        settings = subst (λ l. IsPermutation l (settings_by_name now)) (sym (ap (λ (r : Rows). r.settings) left ∙ sym are.parts.settings ∙ are.after.settings)) (settings_shuffled now);
        blocks = ap (λ (r : Rows). r.blocks) left ∙ sym are.parts.blocks ∙ are.after.blocks;
        plan = ground.plan;
        limit = ground.limit;
        whole = kept.0;
        own_visits = subst (AreOwnVisits newest_closed) visits_are (own_visits_go content es archived own whole newest_closed given are later);
        formed = kept.1;
        accounted = λ visit inside. state_accounted newest content es now D visit
            (contained_has theirs.visits visit (had_filtered (is_own archived.stays) theirs.visits visit (has_contained (own_visits archived.stays theirs.visits) visit inside)).0);
      }

pub own_office : OwnRowsAreOwnOffice
own_office content es archived own whole rows db newest_closed given are left once of_whole later has =
    own_shown (record { last_closed = archived.last_closed; newest_closed = newest_closed }) (content_after content es) (run (deliveries_of content es)) rows (own_terminal archived.stays (machine_after content es).terminal) db
    (are_own content es archived own whole rows newest_closed given are left once of_whole later) has.rows_are
