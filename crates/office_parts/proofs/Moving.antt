-- What one event more makes of a store's own rows, and of the whole.
use Rattle.std.{specs.{Prelude.{Contains, ◌↔◌, find, ◌==◌}, List.AllByRecursion}, proofs.{lemmas.List.{append_assoc, map-append}, lemmas.Bool.eqb-true}}
use Rattle.std.proofs.Common.{◌≡◌, ℕ, ◌+◌, ◌<◌, ◌≤◌, inl, inr, List, [], ◌∷◌, ◌++◌, map, Bool, true, false, cond, Option, None, Some, refl, sym, ap, ap₂, subst, ◌∙◌, arith}
use Rattle.edi_messages.specs.declared.codes.PartnerKind.{PartnerKind}
use Rattle.terminal_core.specs.{declared.visits.Departure.Departure, State.IsWhole, Changes.{TerminalRows, visit_with_departure, rows_of}}
use Rattle.terminal_core.specs.Rows.{VisitContent, ChangeContent, visit_opened, visit_closed, placed_at, moved_to, removed_from, listed_on, line_done, unlisted}
use Rattle.office_admission.{specs.Taking.{MachineState, interchange_taken, interchange_changes}, proofs.Takings.interchange_leads}
use Rattle.office_rows.specs.{Rows.{Partner, Interchange, Rows}, Effects.{is_pair, with_waiting, with_partner, with_taken, with_change}}
use Rattle.office_history.specs.Cascade.{TakenContent, with_changes, with_interchange, with_interchanges, AreTakenFrom}
use Rattle.office_parts.specs.{OwnTerminal.{IsOfOwn, MayStay}, Parts.{Archived, AreClosed, AreParts}}
use Rattle.office_parts.proofs.Splits.{kept_pushed, kept_mapped, as_keeps, changes_spared, Has, has_contained, contained_has, has_left, has_pushed, has_mapped, has_image}

-- ---- a text more, an account more

pub waiting_parts : (archived : Archived) (own whole : Rows) (p n : ℕ) (text : List ℕ) → AreParts archived own whole → AreParts archived (with_waiting p n text own) (with_waiting p n text whole)
waiting_parts archived own whole p n text parts = record {
  partners = parts.partners;
  interchanges = ap (λ l. l ++ (record { partner = p; number = n; body = text; reply = [] }) ∷ []) parts.interchanges
      ∙ append_assoc archived.interchanges own.interchanges ((record { partner = p; number = n; body = text; reply = [] }) ∷ []);
  visits = parts.visits;
  others = parts.others;
  places = parts.places;
  lines = parts.lines;
  settings = parts.settings;
  blocks = parts.blocks;
}

pub account_parts : (archived : Archived) (own whole : Rows) (id : ℕ) (code : List ℕ) (kind : PartnerKind) → AreParts archived own whole → AreParts archived (with_partner id code kind own) (with_partner id code kind whole)
account_parts archived own whole id code kind parts = record {
  partners = ap (λ l. l ++ (record { id = id; code = code; kind = kind; next = 1 }) ∷ []) parts.partners;
  interchanges = parts.interchanges;
  visits = parts.visits;
  others = parts.others;
  places = parts.places;
  lines = parts.lines;
  settings = parts.settings;
  blocks = parts.blocks;
}

-- ---- a change

unclosed : (number : ℕ) (departure : Departure) (visit : VisitContent) (is : Bool) → (visit.number == number) ≡ is → is ≡ false → visit_with_departure number departure visit ≡ visit
unclosed number departure visit is e f = ap (λ b. cond b (record visit { departure = Some departure }) visit) (e ∙ f)

pub differ : true ≡ false → ⊥
differ e = cc

module _ (archived : Archived) where
  -- the archives have the visits, of these, that do not stay
  abbrev AreOthers : List VisitContent → Type 0
  AreOthers visits = (visit : VisitContent) → Contains archived.visits visit ↔ (Contains visits visit × (archived.stays visit.number ≡ false))

  opened_others : (new : VisitContent) (visits : List VisitContent) → archived.stays new.number ≡ true → AreOthers visits → AreOthers (visits ++ new ∷ [])
  opened_others new visits own others visit = (there, back)
    where
      there : Contains archived.visits visit → Contains (visits ++ new ∷ []) visit × (archived.stays visit.number ≡ false)
      there has =
          let was = (others visit).0 has in
          (contained_has (visits ++ new ∷ []) visit (has_left visits (new ∷ []) visit (has_contained visits visit was.0)), was.1)

      back : Contains (visits ++ new ∷ []) visit × (archived.stays visit.number ≡ false) → Contains archived.visits visit
      back both = elim (has_pushed visits new visit (has_contained (visits ++ new ∷ []) visit both.0)) [
        | inl old ↦ (others visit).1 (contained_has visits visit old, both.1)
        | inr same ↦ absurd (differ (sym own ∙ ap (λ (v : VisitContent). archived.stays v.number) same ∙ both.1))
      ]

  closed_others : (number : ℕ) (departure : Departure) (visits : List VisitContent) → archived.stays number ≡ true → AreOthers visits → AreOthers (map (visit_with_departure number departure) visits)
  closed_others number departure visits own others visit = (there, back)
    where
      apart : (v : VisitContent) (is : Bool) → (v.number == number) ≡ is → archived.stays v.number ≡ false → is ≡ false
      apart v false e gone = refl
      apart v true e gone = absurd (differ (sym own ∙ ap archived.stays (sym (eqb-true v.number number e)) ∙ gone))

      there : Contains archived.visits visit → Contains (map (visit_with_departure number departure) visits) visit × (archived.stays visit.number ≡ false)
      there has =
          let was = (others visit).0 has in
          let same = unclosed number departure visit (visit.number == number) refl (apart visit (visit.number == number) refl was.1) in
          (contained_has (map (visit_with_departure number departure) visits) visit (has_image (visit_with_departure number departure) visits visit (has_contained visits visit was.0) same), was.1)

      from : (old : VisitContent) → Has visits old → visit_with_departure number departure old ≡ visit → (is : Bool) → (old.number == number) ≡ is → archived.stays visit.number ≡ false → Contains archived.visits visit
      from old had is true e gone =
          let to : visit_with_departure number departure old ≡ record old { departure = Some departure } = ap (λ b. cond b (record old { departure = Some departure }) old) e in
          let same : visit.number ≡ number = ap (λ (v : VisitContent). v.number) (sym is ∙ to) ∙ eqb-true old.number number e in
          absurd (differ (sym own ∙ ap archived.stays (sym same) ∙ gone))
      from old had is false e gone =
          let same : old ≡ visit = sym (unclosed number departure old false e refl) ∙ is in
          (others visit).1 (subst (Contains visits) same (contained_has visits old had), gone)

      back : Contains (map (visit_with_departure number departure) visits) visit × (archived.stays visit.number ≡ false) → Contains archived.visits visit
      back both =
          let was = has_mapped (visit_with_departure number departure) visits visit (has_contained (map (visit_with_departure number departure) visits) visit both.0) in
          from was.0 was.1 was.2 ((was.0).number == number) refl both.1

  change_parts : (own whole : Rows) (change : ChangeContent) → IsOfOwn archived.stays change → AreParts archived own whole → AreParts archived (with_change change own) (with_change change whole)
  change_parts own whole (visit_opened visit) spared parts = record {
    partners = parts.partners;
    interchanges = parts.interchanges;
    visits = ap (λ l. l ++ visit ∷ []) parts.visits ∙ sym (kept_pushed archived.stays whole.visits visit spared);
    others = opened_others visit whole.visits spared parts.others;
    places = parts.places;
    lines = parts.lines;
    settings = parts.settings;
    blocks = parts.blocks;
  }
  change_parts own whole (visit_closed number departure) spared parts = record {
    partners = parts.partners;
    interchanges = parts.interchanges;
    visits = ap (map (visit_with_departure number departure)) parts.visits ∙ sym (kept_mapped archived.stays (visit_with_departure number departure) (as_keeps number departure) whole.visits);
    others = closed_others number departure whole.visits spared parts.others;
    places = parts.places;
    lines = parts.lines;
    settings = parts.settings;
    blocks = parts.blocks;
  }
  change_parts own whole (placed_at container visit slot) spared parts = record {
    partners = parts.partners;
    interchanges = parts.interchanges;
    visits = parts.visits;
    others = parts.others;
    places = ap (λ l. (with_change (placed_at container visit slot) (record own { places = l })).places) parts.places;
    lines = parts.lines;
    settings = parts.settings;
    blocks = parts.blocks;
  }
  change_parts own whole (moved_to container slot) spared parts = record {
    partners = parts.partners;
    interchanges = parts.interchanges;
    visits = parts.visits;
    others = parts.others;
    places = ap (λ l. (with_change (moved_to container slot) (record own { places = l })).places) parts.places;
    lines = parts.lines;
    settings = parts.settings;
    blocks = parts.blocks;
  }
  change_parts own whole (removed_from container) spared parts = record {
    partners = parts.partners;
    interchanges = parts.interchanges;
    visits = parts.visits;
    others = parts.others;
    places = ap (λ l. (with_change (removed_from container) (record own { places = l })).places) parts.places;
    lines = parts.lines;
    settings = parts.settings;
    blocks = parts.blocks;
  }
  change_parts own whole (listed_on call side container port) spared parts = record {
    partners = parts.partners;
    interchanges = parts.interchanges;
    visits = parts.visits;
    others = parts.others;
    places = parts.places;
    lines = ap (λ l. (with_change (listed_on call side container port) (record own { lines = l })).lines) parts.lines;
    settings = parts.settings;
    blocks = parts.blocks;
  }
  change_parts own whole (line_done call side container) spared parts = record {
    partners = parts.partners;
    interchanges = parts.interchanges;
    visits = parts.visits;
    others = parts.others;
    places = parts.places;
    lines = ap (λ l. (with_change (line_done call side container) (record own { lines = l })).lines) parts.lines;
    settings = parts.settings;
    blocks = parts.blocks;
  }
  change_parts own whole (unlisted call side container) spared parts = record {
    partners = parts.partners;
    interchanges = parts.interchanges;
    visits = parts.visits;
    others = parts.others;
    places = parts.places;
    lines = ap (λ l. (with_change (unlisted call side container) (record own { lines = l })).lines) parts.lines;
    settings = parts.settings;
    blocks = parts.blocks;
  }

  changes_parts : (changes : List ChangeContent) (own whole : Rows) → AllByRecursion (IsOfOwn archived.stays) changes → AreParts archived own whole → AreParts archived (with_changes changes own) (with_changes changes whole)
  changes_parts [] own whole spared parts = parts
  changes_parts (change ∷ changes) own whole spared parts =
      changes_parts changes (with_change change own) (with_change change whole) spared.1 (change_parts own whole change spared.0 parts)

  -- ---- an interchange

  unreplied : (p n : ℕ) (reply : List ℕ) (interchanges : List Interchange) → find (is_pair p n) interchanges ≡ None → map (λ (i : Interchange). cond (is_pair p n i) (record i { reply = reply }) i) interchanges ≡ interchanges
  unreplied p n reply [] none = refl
  unreplied p n reply (i ∷ interchanges) none = by (is_pair p n i) refl (unreplied p n reply interchanges)
    where
      by : (is : Bool) → is_pair p n i ≡ is → (find (is_pair p n) interchanges ≡ None → map (λ (i : Interchange). cond (is_pair p n i) (record i { reply = reply }) i) interchanges ≡ interchanges)
          → map (λ (i : Interchange). cond (is_pair p n i) (record i { reply = reply }) i) (i ∷ interchanges) ≡ i ∷ interchanges
      by true e rest = let bad : Some i ≡ None = sym (ap (λ b. cond b (Some i) (find (is_pair p n) interchanges)) e) ∙ none in cc
      by false e rest =
          ap₂ ◌∷◌ (ap (λ b. cond b (record i { reply = reply }) i) e) (rest (sym (ap (λ b. cond b (Some i) (find (is_pair p n) interchanges)) e) ∙ none))

  taken_parts : (p n : ℕ) (reply : List ℕ) (own whole : Rows) → AreClosed archived → archived.last_closed p < n → AreParts archived own whole → AreParts archived (with_taken p n reply own) (with_taken p n reply whole)
  taken_parts p n reply own whole closed far parts = record {
    partners = ap (map (λ (a : Partner). cond (a.id == p) (record a { next = n + 1 }) a)) parts.partners;
    interchanges =
        let f : Interchange → Interchange = λ i. cond (is_pair p n i) (record i { reply = reply }) i in
        ap (map f) parts.interchanges ∙ map-append f archived.interchanges own.interchanges
        ∙ ap (λ l. l ++ map f own.interchanges) (unreplied p n reply archived.interchanges (closed.none_beyond p n far));
    visits = parts.visits;
    others = parts.others;
    places = parts.places;
    lines = parts.lines;
    settings = parts.settings;
    blocks = parts.blocks;
  }

  -- ---- a run

  -- the texts of numbers beyond are those of the whole
  from_whole : (p : ℕ) (texts others : ℕ → Option (List ℕ)) (number : ℕ) (taken : List TakenContent) (machine machine' : MachineState) → ((k : ℕ) → number ≤ k → texts k ≡ others k)
      → AreTakenFrom p texts number machine taken machine' → AreTakenFrom p others number machine taken machine'
  from_whole p texts others number [] machine machine' same from = (sym (same number (omega arith)) ∙ from.0, from.1)
  from_whole p texts others number (t ∷ taken) machine machine' same from = (
    from.0,
    sym (same number (omega arith)) ∙ from.1,
    from.2,
    from.3,
    from.4,
    from_whole p texts others (number + 1) taken (interchange_taken machine p from.0).0 machine' (λ k beyond. same k (omega arith)) from.5,
  )

  record Runs (p : ℕ) (taken : List TakenContent) (own whole : Rows) (machine' : MachineState) : Type 0 where
    parts : AreParts archived (with_interchanges p taken own) (with_interchanges p taken whole)
    stays : MayStay archived.stays machine'.terminal.visits

  runs : (p : ℕ) (texts : ℕ → Option (List ℕ)) (number : ℕ) (taken : List TakenContent) (machine machine' : MachineState) (own whole : Rows) → AreClosed archived → archived.last_closed p < number
      → IsWhole machine.terminal → MayStay archived.stays machine.terminal.visits → AreParts archived own whole → AreTakenFrom p texts number machine taken machine'
      → Runs p taken own whole machine'
  runs p texts number [] machine machine' own whole closed far sound may parts from =
      record { parts = parts; stays = subst (λ (m : MachineState). MayStay archived.stays m.terminal.visits) (sym from.1) may }
  runs p texts number (t ∷ taken) machine machine' own whole closed far sound may parts from =
      let leads = interchange_leads machine p from.0 sound in
      let spares = changes_spared archived.stays (rows_of machine.terminal) (interchange_changes machine p from.0) may leads.applicable in
      let spared : AllByRecursion (IsOfOwn archived.stays) t.changes = subst (AllByRecursion (IsOfOwn archived.stays)) (sym from.4) spares.0 in
      let may1 : MayStay archived.stays (interchange_taken machine p from.0).0.terminal.visits = subst (λ (r : TerminalRows). MayStay archived.stays r.visits) leads.turned spares.1 in
      let n : t.number ≡ number = from.2 in
      let beyond : archived.last_closed p < t.number = omega (arith, far, n) in
      let one = taken_parts p t.number t.reply (with_changes t.changes own) (with_changes t.changes whole) closed beyond (changes_parts t.changes own whole spared parts) in
      let rest = runs p texts (number + 1) taken (interchange_taken machine p from.0).0 machine' (with_interchange p t own) (with_interchange p t whole) closed (omega (arith, far)) leads.whole may1 one from.5 in
      record { parts = rest.parts; stays = rest.stays }

-- a run is written to the store's own rows and to the whole, by the texts of the one or of the other
pub record RunsParts (archived : Archived) (p n : ℕ) (others : ℕ → Option (List ℕ)) (taken : List TakenContent) (machine : MachineState) (own whole : Rows) (machine' : MachineState) : Type 0 where
  pub from : AreTakenFrom p others n machine taken machine'
  pub parts : AreParts archived (with_interchanges p taken own) (with_interchanges p taken whole)
  pub stays : MayStay archived.stays machine'.terminal.visits

pub runs_parts : (archived : Archived) (p : ℕ) (texts others : ℕ → Option (List ℕ)) (n : ℕ) (taken : List TakenContent) (machine machine' : MachineState) (own whole : Rows) → ((k : ℕ) → n ≤ k → texts k ≡ others k) → AreClosed archived → archived.last_closed p < n
    → IsWhole machine.terminal → MayStay archived.stays machine.terminal.visits → AreParts archived own whole → AreTakenFrom p texts n machine taken machine' → RunsParts archived p n others taken machine own whole machine'
runs_parts archived p texts others n taken machine machine' own whole same closed far sound may parts from =
    let on_whole = from_whole archived p texts others n taken machine machine' same from in
    let left = runs archived p others n taken machine machine' own whole closed far sound may parts on_whole in
    record { from = on_whole; parts = left.parts; stays = left.stays }
