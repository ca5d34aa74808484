-- The journal, delivered again.
use Rattle.std.{specs.{Prelude.{take, drop}, List.AllByRecursion}, proofs.lemmas.List.{append-nil, drop_at}}
use Rattle.std.proofs.Common.{◌≡◌, inl, inr, ℕ, ◌+◌, List, [], ◌∷◌, ◌++◌, length, map, None, refl, sym, ap, subst, ◌∙◌, append_assoc}
use Rattle.edi_syntax.specs.Interchange.{interchange_of}
use Rattle.partner_core.{specs.{Machine.Taking, Deliveries.{Delivery, delivery, first_text}, Order.state, Answers.answer_of}, proofs.Orders.none_of}
use Rattle.terminal_core.specs.{Changes.rows_of, Versions.newest}
use Rattle.office_replies.specs.Events.{Event, delivered, migrated, added}
use Rattle.office_admission.specs.{Setups.SetupContent, Accounts.content_after, Deliveries.deliveries_of, Taking.{MachineState, interchange_taken_by}}
use Rattle.office_admission.proofs.Adding.{content_on, deliveries_on}
use Rattle.office_rows.specs.Rows.{Rows}
use Rattle.office_history.specs.After.{opening_of, with_earlier_event, migration_in, taking_by, taking_in, accounts_from, AreRowsOf, AreAfter}
use Rattle.office_history.{specs.Laws.answer_model_of, proofs.{Places.{taking_unmigrated, none_behind}, Accounted.delivered_within}}
use Rattle.office_parts.specs.{Kept.{kept_after, kept}, Journal.{text_of, kept_texts, texts_since, delivered_all, accounts_in, IsEntry}}
use Rattle.office_parts.specs.Rebuilding.{IsSameOffice, HasSameJournal, JournalDecides, Rebuilding, EachIsNew, Following, CopiesCatchUp}
use Rattle.office_parts.proofs.Alike.{Alike, run-alike, alike-all, alike-self, alike-back, alike-trans, alike-kept, kept_alike, kept-append, kept_twice, new_among, answered, decides_alike}
use Rattle.office_parts.proofs.Entries.{all_entries, left_entries, right_entries, texts_on, fronts_were_journals, again_from, again, delivered_content, texts_again, accounts_content, accounts_deliver}

-- the journal decides what is kept
same_kept : (one other : SetupContent) (es fs : List Event) → HasSameJournal one es other fs → kept (deliveries_of one es) ≡ kept (deliveries_of other fs)
same_kept one other es fs same =
    sym (again one es) ∙ (λ i. deliveries_of (same.setup i) (delivered_all (same.texts i))) ∙ again other fs

-- ---- no migration

later_none : (es later : List Event) → migration_in (es ++ later) ≡ None → migration_in later ≡ None
later_none [] later none = none
later_none (delivered text ∷ es) later none = later_none es later (none_behind (delivered text) (migration_in (es ++ later)) none)
later_none (migrated version ∷ es) later none = cc
later_none (added code kind ∷ es) later none = later_none es later (none_behind (added code kind) (migration_in (es ++ later)) none)

again_none : (texts : List (List ℕ)) (later : List Event) → migration_in later ≡ None → migration_in (delivered_all texts ++ later) ≡ None
again_none [] later none = none
again_none (text ∷ texts) later none = ap (with_earlier_event (delivered text)) (again_none texts later none)

-- ---- the rows

rows_alike : (taking : Taking MachineState) (now : SetupContent) (ds es : List Delivery) (rows : Rows) → Alike ds es → AreRowsOf newest taking now ds rows → AreRowsOf newest taking now es rows
rows_alike taking now ds es rows a are =
    let same = decides_alike taking (opening_of now) ds es a in
    record {
      partners = are.partners ∙ (λ i. accounts_from 1 (λ p. run-alike ds es a p i + 1) now.partners);
      texts = λ p k. are.texts p k ∙ a.firsts p k;
      replies = λ p k. are.replies p k ∙ same.comes.replies p k;
      kept_once = are.kept_once;
      terminal = are.terminal ∙ ap (λ (m : MachineState). rows_of m.terminal) same.comes.state_is;
      placed_once = are.placed_once;
      listed_once = are.listed_once;
      settings = are.settings;
      blocks = are.blocks;
    }

-- offices of the same rules and accounts, over deliveries that come to the same
same_office : (one other : SetupContent) (es fs : List Event) (taking : Taking MachineState) (now : SetupContent) (ds ds' : List Delivery)
    → taking_in newest one es ≡ taking → taking_in newest other fs ≡ taking → content_after one es ≡ now → content_after other fs ≡ now
    → deliveries_of one es ≡ ds → deliveries_of other fs ≡ ds' → Alike ds ds' → IsSameOffice one es other fs
same_office one other es fs taking now ds ds' t t' c c' d d' a =
    let same = decides_alike taking (opening_of now) ds ds' a in
    let here : (rows : Rows) → AreAfter one es rows ≡ AreRowsOf newest taking now ds rows = λ rows i. AreRowsOf newest (t i) (c i) (d i) rows in
    let there : (rows : Rows) → AreAfter other fs rows ≡ AreRowsOf newest taking now ds' rows = λ rows i. AreRowsOf newest (t' i) (c' i) (d' i) rows in
    record {
      rows = λ rows are. subst (λ X. X) (sym (there rows)) (rows_alike taking now ds ds' rows a (subst (λ X. X) (here rows) are));
      back = λ rows are. subst (λ X. X) (sym (here rows)) (rows_alike taking now ds' ds rows (alike-back ds ds' a) (subst (λ X. X) (there rows) are));
      machine = (λ i. state (t i) (opening_of (c i)) (d i)) ∙ same.comes.state_is ∙ sym (λ i. state (t' i) (opening_of (c' i)) (d' i));
      answers = λ partner number sent.
          (λ i. answer_of (t i) (opening_of (c i)) (d i) (delivery partner number (interchange_of sent)))
          ∙ same.answers (delivery partner number (interchange_of sent))
          ∙ sym (λ i. answer_of (t' i) (opening_of (c' i)) (d' i) (delivery partner number (interchange_of sent)));
    }

pub journal_decides : JournalDecides
journal_decides one other es fs later none none' same =
    let now = content_after one es in
    let ds = deliveries_of one es in
    let ds' = deliveries_of other fs in
    let more = deliveries_of now later in
    let kept_same : Alike (kept ds) ds' = subst (λ k. Alike k ds') (sym (same_kept one other es fs same)) (kept_alike ds') in
    same_office one other (es ++ later) (fs ++ later) (interchange_taken_by newest) (content_after now later)
    (ds ++ more) (ds' ++ more)
    (taking_unmigrated newest one (es ++ later) none)
    (taking_unmigrated newest other (fs ++ later) none')
    (content_on es later one)
    (content_on fs later other ∙ ap (λ c. content_after c later) (sym same.setup))
    (deliveries_on es later one)
    (deliveries_on fs later other ∙ ap (λ c. ds' ++ deliveries_of c later) (sym same.setup))
    (alike-all ds ds' more (alike-trans ds (kept ds) ds' (alike-back (kept ds) ds (kept_alike ds)) kept_same))

-- ---- rebuilding

pub rebuilding : Rebuilding
rebuilding content es later none =
    let now = content_after content es in
    let texts = kept_texts content es in
    journal_decides content now es (delivered_all texts) later none
    (again_none texts later (later_none es later none))
    (record { setup = sym (delivered_content texts now); texts = sym (texts_again content es) })

-- ---- each text is new

pub each_is_new : EachIsNew
each_is_new content es before later d all =
    let now = content_after content es in
    let fs = delivered_all (map text_of before) in
    let entries = subst (AllByRecursion (IsEntry content es)) all (all_entries content es) in
    let this : IsEntry content es d = (right_entries content es before (d ∷ later) entries).0 in
    let delivered_before : deliveries_of now fs ≡ before = again_from content es before (left_entries content es before (d ∷ later) entries) in
    let free : first_text before d.partner d.number ≡ None =
    none_of (first_text before d.partner d.number) (new_among before later d (ap kept (sym all) ∙ kept_twice (deliveries_of content es) ∙ all)) in
    let within = delivered_within content es d.partner d.number d.text this.first in
    let same : answer_model_of now fs d.partner d.number d.text ≡ answer_of (taking_in newest now fs) (opening_of (content_after now fs)) before d =
    λ i. answer_of (taking_in newest now fs) (opening_of (content_after now fs)) (delivered_before i) (delivery d.partner d.number (this.stripped i)) in
    elim (answered (taking_in newest now fs) (opening_of (content_after now fs)) before d within.2 free) [
      | inl taken ↦ inl (taken.0, same ∙ taken.1)
      | inr waits ↦ inr (same ∙ waits)
    ]

-- ---- following

accounts_none : (es : List Event) → migration_in (accounts_in es) ≡ None
accounts_none [] = refl
accounts_none (delivered text ∷ es) = accounts_none es
accounts_none (migrated version ∷ es) = accounts_none es
accounts_none (added code kind ∷ es) = ap (with_earlier_event (added code kind)) (accounts_none es)

none_joined : (es later : List Event) → migration_in es ≡ None → migration_in later ≡ None → migration_in (es ++ later) ≡ None
none_joined [] later none none' = none'
none_joined (delivered text ∷ es) later none none' =
    ap (with_earlier_event (delivered text)) (none_joined es later (none_behind (delivered text) (migration_in es) none) none')
none_joined (migrated version ∷ es) later none none' = cc
none_joined (added code kind ∷ es) later none none' =
    ap (with_earlier_event (added code kind)) (none_joined es later (none_behind (added code kind) (migration_in es) none) none')

earlier_none : (es later : List Event) → migration_in (es ++ later) ≡ None → migration_in es ≡ None
earlier_none [] later none = refl
earlier_none (delivered text ∷ es) later none =
    ap (with_earlier_event (delivered text)) (earlier_none es later (none_behind (delivered text) (migration_in (es ++ later)) none))
earlier_none (migrated version ∷ es) later none = cc
earlier_none (added code kind ∷ es) later none =
    ap (with_earlier_event (added code kind)) (earlier_none es later (none_behind (added code kind) (migration_in (es ++ later)) none))

-- Accounts keep the journal, so an office with those of now has the journal of the earlier events.
module _ (content : SetupContent) (earlier later : List Event) where
  abbrev there : List Event
  there = earlier ++ accounts_in later

  ahead_content : content_after content there ≡ content_after content (earlier ++ later)
  ahead_content = content_on earlier (accounts_in later) content ∙ accounts_content later (content_after content earlier) ∙ sym (content_on earlier later content)

  ahead_texts : kept_texts content there ≡ kept_texts content earlier
  ahead_texts =
      ap (λ ds. map text_of (kept ds))
      (deliveries_on earlier (accounts_in later) content
      ∙ ap (λ ds. deliveries_of content earlier ++ ds) (accounts_deliver later (content_after content earlier))
      ∙ append-nil (deliveries_of content earlier))

  ahead_none : migration_in (earlier ++ later) ≡ None → migration_in there ≡ None
  ahead_none none = none_joined earlier (accounts_in later) (earlier_none earlier later none) (accounts_none later)

pub following : Following
following content es count none high =
    let was = fronts_were_journals content es count high in
    let now = content_after content es in
    let texts = take count (kept_texts content es) in
    let place = was.earlier ++ accounts_in was.later in
    let setup : content_after content place ≡ now = ahead_content content was.earlier was.later ∙ ap (content_after content) (sym was.parts) in
    let journal : kept_texts content place ≡ texts = ahead_texts content was.earlier was.later ∙ was.texts_are in
    let place_none : migration_in place ≡ None = ahead_none content was.earlier was.later (subst (λ es. migration_in es ≡ None) was.parts none) in
    let again_same : kept_texts now (delivered_all texts) ≡ texts =
    (λ i. kept_texts (sym setup i) (delivered_all (sym journal i))) ∙ texts_again content place ∙ journal in
    record {
      earlier = was.earlier;
      later = was.later;
      parts = was.parts;
      same = λ more none'.
          journal_decides content now place (delivered_all texts) more (none_joined place more place_none none')
          (again_none texts more none')
          (record { setup = setup ∙ sym (delivered_content texts now); texts = journal ∙ sym again_same });
    }

-- ---- a copy

-- what comes after the first migration, or where there is none, leaves the rules as they are
first_stays : (earlier later : List Event) → migration_in later ≡ None → migration_in (earlier ++ later) ≡ migration_in earlier
first_stays [] later none = none
first_stays (delivered text ∷ earlier) later none = ap (with_earlier_event (delivered text)) (first_stays earlier later none)
first_stays (migrated version ∷ earlier) later none = refl
first_stays (added code kind ∷ earlier) later none = ap (with_earlier_event (added code kind)) (first_stays earlier later none)

rules_stay : (content : SetupContent) (earlier later : List Event) → migration_in later ≡ None → taking_in newest content (earlier ++ later) ≡ taking_in newest content earlier
unfolding taking_in
rules_stay content earlier later none = ap (taking_by newest content) (first_stays earlier later none)

module _ (content : SetupContent) (earlier since : List Event) where
  abbrev at_copy : SetupContent
  at_copy = content_after content earlier

  abbrev ds : List Delivery
  ds = deliveries_of content earlier

  abbrev more : List Delivery
  more = deliveries_of at_copy since

  abbrev new : List Delivery
  new = kept_after ds more

  since_texts : texts_since content earlier since ≡ map text_of new
  since_texts =
      ap (drop (length (kept_texts content earlier))) (texts_on content earlier since)
      ∙ drop_at (kept_texts content earlier) (map text_of new) (length (kept_texts content earlier)) refl

  new_entries : AllByRecursion (IsEntry content (earlier ++ since)) new
  new_entries =
      right_entries content (earlier ++ since) (kept ds) new
      (subst (AllByRecursion (IsEntry content (earlier ++ since))) (ap kept (deliveries_on earlier since content) ∙ kept-append ds more) (all_entries content (earlier ++ since)))

  -- they are admitted as they were
  new_again : deliveries_of (content_after at_copy since) (delivered_all (texts_since content earlier since)) ≡ new
  new_again =
      (λ i. deliveries_of (sym (content_on earlier since content) i) (delivered_all (since_texts i)))
      ∙ again_from content (earlier ++ since) new new_entries

  abbrev caught_up : List Event
  caught_up = accounts_in since ++ delivered_all (texts_since content earlier since)

  caught_content : content_after at_copy caught_up ≡ content_after at_copy since
  caught_content =
      content_on (accounts_in since) (delivered_all (texts_since content earlier since)) at_copy
      ∙ delivered_content (texts_since content earlier since) (content_after at_copy (accounts_in since))
      ∙ accounts_content since at_copy

  caught_deliveries : deliveries_of at_copy caught_up ≡ new
  caught_deliveries =
      deliveries_on (accounts_in since) (delivered_all (texts_since content earlier since)) at_copy
      ∙ (λ i. accounts_deliver since at_copy i ++ deliveries_of (accounts_content since at_copy i) (delivered_all (texts_since content earlier since)))
      ∙ new_again

  all_content : (es later : List Event) → content_after at_copy es ≡ content_after at_copy since → content_after content (earlier ++ (es ++ later)) ≡ content_after (content_after at_copy since) later
  all_content es later same = content_on earlier (es ++ later) content ∙ content_on es later at_copy ∙ ap (λ c. content_after c later) same

  all_deliveries : (es later : List Event) (own : List Delivery) → content_after at_copy es ≡ content_after at_copy since → deliveries_of at_copy es ≡ own
      → deliveries_of content (earlier ++ (es ++ later)) ≡ (ds ++ own) ++ deliveries_of (content_after at_copy since) later
  all_deliveries es later own same is =
      deliveries_on earlier (es ++ later) content
      ∙ ap (λ l. ds ++ l) (deliveries_on es later at_copy ∙ (λ i. is i ++ deliveries_of (same i) later))
      ∙ sym (append_assoc ds own (deliveries_of (content_after at_copy since) later))

pub copies_catch_up : CopiesCatchUp
copies_catch_up content earlier since later none =
    let at_copy = content_after content earlier in
    let ds = deliveries_of content earlier in
    let more = deliveries_of at_copy since in
    let new = kept_after ds more in
    let texts = texts_since content earlier since in
    let caught_up = accounts_in since ++ delivered_all texts in
    let behind_all = deliveries_of (content_after at_copy since) later in
    let none' : migration_in (caught_up ++ later) ≡ None =
    subst (λ es. migration_in es ≡ None) (sym (append_assoc (accounts_in since) (delivered_all texts) later))
    (none_joined (accounts_in since) (delivered_all texts ++ later) (accounts_none since) (again_none texts later (later_none since later none))) in
    same_office content content (earlier ++ (since ++ later)) (earlier ++ (caught_up ++ later)) (taking_in newest content earlier) (content_after (content_after at_copy since) later)
    ((ds ++ more) ++ behind_all) ((ds ++ new) ++ behind_all)
    (rules_stay content earlier (since ++ later) none)
    (rules_stay content earlier (caught_up ++ later) none')
    (all_content content earlier since since later refl)
    (all_content content earlier since caught_up later (caught_content content earlier since))
    (all_deliveries content earlier since since later more refl refl)
    (all_deliveries content earlier since caught_up later new (caught_content content earlier since) (caught_deliveries content earlier since))
    (alike-all (ds ++ more) (ds ++ new) behind_all (alike-back (ds ++ new) (ds ++ more) (alike-kept ds ds more (alike-self ds))))
