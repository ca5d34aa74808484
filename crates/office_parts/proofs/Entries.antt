-- What the journal has, and what an event adds to it.
use Rattle.std.{specs.{Prelude.{drop, take}, List.{list_all, AllByRecursion}}, proofs.lemmas.Bool.{cases_Bool, cond-true, cond-false, cases_order}}
use Rattle.std.proofs.Common.{◌≡◌, ℕ, suc, Bool, true, false, inl, inr, cond, ◌&&◌, List, [], ◌∷◌, refl, sym, ap, ◌∙◌, ◌+◌, ◌≤◌, ◌++◌, length, map, Result, Ok, Err, Some, subst, arith, append_assoc}
use Rattle.std.proofs.{lemmas.List.{append-nil, map-append, length-append, length-map, take_at, take_all}, lemmas.List.Elements.All-from_recursion}
use Rattle.edi_syntax.specs.{Characters.is_break, Reading.breaks_len, Advice.without_breaks, Interchange.{without_breaks_at_end, interchange_of}}
use Rattle.partner_core.specs.Deliveries.{Delivery, delivery, first_text, is_under, is_used}
use Rattle.office_replies.specs.{Events.{Event, delivered, migrated, added}, declared.deliver.Fault.Fault}
use Rattle.office_admission.specs.{Setups.{SetupContent, parties_in}, Accounts.{content_with, content_after}, Admission.admission}
use Rattle.office_admission.{specs.Deliveries.{with_delivery, deliveries_of}, proofs.Adding.{deliveries_on, account_adds, migration_adds, first_admitted}}
use Rattle.office_parts.{specs.Kept.{kept, kept_after, IsFirst}, proofs.Alike.{kept-append, kept_adds, kept_one, kept_twice, firsts_are_kept}}
use Rattle.office_parts.specs.Journal.{text_of, kept_texts, delivered_all, accounts_in, IsEntry, KeptTextsAreEntries, JournalGrows, WasJournal, FrontsWereJournals}

at_end_none : (b : ℕ) (bytes : List ℕ) → list_all is_break (b ∷ bytes) ≡ true → without_breaks_at_end (b ∷ bytes) ≡ []
at_end_none b bytes e = cond-true (list_all is_break (b ∷ bytes)) [] (b ∷ without_breaks_at_end bytes) e

at_end_some : (b : ℕ) (bytes : List ℕ) → list_all is_break (b ∷ bytes) ≡ false → without_breaks_at_end (b ∷ bytes) ≡ b ∷ without_breaks_at_end bytes
at_end_some b bytes e = cond-false (list_all is_break (b ∷ bytes)) [] (b ∷ without_breaks_at_end bytes) e

all_left : (bytes : List ℕ) → list_all is_break (without_breaks_at_end bytes) ≡ list_all is_break bytes
all_left [] = refl
all_left (b ∷ bytes) = elim (cases_Bool (list_all is_break (b ∷ bytes))) [
  | inl e ↦ ap (list_all is_break) (at_end_none b bytes e) ∙ sym e
  | inr e ↦ ap (list_all is_break) (at_end_some b bytes e) ∙ ap (λ v. is_break b && v) (all_left bytes)
]

stays_at_end : (bytes : List ℕ) → without_breaks_at_end (without_breaks_at_end bytes) ≡ without_breaks_at_end bytes
stays_at_end [] = refl
stays_at_end (b ∷ bytes) = elim (cases_Bool (list_all is_break (b ∷ bytes))) [
  | inl e ↦ ap without_breaks_at_end (at_end_none b bytes e) ∙ sym (at_end_none b bytes e)
  | inr e ↦
      ap without_breaks_at_end (at_end_some b bytes e)
      ∙ at_end_some b (without_breaks_at_end bytes) (ap (λ v. is_break b && v) (all_left bytes) ∙ e)
      ∙ ap (λ t. b ∷ t) (stays_at_end bytes) ∙ sym (at_end_some b bytes e)
]

front_stays : (bytes : List ℕ) → breaks_len (without_breaks bytes) ≡ 0
front_stays [] = refl
front_stays (b ∷ bytes) = elim (cases_Bool (is_break b)) [
  | inl e ↦
      let more : without_breaks (b ∷ bytes) ≡ without_breaks bytes = rw e refl in
      ap breaks_len more ∙ front_stays bytes
  | inr e ↦
      let none : without_breaks (b ∷ bytes) ≡ b ∷ bytes = rw e refl in
      ap breaks_len none ∙ cond-false (is_break b) (suc (breaks_len bytes)) 0 e
]

end_keeps_front : (bytes : List ℕ) → breaks_len bytes ≡ 0 → breaks_len (without_breaks_at_end bytes) ≡ 0
end_keeps_front [] h = refl
end_keeps_front (b ∷ bytes) h = elim (cases_Bool (list_all is_break (b ∷ bytes))) [
  | inl e ↦ ap breaks_len (at_end_none b bytes e)
  | inr e ↦ ap breaks_len (at_end_some b bytes e) ∙ on (is_break b) (breaks_len bytes) (breaks_len (without_breaks_at_end bytes)) h
]
  where
    on : (x : Bool) (m n : ℕ) → cond x (suc m) 0 ≡ 0 → cond x (suc n) 0 ≡ 0
    on true m n h = cc
    on false m n h = refl

without_nothing : (bytes : List ℕ) → breaks_len bytes ≡ 0 → without_breaks bytes ≡ bytes
without_nothing bytes h = ap (λ n. drop n bytes) h

pub interchange_twice : (bytes : List ℕ) → interchange_of (interchange_of bytes) ≡ interchange_of bytes
interchange_twice bytes =
    ap without_breaks_at_end (without_nothing (interchange_of bytes) (end_keeps_front (without_breaks bytes) (front_stays bytes)))
    ∙ stays_at_end (without_breaks bytes)

-- ---- a kept text has no CR and LF at its ends

pub first_stripped : (es : List Event) (content : SetupContent) (p k : ℕ) (text : List ℕ) → first_text (deliveries_of content es) p k ≡ Some text → interchange_of text ≡ text
first_stripped [] content p k text e = cc
first_stripped (delivered before ∷ es) content p k text e =
    on (admission (parties_in content) (interchange_of before)) e (first_stripped es content p k text)
  where
    pick : (b : Bool) → cond b (Some (interchange_of before)) (first_text (deliveries_of content es) p k) ≡ Some text
        → (first_text (deliveries_of content es) p k ≡ Some text → interchange_of text ≡ text) → interchange_of text ≡ text
    pick true e rest = let same : interchange_of before ≡ text = cc in subst (λ t. interchange_of t ≡ t) same (interchange_twice before)
    pick false e rest = rest e

    on : (found : Result (ℕ × ℕ) Fault) → first_text (with_delivery (interchange_of before) found (deliveries_of content es)) p k ≡ Some text
        → (first_text (deliveries_of content es) p k ≡ Some text → interchange_of text ≡ text) → interchange_of text ≡ text
    on (Err fault) e rest = rest e
    on (Ok is) e rest = pick (is_under (delivery is.0 is.1 (interchange_of before)) p k) e rest
first_stripped (migrated version ∷ es) content p k text e = first_stripped es content p k text e
first_stripped (added code kind ∷ es) content p k text e = first_stripped es (content_with content (added code kind)) p k text e

module _ (content : SetupContent) (es : List Event) where
  entry : (d : Delivery) → IsFirst (deliveries_of content es) d → IsEntry content es d
  entry d first = record {
    first = first;
    stripped = first_stripped es content d.partner d.number d.text first;
    admitted = first_admitted es content d.partner d.number d.text first;
  }

  entries : (ds : List Delivery) → AllByRecursion (IsFirst (deliveries_of content es)) ds → AllByRecursion (IsEntry content es) ds
  entries [] firsts = tt
  entries (d ∷ ds) firsts = (entry d firsts.0, entries ds firsts.1)

  pub all_entries : AllByRecursion (IsEntry content es) (kept (deliveries_of content es))
  all_entries = entries (kept (deliveries_of content es)) (firsts_are_kept (deliveries_of content es))

pub kept_texts_are_entries : KeptTextsAreEntries
kept_texts_are_entries content es = All-from_recursion (IsEntry content es) (kept (deliveries_of content es)) (all_entries content es)

-- ---- what an event adds

texts_if : (b : Bool) (d : Delivery) → map text_of (cond b [] (d ∷ [])) ≡ cond b [] (text_of d ∷ [])
texts_if true d = refl
texts_if false d = refl

admitted_adds : (content : SetupContent) (es : List Event) (sent : List ℕ) (partner number : ℕ)
    → admission (parties_in (content_after content es)) (interchange_of sent) ≡ Ok (partner, number)
    → kept_texts content (es ++ delivered sent ∷ [])
    ≡ kept_texts content es ++ cond (is_used (deliveries_of content es) partner number) [] (interchange_of sent ∷ [])
admitted_adds content es sent partner number is =
    let d = delivery partner number (interchange_of sent) in
    let ds = deliveries_of content es in
    let more : deliveries_of content (es ++ delivered sent ∷ []) ≡ ds ++ d ∷ [] =
    deliveries_on es (delivered sent ∷ []) content ∙ ap (λ found. ds ++ with_delivery (interchange_of sent) found []) is in
    ap (λ ds. map text_of (kept ds)) more
    ∙ ap (map text_of) (kept_adds ds d)
    ∙ map-append text_of (kept ds) (cond (is_used ds partner number) [] (d ∷ []))
    ∙ ap (λ texts. map text_of (kept ds) ++ texts) (texts_if (is_used ds partner number) d)

refused_adds : (content : SetupContent) (es : List Event) (sent : List ℕ) (fault : Fault)
    → admission (parties_in (content_after content es)) (interchange_of sent) ≡ Err fault
    → kept_texts content (es ++ delivered sent ∷ []) ≡ kept_texts content es
refused_adds content es sent fault is =
    ap (λ ds. map text_of (kept ds))
    (deliveries_on es (delivered sent ∷ []) content ∙ ap (λ found. deliveries_of content es ++ with_delivery (interchange_of sent) found []) is ∙ append-nil (deliveries_of content es))

pub journal_grows : JournalGrows
journal_grows = record {
  admitted = admitted_adds;
  refused = refused_adds;
  account = λ content es code kind. ap (λ ds. map text_of (kept ds)) (account_adds es content code kind);
  migration = λ content es version. ap (λ ds. map text_of (kept ds)) (migration_adds es content version);
}

-- ---- fronts

module _ (content : SetupContent) where
  -- what later events add
  abbrev pub added_by : List Event → List Event → List (List ℕ)
  added_by earlier later = map text_of (kept_after (deliveries_of content earlier) (deliveries_of (content_after content earlier) later))

  pub texts_on : (earlier later : List Event) → kept_texts content (earlier ++ later) ≡ kept_texts content earlier ++ added_by earlier later
  texts_on earlier later =
      let ds = deliveries_of content earlier in
      let more = deliveries_of (content_after content earlier) later in
      ap (λ ds. map text_of (kept ds)) (deliveries_on earlier later content)
      ∙ ap (map text_of) (kept-append ds more) ∙ map-append text_of (kept ds) (kept_after ds more)

  one_at_most : (before : List Delivery) (now : SetupContent) (event : Event) → length (map text_of (kept_after before (deliveries_of now (event ∷ [])))) ≤ 1
  one_at_most before now (delivered sent) = on (admission (parties_in now) (interchange_of sent))
    where
      on : (found : Result (ℕ × ℕ) Fault) → length (map text_of (kept_after before (with_delivery (interchange_of sent) found []))) ≤ 1
      on (Err fault) = omega arith
      on (Ok is) =
          let d = delivery is.0 is.1 (interchange_of sent) in
          let one = kept_one before d in
          let same : length (map text_of (kept_after before (d ∷ []))) ≡ length (kept_after before (d ∷ [])) = length-map (kept_after before (d ∷ [])) text_of in
          omega arith
  one_at_most before now (migrated version) = omega arith
  one_at_most before now (added code kind) = omega arith

  front_at : (count : ℕ) (earlier later : List Event) → length (kept_texts content earlier) ≤ count → count ≤ length (kept_texts content (earlier ++ later))
      → WasJournal content (earlier ++ later) (take count (kept_texts content (earlier ++ later)))
  front_at count earlier [] low high =
      let all : kept_texts content (earlier ++ []) ≡ kept_texts content earlier = ap (kept_texts content) (append-nil earlier) in
      let as_long : length (kept_texts content (earlier ++ [])) ≡ length (kept_texts content earlier) = ap length all in
      record {
        earlier = earlier;
        later = [];
        parts = refl;
        texts_are = sym (take_all count (kept_texts content (earlier ++ [])) (omega arith) ∙ all);
      }
  front_at count earlier (event ∷ later) low high = elim (cases_order (length (kept_texts content earlier)) count) [
    | inl same ↦ record {
      earlier = earlier;
      later = event ∷ later;
      parts = refl;
      texts_are = sym (ap (take count) (texts_on earlier (event ∷ later)) ∙ take_at (kept_texts content earlier) (added_by earlier (event ∷ later)) count same);
    }
    | inr o ↦ elim o [
      | inl below ↦
          let whole : (earlier ++ event ∷ []) ++ later ≡ earlier ++ event ∷ later = append_assoc earlier (event ∷ []) later in
          let one = one_at_most (deliveries_of content earlier) (content_after content earlier) event in
          let more : length (kept_texts content (earlier ++ event ∷ [])) ≡ length (kept_texts content earlier) + length (added_by earlier (event ∷ [])) =
          ap length (texts_on earlier (event ∷ [])) ∙ length-append (kept_texts content earlier) (added_by earlier (event ∷ [])) in
          subst (λ es. WasJournal content es (take count (kept_texts content es))) whole
          (front_at count (earlier ++ event ∷ []) later (omega arith) (subst (λ es. count ≤ length (kept_texts content es)) (sym whole) high))
      | inr above ↦ absurd (omega arith)
    ]
  ]

pub fronts_were_journals : FrontsWereJournals
unfolding kept
fronts_were_journals content es count high = front_at content count [] es (omega arith) high

-- ---- delivered again

pub right_entries : (content : SetupContent) (es : List Event) (left right : List Delivery) → AllByRecursion (IsEntry content es) (left ++ right) → AllByRecursion (IsEntry content es) right
right_entries content es [] right all = all
right_entries content es (d ∷ left) right all = right_entries content es left right all.1

pub left_entries : (content : SetupContent) (es : List Event) (left right : List Delivery) → AllByRecursion (IsEntry content es) (left ++ right) → AllByRecursion (IsEntry content es) left
left_entries content es [] right all = tt
left_entries content es (d ∷ left) right all = (all.0, left_entries content es left right all.1)

module _ (content : SetupContent) (es : List Event) where
  abbrev pub now : SetupContent
  now = content_after content es

  pub again_from : (others : List Delivery) → AllByRecursion (IsEntry content es) others → deliveries_of now (delivered_all (map text_of others)) ≡ others
  again_from [] entries = refl
  again_from (d ∷ others) entries =
      let later = deliveries_of now (delivered_all (map text_of others)) in
      ap (λ s. with_delivery s (admission (parties_in now) s) later) entries.0.stripped
      ∙ ap (λ f. with_delivery d.text f later) entries.0.admitted
      ∙ ap (λ r. d ∷ r) (again_from others entries.1)

  pub again : deliveries_of now (delivered_all (kept_texts content es)) ≡ kept (deliveries_of content es)
  again = again_from (kept (deliveries_of content es)) (all_entries content es)

pub delivered_content : (texts : List (List ℕ)) (content : SetupContent) → content_after content (delivered_all texts) ≡ content
delivered_content [] content = refl
delivered_content (text ∷ texts) content = delivered_content texts content

-- a new office has the journal that was delivered to it
pub texts_again : (content : SetupContent) (es : List Event) → kept_texts (content_after content es) (delivered_all (kept_texts content es)) ≡ kept_texts content es
texts_again content es =
    ap (λ ds. map text_of (kept ds)) (again content es) ∙ ap (map text_of) (kept_twice (deliveries_of content es))

-- ---- accounts

pub accounts_content : (es : List Event) (content : SetupContent) → content_after content (accounts_in es) ≡ content_after content es
accounts_content [] content = refl
accounts_content (delivered text ∷ es) content = accounts_content es content
accounts_content (migrated version ∷ es) content = accounts_content es content
accounts_content (added code kind ∷ es) content = accounts_content es (content_with content (added code kind))

pub accounts_deliver : (es : List Event) (content : SetupContent) → deliveries_of content (accounts_in es) ≡ []
accounts_deliver [] content = refl
accounts_deliver (delivered text ∷ es) content = accounts_deliver es content
accounts_deliver (migrated version ∷ es) content = accounts_deliver es content
accounts_deliver (added code kind ∷ es) content = accounts_deliver es (content_with content (added code kind))
