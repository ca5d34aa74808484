-- Rows whose interchanges stand in the order of arrival, after one event more.
use Rattle.std.{specs.Prelude.is_some, proofs.Common.{◌≡◌, ℕ, Bool, true, false, cond, List, [], ◌∷◌, ◌++◌, map, None, refl, sym, ap, ◌∙◌}}
use Rattle.std.proofs.lemmas.List.{append-nil, map-append}
use Rattle.edi_syntax.specs.Interchange.{interchange_of}
use Rattle.partner_core.specs.Deliveries.{Delivery, delivery, is_used}
use Rattle.terminal_core.specs.Rows.{ChangeContent, visit_opened, visit_closed, placed_at, moved_to, removed_from, listed_on, line_done, unlisted}
use Rattle.office_replies.specs.Events.{Event, delivered}
use Rattle.office_admission.{specs.{Setups.SetupContent, Deliveries.deliveries_of}, proofs.Adding.{account_adds, migration_adds}}
use Rattle.sqlite.specs.{declared.types.Value.TheVariants.Blob, Order.{Row, column}}
use Rattle.office_rows.specs.{Tables.interchange_table, Values.interchange_values, Stored.columns_of, Rows.{Interchange, Rows}}
use Rattle.office_rows.specs.Effects.{is_pair, with_waiting, with_change}
use Rattle.office_history.specs.{Cascade.{text_in, TakenContent, with_changes, with_interchange, with_interchanges}, Laws.IsFor}
use Rattle.office_history.proofs.{Lawful.{opening_after, refused_adds, used_adds, early_adds, next_adds}, Places.{admitted_more, refused_more}}
use Rattle.office_history.proofs.{Ground.account_adds_row, KeptNumbers.migration_goes_on}
use Rattle.office_parts.{specs.{Kept.kept, Journal.text_of}, proofs.Alike.kept_adds}
use Rattle.office_parts.specs.InOrder.{as_delivery, AreInOrder, AreAfterInOrder, BodiesAreJournal, StoredIsJournal, OpeningIsInOrder, RefusedStaysInOrder, UsedStaysInOrder, EarlyAddsInOrder, NextAddsInOrder, AccountStaysInOrder, MigrationStaysInOrder}

-- ---- the journal

bodies_by : (interchanges : List Interchange) → map (λ (i : Interchange). i.body) interchanges ≡ map text_of (map as_delivery interchanges)
bodies_by [] = refl
bodies_by (i ∷ interchanges) = ap (λ bodies. i.body ∷ bodies) (bodies_by interchanges)

pub bodies_are_journal : BodiesAreJournal
bodies_are_journal content es rows are = bodies_by rows.interchanges ∙ ap (map text_of) are.in_order

shown_bodies : (interchanges : List Interchange) → map (λ c. column c 2) (map interchange_values interchanges) ≡ map Blob (map (λ (i : Interchange). i.body) interchanges)
shown_bodies [] = refl
shown_bodies (i ∷ interchanges) = ap (λ bodies. Blob i.body ∷ bodies) (shown_bodies interchanges)

stored_bodies : (stored : List Row) → map (λ c. column c 2) (map (columns_of interchange_table) stored) ≡ map (λ r. column r 3) stored
stored_bodies [] = refl
stored_bodies (r ∷ stored) = ap (λ bodies. column r 3 ∷ bodies) (stored_bodies stored)

pub stored_is_journal : StoredIsJournal
stored_is_journal content es rows stored are held = (
  held.placed,
  sym (stored_bodies stored) ∙ ap (map (λ c. column c 2)) (sym held.same) ∙ shown_bodies rows.interchanges ∙ ap (map Blob) (bodies_are_journal content es rows are),
)

-- ---- what taking leaves

abbrev shown : Rows → List Delivery
shown rows = map as_delivery rows.interchanges

pub reply_shown : (partner number : ℕ) (reply : List ℕ) (interchanges : List Interchange)
    → map as_delivery (map (λ (i : Interchange). cond (is_pair partner number i) (record i { reply = reply }) i) interchanges) ≡ map as_delivery interchanges
reply_shown partner number reply [] = refl
reply_shown partner number reply (i ∷ interchanges) =
    λ j. on (is_pair partner number i) j ∷ reply_shown partner number reply interchanges j
  where
    on : (b : Bool) → as_delivery (cond b (record i { reply = reply }) i) ≡ as_delivery i
    on true = refl
    on false = refl

change_shown : (change : ChangeContent) (rows : Rows) → shown (with_change change rows) ≡ shown rows
change_shown (visit_opened visit) rows = refl
change_shown (visit_closed number departure) rows = refl
change_shown (placed_at container visit slot) rows = refl
change_shown (moved_to container slot) rows = refl
change_shown (removed_from container) rows = refl
change_shown (listed_on call side container port) rows = refl
change_shown (line_done call side container) rows = refl
change_shown (unlisted call side container) rows = refl

changes_shown : (changes : List ChangeContent) (rows : Rows) → shown (with_changes changes rows) ≡ shown rows
changes_shown [] rows = refl
changes_shown (change ∷ changes) rows = changes_shown changes (with_change change rows) ∙ change_shown change rows

taken_shown : (partner : ℕ) (taken : List TakenContent) (rows : Rows) → shown (with_interchanges partner taken rows) ≡ shown rows
taken_shown partner [] rows = refl
taken_shown partner (t ∷ taken) rows =
    taken_shown partner taken (with_interchange partner t rows)
    ∙ reply_shown partner t.number t.reply (with_changes t.changes rows).interchanges
    ∙ changes_shown t.changes rows

-- ---- one event more

pub opening_is_in_order : OpeningIsInOrder
unfolding kept
opening_is_in_order content = record { after = opening_after content; in_order = refl }

pub refused_stays_in_order : RefusedStaysInOrder
refused_stays_in_order content es rows sent fault are is = record {
  after = (refused_adds content es rows sent fault are.after is).rows_are;
  in_order = are.in_order ∙ ap kept (sym (refused_more content es sent fault is));
}

-- what an admitted delivery adds, by whether its number was used
pub admitted_kept : (content : SetupContent) (es : List Event) (sent : List ℕ) (partner number : ℕ) (used : Bool) → IsFor content es sent partner number
    → is_used (deliveries_of content es) partner number ≡ used
    → kept (deliveries_of content (es ++ delivered sent ∷ [])) ≡ kept (deliveries_of content es) ++ cond used [] (delivery partner number (interchange_of sent) ∷ [])
admitted_kept content es sent partner number used for is =
    let d = delivery partner number (interchange_of sent) in
    ap kept (admitted_more content es sent partner number for)
    ∙ kept_adds (deliveries_of content es) d
    ∙ ap (λ b. kept (deliveries_of content es) ++ cond b [] (d ∷ [])) is

pub used_stays_in_order : UsedStaysInOrder
used_stays_in_order content es rows sent partner number first are for there = record {
  after = (used_adds content es rows sent partner number first are.after for there).rows_are;
  in_order =
      are.in_order
      ∙ sym (append-nil (kept (deliveries_of content es)))
      ∙ sym (admitted_kept content es sent partner number true for (ap is_some (sym (are.after.texts partner number) ∙ there)));
}

kept_shown : (content : SetupContent) (es : List Event) (rows : Rows) (sent : List ℕ) (partner number : ℕ) → AreAfterInOrder content es rows → IsFor content es sent partner number
    → text_in rows partner number ≡ None
    → AreInOrder content (es ++ delivered sent ∷ []) (with_waiting partner number (interchange_of sent) rows)
kept_shown content es rows sent partner number are for free =
    map-append as_delivery rows.interchanges (record { partner = partner; number = number; body = interchange_of sent; reply = [] } ∷ [])
    ∙ ap (λ ds. ds ++ delivery partner number (interchange_of sent) ∷ []) are.in_order
    ∙ sym (admitted_kept content es sent partner number false for (ap is_some (sym (are.after.texts partner number) ∙ free)))

pub early_adds_in_order : EarlyAddsInOrder
early_adds_in_order content es rows sent partner number are for free early = record {
  after = (early_adds content es rows sent partner number are.after for free early).rows_are;
  in_order = kept_shown content es rows sent partner number are for free;
}

pub next_adds_in_order : NextAddsInOrder
next_adds_in_order content es rows sent partner number taken machine given are for free next from = record {
  after = (next_adds content es rows sent partner number taken machine given are.after for free next from).rows_are;
  in_order =
      taken_shown partner taken (with_waiting partner number (interchange_of sent) rows)
      ∙ kept_shown content es rows sent partner number are for free;
}

pub account_stays_in_order : AccountStaysInOrder
account_stays_in_order content es rows code kind own id are named new = record {
  after = (account_adds_row content es rows code kind own id are.after named new).rows_are;
  in_order = are.in_order ∙ ap kept (sym (account_adds es content code kind));
}

pub migration_stays_in_order : MigrationStaysInOrder
migration_stays_in_order content version es rows none are in_order = record {
  after = migration_goes_on content version es rows none are;
  in_order = in_order ∙ ap kept (sym (migration_adds es content version));
}
