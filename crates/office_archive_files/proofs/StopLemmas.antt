-- At whatever moment a closing stops, its store opens after the same events.
use Rattle.std.proofs.Common.{◌≡◌, inl, inr, List, [], ◌∷◌, Bool, true, false, cond, filter, Result, refl, sym, ap, subst, ◌∙◌}
use Rattle.sqlite.specs.{Effect.Database, Tree.Trees}
use Rattle.sqlite_trees.specs.declared.store.Store.{Ghosts}
use Rattle.office_replies.specs.Events.{Event}
use Rattle.office_rows.{specs.{Rows.Rows, Stored.StoresRows}, proofs.Creating.stores}
use Rattle.office_admission.specs.Setups.{SetupContent}
use Rattle.office_parts.specs.{OwnLists.is_own_line, Archives.Archive, OwnTerminal.is_own}
use Rattle.office_closing.specs.{Register.RegisterContent, Stored.HasRegister, Tables.whole, Closes.{Closes, Closing, Held, IsClosing, IsLeft, raised_register}}
use Rattle.office_closing.specs.{Copies.FileNames, Files.{Files, AreClean, files}, PuttingAway.AreNamedThen, declared.faults.CloseFault.CloseFault}
use Rattle.office_archive_files.{specs.ClosedStores.{ClosingsAreNoEvents, OpensAfter}, proofs.AddedLemmas.closings_add_an_archive}
use Rattle.office_archive_files.specs.Stops.{AreLeftOpen, AreWith, MayBeClosed, StopsAreNoEvents, StopsLeaveOpen, StoresEither}

-- ---- nothing is gone

all_stay : {A : Type 0} (p : A → Bool) → ((x : A) → p x ≡ true) → (xs : List A) → xs ≡ filter p xs
all_stay p all [] = refl
all_stay p all (x ∷ xs) = ap (λ l. x ∷ l) (all_stay p all xs) ∙ sym (ap (λ b. cond b (x ∷ filter p xs) (filter p xs)) (all x))

none_gone : (closing : Closing) (rows : Rows) → IsLeft closing rows rows
none_gone closing rows = record {
  deleted = λ i. false;
  only = λ i e. absurd cc;
  kept = λ n. true;
  stay = λ n e. refl;
  away = λ list. false;
  lists = λ list e. absurd cc;
  is = λ j. record rows {
    interchanges = all_stay (λ i. true) (λ i. refl) rows.interchanges j;
    visits = all_stay (is_own (λ n. true)) (λ v. refl) rows.visits j;
    lines = all_stay (is_own_line (λ list. false)) (λ l. refl) rows.lines j;
  };
}

-- ---- registers

stores_either : (register : RegisterContent) (db : Database) → HasRegister register db → StoresEither register db.trees
stores_either register db has = (
  has.0,
  record { schema = refl; listed = has.1.listed; archives = has.1.archives; segments = has.1.segments; closed_for = has.1.closed_for; lists = has.1.lists; taken = has.1.taken; sealed = has.1.sealed },
)

-- ---- a stop

module _ (no_event : ClosingsAreNoEvents) (names : FileNames) (content : SetupContent) (es : List Event) (archives : List Archive) (held : Held) (old new : Files) (may : MayBeClosed names content es archives held old) where
  named_after : (closing : Closing) → IsClosing held names closing → (after : List Archive) × AreNamedThen held closing archives after
  named_after closing is = elim is.register [ inl new ↦ closings_add_an_archive archives held names closing is new | inr old ↦ (archives, may.last closing is old) ]

  with_copy : (closing : Closing) (after : List Archive) → AreNamedThen held closing archives after → AreWith held.copy archives after
  with_copy closing after named = record {
    before = named.before;
    one = named.one;
    are = named.are;
    rows = named.rows;
    were = elim named.named [ inl new ↦ inl new.1 | inr old ↦ inr old.1 ];
  }

  left_open : (closing : Closing) (left : Rows) (store register : Trees) → IsClosing held names closing → IsLeft closing held.own left → StoresRows left store → StoresEither (raised_register held closing) register → AreLeftOpen content es archives held.copy store register
  left_open closing left store register is is_left stored has =
      let after = named_after closing is in
      record {
        archives = after.0;
        are = inr (with_copy closing after.0 after.1);
        names = raised_register held closing;
        rows = left;
        has = has;
        opens = no_event content es archives after.0 held names closing left old.store.now.trees store may.given may.opens may.has.copy_orderly may.has.copied_sound is after.1 is_left stored;
      }

  store_is : (store : Trees) → old.store.may_leave store → store ≡ old.store.now.trees
  store_is store left = may.store.alone store left ∙ ap (λ (d : Database). d.trees) (sym may.store.settled)

  register_is : (register : Trees) → old.register.may_leave register → register ≡ old.register.now.trees
  register_is register left = may.register.alone register left ∙ ap (λ (d : Database). d.trees) (sym may.register.settled)

  as_before : (store register : Trees) → old.store.may_leave store → old.register.may_leave register → AreLeftOpen content es archives held.copy store register
  as_before store register of_store of_register = record {
    archives = archives;
    are = inl refl;
    names = held.register;
    rows = held.own;
    has = subst (StoresEither held.register) (sym (register_is register of_register)) (stores_either held.register old.register.now may.has.register);
    opens = subst (OpensAfter content es archives held.register held.own) (sym (store_is store of_store)) may.opens;
  }

  stops : {T : Type 0} (result : Result T CloseFault) → Closes names old new result → AreClean new → StopsLeaveOpen content es archives held.copy new
  stops result closes clean store register of_store of_register = elim ((closes.store clean).crash clean.store store of_store) [
    | inl before ↦ elim ((closes.register clean).crash clean.register register of_register) [
      | inl was ↦ as_before store register before was
      | inr raised ↦
          let it = raised held may.has in
          let stored = subst (StoresRows held.own) (sym (store_is store before)) (stores held.own old.store.now may.has.own) in
          left_open it.0 held.own store register it.1 (none_gone it.0 held.own) stored (whole, it.2)
    ]
    | inr after ↦
        let it = after held may.has in
        let has = subst (StoresEither (raised_register held it.0)) (sym (it.2.settled.alone register of_register)) (stores_either (raised_register held it.0) new.register.committed it.2.has) in
        left_open it.0 it.1 store register it.2.is_closing it.3 it.4 has
  ]

pub stops_are_no_events : {S R A M : Type 0} (s : Ghosts S) (r : Ghosts R) (a : Ghosts A) (m : Ghosts M) → ClosingsAreNoEvents → StopsAreNoEvents s r a m
stops_are_no_events s r a m no_event names content es archives held store new_store register new_register archive new_archive archive_register new_archive_register result may closes clean =
    stops no_event names content es archives held (files s r a m store register archive archive_register) (files s r a m new_store new_register new_archive new_archive_register) may result closes clean
