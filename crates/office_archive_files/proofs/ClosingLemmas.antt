-- What a closing leaves of a store opens after the same events.
use Rattle.std.specs.{Prelude.{◌&&◌, ◌||◌, ◌==◌, Contains, count_by, fold}, List.range_with_len, Cmp.Lexicographic.bytes_decides, Str.bytes_eq}
use Rattle.std.proofs.Common.{◌≡◌, ◌⊎◌, inl, inr, ℕ, ◌+◌, ◌≤◌, List, [], ◌∷◌, Bool, true, false, cond, length, map, Option, None, Some, filter, not, refl, sym, ap, subst, ◌∙◌, arith}
use Rattle.std.proofs.lemmas.Bool.{and_from, and_parts, eq-eqb, eqb-true}
use Rattle.sqlite.specs.Tree.{Trees}
use Rattle.sqlite_rules.proofs.ListLemmas.{some_has}
use Rattle.edi_messages.specs.{Purposes.CallContent, declared.codes.PartnerKind.PartnerKind}
use Rattle.partner_core.specs.Deliveries.{run}
use Rattle.terminal_core.specs.{Changes.TerminalRows, Forms.IsWellFormed, State.{AreNumbered, IsWhole, TerminalState, side_code}, declared.lines.Side.Side}
use Rattle.terminal_core.proofs.Lined.{same_key}
use Rattle.office_replies.specs.Events.{Event}
use Rattle.office_loading.proofs.Keyed.{side_is}
use Rattle.office_rows.specs.{Effects.is_pair, Rows.{Interchange, Partner, Rows}, Stored.StoresRows, Tables.office_schema}
use Rattle.office_admission.specs.{Given.IsGiven, Setups.SetupContent, Accounts.content_after, Deliveries.deliveries_of}
use Rattle.office_history.{specs.After.{AreKeptOnce, accounts_from, machine_after}, proofs.Kept.{head_in, tail_in, count_more}}
use Rattle.office_parts.specs.{Bringing.is_list, OwnLists.{ListName, list_name, rows_without_lists, without_lists}, Archives.Archive, Closing.is_closed}
use Rattle.office_parts.{specs.{LeftOver.rows_beyond, OwnTerminal.{own_terminal, own_visits}}, proofs.Writings.own_office_without}
use Rattle.office_closing.specs.{Changes.unmarked, Lists.{SettledListContent, is_of_list, lines_of_list}, Register.{RegisterContent, closed_by, newest_visit}}
use Rattle.office_closing.specs.{Sound.IsSound, Closes.{AreOrderly, Closing, Held, IsClosing, IsLeft, raised_register}, Copies.FileNames, Deleting.is_one_of}
use Rattle.office_closing.specs.PuttingAway.{AreNamedThen, ClosedStoresStand, HasLists as HasEachList, Stands}
use Rattle.office_archives.{specs.{Shelves.{HasLists, IsKeptAs, IsOfCall, NamesAll}, Together.IsBesideAfter}, proofs.Filled.of_whole}
use Rattle.office_archive_files.{specs.ClosedStores.{ClosingsAreNoEvents, OpenedRowsAreOrderly, OpensAfter}, proofs.NamingLemmas.closings_are_named}

-- ---- the list of a call

module _ (call : CallContent) (side : Side) where
  abbrev name : ListName
  name = list_name call side

  abbrev name_of : SettledListContent → ListName
  name_of one = list_name one.call one.side

  of_call : (one : SettledListContent) → is_of_list call side one ≡ true → (one.call ≡ call) × (one.side ≡ side)
  of_call one is =
      let vessel = bytes_eq one.call.vessel call.vessel in
      let voyage = bytes_eq one.call.voyage call.voyage in
      let code = side_code one.side == side_code side in
      let outer = and_parts vessel (voyage && code) is in
      let inner = and_parts voyage code outer.1 in
      let same_vessel = (bytes_decides one.call.vessel call.vessel).0 outer.0 in
      let same_voyage = (bytes_decides one.call.voyage call.voyage).0 inner.0 in
      ((λ i. record { vessel = same_vessel i; voyage = same_voyage i }), side_is one.side side (eqb-true (side_code one.side) (side_code side) inner.1))

  of_name : (one : SettledListContent) → name_of one ≡ name → is_of_list call side one ≡ true
  of_name one same =
      let vessel : one.call.vessel ≡ call.vessel = cc in
      let voyage : one.call.voyage ≡ call.voyage = cc in
      let code : side_code one.side ≡ side_code side = cc in
      and_from (bytes_eq one.call.vessel call.vessel) (bytes_eq one.call.voyage call.voyage && (side_code one.side == side_code side)) ((bytes_decides one.call.vessel call.vessel).1 vessel)
      (and_from (bytes_eq one.call.voyage call.voyage) (side_code one.side == side_code side) ((bytes_decides one.call.voyage call.voyage).1 voyage) (eq-eqb (side_code one.side) (side_code side) code))

  -- a list of another call has another name
  of_another : (one : SettledListContent) → is_of_list call side one ≡ false → is_list (name_of one) name ≡ false
  of_another one other = by (is_list (name_of one) name) refl
    where
      by : (is : Bool) → is_list (name_of one) name ≡ is → is ≡ false
      by true e = sym (of_name one (same_key (name_of one) name e)) ∙ other
      by false e = refl

  -- ---- its lines

  abbrev told : Option (List ℕ) → List SettledListContent → Option (List ℕ)
  told found lists = fold (λ found list. cond (is_of_list call side list) (Some list.lines) found) found lists

  -- what is told is the text of one of the lists
  record IsOfOne (lists : List SettledListContent) (text : Option (List ℕ)) : Type 0 where
    one : SettledListContent
    has : Contains lists one
    is_its : is_of_list call side one ≡ true
    is : text ≡ Some one.lines

  -- none of them is that of the call, and what was told is told still
  record IsOfNone (lists : List SettledListContent) (found text : Option (List ℕ)) : Type 0 where
    none : is_one_of lists name ≡ false
    is : text ≡ found

  abbrev IsOfEither : List SettledListContent → (found text : Option (List ℕ)) → Type 0
  IsOfEither lists found text = IsOfNone lists found text ⊎ IsOfOne lists text

  found_then : (x : SettledListContent) (lists : List SettledListContent) (text : Option (List ℕ)) → is_of_list call side x ≡ true → IsOfEither lists (Some x.lines) text → IsOfOne (x ∷ lists) text
  found_then x lists text is (inl none) = record { one = x; has = head_in x lists; is_its = is; is = none.is }
  found_then x lists text is (inr it) = record { one = it.one; has = tail_in x it.one lists it.has; is_its = it.is_its; is = it.is }

  passed_then : (x : SettledListContent) (lists : List SettledListContent) (found text : Option (List ℕ)) → is_of_list call side x ≡ false → IsOfEither lists found text → IsOfEither (x ∷ lists) found text
  passed_then x lists found text other (inl none) = inl (record { none = ap (λ b. b || is_one_of lists name) (of_another x other) ∙ none.none; is = none.is })
  passed_then x lists found text other (inr it) = inr (record { one = it.one; has = tail_in x it.one lists it.has; is_its = it.is_its; is = it.is })

  of_either : (found : Option (List ℕ)) (lists : List SettledListContent) → IsOfEither lists found (told found lists)
  of_either found [] = inl (record { none = refl; is = refl })
  of_either found (x ∷ lists) = by (is_of_list call side x) refl (of_either (Some x.lines) lists) (of_either found lists)
    where
      by : (is : Bool) → is_of_list call side x ≡ is → IsOfEither lists (Some x.lines) (told (Some x.lines) lists) → IsOfEither lists found (told found lists) → IsOfEither (x ∷ lists) found (told (cond is (Some x.lines) found) lists)
      by true e some rest = inr (found_then x lists _ e some)
      by false e some rest = passed_then x lists found _ e rest

-- ---- the lists of an archive

module _ (archive : Archive) (lists : List SettledListContent) (has : HasEachList archive lists) where
  kept : (call : CallContent) (side : Side) → IsKeptAs call side (lines_of_list lists call side) (archive.lists (list_name call side))
  kept call side = by (of_either call side None lists)
    where
      by : IsOfEither call side lists None (lines_of_list lists call side) → IsKeptAs call side (lines_of_list lists call side) (archive.lists (list_name call side))
      by (inl none) =
          subst (λ text. IsKeptAs call side text (archive.lists (list_name call side))) (sym none.is)
          (subst (IsKeptAs call side None) (sym (has.only (list_name call side) none.none)) tt)
      by (inr it) =
          let its = of_call call side it.one it.is_its in
          let lines = has.each it.one it.has in
          let named : list_name it.one.call it.one.side ≡ list_name call side = λ i. list_name (its.0 i) (its.1 i) in
          let told : archive.lists (list_name call side) ≡ Some lines.lines = ap archive.lists (sym named) ∙ lines.are in
          let of_it : IsKeptAs it.one.call it.one.side (Some it.one.lines) (Some lines.lines) = lines.is_text in
          let text : IsKeptAs call side (Some it.one.lines) (Some lines.lines) =
          subst (λ (s : Side). IsKeptAs call s (Some it.one.lines) (Some lines.lines)) its.1 (subst (λ (c : CallContent). IsKeptAs c it.one.side (Some it.one.lines) (Some lines.lines)) its.0 of_it) in
          subst (λ o. IsKeptAs call side o (archive.lists (list_name call side))) (sym it.is) (subst (IsKeptAs call side (Some it.one.lines)) (sym told) text)

  of_calls : (list : ListName) → (archive.lists list ≡ None) ⊎ IsOfCall list
  of_calls list = by (is_one_of lists list) refl
    where
      by : (is : Bool) → is_one_of lists list ≡ is → (archive.lists list ≡ None) ⊎ IsOfCall list
      by true e =
          let found = some_has (λ (one : SettledListContent). is_list (list_name one.call one.side) list) lists e in
          inr (found.0.call, found.0.side, same_key (list_name found.0.call found.0.side) list found.2)
      by false e = inl (has.only list e)

  has_lists : HasLists archive lists
  has_lists = record { kept = kept; of_calls = of_calls }

-- ---- the archives that the register names

module _ (held : Held) (names : FileNames) (closing : Closing) (archives after : List Archive) (sound : IsSound held.copied) (is : IsClosing held names closing) (are_then : AreNamedThen held closing archives after) where
  named_then : NamesAll held.register archives → NamesAll (raised_register held closing) after
  named_then named = elim are_then.named [
    | inl new ↦
        let before : NamesAll (unmarked held.copied) are_then.before = subst (λ (register : RegisterContent). NamesAll register are_then.before) new.0 (subst (NamesAll held.register) new.1 named) in
        subst (NamesAll (raised_register held closing)) (sym are_then.are)
        (closings_are_named held names closing are_then.before are_then.one is sound.tested before (λ partner. ap (λ (f : ℕ → ℕ). f partner) are_then.closes) (has_lists are_then.one closing.lists are_then.lists))
    | inr old ↦ subst (λ (register : RegisterContent). NamesAll register after) old.0 (subst (NamesAll held.register) old.1 named)
  ]

-- ---- interchanges

fewer : (p q : Interchange → Bool) (interchanges : List Interchange) → count_by p (filter q interchanges) ≤ count_by p interchanges
fewer p q [] = omega arith
fewer p q (i ∷ interchanges) = by (q i) (p i) refl (fewer p q interchanges)
  where
    by : (stays is : Bool) → p i ≡ is → count_by p (filter q interchanges) ≤ count_by p interchanges → count_by p (cond stays (i ∷ filter q interchanges) (filter q interchanges)) ≤ count_by p (i ∷ interchanges)
    by true is e rest = omega (arith, count_more p i (filter q interchanges) is e, count_more p i interchanges is e, rest)
    by false is e rest = omega (arith, count_more p i interchanges is e, rest)

once_left : (closing : Closing) (rows left : Rows) → IsLeft closing rows left → AreKeptOnce rows.interchanges → AreKeptOnce left.interchanges
once_left closing rows left is once partner number =
    let less = fewer (is_pair partner number) (λ (i : Interchange). not (is.deleted i)) rows.interchanges in
    subst (λ (r : Rows). count_by (is_pair partner number) r.interchanges ≤ 1) (sym is.is) (omega (arith, less, once partner number))

-- ---- the rows

module _ (content : SetupContent) (es : List Event) (archives : List Archive) (register : RegisterContent) (rows : Rows) (db : Trees) where
  stands : IsGiven content → OpensAfter content es archives register rows db → Stands content es archives rows register
  stands given opens =
      let beside = opens.beside in
      let last = beside.archived.last_closed in
      record {
        given = given;
        archived = beside.archived;
        own = beside.own;
        whole = beside.whole;
        parts = beside.parts;
        hold = beside.hold;
        closed = beside.knows.numbers;
        visits = beside.knows.visits;
        away = beside.away;
        lists = beside.lists;
        beyond = ap (rows_beyond last) (sym opens.rows_are) ∙ ap (rows_without_lists beside.away) beside.is_own.beyond;
        rest = λ i inside. beside.is_own.rest i (subst (λ (r : Rows). Contains (filter (is_closed last) r.interchanges) i) (sym opens.rows_are) inside);
      }

  -- the store's own rows with the interchanges that stand in it
  abbrev filled : Stands content es archives rows register → Rows
  filled it = record it.own { interchanges = rows.interchanges }

  rows_are : (it : Stands content es archives rows register) → rows_without_lists it.away (filled it) ≡ rows
  rows_are it = sym (ap (λ (r : Rows). let with_them : Rows = record r { interchanges = rows.interchanges } in with_them) it.beyond)

  filled_beyond : (it : Stands content es archives rows register) → rows_beyond it.archived.last_closed (filled it) ≡ it.own
  filled_beyond it = ap (λ (r : Rows). let with_its : Rows = record it.own { interchanges = r.interchanges } in with_its) it.beyond

  opens_after : IsSound register → NamesAll register archives → AreKeptOnce rows.interchanges → Stands content es archives rows register → StoresRows rows db → OpensAfter content es archives register rows db
  opens_after sound named once it stored = record {
    sound = sound;
    named = named;
    beside = record {
      archived = it.archived;
      own = it.own;
      whole = it.whole;
      parts = it.parts;
      hold = it.hold;
      knows = record { numbers = it.closed; visits = it.visits };
      rows = filled it;
      is_own = record { beyond = filled_beyond it; rest = it.rest };
      away = it.away;
      lists = it.lists;
      are = subst (λ (r : Rows). StoresRows r db) (sym (rows_are it)) stored;
    };
    rows_are = rows_are it;
    once = once;
  }

-- ---- their order

ids_from : (id : ℕ) (next : ℕ → ℕ) (accounts : List (List ℕ × PartnerKind)) → map (λ (p : Partner). p.id) (accounts_from id next accounts) ≡ range_with_len id (length (accounts_from id next accounts))
ids_from id next [] = refl
ids_from id next (account ∷ accounts) = ap (λ l. id ∷ l) (ids_from (id + 1) next accounts)

module _ (content : SetupContent) (es : List Event) (archives : List Archive) (register : RegisterContent) (rows : Rows) (db : Trees) (given : IsGiven content) (opens : OpensAfter content es archives register rows db) where
  abbrev beside : IsBesideAfter archives (closed_by register) content es db
  beside = opens.beside

  abbrev here : Rows
  here = rows_without_lists beside.away beside.rows

  abbrev own_now : TerminalState
  own_now = without_lists beside.away (own_terminal beside.archived.stays (machine_after content es).terminal)

  -- the terminal of the store's own, as an office of its set-up has it
  record IsInForm : Type 0 where
    whole : IsWhole own_now
    formed : IsWellFormed own_now

  in_form : IsInForm
  in_form =
      let once : AreKeptOnce here.interchanges = subst (λ (r : Rows). AreKeptOnce r.interchanges) (sym opens.rows_are) opens.once in
      let shown =
      own_office_without content es beside.archived beside.own beside.whole here beside.away (record { schema = office_schema; trees = db }) (newest_visit register.archives) given beside.parts (ap (rows_without_lists beside.away) beside.is_own.beyond) once
      (of_whole beside.archived beside.own beside.whole beside.rows beside.parts.parts beside.is_own) beside.knows.visits beside.are in
      record { whole = shown.2.whole; formed = shown.2.formed }

  accounts_are : rows.partners ≡ accounts_from 1 (λ partner. run (deliveries_of content es) partner + 1) (content_after content es).partners
  accounts_are =
      ap (λ (r : Rows). r.partners) (sym opens.rows_are) ∙ ap (λ (r : Rows). r.partners) beside.is_own.beyond ∙ sym beside.parts.parts.partners ∙ beside.parts.after.partners

  visits_are : own_now.visits ≡ rows.visits
  visits_are =
      ap (own_visits beside.archived.stays) (sym (ap (λ (r : TerminalRows). r.visits) beside.parts.after.terminal)) ∙ sym beside.parts.parts.visits
      ∙ ap (λ (r : Rows). r.visits) (sym beside.is_own.beyond) ∙ ap (λ (r : Rows). r.visits) opens.rows_are

  orderly : AreOrderly rows
  orderly = record {
    accounts =
        subst (λ (partners : List Partner). map (λ (p : Partner). p.id) partners ≡ range_with_len 1 (length partners)) (sym accounts_are)
        (ids_from 1 (λ partner. run (deliveries_of content es) partner + 1) (content_after content es).partners);
    once = opens.once;
    numbered = subst (AreNumbered 0) visits_are in_form.whole.numbered;
    formed = λ visit inside. in_form.formed.visits visit (subst (λ l. Contains l visit) (sym visits_are) inside);
  }

pub opened_rows_are_orderly : OpenedRowsAreOrderly
opened_rows_are_orderly content es archives register rows db given opens = orderly content es archives register rows db given opens

-- ---- the law

pub closings_are_no_events : ClosedStoresStand → ClosingsAreNoEvents
closings_are_no_events closed_stand content es archives after held names closing left db new given opens copied sound is are_then is_left stored =
    let stood = stands content es archives held.register held.own db given opens in
    let in_order = orderly content es archives held.register held.own db given opens in
    let stand = closed_stand content es archives after held names closing left stood in_order copied is are_then is_left in
    opens_after content es after (raised_register held closing) left new is.sound (named_then held names closing archives after sound is are_then opens.named) (once_left closing held.own left is_left opens.once) stand stored
