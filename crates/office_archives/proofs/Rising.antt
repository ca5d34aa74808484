-- Lists that are put into a register: of each list the lines are those that were put there last.
use Rattle.std.specs.{Prelude.{IsTrue, count_by, filter, ◌&&◌, ◌==◌, fold, nat_le, nat_lt, ◌-◌, remove, slice_get, slice_index_or}, declared.alloc.Global.Global}
use Rattle.std.specs.{Option.{option_and_then, option_or, unwrap_or}, List.{AllByRecursion, list_all, position, position_or_len}, Str.bytes_eq}
use Rattle.std.specs.{Cmp.Lexicographic.{bytes_decides, slice_cmp}, Ordering.{is_lt, nat_cmp, ordering_reverse, ordering_then}}
use Rattle.std.proofs.{lemmas.Bool.{and_parts, eqb-true, leb-true, le-leb, leb-false, ltb-true}, lemmas.Bool.Decides.nat_tests, lemmas.List.Edits.length-remove}
use Rattle.std.proofs.Common.{◌≡◌, ℕ, ◌≤◌, List, true, Option, None, Some, is_some, option_map, string_bytes, String, Result, Ok, Err, IfOk, refl, sym, ap, subst, ◌∙◌, [], ◌∷◌, ◌++◌, Bool, map, false, cond, arith, Ordering, Less, Equal, Greater, is_gt, ◌<◌, drop, length, take, zero, suc}
use Rattle.std.proofs.{lemmas.Cmp.{nat_cmp_total, nat_list_cmp_total, tied_itself, upto}, lemmas.List.{length-append, length-drop}}
use Rattle.std.proofs.{lemmas.List.Quantifiers.position-Some, lemmas.Option.{cond_some, same_Some, slice_get_read}}
use Rattle.sqlite.specs.{Held.{Held, state}, State.HasCleanDisk}
use Rattle.sqlite_trees.specs.declared.store.Store.{Ghosts}
use Rattle.office_rows.specs.{Rows.Rows, Stored.HasRows}
use Rattle.office_tables.specs.{Answers.{IsKept, IsNextOf}, DeliveryReading.OnlyReads, declared.interchanges.Kept.Kept, declared.table_fault.TableFault.TableFault}
use Rattle.office_tables.proofs.WriteLemmas.{was_clean, was_open}
use Rattle.office_history.specs.After.{AreKeptOnce, reply_in, content_after, machine_after}
use Rattle.office_parts.{specs.{Archives.{Archive, archive_of}, OwnTerminal.{own_terminal, MayStay}}, proofs.{Takings.visits_same, Splits.open_kept}}
use Rattle.office_closing.specs.{Register.register_content, Seals.HasSeals, declared.register.Register.Register, Sound.{are_rising, may_be_list}}
use Rattle.office_closing.specs.Lists.{SettledListContent, comes_before, is_of_list, lines_of_list, list_cmp, lists_among, put_list, put_lists}
use Rattle.office_closing.proofs.SoundLemmas.{list_total}
use Rattle.office_desk.{specs.Reports.{TellsAbout, TellsNext, partner_called}, proofs.Faults.reply_of_kept}
use Rattle.office_archives.specs.Shelves.{AreSealed, AreShelved, IsLastSound, IsOpenAt, IsOpenIfKnown, IsSealedIfSaid, IsSoundIfAny, IsToldBy, LeavesOpen, NamesAll, OpensFor, ShowsSo, archive_at, left_open, with_room}
use Rattle.office_archives.specs.{declared.opened.Opened.Opened, Reporting.{IsOfWhatStands, WhatStandsIsToldAlike}}
use Rattle.box6346.specs.declared.box_number.BoxNumber.{BoxNumber}
use Rattle.edi_messages.specs.{Owned.call_content, declared.call.Call.Call, Purposes.CallContent, Texts.is_name}
use Rattle.terminal_core.specs.{declared.lines.Side.Side, State.{LineContent, TerminalState, open_visit, side_code}}
use Rattle.office_admission.specs.Setups.{SetupContent}
use Rattle.office_reports.specs.{declared.query.About.About, Listed.AreListed, Yard.{StandsAt, slot_in}, declared.yard.Standing.Standing, Containers.blocker_in}
use Rattle.office_reports.specs.{Work.{is_open_entry, jobs_of, standing_by, work_by}, Lists.is_done_line}
use Rattle.office_report_data.specs.Told.{ReportContent}
use Rattle.office_report_data.specs.Told as value
use Rattle.office_closing.specs.Register as register
use Rattle.office_reports.specs.declared.query.About.TheVariants as about

-- ==== Shelved: Archives on a shelf, of which some are open.

module _ {X : Type 0} (P : X → Type 0) where
  all_taken : (n : ℕ) (xs : List X) → AllByRecursion P xs → AllByRecursion P (take n xs)
  all_taken zero xs all = tt
  all_taken (suc n) [] all = tt
  all_taken (suc n) (x ∷ xs) all = (all.0, all_taken n xs all.1)

  all_dropped : (n : ℕ) (xs : List X) → AllByRecursion P xs → AllByRecursion P (drop n xs)
  all_dropped zero xs all = all
  all_dropped (suc n) [] all = tt
  all_dropped (suc n) (x ∷ xs) all = all_dropped n xs all.1

  pub all_both : (xs ys : List X) → AllByRecursion P xs → AllByRecursion P ys → AllByRecursion P (xs ++ ys)
  all_both [] ys first rest = rest
  all_both (x ∷ xs) ys first rest = (first.0, all_both xs ys first.1 rest)

  pub all_at : (xs : List X) (i : ℕ) (x : X) → AllByRecursion P xs → slice_get xs i ≡ Some x → P x
  all_at [] i x all at = let never : None ≡ Some x = at in absurd cc
  all_at (y ∷ xs) zero x all at = subst P (same_Some y x at) all.0
  all_at (y ∷ xs) (suc i) x all at = all_at xs i x all.1 at

last_put : {X : Type 0} (xs : List X) (x : X) → slice_get (xs ++ x ∷ []) (length xs) ≡ Some x
last_put [] x = refl
last_put (y ∷ xs) x = last_put xs x

-- the one that was put back last was asked last
pub asked_last : {S : Type 0} (g : Ghosts S) (is_known : ℕ → Type 0) (left opened : List (Opened S g)) (one : Opened S g) → opened ≡ left ++ one ∷ [] → IsLastSound g is_known opened
    → IsSoundIfAny g is_known (Some one)
asked_last g is_known left opened one is sound =
    let many = length-append left (one ∷ []) in
    let last : length (left ++ one ∷ []) - 1 ≡ length left = omega (arith, many) in
    subst (IsSoundIfAny g is_known) (ap (slice_get (left ++ one ∷ [])) last ∙ last_put left one) (subst (IsLastSound g is_known) is sound)

-- those that stay open beside the one that is asked
module _ {S : Type 0} (g : Ghosts S) (place : ℕ) (opened : List (Opened S g)) where
  abbrev is_there : Opened S g → Bool
  is_there one = one.place == place

  pub within : (i : ℕ) → position is_there opened ≡ Some i → i < length opened
  within i e =
      let first = position_or_len is_there opened in
      let both = cond_some (nat_lt first (length opened)) first i e in
      subst (λ k. k < length opened) both.1 (ltb-true first (length opened) both.0)

  pub at_place : (i : ℕ) (one : Opened S g) → position is_there opened ≡ Some i → one ≡ slice_index_or opened i one → one.place ≡ place
  at_place i one e is = eqb-true one.place place (ap is_there is ∙ (position-Some is_there opened i one e).1)

  pub one_at : (i : ℕ) (one : Opened S g) → position is_there opened ≡ Some i → one ≡ slice_index_or opened i one → slice_get opened i ≡ Some one
  one_at i one e is = slice_get_read opened (length opened) i one refl (within i e) is

  left_all : (P : Opened S g → Type 0) → AllByRecursion P opened → AllByRecursion P (left_open place opened)
  left_all P all = by (position is_there opened)
    where
      room : (full : Bool) → AllByRecursion P (cond full (drop 1 opened) opened)
      room true = all_dropped P 1 opened all
      room false = all

      by : (found : Option ℕ) → AllByRecursion P (unwrap_or (option_map (remove opened) found) (with_room opened))
      by None = room (nat_le 4 (length opened))
      by (Some i) = all_both P (take i opened) (drop (suc i) opened) (all_taken P i opened all) (all_dropped P (suc i) opened all)

  pub left_few : length opened ≤ 4 → length (left_open place opened) < 4
  left_few few = by (position is_there opened) refl
    where
      room : (full : Bool) → nat_le 4 (length opened) ≡ full → length (cond full (drop 1 opened) opened) < 4
      room true e = let less = length-drop 1 opened in omega (arith, few, less)
      room false e = leb-false 4 (length opened) e

      by : (found : Option ℕ) → position is_there opened ≡ found → length (unwrap_or (option_map (remove opened) found) (with_room opened)) < 4
      by None e = room (nat_le 4 (length opened)) refl
      by (Some i) e = let less = length-remove opened i (within i e) in omega (arith, few, less)

module _ {S F : Type 0} (g : Ghosts S) (is_known : ℕ → Type 0) (holds : List Archive → F → Type 0) (shelf after : F) (names still : Register) where
  -- those that stay open have the seals that they are said to have
  sealed_left : (place : ℕ) (opened left : List (Opened S g)) → AreSealed g (register_content names) opened → still ≡ names → left ≡ left_open place opened → AreSealed g (register_content still) left
  sealed_left place opened left are same is =
      subst (λ r. AreSealed g (register_content r) left) (sym same) (subst (AreSealed g (register_content names)) (sym is) (left_all g place opened (IsSealedIfSaid g (register_content names)) are))

  -- what is named and shelved stays so beside the one that is asked
  shelved_left : (list : List Archive) (place : ℕ) (opened left : List (Opened S g)) → AreShelved g is_known holds list shelf names opened → still ≡ names → holds list after → left ≡ left_open place opened → AreShelved g is_known holds list after still left
  shelved_left list place opened left are same on_shelf is = record {
    on_shelf = on_shelf;
    are_named = subst (λ r. NamesAll (register_content r) list) (sym same) are.are_named;
    few_open = let few = left_few g place opened are.few_open in let e = ap length is in omega (arith, few, e);
    are_open = subst (AllByRecursion (IsOpenIfKnown g is_known list)) (sym is) (left_all g place opened (IsOpenIfKnown g is_known list) are.are_open);
    are_sealed = sealed_left place opened left are.are_sealed same is;
  }

  pub leaves_open : (place : ℕ) (opened left : List (Opened S g)) → still ≡ names → ((list : List Archive) → holds list shelf → holds list after) → left ≡ left_open place opened → LeavesOpen g is_known holds place shelf after names still opened left
  leaves_open place opened left same holds_still is = record {
    named = same;
    left = is;
    room = λ few. subst (λ l. length l < 4) (sym is) (left_few g place opened few);
    sealed = λ are. sealed_left place opened left are same is;
    same = λ list are. shelved_left list place opened left are same (holds_still list are.on_shelf) is;
  }

module _ {S F : Type 0} (g : Ghosts S) (is_known : ℕ → Type 0) (holds : List Archive → F → Type 0) (list : List Archive) (shelf after : F) (names still : Register) where
  -- so it does with those that are open, and with one more
  pub shelved_same : (opened another : List (Opened S g)) → AreShelved g is_known holds list shelf names opened → still ≡ names → holds list after → another ≡ opened → AreShelved g is_known holds list after still another
  shelved_same opened another are same on_shelf is = record {
    on_shelf = on_shelf;
    are_named = subst (λ r. NamesAll (register_content r) list) (sym same) are.are_named;
    few_open = subst (λ l. length l ≤ 4) (sym is) are.few_open;
    are_open = subst (AllByRecursion (IsOpenIfKnown g is_known list)) (sym is) are.are_open;
    are_sealed = subst (λ r. AreSealed g (register_content r) another) (sym same) (subst (AreSealed g (register_content names)) (sym is) are.are_sealed);
  }

  pub shelved_more : (opened another : List (Opened S g)) (one : Opened S g) → AreShelved g is_known holds list shelf names opened → still ≡ names → holds list after → another ≡ opened ++ one ∷ [] → length opened < 4 → IsOpenIfKnown g is_known list one
      → IsSealedIfSaid g (register_content names) one → AreShelved g is_known holds list after still another
  shelved_more opened another one are same on_shelf is few open_ sealed = record {
    on_shelf = on_shelf;
    are_named = subst (λ r. NamesAll (register_content r) list) (sym same) are.are_named;
    few_open = let many = ap length is ∙ length-append opened (one ∷ []) in omega (arith, few, many);
    are_open = subst (AllByRecursion (IsOpenIfKnown g is_known list)) (sym is) (all_both (IsOpenIfKnown g is_known list) opened (one ∷ []) are.are_open (open_, tt));
    are_sealed = subst (λ r. AreSealed g (register_content r) another) (sym same)
        (subst (AreSealed g (register_content names)) (sym is) (all_both (IsSealedIfSaid g (register_content names)) opened (one ∷ []) are.are_sealed (sealed, tt)));
  }

-- the place of a number's archive is where it stands
pub archive_there : {S F : Type 0} (g : Ghosts S) (is_known : ℕ → Type 0) (holds : List Archive → F → Type 0) (list : List Archive) (shelf : F) (names : Register) (opened : List (Opened S g)) (p n place : ℕ) (archive : Archive) → 1 ≤ n → AreShelved g is_known holds list shelf names opened
    → register.archive_of (register_content names).segments p n ≡ Some place → archive_of list p n ≡ Some archive → archive_at list place ≡ Some archive
archive_there g is_known holds list shelf names opened p n place archive low are at reached = sym (are.are_named.named p n low ∙ ap (option_and_then (archive_at list)) at) ∙ reached

-- what was read of an archive stays that archive
pub open_still : {S : Type 0} (g : Ghosts S) (list : List Archive) (place : ℕ) (before after : Held S) → (HasCleanDisk (state g after) → HasCleanDisk (state g before)) → (HasCleanDisk (state g after) → IsTrue (state g after).is_open → IsTrue (state g before).is_open) →
    (HasCleanDisk (state g after) → IsTrue (state g after).is_open → (state g after).committed ≡ (state g before).committed) → IsOpenAt g list place before → IsOpenAt g list place after
open_still g list place before after first was_open same is clean now_open archive at =
    let there = is (first clean) (was_open clean now_open) archive at in
    record { has = subst (HasRows archive.rows) (sym (same clean now_open)) there.has; kept_once = there.kept_once }

-- what it shows is so as before
pub shows_still : {S : Type 0} (g : Ghosts S) (IsSo : Rows → Type 0) (before after : Held S) → (HasCleanDisk (state g after) → HasCleanDisk (state g before)) → (HasCleanDisk (state g after) → IsTrue (state g after).is_open → IsTrue (state g before).is_open)
    → (HasCleanDisk (state g after) → IsTrue (state g after).is_open → (state g after).committed ≡ (state g before).committed) → ShowsSo g before IsSo → ShowsSo g after IsSo
shows_still g IsSo before after first was_open same is clean now_open rows has once = is (first clean) (was_open clean now_open) rows (subst (HasRows rows) (same clean now_open) has) once

-- One was taken out and looked at, and nothing was committed: it is put back as it was.
module _ {S : Type 0} (g : Ghosts S) (opened : Opened S g) (after : Held S) (first : HasCleanDisk (state g after) → HasCleanDisk (state g opened.archive.conn)) (was_open_ : HasCleanDisk (state g after) → IsTrue (state g after).is_open → IsTrue (state g opened.archive.conn).is_open)
    (same : HasCleanDisk (state g after) → IsTrue (state g after).is_open → (state g after).committed ≡ (state g opened.archive.conn).committed) where
  pub known_still : (is_known : ℕ → Type 0) (list : List Archive) (place : ℕ) → opened.place ≡ place → (is_known place → IsOpenAt g list place opened.archive.conn) → is_known opened.place → IsOpenAt g list opened.place after
  known_still is_known list place at is known =
      open_still g list opened.place opened.archive.conn after first was_open_ same
      (subst (λ there. IsOpenAt g list there opened.archive.conn) (sym at) (is (subst is_known at known)))

  pub sealed_still : (names still : Register) → still ≡ names → IsSealedIfSaid g (register_content names) opened → opened.is_sealed ≡ true → ShowsSo g after (HasSeals (register_content still) opened.place)
  sealed_still names still named sealed said =
      subst (λ r. ShowsSo g after (HasSeals (register_content r) opened.place)) (sym named)
      (shows_still g (HasSeals (register_content names) opened.place) opened.archive.conn after first was_open_ same (sealed said))

-- of an archive that is known what it told is so of the archive itself, if it is sound
pub told_archive : {S F : Type 0} (g : Ghosts S) (is_known : ℕ → Type 0) (holds : List Archive → F → Type 0) (list : List Archive) (shelf : F) (names : Register) (opened now : List (Opened S g)) (place : ℕ) (IsSo : Rows → Type 0) (archive : Archive)
    → IsToldBy g (OpensFor g is_known holds shelf names opened place) place now IsSo → IsLastSound g is_known now → AreShelved g is_known holds list shelf names opened → archive_at list place ≡ Some archive → IsSo archive.rows × AreKeptOnce archive.rows.interchanges
told_archive g is_known holds list shelf names opened now place IsSo archive told last are at =
    let sound = asked_last g is_known told.before now told.one told.last last in
    let there = told.opens (subst is_known told.at sound.2) list are sound.0 sound.1 archive at in
    (told.shows sound.0 sound.1 archive.rows there.has there.kept_once, there.kept_once)

-- so it is of each, if its seals were found since it was opened
pub told_report : {S F T : Type 0} (g : Ghosts S) (is_known : ℕ → Type 0) (holds : List Archive → F → Type 0) (shelf : F) (names : Register) (opened now : List (Opened S g)) (place : ℕ) (IsSo : T → Rows → Type 0) (result : Result T TableFault)
    → (AreSealed g (register_content names) opened → IfOk result (λ found. IsToldBy g (OpensFor g is_known holds shelf names opened place) place now (IsSo found))) → IsLastSound g is_known now
    → IfOk result (λ found. (list : List Archive) → AreShelved g is_known holds list shelf names opened → (archive : Archive) → archive_at list place ≡ Some archive → IsSo found archive.rows)
told_report g is_known holds shelf names opened now place IsSo (Ok found) told last = λ list are archive at.
    (told_archive g is_known holds list shelf names opened now place (IsSo found) archive (told are.are_sealed) last are at).0
told_report g is_known holds shelf names opened now place IsSo (Err fault) told last = tt

-- so it does if it was only read
pub open_read : {S X : Type 0} (g : Ghosts S) (list : List Archive) (place : ℕ) (before after : Held S) {result : Result X TableFault} → OnlyReads (state g before) (state g after) result → IsOpenAt g list place before → IsOpenAt g list place after
open_read g list place before after reads = open_still g list place before after (λ clean. was_clean reads clean) (λ clean now_open. was_open reads clean now_open) (λ clean now_open. (reads.reads.keeps clean).committed now_open)

pub shows_read : {S X : Type 0} (g : Ghosts S) (IsSo : Rows → Type 0) (before after : Held S) {result : Result X TableFault} → OnlyReads (state g before) (state g after) result → ShowsSo g before IsSo → ShowsSo g after IsSo
shows_read g IsSo before after reads = shows_still g IsSo before after (λ clean. was_clean reads clean) (λ clean now_open. was_open reads clean now_open) (λ clean now_open. (reads.reads.keeps clean).committed now_open)

some_mapped : (o : Option (String Global)) → is_some (option_map string_bytes o) ≡ is_some o
some_mapped None = refl
some_mapped (Some text) = refl

-- what is kept and has a reply was taken
pub taken_in : (rows : Rows) (p n : ℕ) (kept : Option Kept) → AreKeptOnce rows.interchanges → IsKept p n rows kept → is_some (option_and_then (λ (k : Kept). k.reply) kept) ≡ true → is_some (reply_in rows p n) ≡ true
taken_in rows p n kept once is there = ap is_some (reply_of_kept rows p n once kept is) ∙ some_mapped (option_and_then (λ (k : Kept). k.reply) kept) ∙ there

-- ==== Reporting: Reports of what stands, by the store's own rows and by the whole.

module _ (stays : ℕ → Bool) (state : TerminalState) (may : MayStay stays state.visits) where
  abbrev own : TerminalState
  own = own_terminal stays state

  open_same : (container : BoxNumber) → open_visit own container ≡ open_visit state container
  open_same container = open_kept stays container state.visits may.over

  stands_own : (text : List ℕ) (standing : Standing) → StandsAt state text standing → StandsAt own text standing
  stands_own text standing at = record { visit = at.visit; is_open = open_same standing.container ∙ at.is_open; is_shown = at.is_shown; stands = at.stands; named = at.named }

  stands_whole : (text : List ℕ) (standing : Standing) → StandsAt own text standing → StandsAt state text standing
  stands_whole text standing at = record { visit = at.visit; is_open = sym (open_same standing.container) ∙ at.is_open; is_shown = at.is_shown; stands = at.stands; named = at.named }

  pub listed_whole : (yard : List (List ℕ × Standing)) → AreListed (StandsAt own) yard → AreListed (StandsAt state) yard
  listed_whole yard listed = record {
    sorted = listed.sorted;
    each = λ text standing at. listed.each text standing (stands_own text standing at);
    only = λ text standing inside. stands_whole text standing (listed.only text standing inside);
  }

  jobs_same : (list : List (List ℕ × LineContent)) → jobs_of own list ≡ jobs_of state list
  jobs_same list = λ i. map (λ entry. record { container = entry.0; port = entry.1.port; standing = standing_by entry.0 (open_same entry.0 i) (slot_in state entry.0); blocker = blocker_in state entry.0 }) (filter is_open_entry list)

  work_same : (call : Call) (side : Side) (list : List (List ℕ × LineContent)) → work_by own (call_content call) side list ≡ work_by state (call_content call) side list
  work_same call side [] = refl
  work_same call side (entry ∷ list) =
      ap (λ jobs. Some (record { call = call_content call; side = side; jobs = jobs; done = count_by is_done_line (entry ∷ list); whole = length (entry ∷ list) })) (jobs_same (entry ∷ list))

next_whole : (rows whole : Rows) (id : Option ℕ) (found : Option (List ℕ)) → whole.partners ≡ rows.partners → TellsNext rows id found → TellsNext whole id found
next_whole rows whole None found same told = told
next_whole rows whole (Some id) found same told = (told.0, subst (λ partners. IsNextOf id (record whole { partners = partners }) told.0) (sym same) told.1, told.2)

pub told_alike : WhatStandsIsToldAlike
told_alike content es archived own whole asked what parts is told =
    let state = (machine_after content es).terminal in
    let may : MayStay archived.stays state.visits = subst (MayStay archived.stays) (visits_same content es whole parts.after) parts.stay in
    at archived.stays state may own whole (content_after content es) asked what parts.parts.partners is told
  where
    at : (stays : ℕ → Bool) (state : TerminalState) (may : MayStay stays state.visits) (own whole : Rows) (now : SetupContent) (asked : About) (what : Option ReportContent) → whole.partners ≡ own.partners → IsOfWhatStands asked →
        TellsAbout now (own_terminal stays state) own asked what → TellsAbout now state whole asked what
    at stays state may own whole now about.Yard what same is told = (told.0, listed_whole stays state may told.0 told.1, told.2)
    at stays state may own whole now about.Picture what same is told =
        (told.0, told.1, record { yard = told.2.yard; listed = listed_whole stays state may told.2.yard told.2.listed; is = told.2.is })
    at stays state may own whole now about.Blocks what same is told =
        (told.0, record { yard = told.1.yard; listed = listed_whole stays state may told.1.yard told.1.listed; is = told.1.is }, told.2)
    at stays state may own whole now (about.Block letter) what same is told = (told.0, listed_whole stays state may told.0 told.1, told.2)
    at stays state may own whole now about.Calls what same is told = told
    at stays state may own whole now (about.List call side) what same is told = record { list = told.list; listed = told.listed; is = told.is }
    at stays state may own whole now (about.Work call side) what same is told =
        record { list = told.list; listed = told.listed; is = told.is ∙ ap (option_map value.work) (work_same stays state may call side told.list) }
    at stays state may own whole now (about.Next code) what same is told =
        (told.0, next_whole own whole (partner_called now (string_bytes code)) told.0 same told.1, told.2)
    at stays state may own whole now other what same is told = absurd is

-- ==== Rising: Lists that are put into a register: of each list the lines are those that were put there last.

-- ---- their order

-- the one comes no later than the other
abbrev IsUpTo : SettledListContent → SettledListContent → Type 0
IsUpTo x y = is_gt (list_cmp x y) ≡ false

abbrev Rises : List SettledListContent → Type 0
Rises [] = Unit {0}
Rises (x ∷ lists) = AllByRecursion (IsUpTo x) lists × Rises lists

less_is : (r : Ordering) → is_lt r ≡ true → is_gt r ≡ false
less_is Less e = refl
less_is Equal e = refl
less_is Greater e = sym e

turned : (r : Ordering) → is_gt (ordering_reverse r) ≡ is_lt r
turned Less = refl
turned Equal = refl
turned Greater = refl

-- what it does not come before is no later than it
up_to : (new x : SettledListContent) → comes_before new x ≡ false → IsUpTo x new
up_to new x e = ap is_gt (list_total.antisymm x new) ∙ turned (list_cmp new x) ∙ e

all_later : (x y : SettledListContent) (lists : List SettledListContent) → IsUpTo x y → AllByRecursion (IsUpTo y) lists → AllByRecursion (IsUpTo x) lists
all_later x y [] first all = tt
all_later x y (z ∷ lists) first all = (upto list_total x y z first all.0, all_later x y lists first all.1)

above : (x : SettledListContent) (lists : List SettledListContent) → are_rising (Some x) lists ≡ true → AllByRecursion (IsUpTo x) lists × Rises lists
above x [] rising = (tt, tt)
above x (y ∷ lists) rising =
    let both = and_parts (comes_before x y) (are_rising (Some y) lists) rising in
    let rest = above y lists both.1 in
    let first : IsUpTo x y = less_is (list_cmp x y) both.0 in
    ((first, all_later x y lists first rest.0), rest)

pub rises : (lists : List SettledListContent) → are_rising None lists ≡ true → Rises lists
rises [] rising = tt
rises (x ∷ lists) rising = above x lists rising

-- ---- one more

put_all : (P : SettledListContent → Type 0) (new : SettledListContent) (lists : List SettledListContent) → P new → AllByRecursion P lists → AllByRecursion P (put_list new lists)
put_all P new [] it all = (it, tt)
put_all P new (x ∷ lists) it all = by (comes_before new x) (put_all P new lists it all.1)
  where
    by : (first : Bool) → AllByRecursion P (put_list new lists) → AllByRecursion P (cond first (new ∷ x ∷ lists) (x ∷ put_list new lists))
    by true rest = (it, all)
    by false rest = (all.0, rest)

put_rises : (new : SettledListContent) (lists : List SettledListContent) → Rises lists → Rises (put_list new lists)
put_rises new [] rise = (tt, tt)
put_rises new (x ∷ lists) rise = by (comes_before new x) refl (put_rises new lists rise.1)
  where
    by : (first : Bool) → comes_before new x ≡ first → Rises (put_list new lists) → Rises (cond first (new ∷ x ∷ lists) (x ∷ put_list new lists))
    by true e rest = let before : IsUpTo new x = less_is (list_cmp new x) e in ((before, all_later new x lists before rise.0), rise)
    by false e rest = (put_all (IsUpTo x) new lists (up_to new x e) rise.0, rest)

-- ---- the lines of a list

module _ (call : CallContent) (side : Side) where
  abbrev mine : SettledListContent → Bool
  mine = is_of_list call side

  abbrev told : Option (List ℕ) → List SettledListContent → Option (List ℕ)
  told found lists = fold (λ found list. cond (mine list) (Some list.lines) found) found lists

  record IsOf (x : SettledListContent) : Type 0 where
    vessel : x.call.vessel ≡ call.vessel
    voyage : x.call.voyage ≡ call.voyage
    side_is : side_code x.side ≡ side_code side

  of_it : (x : SettledListContent) → mine x ≡ true → IsOf x
  of_it x is =
      let outer = and_parts (bytes_eq x.call.vessel call.vessel) (bytes_eq x.call.voyage call.voyage && (side_code x.side == side_code side)) is in
      let inner = and_parts (bytes_eq x.call.voyage call.voyage) (side_code x.side == side_code side) outer.1 in
      record {
        vessel = (bytes_decides x.call.vessel call.vessel).0 outer.0;
        voyage = (bytes_decides x.call.voyage call.voyage).0 inner.0;
        side_is = eqb-true (side_code x.side) (side_code side) inner.1;
      }

  tied : (xs ys : List ℕ) (rest : Ordering) → xs ≡ ys → ordering_then (slice_cmp nat_cmp xs ys) rest ≡ rest
  tied xs ys rest e = ap (λ l. ordering_then (slice_cmp nat_cmp xs l) rest) (sym e) ∙ ap (λ o. ordering_then o rest) (tied_itself nat_list_cmp_total xs)

  tied_code : (m n : ℕ) (rest : Ordering) → m ≡ n → ordering_then (nat_cmp m n) rest ≡ rest
  tied_code m n rest e = ap (λ k. ordering_then (nat_cmp m k) rest) (sym e) ∙ ap (λ o. ordering_then o rest) (tied_itself nat_cmp_total m)

  not_above : (m n : ℕ) → m ≤ n → is_gt (nat_cmp m n) ≡ false
  not_above m n low = by (nat_lt m n) (m == n) refl refl
    where
      by : (less tie : Bool) → nat_lt m n ≡ less → (m == n) ≡ tie → is_gt (cond less Less (cond tie Equal Greater)) ≡ false
      by true tie p q = refl
      by false true p q = refl
      by false false p q = absurd (grind (arith, nat_tests))

  -- two of the list are ordered by their archives
  by_archive : (x y : SettledListContent) → mine x ≡ true → mine y ≡ true → list_cmp x y ≡ nat_cmp x.archive y.archive
  by_archive x y is also =
      let its = of_it x is in
      let theirs = of_it y also in
      tied x.call.vessel y.call.vessel _ (its.vessel ∙ sym theirs.vessel)
      ∙ tied x.call.voyage y.call.voyage _ (its.voyage ∙ sym theirs.voyage)
      ∙ tied_code (side_code x.side) (side_code y.side) _ (its.side_is ∙ sym theirs.side_is)

  -- none is of the list
  abbrev None_of : List SettledListContent → Type 0
  None_of lists = AllByRecursion (λ x. mine x ≡ false) lists

  untold : (found : Option (List ℕ)) (lists : List SettledListContent) → None_of lists → told found lists ≡ found
  untold found [] none = refl
  untold found (x ∷ lists) none = ap (λ b. told (cond b (Some x.lines) found) lists) none.0 ∙ untold found lists none.1

  module _ (new : SettledListContent) where
    abbrev IsNotLater : SettledListContent → Type 0
    IsNotLater x = x.archive ≤ new.archive

    -- of those that it comes before none is of its list
    none_after : mine new ≡ true → (x : SettledListContent) → comes_before new x ≡ true → IsNotLater x → mine x ≡ false
    none_after is x before old = by (mine x) refl
      where
        by : (also : Bool) → mine x ≡ also → also ≡ false
        by true e =
            let no : is_gt (list_cmp x new) ≡ false = ap is_gt (by_archive x new e is) ∙ not_above x.archive new.archive old in
            let yes : is_gt (list_cmp x new) ≡ true = ap is_gt (list_total.antisymm x new) ∙ turned (list_cmp new x) ∙ before in
            sym yes ∙ no
        by false e = refl

    none_of_later : mine new ≡ true → (x : SettledListContent) (lists : List SettledListContent) → comes_before new x ≡ true → AllByRecursion (IsUpTo x) lists → AllByRecursion IsNotLater lists → None_of lists
    none_of_later is x [] before later old = tt
    none_of_later is x (y ∷ lists) before later old = (none_after is y (still (comes_before new y) refl) old.0, none_of_later is x lists before later.1 old.1)
      where
        still : (also : Bool) → comes_before new y ≡ also → also ≡ true
        still true e = refl
        still false e =
            let back : IsUpTo x new = upto list_total x y new later.0 (up_to new y e) in
            let yes : is_gt (list_cmp x new) ≡ true = ap is_gt (list_total.antisymm x new) ∙ turned (list_cmp new x) ∙ before in
            sym back ∙ yes

    -- the lines of its list are its own then, and those of any other what they were
    told_with : (found : Option (List ℕ)) (lists : List SettledListContent) → Rises lists → AllByRecursion IsNotLater lists → told found (put_list new lists) ≡ cond (mine new) (Some new.lines) (told found lists)
    told_with found [] rise old = refl
    told_with found (x ∷ lists) rise old = by (comes_before new x) refl (told_with (cond (mine x) (Some x.lines) found) lists rise.1 old.1)
      where
        here : (is : Bool) → mine new ≡ is → comes_before new x ≡ true → told (cond is (Some new.lines) found) (x ∷ lists) ≡ cond is (Some new.lines) (told found (x ∷ lists))
        here true is before = untold (Some new.lines) (x ∷ lists) (none_after is x before old.0, none_of_later is x lists before rise.0 old.1)
        here false is before = refl

        by : (first : Bool) → comes_before new x ≡ first
            → told (cond (mine x) (Some x.lines) found) (put_list new lists) ≡ cond (mine new) (Some new.lines) (told (cond (mine x) (Some x.lines) found) lists)
            → told found (cond first (new ∷ x ∷ lists) (x ∷ put_list new lists)) ≡ cond (mine new) (Some new.lines) (told found (x ∷ lists))
        by true e rest = here (mine new) refl e
        by false e rest = rest

  -- ---- more of them, of an archive that is newer than all

  told_all : (archive : ℕ) (more lists : List SettledListContent) → AllByRecursion (λ (x : SettledListContent). x.archive ≡ archive) more → Rises lists → AllByRecursion (λ (x : SettledListContent). x.archive ≤ archive) lists
      → told None (put_lists more lists) ≡ told (told None lists) more
  told_all archive [] lists own rise old = refl
  told_all archive (new ∷ more) lists own rise old =
      told_all archive more (put_list new lists) own.1 (put_rises new lists rise) (put_all (λ (x : SettledListContent). x.archive ≤ archive) new lists (omega (arith, own.0)) old)
      ∙ ap (λ found. told found more) (told_with new None lists rise (not_later lists old))
    where
      not_later : (lists : List SettledListContent) → AllByRecursion (λ (x : SettledListContent). x.archive ≤ archive) lists → AllByRecursion (IsNotLater new) lists
      not_later [] all = tt
      not_later (x ∷ lists) all = let same = own.0 in (omega (arith, all.0, same), not_later lists all.1)

  last_told : (found : Option (List ℕ)) (lists : List SettledListContent) → told found lists ≡ option_or (told None lists) found
  last_told found [] = refl
  last_told found (x ∷ lists) =
      last_told (cond (mine x) (Some x.lines) found) lists
      ∙ by (mine x) (told None lists)
      ∙ ap (λ o. option_or o found) (sym (last_told (cond (mine x) (Some x.lines) None) lists))
    where
      by : (is : Bool) (later : Option (List ℕ)) → option_or later (cond is (Some x.lines) found) ≡ option_or (option_or later (cond is (Some x.lines) None)) found
      by true None = refl
      by true (Some text) = refl
      by false None = refl
      by false (Some text) = refl

  -- what is told of a list is what was put there now, and otherwise what was there
  pub put_told : (archive : ℕ) (more lists : List SettledListContent) → AllByRecursion (λ (x : SettledListContent). x.archive ≡ archive) more → Rises lists → AllByRecursion (λ (x : SettledListContent). x.archive ≤ archive) lists
      → lines_of_list (put_lists more lists) call side ≡ option_or (lines_of_list more call side) (lines_of_list lists call side)
  put_told archive more lists own rise old = told_all archive more lists own rise old ∙ last_told (told None lists) more

-- ---- those of the first so many archives

is_later : (count archive : ℕ) → count < archive → nat_le archive count ≡ false
is_later count archive late = by (nat_le archive count) refl
  where
    by : (early : Bool) → nat_le archive count ≡ early → early ≡ false
    by true e = absurd (omega (arith, late, leb-true archive count e))
    by false e = refl

-- one that is put there with a later archive is none of them
put_later : (count : ℕ) (new : SettledListContent) (lists : List SettledListContent) → count < new.archive → lists_among count (put_list new lists) ≡ lists_among count lists
put_later count new [] late = ap (λ b. cond b (new ∷ []) []) (is_later count new.archive late)
put_later count new (x ∷ lists) late = by (comes_before new x) (put_later count new lists late)
  where
    by : (first : Bool) → lists_among count (put_list new lists) ≡ lists_among count lists → lists_among count (cond first (new ∷ x ∷ lists) (x ∷ put_list new lists)) ≡ lists_among count (x ∷ lists)
    by true rest = ap (λ b. cond b (new ∷ lists_among count (x ∷ lists)) (lists_among count (x ∷ lists))) (is_later count new.archive late)
    by false rest = ap (λ l. cond (nat_le x.archive count) (x ∷ l) l) rest

pub all_later_put : (count archive : ℕ) (more lists : List SettledListContent) → AllByRecursion (λ (x : SettledListContent). x.archive ≡ archive) more → count < archive → lists_among count (put_lists more lists) ≡ lists_among count lists
all_later_put count archive [] lists own late = refl
all_later_put count archive (new ∷ more) lists own late = all_later_put count archive more (put_list new lists) own.1 late ∙ put_later count new lists (let same = own.0 in omega (arith, late, same))

-- all are among them if none is of a later archive
pub all_among : (count : ℕ) (lists : List SettledListContent) → AllByRecursion (λ (x : SettledListContent). x.archive ≤ count) lists → lists_among count lists ≡ lists
all_among count [] early = refl
all_among count (x ∷ lists) early = ap (λ b. cond b (x ∷ lists_among count lists) (lists_among count lists)) (le-leb x.archive count early.0) ∙ ap (λ l. x ∷ l) (all_among count lists early.1)

pub puts_up_to : (count archive : ℕ) (more lists : List SettledListContent) → AllByRecursion (λ (x : SettledListContent). x.archive ≡ archive) more → archive ≤ count → AllByRecursion (λ (x : SettledListContent). x.archive ≤ count) lists
    → AllByRecursion (λ (x : SettledListContent). x.archive ≤ count) (put_lists more lists)
puts_up_to count archive [] lists own high early = early
puts_up_to count archive (new ∷ more) lists own high early =
    puts_up_to count archive more (put_list new lists) own.1 high (put_all (λ (x : SettledListContent). x.archive ≤ count) new lists (let same = own.0 in omega (arith, high, same)) early)

-- ---- a sound register's

pub up_to_most : (most archive : ℕ) (lists : List SettledListContent) → most ≤ archive → list_all (may_be_list most) lists ≡ true → AllByRecursion (λ (x : SettledListContent). x.archive ≤ archive) lists
up_to_most most archive [] high may = tt
up_to_most most archive (x ∷ lists) high may =
    let both = and_parts (may_be_list most x) (list_all (may_be_list most) lists) may in
    let numbered = and_parts (is_name x.call.vessel && is_name x.call.voyage) (nat_le 1 x.archive && nat_le x.archive most) both.0 in
    let low : x.archive ≤ most = leb-true x.archive most (and_parts (nat_le 1 x.archive) (nat_le x.archive most) numbered.1).1 in
    (omega (arith, low, high), up_to_most most archive lists high both.1)
