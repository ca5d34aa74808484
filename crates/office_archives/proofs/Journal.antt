-- What was written of a store and its archives, file by file, is the journal of all.
use Rattle.std.{specs.{Prelude.{◌-◌, drop, IfSome}, Io.KnownBytes.Appends}, proofs.{lemmas.List.length-append, lemmas.List.Concat.flat_map-append}}
use Rattle.std.proofs.Common.{◌≡◌, ℕ, zero, suc, ◌+◌, List, [], ◌∷◌, ◌++◌, length, Option, None, Some, Result, Ok, Err, IfOk, refl, sym, ap, subst, ◌∙◌, arith}
use Rattle.sqlite.specs.{Held.{Held, state}, Effect.Database, State.{State, HasCleanDisk}}
use Rattle.sqlite_trees.specs.declared.store.Store.{Ghosts}
use Rattle.office_rows.specs.{Rows.{Interchange, Rows}, Stored.HasRows}
use Rattle.office_tables.{specs.{Reading.Reads, declared.table_fault.TableFault.TableFault}, proofs.MadeLemmas.clean_first}
use Rattle.office_loading.{specs.Pages.lines_of, proofs.TakenLemmas.appends_then}
use Rattle.office_parts.specs.{Archives.Archive, ArchiveJournal.{carried_on, journal_beyond, texts_added}}
use Rattle.office_closing.specs.{Register.{ArchiveContent, RegisterContent, last_closed}, Seals.HasSeals}
use Rattle.office_archives.specs.{Parts.{PartIsWritten, StandInOrder, WritesPart}, Shelves.ShowsSo, declared.passing.Rest.Rest}
use Rattle.office_archives.specs.Texts.{AreAdded, AreShownAs, HasInOrder, IsAdded, IsJournal, WrittenIsJournal, closed_before}

-- ---- what is left of two lists, one after the other

nothing_left : {A : Type 0} (n : ℕ) → drop {A = A} n [] ≡ []
nothing_left zero = refl
nothing_left (suc n) = refl

drop_parts : {A : Type 0} (n : ℕ) (xs ys : List A) → drop n (xs ++ ys) ≡ drop n xs ++ drop (n - length xs) ys
drop_parts n [] ys = ap (λ k. drop k ys) none ∙ ap (λ l. l ++ drop (n - 0) ys) (sym (nothing_left n))
  where
    none : n ≡ n - 0
    none = omega arith
drop_parts zero (x ∷ xs) ys = ap (λ k. (x ∷ xs) ++ drop k ys) none
  where
    none : 0 ≡ 0 - suc (length xs)
    none = omega arith
drop_parts (suc n) (x ∷ xs) ys = drop_parts n xs ys ∙ ap (λ k. drop n xs ++ drop k ys) less
  where
    less : n - length xs ≡ suc n - suc (length xs)
    less = omega arith

left_twice : (a b c : ℕ) → (a - b) - c ≡ a - (b + c)
left_twice a b c = omega arith

-- ---- the journal of what is left

-- all that this leaves of these texts is written
record IsWrittenFrom (rest : Rest) (texts : List (List ℕ)) (old new : Option (List ℕ)) (left : ℕ) : Type 0 where
  pub left_is : left ≡ rest.from - length texts
  pub appended : Appends old new (lines_of (drop rest.from texts))

-- one file, and what comes after it
written_then : (before after : ℕ → ℕ) (rest next : Rest) (interchanges : List Interchange) (later : List (List ℕ)) (old between new : Option (List ℕ)) (left : ℕ) →
    PartIsWritten before after rest interchanges old between next → IsWrittenFrom next later between new left → IsWrittenFrom rest (texts_added before rest.carried interchanges ++ later) old new left
written_then before after rest next interchanges later old between new left part more =
    let own = texts_added before rest.carried interchanges in
    record {
      left_is = more.left_is ∙ ap (λ n. n - length later) part.from ∙ left_twice rest.from (length own) (length later) ∙ ap (λ n. rest.from - n) (sym (length-append own later));
      appended =
          let rest_of : drop next.from later ≡ drop (rest.from - length own) later = ap (λ n. drop n later) part.from in
          let all : drop rest.from own ++ drop next.from later ≡ drop rest.from (own ++ later) = ap (λ l. drop rest.from own ++ l) rest_of ∙ sym (drop_parts rest.from own later) in
          subst (Appends old new) (sym (flat_map-append _ (drop rest.from own) (drop next.from later)) ∙ ap lines_of all)
          (appends_then old between new (lines_of (drop rest.from own)) (lines_of (drop next.from later)) part.appended more.appended);
    }

module _ {S : Type 0} (g : Ghosts S) (Opens : (place : ℕ) → Held S → Type 0) (names : RegisterContent) (own : List Interchange) where
  -- the archives from a place on, and the store after them
  files_written : (place : ℕ) (archives : List ArchiveContent) (rest : Rest) (old between new : Option (List ℕ)) (last end : Rest) (added : AreAdded g Opens names archives rest old between last) (list : List Archive) →
      AreShownAs g Opens names place archives rest old between last added list → PartIsWritten (last_closed names.segments) (last_closed names.segments) last own between new end → IsWrittenFrom rest (journal_beyond (closed_before place names) rest.carried list own) old new end.from
  files_written place [] rest old between new last end added [] shown part =
      let same : last ≡ rest = added.0 in
      let begun : between ≡ old = added.1 in
      let its : PartIsWritten (last_closed names.segments) (last_closed names.segments) rest own old new end = subst (λ r. PartIsWritten (last_closed names.segments) (last_closed names.segments) r own old new end) same (subst (λ b. PartIsWritten (last_closed names.segments) (last_closed names.segments) last own b new end) begun part) in
      subst (λ closed. IsWrittenFrom rest (texts_added closed rest.carried own) old new end.from) (sym shown) (record { left_is = its.from; appended = its.appended })
  files_written place [] rest old between new last end added (one ∷ list) shown part = absurd shown
  files_written place (archive ∷ archives) rest old between new last end added [] shown part = absurd shown
  files_written place (archive ∷ archives) rest old between new last end added (one ∷ list) shown part =
      let next = added.0 in
      let middle = added.1 in
      let interchanges = one.rows.interchanges in
      let here : PartIsWritten (closed_before archive.place names) (closed_before (archive.place + 1) names) rest interchanges old middle next = added.2.writes shown.1 one.rows shown.2 in
      let there : PartIsWritten (closed_before place names) (closed_before (place + 1) names) rest interchanges old middle next =
      subst (λ at. PartIsWritten (closed_before at names) (closed_before (at + 1) names) rest interchanges old middle next) shown.0 here in
      let more = files_written (place + 1) archives next middle between new last end added.3 list shown.4 part in
      let carried : next.carried ≡ carried_on (closed_before place names) (closed_before (place + 1) names) interchanges = there.carried in
      let later : IsWrittenFrom next (journal_beyond one.last_closed (carried_on (closed_before place names) one.last_closed interchanges) list own) middle new end.from =
      subst (λ closed. IsWrittenFrom next (journal_beyond closed (carried_on (closed_before place names) closed interchanges) list own) middle new end.from) (sym shown.3)
      (subst (λ n. IsWrittenFrom next (journal_beyond (closed_before (place + 1) names) n list own) middle new end.from) carried more) in
      written_then (closed_before place names) (closed_before (place + 1) names) rest next interchanges (journal_beyond one.last_closed (carried_on (closed_before place names) one.last_closed interchanges) list own) old middle new end.from there later

pub written_is_journal : {S T : Type 0} (g : Ghosts S) (h : Ghosts T) (Opens : (place : ℕ) → Held S → Type 0) → WrittenIsJournal g h Opens
written_is_journal g h Opens names from read shown old new left written list rows are =
    let end = written.own are.clean rows are.own in
    let all = files_written g Opens names rows.interchanges 1 names.archives (record { from = from; carried = 0 }) old written.between new written.rest (record { from = left; carried = end.0 }) written.archives list are.archives end.1 in
    let first : closed_before 1 names ≡ (λ partner. 0) = are.none_before in
    subst (λ closed. IsJournal from (journal_beyond closed 0 list rows.interchanges) old new left) first (record { left_is = all.left_is; appended = all.appended })

-- ---- one archive

module _ {S : Type 0} (g : Ghosts S) (Opens : (place : ℕ) → Held S → Type 0) (names : RegisterContent) (place : ℕ) (rest : Rest) (opened read : Held S) where
  -- what was read and written of the archive that was opened at a place
  pub added_by : (before after : ℕ → ℕ) (old new : Option (List ℕ)) → before ≡ closed_before place names → after ≡ closed_before (place + 1) names → Opens place opened → ShowsSo g opened (HasSeals names place)
      → (result : Result (Option Rest) TableFault) → Reads (state g opened) (state g read) result
      → (HasCleanDisk (state g read) → IfOk result (λ left. (rows : Rows) → HasInOrder rows (state g opened) → WritesPart before after rest rows.interchanges old new left))
      → IfOk result (λ found. IfSome found (λ left. IsAdded g Opens names place rest old new left))
  added_by before after old new before_is after_is opens sealed (Err fault) reads writes = tt
  added_by before after old new before_is after_is opens sealed (Ok None) reads writes = tt
  added_by before after old new before_is after_is opens sealed (Ok (Some left)) reads writes = record {
    opened = opened;
    read = read;
    opens = opens;
    clean = λ clean. clean_first reads clean;
    sealed = λ clean rows has once. sealed (clean_first reads clean) (reads.unchanged clean).0.was_open rows has once;
    writes = λ clean rows are.
        let part = writes clean rows are in
        subst (λ then_. PartIsWritten (closed_before place names) then_ rest rows.interchanges old new left) after_is
        (subst (λ first. PartIsWritten first after rest rows.interchanges old new left) before_is part);
  }

module _ {S : Type 0} (g : Ghosts S) (Opens Others : (place : ℕ) → Held S → Type 0) (still : (place : ℕ) (conn : Held S) → Opens place conn → Others place conn) where
  -- the same of one that was opened on what the shelf was before
  pub added_still : (names : RegisterContent) (place : ℕ) (rest : Rest) (old new : Option (List ℕ)) (left : Rest) → IsAdded g Opens names place rest old new left → IsAdded g Others names place rest old new left
  added_still names place rest old new left one =
      record { opened = one.opened; read = one.read; opens = still place one.opened one.opens; clean = one.clean; sealed = one.sealed; writes = one.writes }

-- ---- the store, after its archives

module _ (read shown : State) where
  pub own_by : (closed : ℕ → ℕ) (rest left : Rest) (between new : Option (List ℕ)) → (HasCleanDisk read → shown.now ≡ shown.committed)
      → (HasCleanDisk read → (rows : Rows) → HasRows rows shown.now → StandInOrder rows.interchanges (shown.now.trees 2) → PartIsWritten closed closed rest rows.interchanges between new left)
      → HasCleanDisk read → (rows : Rows) → HasInOrder rows shown → (carried : ℕ) × PartIsWritten closed closed rest rows.interchanges between new (record { from = left.from; carried = carried })
  own_by closed rest left between new settled writes clean rows are =
      let same = settled clean in
      (left.carried, writes clean rows (subst (HasRows rows) (sym same) are.has) (subst (λ (db : Database). StandInOrder rows.interchanges (db.trees 2)) (sym same) are.in_order))
