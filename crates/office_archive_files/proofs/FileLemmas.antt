-- A closing over files is one over connections that show what the files held.
use Rattle.std.proofs.Common.{◌≡◌, inl, inr, ℕ, List, Bool, true, false, Result, sym, ap, subst, ◌∙◌, arith}
use Rattle.sqlite_schema.specs.Names.{same_name}
use Rattle.sqlite.specs.{Effect.Database, Held.state, Files.HoldsDatabase, Recovery.Image, State.{State, HasCleanDisk, Survives}, Tree.Trees}
use Rattle.sqlite_trees.specs.declared.store.Store.{Ghosts}
use Rattle.office_replies.specs.Events.{Event}
use Rattle.office_rows.{specs.{Rows.Rows, Stored.{HasRows, StoresRows}, Tables.office_schema}, proofs.Creating.stores}
use Rattle.office_admission.specs.Setups.{SetupContent}
use Rattle.office_history.specs.After.{AreKeptOnce}
use Rattle.office_tables.specs.Opened.{AreMissing}
use Rattle.office_parts.specs.Archives.{Archive}
use Rattle.office_closing.specs.{Register.RegisterContent, Stored.{HasRegister, HasRegisterIn}, Transactions.IsSettled, Closes.Held}
use Rattle.office_closing.specs.{Tables.{Layout, older, former, unsealed, whole, register_tables, schema_in}, Files.{AreClean, Files, files}}
use Rattle.office_closing.specs.{declared.faults.CloseFault.CloseFault, declared.planning.PutAway.PutAway}
use Rattle.office_commands.specs.Opening.{Shows}
use Rattle.office_archive_files.specs.ClosedFiles.{AreLeft, ClosingsOfFilesAreNoEvents, HoldClosable, HoldsRegister, HoldsRows, OpenStoresAreHeld}
use Rattle.office_archive_files.specs.{ClosedStores.{OpenedRowsAreOrderly, OpensAfter}, Closing.{ClosesOver, Images, ShowsRegister}, Shelves.HoldsArchive}
use Rattle.office_archive_files.specs.Stops.{MayBeClosed, StopsAreNoEvents, StopsLeaveOpen}
use Rattle.sqlite.specs.Held as connection

-- ---- one file

-- the tables of a register are in its schema
pub never_missing : (layout : Layout) → AreMissing register_tables (schema_in layout) → ⊥
unfolding same_name
never_missing older missing = let none : true ≡ false = missing.0 in absurd cc
never_missing former missing = let none : true ≡ false = missing.0 in absurd cc
never_missing unsealed missing = let none : true ≡ false = missing.0 in absurd cc
never_missing whole missing = let none : true ≡ false = missing.0 in absurd cc

module _ {S : Type 0} (g : Ghosts S) (image : Image) (conn : connection.Held S) (clean : HasCleanDisk (state g conn)) where
  -- the database that the files held
  shows_rows : (rows : Rows) → Shows g image conn → IsSettled (state g conn) → (holds : HoldsRows image rows) → (state g conn).now ≡ record { schema = office_schema; trees = holds.db }
  shows_rows rows shows settled holds = settled.settled ∙ shows clean holds.db office_schema holds.held holds.are.lists

  has_rows : (rows : Rows) → Shows g image conn → IsSettled (state g conn) → HoldsRows image rows → HasRows rows (state g conn).now
  has_rows rows shows settled holds = subst (HasRows rows) (sym (shows_rows rows shows settled holds)) holds.are

  -- the register that they held, or the empty one that was made
  module _ {may_make names_none : Bool} (register : RegisterContent) (shows : ShowsRegister g image may_make names_none conn) where
    has_committed : HoldsRegister image register → HasRegister register (state g conn).committed
    has_committed (inl (db, held, (layout, has))) =
        let found : (state g shows.found).committed ≡ record { schema = schema_in layout; trees = db } = shows.shows (shows.clean clean) db (schema_in layout) held has.listed in
        elim (shows.made clean) [
          | inl keeps ↦ (layout, subst (HasRegisterIn layout register) (sym (keeps.same ∙ found)) has)
          | inr makes ↦ absurd (never_missing layout (subst (λ (d : Database). AreMissing register_tables d.schema) found makes.1.missing))
        ]
    has_committed (inr (none, is)) =
        let empty = shows.empty (shows.clean clean) none in
        elim (shows.made clean) [
          | inl keeps ↦ absurd (keeps.some empty)
          | inr makes ↦ subst (λ content. HasRegister content (state g conn).committed) (sym is) (makes.1.makes.register (ap (λ (d : Database). d.schema) makes.1.same ∙ empty))
        ]

    has_register : HoldsRegister image register → HasRegister register (state g conn).now
    has_register holds = subst (HasRegister register) (sym (shows.settled clean).settled) (has_committed holds)

-- ---- the four

was_clean : (old new : State) (P : Trees → Type 0) → Survives old new P → HasCleanDisk new → HasCleanDisk old
was_clean old new P s clean = omega (arith, s.clean)

module _ {S R A M : Type 0} (s : Ghosts S) (r : Ghosts R) (a : Ghosts A) (m : Ghosts M) (no_event : StopsAreNoEvents s r a m) (orderly : OpenedRowsAreOrderly)
    (images : Images) (store archive : List ℕ) (own : connection.Held S) (register : connection.Held R) (copy : connection.Held A) (copied : connection.Held M) (result : Result PutAway CloseFault)
    (over : ClosesOver s r a m images store archive own register copy copied result) (content : SetupContent) (es : List Event) (archives : List Archive) (held : Held)
    (may : HoldClosable over.names content es archives held images) (clean : AreClean (files s r a m own register copy copied)) where
  abbrev found : Files
  found = files s r a m over.found_own over.found_register over.found_copy over.found_copied

  found_clean : AreClean found
  found_clean = record {
    store = was_clean (state s over.found_own) (state s own) _ (over.closes.store clean) clean.store;
    register = was_clean (state r over.found_register) (state r register) _ (over.closes.register clean) clean.register;
    archive = was_clean (state a over.found_copy) (state a copy) _ over.closes.archive.survives clean.archive;
    archive_register = was_clean (state m over.found_copied) (state m copied) _ (over.closes.mark clean) clean.archive_register;
  }

  own_settled : IsSettled (state s over.found_own)
  own_settled = over.opened.own_settled found_clean.store

  copy_settled : IsSettled (state a over.found_copy)
  copy_settled = over.opened.copy_settled found_clean.archive

  may_be_closed : MayBeClosed over.names content es archives held found
  may_be_closed = record {
    given = may.given;
    has = record {
      own = has_rows s images.store over.found_own found_clean.store held.own over.opened.own_shows own_settled may.own;
      register = has_register r images.register over.found_register found_clean.register held.register over.opened.register_shows may.register;
      copy = has_rows a images.archive over.found_copy found_clean.archive held.copy over.opened.copy_shows copy_settled may.copy;
      copied = has_register m images.archive_register over.found_copied found_clean.archive_register held.copied over.opened.copied_shows may.copied;
      own_orderly = orderly content es archives held.register held.own may.own.db may.given may.opens;
      copy_orderly = may.copy_orderly;
      register_sound = may.opens.sound;
      copied_sound = may.copied_sound;
    };
    opens = subst (λ (d : Database). OpensAfter content es archives held.register held.own d.trees) (sym (shows_rows s images.store over.found_own found_clean.store held.own over.opened.own_shows own_settled may.own)) may.opens;
    store = own_settled;
    register = over.opened.register_shows.settled found_clean.register;
    last = may.last;
  }

  leave_open : StopsLeaveOpen content es archives held.copy (files s r a m own register copy copied)
  leave_open = no_event over.names content es archives held over.found_own own over.found_register register over.found_copy copy over.found_copied copied result may_be_closed over.closes clean

  -- the archive was only read
  keep_archive : (db : Trees) → (state a copy).may_leave db → StoresRows held.copy db
  keep_archive db left = elim (over.closes.archive.survives.crash clean.archive db left) [
    | inl was ↦
        let is : db ≡ (state a over.found_copy).now.trees = copy_settled.alone db was ∙ ap (λ (d : Database). d.trees) (sym copy_settled.settled) in
        subst (StoresRows held.copy) (sym is) (stores held.copy (state a over.found_copy).now may_be_closed.has.copy)
    | inr none ↦ absurd none
  ]

  hold_archive : (db : Trees) (image : Image) (one : Archive) → (state a copy).may_leave db → ∥ HoldsDatabase image db ∥₁ → one.rows ≡ held.copy → HoldsArchive image one
  hold_archive db image one left holds same = record {
    db = db;
    held = holds;
    are = subst (λ rows. StoresRows rows db) (sym same) (keep_archive db left);
    kept_once = subst (λ (rows : Rows). AreKeptOnce rows.interchanges) (sym same) may.copy_orderly.once;
  }

  are_left : AreLeft content es archives held.copy (files s r a m own register copy copied)
  are_left = record { store = leave_open; archive = hold_archive }

pub closings_of_files_are_no_events : {S R A M : Type 0} (s : Ghosts S) (r : Ghosts R) (a : Ghosts A) (m : Ghosts M) → StopsAreNoEvents s r a m → OpenedRowsAreOrderly → ClosingsOfFilesAreNoEvents s r a m
closings_of_files_are_no_events s r a m no_event orderly images store archive own register copy copied result over content es archives held may clean =
    are_left s r a m no_event orderly images store archive own register copy copied result over content es archives held may clean

pub open_stores_are_held : OpenStoresAreHeld
open_stores_are_held content es archives register rows db image opens held = record { db = db; held = held; beside = opens.beside }
