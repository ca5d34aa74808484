-- What a stop of a closing leaves of a store is opened after the same events.
use Rattle.std.specs.Prelude.{◌≡◌, ◌⊎◌, ◌++◌, ◌∷◌, [], List, Result}
use Rattle.sqlite.specs.Tree.{Trees}
use Rattle.sqlite_trees.specs.declared.store.Store.{Ghosts}
use Rattle.office_replies.specs.Events.{Event}
use Rattle.office_rows.specs.Rows.{Rows}
use Rattle.office_admission.specs.{Given.IsGiven, Setups.SetupContent}
use Rattle.office_parts.specs.Archives.{Archive}
use Rattle.office_closing.specs.{Register.RegisterContent, Stored.HasRegisterIn, Tables.{Layout, schema_in}, Transactions.IsSettled, Copies.FileNames}
use Rattle.office_closing.specs.{Closes.{AreHeld, Closes, Closing, Held, IsClosing, raised_register}, Files.{Files, AreClean, files}, PuttingAway.AreNamedThen}
use Rattle.office_closing.specs.{declared.faults.CloseFault.CloseFault, declared.planning.PutAway.PutAway}
use Rattle.office_archive_files.specs.ClosedStores.{OpensAfter}
use Rattle.sqlite.specs.Held as connection

-- the trees are those of a database that has this register, in one of the two layouts
abbrev pub StoresEither : RegisterContent → Trees → Type 0
StoresEither register trees =
    (layout : Layout) × HasRegisterIn layout register (record { schema = schema_in layout; trees = trees })

-- The files of a closing are open: the store opens after those events, beside these archives, and what is committed of it and
-- of its register is all that a crash leaves. If the register has the archive already, that is the last of these.
pub record MayBeClosed (names : FileNames) (content : SetupContent) (es : List Event) (archives : List Archive) (held : Held)
    (files : Files) : Type 0 where
  pub given : IsGiven content
  pub has : AreHeld held files
  pub opens : OpensAfter content es archives held.register held.own files.store.now.trees
  pub store : IsSettled files.store
  pub register : IsSettled files.register
  pub last : (closing : Closing) → IsClosing held names closing → held.register ≡ raised_register held closing →
      AreNamedThen held closing archives archives

-- archives with the one that holds these rows as the last, which it may have been before
pub record AreWith (copy : Rows) (archives after : List Archive) : Type 0 where
  pub before : List Archive
  pub one : Archive
  pub are : after ≡ before ++ one ∷ []
  pub rows : one.rows ≡ copy
  pub were : (archives ≡ before) ⊎ (archives ≡ after)

-- A store and its register as a stop left them: it opens after those events, beside the archives that the register names. These
-- are those that it named, or with the copy.
pub record AreLeftOpen (content : SetupContent) (es : List Event) (named : List Archive) (copy : Rows) (store register : Trees)
    : Type 0 where
  pub archives : List Archive
  pub are : (archives ≡ named) ⊎ AreWith copy named archives
  pub names : RegisterContent
  pub rows : Rows
  pub has : StoresEither names register
  pub opens : OpensAfter content es archives names rows store

-- whatever a stop leaves of the store and of its register
abbrev pub StopsLeaveOpen : SetupContent → List Event → List Archive → (copy : Rows) → Files → Type 0
StopsLeaveOpen content es named copy files =
    (store register : Trees) → files.store.may_leave store → files.register.may_leave register
    → AreLeftOpen content es named copy store register

-- At whatever moment a closing stops, and however it ends, the store opens after the events after which it opened before.
abbrev pub StopsAreNoEvents : {S R A M : Type 0} → Ghosts S → Ghosts R → Ghosts A → Ghosts M → Type 0
StopsAreNoEvents {S} {R} {A} {M} s r a m =
    (names : FileNames) (content : SetupContent) (es : List Event) (archives : List Archive) (held : Held)
    (store new_store : connection.Held S) (register new_register : connection.Held R)
    (archive new_archive : connection.Held A) (archive_register new_archive_register : connection.Held M)
    (result : Result PutAway CloseFault) →
    MayBeClosed names content es archives held (files s r a m store register archive archive_register) →
    Closes names (files s r a m store register archive archive_register)
    (files s r a m new_store new_register new_archive new_archive_register) result →
    AreClean (files s r a m new_store new_register new_archive new_archive_register)
    → StopsLeaveOpen content es archives held.copy (files s r a m new_store new_register new_archive new_archive_register)
