-- What a connection to files shows.
use Rattle.std.proofs.Common.{◌≡◌, inl, inr, [], length, true, false, arith, refl, ap, sym, subst}
use Rattle.std.proofs.Math.Logic.{∥∥₁_elim}
use Rattle.sqlite_disk.specs.declared.Disk.{Ghosts}
use Rattle.sqlite_catalog.{specs.Listing.Lists, proofs.ReadLemmas.lists_once}
use Rattle.sqlite_trees.specs.{Props.Trees-set, Sound.is_sound_list, Objects.catalog_tree}
use Rattle.sqlite_schema.specs.Names.{same_name}
use Rattle.sqlite.specs.{Effect.{Database, IsDatabase}, Files.{IsOpened, file_state}, Held.Held, Recovery.Image, Start.FindsIn, State.HasCleanDisk, Tree.Trees}
use Rattle.sqlite.specs.declared.FileStore.{FileStore}
use Rattle.office_rows.specs.Tables.{no_schema, office_schema, office_tables}
use Rattle.office_tables.specs.Opened.{AreMissing}
use Rattle.office_commands.specs.Opening.{HoldsNoTables, ShowsHeld}

-- The trees list one schema at most, so the connection has that one.
pub shows_held : {D : Type 0} {g : Ghosts D} (image : Image) (conn : Held (FileStore D g)) → IsOpened conn → FindsIn image (file_state conn) → ShowsHeld image conn
shows_held image conn opened found db schema held lists =
    let committed = (file_state conn).committed in
    let sound : IsDatabase committed = (opened.1 opened.0.is_open).1 in
    let trees : committed.trees ≡ db = ∥∥₁_elim held (Trees-set _ _) (found.holds db) in
    let same : committed.schema ≡ schema =
    lists_once (committed.trees catalog_tree) committed.schema schema sound.lists (subst (λ (t : Trees). Lists (t catalog_tree) schema) (sym trees) lists) in
    λ i. record { schema = same i; trees = trees i }

lists_none : Lists [] no_schema
unfolding is_sound_list
lists_none = record { listed = record { tables = tt; indexes = tt; views = tt; owned = tt; named = tt; loads = refl }; guarded = tt }

-- what is held by another name shows the same
pub shown_by : {D : Type 0} {g : Ghosts D} (image : Image) (conn held : Held (FileStore D g)) → held ≡ conn → (HasCleanDisk (file_state conn) → ShowsHeld image conn) → HasCleanDisk (file_state held) → ShowsHeld image held
shown_by {D} {g} image conn held same shows = subst (λ (h : Held (FileStore D g)). HasCleanDisk (file_state h) → ShowsHeld image h) (sym same) shows

-- A database file that is empty has no tables.
pub shows_none : {D : Type 0} {g : Ghosts D} (image : Image) (conn : Held (FileStore D g)) → IsOpened conn → FindsIn image (file_state conn) → image.db ≡ [] → (file_state conn).committed.schema ≡ no_schema
shows_none image conn opened found none =
    let committed = (file_state conn).committed in
    let sound : IsDatabase committed = (opened.1 opened.0.is_open).1 in
    let empty : committed.trees catalog_tree ≡ [] = elim found.reads [
      | inl held ↦ absurd (omega (arith, held.3.found.present, ap length none))
      | inr nothing ↦ nothing.1.1
    ] in
    lists_once [] committed.schema no_schema (subst (λ rows. Lists rows committed.schema) empty sound.lists) lists_none

-- nor has a connection to files that hold none
pub shows_no_tables : {D : Type 0} {g : Ghosts D} (image : Image) (conn : Held (FileStore D g)) → (image.db ≡ [] → (file_state conn).committed.schema ≡ no_schema) → ShowsHeld image conn → HoldsNoTables image → (file_state conn).committed.schema ≡ no_schema
shows_no_tables image conn empty shows (inl none) = empty none
shows_no_tables image conn empty shows (inr (db, held, lists)) = ap (λ (d : Database). d.schema) (shows db no_schema held lists)

-- the office's own tables are in its schema
pub never_missing : AreMissing office_tables office_schema → ⊥
unfolding same_name
never_missing missing = let none : true ≡ false = missing.0 in absurd cc
