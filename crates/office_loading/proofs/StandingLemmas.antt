-- The query of all interchanges shows them in the order in which they stand.
use Rattle.std.{specs.{List.Sorted.IsPermutation, List.{AllByRecursion, AllZip}}, proofs.lemmas.List.Sorted.{length_permutation, Contains-permutation}}
use Rattle.std.proofs.Common.{◌≡◌, List, [], ◌∷◌, map, Result, Ok, Err, OnOk, refl, sym, subst, ◌∙◌, arith, ℕ, false, true, filter, codes, ap, ap₂, ◌++◌, Contains, inl, inr}
use Rattle.sqlite.specs.{Order.{Row, column}, Effect.Database, State.{State, Shown}, declared.types.Value.TheVariants.Null, Tree.{Trees, IsTable}}
use Rattle.sqlite.specs.{Collation.TheVariants.Binary, Term.{Term, col}, Query.{Query, Output, IsAnswer}, Program.overlay, Command.Command}
use Rattle.sqlite.{specs.{Command.TheVariants.Select, Listing.{understood, reads_listing}}, proofs.Callers.{IsPlain, command_of, reads_as}}
use Rattle.office_rows.specs.{Tables.interchange_table, Rows.{Rows, Interchange, Setting}, Values.{interchange_values, setting_values}, Steps.{Steps, Turns}}
use Rattle.office_rows.specs.{Stored.{columns_of, HasRows}, InPlace.AreInPlace, Layouts.{bare_schema, bare, layout_of}, Bare.with_weights}
use Rattle.office_rows.{specs.{Opening.{setting_row, settings_in, version_text}, Migrated.migrated_rows}, proofs.WriteLemmas.{rows_of, passes, answer_in_order}}
use Rattle.office_tables.specs.{Order.{HasRowsInOrder, KeepsOrder}, Reading.{ReadsIfOpen, OnlyShows}, declared.table_fault.TableFault.TableFault}
use Rattle.office_tables.specs.{declared.table_fault.TableFault.TheVariants.{Store, Damaged, Version as OtherVersion, Memory}, Faults.IsOfStore}
use Rattle.office_tables.proofs.WritesLemmas.{survives_here, is_read, understands_query}
use Rattle.sqlite_value.specs.{Keys.ascending, declared.keys.Key.Key}
use Rattle.sqlite_tied.specs.Compute.{everything}
use Rattle.sqlite_trees.proofs.ListLemmas.{map-map, filter_all}
use Rattle.sqlite_resolve.specs.Compile.{first}
use Rattle.office_loading.specs.{Copies.{ShowsInterchange, AreStanding}, Tables.Names, Older.{HasOlder, FailsToLoadOlder}, Migration.IsMigration}
use Rattle.office_loading.{specs.History.{IsOlderAfter, HoldsAfter, StoresAfter}, proofs.RowLemmas.{keyed, in_order}}
use Rattle.sqlite_rules.{specs.Lists.Has, proofs.ListLemmas.contains_had}
use Rattle.terminal_core.specs.{declared.change.Version.Version, declared.change.Version.TheVariants.{First, Second, Third}}
use Rattle.office_replies.specs.Events.{Event, migrated}
use Rattle.office_admission.specs.Setups.{SetupContent}
use Rattle.office_history.{specs.After.content_after, proofs.{KeptNumbers.migration_goes_on, Offices.older_rows_are}}
use Rattle.office_rows.specs.Tables as table

-- ==== MoreLemmas: Rows that are written in order, and what follows of a call that went well.

-- what is said of the result, at the value that it has
pub at_ok : {E : Type 0} (P : Result (Unit {0}) E → Type 0) (result : Result (Unit {0}) E) → P result → OnOk result (P (Ok tt))
at_ok P (Ok x) p = p
at_ok P (Err e) p = tt

-- nothing is read yet
pub reads_here : {T : Type 0} (now : State) (value : T) → ReadsIfOpen now now (Ok value)
reads_here now value = record {
  unchanged = λ clean is. (
    record { was_open = is; is_open = is; now_is = refl; committed_is = refl; mode = refl },
    record { changes = refl; last_rowid = refl },
    refl,
  );
  keeps = λ clean. record { was_open = λ was. was; committed = λ was. refl };
  mode = λ idle. idle;
  survives = survives_here now (λ _. ⊥);
}

none_stored : (stored : List Row) → IsPermutation [] (map (columns_of interchange_table) stored) → stored ≡ []
none_stored [] same = refl
none_stored (r ∷ stored) same = absurd (omega (arith, length_permutation _ _ same))

-- where there is no interchange they stand in order
pub none_in_order : (rows : Rows) (db : Database) → rows.interchanges ≡ [] → HasRows rows db → HasRowsInOrder rows db
none_in_order rows db none has =
    let held = has.rows_are.interchanges in
    let empty : db.trees 2 ≡ [] = none_stored (db.trees 2) (subst (λ l. IsPermutation (map interchange_values l) (map (columns_of interchange_table) (db.trees 2))) none held.same) in
    record {
      has = has;
      in_place = subst (λ l. AreInPlace interchange_table interchange_values l (db.trees 2)) (sym none) (subst (AreInPlace interchange_table interchange_values []) (sym empty) (record { placed = tt; same = refl }));
    }

-- rows that were made, and then changed
pub order_turn : (P : Database → Type 0) (rows : Rows) (change : Rows → Rows) (a b c : State) → rows.interchanges ≡ [] → Turns P (HasRows rows) a b → Steps change b c → KeepsOrder change b c → Turns P (HasRowsInOrder (change rows)) a c
order_turn P rows change a b c none p q keeps = record {
  now = λ h. keeps rows (none_in_order rows b.now none (p.now h));
  inside = q.inside;
  committed = q.committed ∙ p.committed;
  is_open = q.is_open;
}

-- ==== StandingLemmas: The query of all interchanges shows them in the order in which they stand.

abbrev pub select_standing : List ℕ
select_standing = codes "SELECT body, reply, partner, number FROM interchange ORDER BY rowid"

abbrev standing_shown : List Term
standing_shown = col 1 3 ∷ col 1 4 ∷ col 1 1 ∷ col 1 2 ∷ []

abbrev standing_order : List (Term × Key)
standing_order = (col 1 0, ascending Binary) ∷ []

abbrev standing_query : Query
standing_query = record (rows_of 2 [] standing_shown) { order = standing_order }

abbrev standing_command : Command
standing_command = Select (record { lets = []; body = standing_query }) (codes "body" ∷ codes "reply" ∷ codes "partner" ∷ codes "number" ∷ [])

standing_is : (command_of (understood bare_schema select_standing) ≡ standing_command) × (reads_listing bare_schema select_standing ≡ false)
unfolding understood everything
standing_is = (refl, refl)

standing_plain : IsPlain (understood bare_schema select_standing)
unfolding understood everything
standing_plain = (refl, refl)

standing_read : is_read (first select_standing) ≡ true
unfolding everything
standing_read = refl

pub standing_shows : OnlyShows select_standing
standing_shows schema c is = understands_query schema select_standing c standing_read is

-- ---- what is found

-- what the query shows of a row
abbrev shown_of : Row → Row
shown_of r = column r 3 ∷ column r 4 ∷ column r 1 ∷ column r 2 ∷ []

all_pass : (rows : List Row) → AllByRecursion (λ r. passes [] [] r ≡ true) rows
all_pass [] = tt
all_pass (r ∷ rows) = (refl, all_pass rows)

standing_found : (trees : Trees) → IsTable (trees 2) → (answer : List Row) → IsAnswer standing_query (overlay trees []) [] answer → answer ≡ map shown_of (trees 2)
standing_found trees up answer a =
    let given = answer_in_order [] [] 2 standing_shown standing_order trees answer refl a in
    let all : filter (passes [] []) (trees 2) ≡ trees 2 = filter_all (passes [] []) (trees 2) (all_pass (trees 2)) in
    let one = in_order shown_of (filter (passes [] []) (trees 2)) a.ordered (rw all up) given.0 given.1 in
    given.2 ∙ ap (map (λ (o : Output). o.1)) (sym one) ∙ map-map (λ (o : Output). o.1) (keyed shown_of) (filter (passes [] []) (trees 2)) ∙ ap (map shown_of) all

-- ---- what is read of it

one_standing : (r : Row) (i : Interchange) → ShowsInterchange (shown_of r) i → interchange_values i ≡ columns_of interchange_table r
one_standing r i s = λ k. sym s.partner k ∷ sym s.number k ∷ sym s.body k ∷ sym s.reply k ∷ []

all_standing : (stored : List Row) (copied : List Interchange) → AllZip ShowsInterchange (map shown_of stored) copied → map interchange_values copied ≡ map (columns_of interchange_table) stored
all_standing [] [] all = refl
all_standing [] (i ∷ copied) all = absurd all
all_standing (r ∷ stored) [] all = absurd all
all_standing (r ∷ stored) (i ∷ copied) all = ap₂ (λ x l. x ∷ l) (one_standing r i all.0) (all_standing stored copied all.1)

-- the interchanges that the rows of the query show are those of the tree, in its order
pub are_standing : (old new : State) (answer : List Row) (copied : List Interchange) → old.now.schema ≡ bare_schema → Shown select_standing [] old new answer → AllZip ShowsInterchange answer copied → AreStanding (old.now.trees 2) copied
are_standing old new answer copied has h zip shaped =
    let read = reads_as select_standing [] old new bare_schema has standing_command standing_is.0 standing_plain standing_is.1 answer h in
    let is = standing_found old.now.trees shaped.0 answer (read.answer Null) in
    all_standing (old.now.trees 2) copied (subst (λ l. AllZip ShowsInterchange l copied) is zip)

-- ==== HistoryLemmas: A store that was migrated goes on from the events of the old one.

of_older : (version : Version) (db : Database) → layout_of version ≡ bare → Names (version_text version) (db.trees 11) → HasOlder db
of_older First db older named = inl named
of_older Second db older named = inr named
of_older Third db older named = absurd cc

module _ (version : Version) (content : SetupContent) (es : List Event) (db : Database) (it : IsOlderAfter version content es db) where
  has_older : HasOlder db
  has_older =
      let own : Setting = setting_row (codes "version") (version_text version) in
      let all = map setting_values (settings_in version (content_after content es)) in
      let first : Has all (setting_values own) = inl refl in
      let named : Contains (map setting_values it.rows.settings) (setting_values own) = subst (λ (l : List Setting). Contains (map setting_values l) (setting_values own)) (sym it.after.settings) (contains_had all (setting_values own) first) in
      of_older version db it.older (Contains-permutation _ _ (setting_values own) it.has.rows_are.settings.same named)

  -- neither its version nor its rows are refused
  pub never_refused : (fault : TableFault) → FailsToLoadOlder db fault → IsOfStore fault
  never_refused OtherVersion h = absurd (h has_older)
  never_refused Damaged h =
      let office = older_rows_are content version es it.rows (with_weights db) it.given it.after it.has.rows_are in
      absurd (h.1 office.0 (content_after content es) office.1 office.2 office.3)
  never_refused Memory h = tt
  never_refused (Store error) h = tt

  pub holds_after : (new : Database) → HasRows (migrated_rows it.rows) new → HoldsAfter content (es ++ migrated version ∷ []) new
  holds_after new has = record { rows = migrated_rows it.rows; has = has; after = migration_goes_on content version es it.rows it.unmigrated it.after }

  pub migration_holds : (before : Database) (trees : Trees) → IsMigration db before trees → before.schema ≡ table.no_schema → StoresAfter content (es ++ migrated version ∷ []) trees
  migration_holds before trees made none = holds_after (record { schema = table.office_schema; trees = trees }) (made none it.rows it.has).0
