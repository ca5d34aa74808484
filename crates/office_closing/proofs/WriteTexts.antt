-- What the texts mean that make the tables, and those that write.
use Rattle.std.{specs.{Prelude.{IfSome, IsUtf8, String, string_bytes, Vec}, Option.option_map, List.AllByRecursion}, proofs.lemmas.Bool.cases_Bool}
use Rattle.std.proofs.Common.{◌≡◌, ℕ, List, [], ◌∷◌, codes, Ok, refl, true, false, Err, ◌<◌, ◌≤◌, map, length, Option, None, Some, Result, IfOk, IfErr, inl, inr, sym, ap, subst, ◌∙◌, arith}
use Rattle.std.proofs.{lemmas.List.length-map, lemmas.List.Sorted.length_permutation}
use Rattle.sqlite.specs.{declared.types.Value.TheVariants.Null, Term.{Term, lit, col}, Source.TheVariants.Values, Compile.table_defined_by, Effect.Database}
use Rattle.sqlite.specs.{Command.TheVariants.{CreateTable, Insert, Nothing, Select}, Listing.{understood, reads_listing, listing_schema}, Order.Row}
use Rattle.sqlite.specs.{Collation.TheVariants.Binary, Outline.Outline, Schema.Schema, Steps.Outlines, declared.error.Error.Error}
use Rattle.sqlite.specs.{State.{State, IsNotRun, IsNoStatement, IsUnchanged, KeepsCommit, store_error}, declared.error.Error.TheVariants.SqlInputError}
use Rattle.sqlite.proofs.Callers.{IsPlain, command_of, statement_of}
use Rattle.sqlite_tied.specs.Compute.{everything}
use Rattle.office_rows.{specs.Tables.{no_schema, schema_of}, proofs.{WriteLemmas.rows_of, Creating.stops_keep}}
use Rattle.office_tables.{specs.{Reading.OnlyShows, declared.table_fault.TableFault.TableFault, Faults.IsOfStoreOr}, proofs.MadeLemmas.MakesAnew}
use Rattle.office_tables.proofs.WritesLemmas.{is_read, only_shows, of_store_weaker}
use Rattle.office_closing.specs.Tables.{archive_table, segment_table, closed_for_table, settled_table, taken_table, sealed_table, older_schema, former_schema, unsealed_schema, register_schema, Layout, older, former, unsealed, whole, schema_in, has_table, asking}
use Rattle.office_closing.specs.{declared.register_reading.Later.Later, declared.register.Segment.Segment, Lists.SettledListContent}
use Rattle.office_closing.specs.{Register.{ArchiveContent, SealedContent}, Stored.{ShowsLists, ShowsSealed, ShowsTaken, file_values, if_any}}
use Rattle.office_closing.specs.Reading.{FitsArchive, FitsSealed, FitsSegment, FitsList, ShowsArchives, ShowsSegments, ShowsFiles, FailsMark, ReadsMark, FailsTables}
use Rattle.sqlite_resolve.specs.{Compile.first, declared.error.CompileError.TheVariants.NoSuchTable, declared.compiled.Compiled.Compiled}
use Rattle.sqlite_resolve.specs.declared.error.CompileError.{CompileError}
use Rattle.sqlite_value.specs.{Keys.ascending, declared.keys.Key.Key}
use Rattle.sqlite_trees.specs.{declared.error.StoreError.StoreError, declared.error.StoreError.TheVariants.{OutOfMemory, Io, Corrupt, Full, Broken, Unstorable}}
use Rattle.office_loading.{specs.Tables.{FailsTable, ReadsTable}, proofs.VersionLemmas.same_rows}
use Rattle.office_closing.specs.declared.register_reading.Later.TheVariants as later

-- ---- tables

abbrev pub create_archive : List ℕ
create_archive = codes "CREATE TABLE archive (place INTEGER PRIMARY KEY, file TEXT NOT NULL UNIQUE, visits INTEGER NOT NULL) STRICT"

pub create_archive_is : (command_of (understood no_schema create_archive) ≡ CreateTable) × (statement_of create_archive (understood no_schema create_archive) ≡ create_archive)
unfolding understood everything
create_archive_is = (refl, refl)

pub create_archive_plain : IsPlain (understood no_schema create_archive)
unfolding understood everything
create_archive_plain = (refl, refl)

pub archive_defined : table_defined_by create_archive ≡ Ok (record archive_table { tree = 0 })
unfolding understood everything
archive_defined = refl

pub archive_anew : MakesAnew create_archive
unfolding everything
archive_anew = (refl, refl)

abbrev pub create_segment : List ℕ
create_segment = codes "CREATE TABLE segment (partner INTEGER NOT NULL, archive INTEGER NOT NULL, last INTEGER NOT NULL, PRIMARY KEY(partner, archive)) STRICT"

pub create_segment_is : (command_of (understood (schema_of (archive_table ∷ [])) create_segment) ≡ CreateTable) × (statement_of create_segment (understood (schema_of (archive_table ∷ [])) create_segment) ≡ create_segment)
unfolding understood everything
create_segment_is = (refl, refl)

pub create_segment_plain : IsPlain (understood (schema_of (archive_table ∷ [])) create_segment)
unfolding understood everything
create_segment_plain = (refl, refl)

pub segment_defined : table_defined_by create_segment ≡ Ok (record segment_table { tree = 0 })
unfolding understood everything
segment_defined = refl

pub segment_anew : MakesAnew create_segment
unfolding everything
segment_anew = (refl, refl)

abbrev pub create_closed_for : List ℕ
create_closed_for = codes "CREATE TABLE closed_for (file TEXT PRIMARY KEY) STRICT"

pub create_closed_for_is : (command_of (understood (schema_of (archive_table ∷ segment_table ∷ [])) create_closed_for) ≡ CreateTable) × (statement_of create_closed_for (understood (schema_of (archive_table ∷ segment_table ∷ [])) create_closed_for) ≡ create_closed_for)
unfolding understood everything
create_closed_for_is = (refl, refl)

pub create_closed_for_plain : IsPlain (understood (schema_of (archive_table ∷ segment_table ∷ [])) create_closed_for)
unfolding understood everything
create_closed_for_plain = (refl, refl)

pub closed_for_defined : table_defined_by create_closed_for ≡ Ok (record closed_for_table { tree = 0 })
unfolding understood everything
closed_for_defined = refl

pub closed_for_anew : MakesAnew create_closed_for
unfolding everything
closed_for_anew = (refl, refl)

abbrev pub create_settled : List ℕ
create_settled = codes "CREATE TABLE settled (vessel TEXT NOT NULL, voyage TEXT NOT NULL, side INTEGER NOT NULL, archive INTEGER NOT NULL, lines TEXT NOT NULL, PRIMARY KEY(vessel, voyage, side, archive)) STRICT"

pub create_settled_is : (command_of (understood older_schema create_settled) ≡ CreateTable) × (statement_of create_settled (understood older_schema create_settled) ≡ create_settled)
unfolding understood everything
create_settled_is = (refl, refl)

pub create_settled_plain : IsPlain (understood older_schema create_settled)
unfolding understood everything
create_settled_plain = (refl, refl)

pub settled_defined : table_defined_by create_settled ≡ Ok (record settled_table { tree = 0 })
unfolding understood everything
settled_defined = refl

pub settled_anew : MakesAnew create_settled
unfolding everything
settled_anew = (refl, refl)

-- the same where it may be there

abbrev pub complete_settled : List ℕ
complete_settled = codes "CREATE TABLE IF NOT EXISTS settled (vessel TEXT NOT NULL, voyage TEXT NOT NULL, side INTEGER NOT NULL, archive INTEGER NOT NULL, lines TEXT NOT NULL, PRIMARY KEY(vessel, voyage, side, archive)) STRICT"

pub complete_settled_is : (command_of (understood older_schema complete_settled) ≡ CreateTable) × (statement_of complete_settled (understood older_schema complete_settled) ≡ complete_settled)
unfolding understood everything
complete_settled_is = (refl, refl)

pub complete_settled_plain : IsPlain (understood older_schema complete_settled)
unfolding understood everything
complete_settled_plain = (refl, refl)

pub complete_defined : table_defined_by complete_settled ≡ Ok (record settled_table { tree = 0 })
unfolding understood everything
complete_defined = refl

pub settled_there : command_of (understood former_schema complete_settled) ≡ Nothing
unfolding understood everything
settled_there = refl

pub settled_there_plain : IsPlain (understood former_schema complete_settled)
unfolding understood everything
settled_there_plain = (refl, refl)

pub settled_kept : command_of (understood unsealed_schema complete_settled) ≡ Nothing
unfolding understood everything
settled_kept = refl

pub settled_kept_plain : IsPlain (understood unsealed_schema complete_settled)
unfolding understood everything
settled_kept_plain = (refl, refl)

pub completed_is : command_of (understood register_schema complete_settled) ≡ Nothing
unfolding understood everything
completed_is = refl

pub completed_plain : IsPlain (understood register_schema complete_settled)
unfolding understood everything
completed_plain = (refl, refl)

abbrev pub create_taken : List ℕ
create_taken = codes "CREATE TABLE taken (partner INTEGER NOT NULL, archive INTEGER NOT NULL, last INTEGER NOT NULL, PRIMARY KEY(partner, archive)) STRICT"

pub create_taken_is : (command_of (understood former_schema create_taken) ≡ CreateTable) × (statement_of create_taken (understood former_schema create_taken) ≡ create_taken)
unfolding understood everything
create_taken_is = (refl, refl)

pub create_taken_plain : IsPlain (understood former_schema create_taken)
unfolding understood everything
create_taken_plain = (refl, refl)

pub taken_defined : table_defined_by create_taken ≡ Ok (record taken_table { tree = 0 })
unfolding understood everything
taken_defined = refl

pub taken_anew : MakesAnew create_taken
unfolding everything
taken_anew = (refl, refl)

abbrev pub complete_taken : List ℕ
complete_taken = codes "CREATE TABLE IF NOT EXISTS taken (partner INTEGER NOT NULL, archive INTEGER NOT NULL, last INTEGER NOT NULL, PRIMARY KEY(partner, archive)) STRICT"

pub complete_taken_is : (command_of (understood former_schema complete_taken) ≡ CreateTable) × (statement_of complete_taken (understood former_schema complete_taken) ≡ complete_taken)
unfolding understood everything
complete_taken_is = (refl, refl)

pub complete_taken_plain : IsPlain (understood former_schema complete_taken)
unfolding understood everything
complete_taken_plain = (refl, refl)

pub complete_taken_defined : table_defined_by complete_taken ≡ Ok (record taken_table { tree = 0 })
unfolding understood everything
complete_taken_defined = refl

pub taken_kept : command_of (understood unsealed_schema complete_taken) ≡ Nothing
unfolding understood everything
taken_kept = refl

pub taken_kept_plain : IsPlain (understood unsealed_schema complete_taken)
unfolding understood everything
taken_kept_plain = (refl, refl)

pub taken_there : command_of (understood register_schema complete_taken) ≡ Nothing
unfolding understood everything
taken_there = refl

pub taken_there_plain : IsPlain (understood register_schema complete_taken)
unfolding understood everything
taken_there_plain = (refl, refl)

abbrev pub create_sealed : List ℕ
create_sealed = codes "CREATE TABLE sealed (archive INTEGER PRIMARY KEY, terminal TEXT NOT NULL, seals BLOB NOT NULL) STRICT"

pub create_sealed_is : (command_of (understood unsealed_schema create_sealed) ≡ CreateTable) × (statement_of create_sealed (understood unsealed_schema create_sealed) ≡ create_sealed)
unfolding understood everything
create_sealed_is = (refl, refl)

pub create_sealed_plain : IsPlain (understood unsealed_schema create_sealed)
unfolding understood everything
create_sealed_plain = (refl, refl)

pub sealed_defined : table_defined_by create_sealed ≡ Ok (record sealed_table { tree = 0 })
unfolding understood everything
sealed_defined = refl

pub sealed_anew : MakesAnew create_sealed
unfolding everything
sealed_anew = (refl, refl)

abbrev pub complete_sealed : List ℕ
complete_sealed = codes "CREATE TABLE IF NOT EXISTS sealed (archive INTEGER PRIMARY KEY, terminal TEXT NOT NULL, seals BLOB NOT NULL) STRICT"

pub complete_sealed_is : (command_of (understood unsealed_schema complete_sealed) ≡ CreateTable) × (statement_of complete_sealed (understood unsealed_schema complete_sealed) ≡ complete_sealed)
unfolding understood everything
complete_sealed_is = (refl, refl)

pub complete_sealed_plain : IsPlain (understood unsealed_schema complete_sealed)
unfolding understood everything
complete_sealed_plain = (refl, refl)

pub complete_sealed_defined : table_defined_by complete_sealed ≡ Ok (record sealed_table { tree = 0 })
unfolding understood everything
complete_sealed_defined = refl

pub sealed_there : command_of (understood register_schema complete_sealed) ≡ Nothing
unfolding understood everything
sealed_there = refl

pub sealed_there_plain : IsPlain (understood register_schema complete_sealed)
unfolding understood everything
sealed_there_plain = (refl, refl)

-- ---- rows

abbrev pub insert_archive : List ℕ
insert_archive = codes "INSERT INTO archive (place, file, visits) VALUES (?1, ?2, ?3)"

abbrev pub insert_archive_terms : List Term
insert_archive_terms = col 0 0 ∷ lit Null ∷ col 0 1 ∷ col 0 2 ∷ []

pub insert_archive_is : command_of (understood register_schema insert_archive) ≡ Insert 0 (Values insert_archive_terms 4)
unfolding understood everything
insert_archive_is = refl

pub insert_archive_plain : IsPlain (understood register_schema insert_archive)
unfolding understood everything
insert_archive_plain = (refl, refl)

abbrev pub insert_segment : List ℕ
insert_segment = codes "INSERT INTO segment (partner, archive, last) VALUES (?1, ?2, ?3)"

abbrev pub insert_segment_terms : List Term
insert_segment_terms = lit Null ∷ col 0 0 ∷ col 0 1 ∷ col 0 2 ∷ []

pub insert_segment_is : command_of (understood register_schema insert_segment) ≡ Insert 1 (Values insert_segment_terms 4)
unfolding understood everything
insert_segment_is = refl

pub insert_segment_plain : IsPlain (understood register_schema insert_segment)
unfolding understood everything
insert_segment_plain = (refl, refl)

abbrev pub insert_closed_for : List ℕ
insert_closed_for = codes "INSERT INTO closed_for (file) VALUES (?1)"

abbrev pub insert_closed_for_terms : List Term
insert_closed_for_terms = lit Null ∷ col 0 0 ∷ []

pub insert_closed_for_is : command_of (understood register_schema insert_closed_for) ≡ Insert 2 (Values insert_closed_for_terms 2)
unfolding understood everything
insert_closed_for_is = refl

pub insert_closed_for_plain : IsPlain (understood register_schema insert_closed_for)
unfolding understood everything
insert_closed_for_plain = (refl, refl)

abbrev pub insert_settled : List ℕ
insert_settled = codes "INSERT INTO settled (vessel, voyage, side, archive, lines) VALUES (?1, ?2, ?3, ?4, ?5)"

abbrev pub insert_settled_terms : List Term
insert_settled_terms = lit Null ∷ col 0 0 ∷ col 0 1 ∷ col 0 2 ∷ col 0 3 ∷ col 0 4 ∷ []

pub insert_settled_is : command_of (understood register_schema insert_settled) ≡ Insert 3 (Values insert_settled_terms 6)
unfolding understood everything
insert_settled_is = refl

pub insert_settled_plain : IsPlain (understood register_schema insert_settled)
unfolding understood everything
insert_settled_plain = (refl, refl)

abbrev pub insert_taken : List ℕ
insert_taken = codes "INSERT INTO taken (partner, archive, last) VALUES (?1, ?2, ?3)"

abbrev pub insert_taken_terms : List Term
insert_taken_terms = lit Null ∷ col 0 0 ∷ col 0 1 ∷ col 0 2 ∷ []

pub insert_taken_is : command_of (understood register_schema insert_taken) ≡ Insert 4 (Values insert_taken_terms 4)
unfolding understood everything
insert_taken_is = refl

pub insert_taken_plain : IsPlain (understood register_schema insert_taken)
unfolding understood everything
insert_taken_plain = (refl, refl)

abbrev pub insert_sealed : List ℕ
insert_sealed = codes "INSERT INTO sealed (archive, terminal, seals) VALUES (?1, ?2, ?3)"

abbrev pub insert_sealed_terms : List Term
insert_sealed_terms = col 0 0 ∷ lit Null ∷ col 0 1 ∷ col 0 2 ∷ []

pub insert_sealed_is : command_of (understood register_schema insert_sealed) ≡ Insert 5 (Values insert_sealed_terms 4)
unfolding understood everything
insert_sealed_is = refl

pub insert_sealed_plain : IsPlain (understood register_schema insert_sealed)
unfolding understood everything
insert_sealed_plain = (refl, refl)

-- ==== ReadTexts: What the texts mean that read.

abbrev pub select_archive : List ℕ
select_archive = codes "SELECT place, file, visits FROM archive ORDER BY place"

abbrev pub select_archive_shown : List Term
select_archive_shown = col 1 0 ∷ col 1 2 ∷ col 1 3 ∷ []

abbrev pub select_archive_order : List (Term × Key)
select_archive_order = (col 1 0, ascending Binary) ∷ []

abbrev pub select_archive_names : List (List ℕ)
select_archive_names = codes "place" ∷ codes "file" ∷ codes "visits" ∷ []

pub select_archive_is : (layout : Layout) → (command_of (understood (schema_in layout) select_archive) ≡ Select (record { lets = []; body = record (rows_of 0 [] select_archive_shown) { order = select_archive_order } }) select_archive_names) × (reads_listing (schema_in layout) select_archive ≡ false)
unfolding understood everything
select_archive_is older = (refl, refl)
select_archive_is former = (refl, refl)
select_archive_is unsealed = (refl, refl)
select_archive_is whole = (refl, refl)

pub select_archive_plain : (layout : Layout) → IsPlain (understood (schema_in layout) select_archive)
unfolding understood everything
select_archive_plain older = (refl, refl)
select_archive_plain former = (refl, refl)
select_archive_plain unsealed = (refl, refl)
select_archive_plain whole = (refl, refl)

pub select_archive_missing : understood no_schema select_archive ≡ Err NoSuchTable
unfolding understood listing_schema everything
select_archive_missing = refl

archive_read : is_read (first select_archive) ≡ true
unfolding everything
archive_read = refl

pub archive_shows : OnlyShows select_archive
archive_shows = only_shows select_archive archive_read

abbrev pub select_segment : List ℕ
select_segment = codes "SELECT partner, archive, last FROM segment ORDER BY archive, partner"

abbrev pub select_segment_shown : List Term
select_segment_shown = col 1 1 ∷ col 1 2 ∷ col 1 3 ∷ []

abbrev pub select_segment_order : List (Term × Key)
select_segment_order = (col 1 2, ascending Binary) ∷ (col 1 1, ascending Binary) ∷ []

abbrev pub select_segment_names : List (List ℕ)
select_segment_names = codes "partner" ∷ codes "archive" ∷ codes "last" ∷ []

pub select_segment_is : (layout : Layout) → (command_of (understood (schema_in layout) select_segment) ≡ Select (record { lets = []; body = record (rows_of 2 [] select_segment_shown) { order = select_segment_order } }) select_segment_names) × (reads_listing (schema_in layout) select_segment ≡ false)
unfolding understood everything
select_segment_is older = (refl, refl)
select_segment_is former = (refl, refl)
select_segment_is unsealed = (refl, refl)
select_segment_is whole = (refl, refl)

pub select_segment_plain : (layout : Layout) → IsPlain (understood (schema_in layout) select_segment)
unfolding understood everything
select_segment_plain older = (refl, refl)
select_segment_plain former = (refl, refl)
select_segment_plain unsealed = (refl, refl)
select_segment_plain whole = (refl, refl)

segment_read : is_read (first select_segment) ≡ true
unfolding everything
segment_read = refl

pub segment_shows : OnlyShows select_segment
segment_shows = only_shows select_segment segment_read

abbrev pub select_closed_for : List ℕ
select_closed_for = codes "SELECT file FROM closed_for ORDER BY file"

abbrev pub select_closed_for_shown : List Term
select_closed_for_shown = col 1 1 ∷ []

abbrev pub select_closed_for_order : List (Term × Key)
select_closed_for_order = (col 1 1, ascending Binary) ∷ []

abbrev pub select_closed_for_names : List (List ℕ)
select_closed_for_names = codes "file" ∷ []

pub select_closed_for_is : (layout : Layout) → (command_of (understood (schema_in layout) select_closed_for) ≡ Select (record { lets = []; body = record (rows_of 4 [] select_closed_for_shown) { order = select_closed_for_order } }) select_closed_for_names) × (reads_listing (schema_in layout) select_closed_for ≡ false)
unfolding understood everything
select_closed_for_is older = (refl, refl)
select_closed_for_is former = (refl, refl)
select_closed_for_is unsealed = (refl, refl)
select_closed_for_is whole = (refl, refl)

pub select_closed_for_plain : (layout : Layout) → IsPlain (understood (schema_in layout) select_closed_for)
unfolding understood everything
select_closed_for_plain older = (refl, refl)
select_closed_for_plain former = (refl, refl)
select_closed_for_plain unsealed = (refl, refl)
select_closed_for_plain whole = (refl, refl)

closed_for_read : is_read (first select_closed_for) ≡ true
unfolding everything
closed_for_read = refl

pub closed_for_shows : OnlyShows select_closed_for
closed_for_shows = only_shows select_closed_for closed_for_read

abbrev pub select_settled : List ℕ
select_settled = codes "SELECT vessel, voyage, side, archive, lines FROM settled ORDER BY vessel, voyage, side, archive"

abbrev pub select_settled_shown : List Term
select_settled_shown = col 1 1 ∷ col 1 2 ∷ col 1 3 ∷ col 1 4 ∷ col 1 5 ∷ []

abbrev pub select_settled_order : List (Term × Key)
select_settled_order = (col 1 1, ascending Binary) ∷ (col 1 2, ascending Binary) ∷ (col 1 3, ascending Binary) ∷ (col 1 4, ascending Binary) ∷ []

abbrev pub select_settled_names : List (List ℕ)
select_settled_names = codes "vessel" ∷ codes "voyage" ∷ codes "side" ∷ codes "archive" ∷ codes "lines" ∷ []

pub select_settled_is : (layout : Layout) → has_table later.Lists layout ≡ true → (command_of (understood (schema_in layout) select_settled) ≡ Select (record { lets = []; body = record (rows_of 6 [] select_settled_shown) { order = select_settled_order } }) select_settled_names) × (reads_listing (schema_in layout) select_settled ≡ false)
unfolding understood everything
select_settled_is older there = absurd cc
select_settled_is former there = (refl, refl)
select_settled_is unsealed there = (refl, refl)
select_settled_is whole there = (refl, refl)

pub select_settled_plain : (layout : Layout) → has_table later.Lists layout ≡ true → IsPlain (understood (schema_in layout) select_settled)
unfolding understood everything
select_settled_plain older there = absurd cc
select_settled_plain former there = (refl, refl)
select_settled_plain unsealed there = (refl, refl)
select_settled_plain whole there = (refl, refl)

settled_read : is_read (first select_settled) ≡ true
unfolding everything
settled_read = refl

pub settled_shows : OnlyShows select_settled
settled_shows = only_shows select_settled settled_read

abbrev pub select_taken : List ℕ
select_taken = codes "SELECT partner, archive, last FROM taken ORDER BY archive, partner"

pub select_taken_is : (layout : Layout) → has_table later.Taken layout ≡ true → (command_of (understood (schema_in layout) select_taken) ≡ Select (record { lets = []; body = record (rows_of 8 [] select_segment_shown) { order = select_segment_order } }) select_segment_names) × (reads_listing (schema_in layout) select_taken ≡ false)
unfolding understood everything
select_taken_is older there = absurd cc
select_taken_is former there = absurd cc
select_taken_is unsealed there = (refl, refl)
select_taken_is whole there = (refl, refl)

pub select_taken_plain : (layout : Layout) → has_table later.Taken layout ≡ true → IsPlain (understood (schema_in layout) select_taken)
unfolding understood everything
select_taken_plain older there = absurd cc
select_taken_plain former there = absurd cc
select_taken_plain unsealed there = (refl, refl)
select_taken_plain whole there = (refl, refl)

taken_read : is_read (first select_taken) ≡ true
unfolding everything
taken_read = refl

pub taken_shows : OnlyShows select_taken
taken_shows = only_shows select_taken taken_read

abbrev pub select_sealed : List ℕ
select_sealed = codes "SELECT archive, terminal, seals FROM sealed ORDER BY archive"

abbrev pub select_sealed_names : List (List ℕ)
select_sealed_names = codes "archive" ∷ codes "terminal" ∷ codes "seals" ∷ []

pub select_sealed_is : (command_of (understood register_schema select_sealed) ≡ Select (record { lets = []; body = record (rows_of 10 [] select_archive_shown) { order = select_archive_order } }) select_sealed_names) × (reads_listing register_schema select_sealed ≡ false)
unfolding understood everything
select_sealed_is = (refl, refl)

pub select_sealed_plain : IsPlain (understood register_schema select_sealed)
unfolding understood everything
select_sealed_plain = (refl, refl)

sealed_read : is_read (first select_sealed) ≡ true
unfolding everything
sealed_read = refl

pub sealed_shows : OnlyShows select_sealed
sealed_shows = only_shows select_sealed sealed_read

-- ---- whether there is a table that came later

pub table_found : (table : Later) (layout : Layout) → has_table table layout ≡ true → IsPlain (understood (schema_in layout) (asking table))
unfolding understood everything
table_found later.Lists older there = absurd cc
table_found later.Lists former there = (refl, refl)
table_found later.Lists unsealed there = (refl, refl)
table_found later.Lists whole there = (refl, refl)
table_found later.Taken older there = absurd cc
table_found later.Taken former there = absurd cc
table_found later.Taken unsealed there = (refl, refl)
table_found later.Taken whole there = (refl, refl)
table_found later.Sealed older there = absurd cc
table_found later.Sealed former there = absurd cc
table_found later.Sealed unsealed there = absurd cc
table_found later.Sealed whole there = (refl, refl)

pub table_missing : (table : Later) (layout : Layout) → has_table table layout ≡ false → understood (schema_in layout) (asking table) ≡ Err NoSuchTable
unfolding understood listing_schema everything
table_missing later.Lists older none = refl
table_missing later.Lists former none = absurd cc
table_missing later.Lists unsealed none = absurd cc
table_missing later.Lists whole none = absurd cc
table_missing later.Taken older none = refl
table_missing later.Taken former none = refl
table_missing later.Taken unsealed none = absurd cc
table_missing later.Taken whole none = absurd cc
table_missing later.Sealed older none = refl
table_missing later.Sealed former none = refl
table_missing later.Sealed unsealed none = refl
table_missing later.Sealed whole none = absurd cc

-- ==== ReadLemmas: From the rows that the tables show to a register, and why none is read.

-- ---- the file of the store that goes on

all_texts : (file : Option (List ℕ)) → IfSome file IsUtf8 → AllByRecursion IsUtf8 (if_any file)
all_texts None h = tt
all_texts (Some file) h = (h, tt)

one_text : (file : Option (List ℕ)) → AllByRecursion IsUtf8 (if_any file) → IfSome file IsUtf8
one_text None h = tt
one_text (Some file) h = h.0

pub mark_fails : (db : Database) (fault : TableFault) → FailsTable IsUtf8 (ShowsFiles db) fault → FailsMark db fault
mark_fails db = of_store_weaker ((all : List (List ℕ)) → ShowsFiles db all → ¬ AllByRecursion IsUtf8 all) _ (λ none file shown text. none (if_any file) shown (all_texts file text))

short : (file : Option (List ℕ)) → length (if_any file) ≤ 1
short None = omega arith
short (Some file) = omega arith

as_many : (db : Database) (xs ys : List (List ℕ)) → ShowsFiles db xs → ShowsFiles db ys → length ys ≡ length xs
as_many db xs ys shown that =
    sym (length-map ys file_values) ∙ length_permutation _ _ (same_rows closed_for_table (0 ∷ []) (0 ∷ []) (λ r. refl) db (map file_values xs) (map file_values ys) shown that) ∙ length-map xs file_values

module _ (db : Database) {A : Type 0} (file_of : A → List ℕ) (files : List A) (shown : ShowsFiles db (map file_of files)) (texts : AllByRecursion IsUtf8 (map file_of files)) where
  too_many : (fault : TableFault) → IsOfStoreOr (1 < length files) fault → FailsMark db fault
  too_many = of_store_weaker (1 < length files) _ (λ many file that text.
      let same : length (if_any file) ≡ length files = as_many db _ _ shown that ∙ length-map files file_of in
      omega (arith, short file))

  pub reads_mark : {Z : Type 0} (result : Result (Option (String Z)) TableFault) → IfOk result (λ file. map file_of files ≡ if_any (option_map string_bytes file)) → IfErr result (λ fault. IsOfStoreOr (1 < length files) fault)
      → ReadsMark db result
  reads_mark (Ok file) same many = (subst (ShowsFiles db) same shown, one_text (option_map string_bytes file) (subst (AllByRecursion IsUtf8) same texts))
  reads_mark (Err fault) same many = too_many fault many

-- ---- one of the tables can't be read

module _ (layout : Layout) (db : Database) where
  pub archives_fail : (fault : TableFault) → FailsTable FitsArchive (ShowsArchives db) fault → FailsTables layout db fault
  archives_fail = of_store_weaker ((all : List ArchiveContent) → ShowsArchives db all → ¬ AllByRecursion FitsArchive all) _ (λ none content shown fits. none content.archives shown.archives fits.archives)

  pub segments_fail : (fault : TableFault) → FailsTable FitsSegment (ShowsSegments db) fault → FailsTables layout db fault
  segments_fail = of_store_weaker ((all : List Segment) → ShowsSegments db all → ¬ AllByRecursion FitsSegment all) _ (λ none content shown fits. none content.segments shown.segments fits.segments)

  pub files_fail : (fault : TableFault) → FailsMark db fault → FailsTables layout db fault
  files_fail = of_store_weaker ((file : Option (List ℕ)) → ShowsFiles db (if_any file) → ¬ IfSome file IsUtf8) _ (λ none content shown fits. none content.closed_for shown.closed_for fits.closed_for)

  pub lists_fail : (fault : TableFault) → FailsTable FitsList (ShowsLists layout db) fault → FailsTables layout db fault
  lists_fail = of_store_weaker ((all : List SettledListContent) → ShowsLists layout db all → ¬ AllByRecursion FitsList all) _ (λ none content shown fits. none content.lists shown.lists fits.lists)

  pub taken_fails : (fault : TableFault) → FailsTable FitsSegment (ShowsTaken layout db) fault → FailsTables layout db fault
  taken_fails = of_store_weaker ((all : List Segment) → ShowsTaken layout db all → ¬ AllByRecursion FitsSegment all) _ (λ none content shown fits. none content.taken shown.taken fits.taken)

  pub sealed_fails : (fault : TableFault) → FailsTable FitsSealed (ShowsSealed layout db) fault → FailsTables layout db fault
  sealed_fails = of_store_weaker ((all : List SealedContent) → ShowsSealed layout db all → ¬ AllByRecursion FitsSealed all) _ (λ none content shown fits. none content.sealed shown.sealed fits.sealed)

-- ---- the tables that came later

-- the lists as the table shows them, if there is one
pub lists_read : {X Z : Type 0} (content : X → SettledListContent) (layout : Layout) (db : Database) (result : Result (Vec X Z) TableFault) → has_table later.Lists layout ≡ true → ReadsTable content FitsList (ShowsLists whole db) result → ReadsTable content FitsList (ShowsLists layout db) result
lists_read content older db result there read = absurd cc
lists_read content former db (Ok lists) there read = read
lists_read content former db (Err fault) there read = read
lists_read content unsealed db (Ok lists) there read = read
lists_read content unsealed db (Err fault) there read = read
lists_read content whole db result there read = read

pub lists_missing : {X Z : Type 0} (content : X → SettledListContent) (layout : Layout) (db : Database) (none : Vec X Z) → none.items ≡ [] → has_table later.Lists layout ≡ false → ReadsTable content FitsList (ShowsLists layout db) (Ok none)
lists_missing content older db none empty there = (ap (map content) empty, subst (AllByRecursion FitsList) (sym (ap (map content) empty)) tt)
lists_missing content former db none empty there = absurd cc
lists_missing content unsealed db none empty there = absurd cc
lists_missing content whole db none empty there = absurd cc

-- what had been taken as the table shows it, if there is one
pub taken_read_in : {X Z : Type 0} (content : X → Segment) (layout : Layout) (db : Database) (result : Result (Vec X Z) TableFault) → has_table later.Taken layout ≡ true → ReadsTable content FitsSegment (ShowsTaken whole db) result → ReadsTable content FitsSegment (ShowsTaken layout db) result
taken_read_in content older db result there read = absurd cc
taken_read_in content former db result there read = absurd cc
taken_read_in content unsealed db (Ok taken) there read = read
taken_read_in content unsealed db (Err fault) there read = read
taken_read_in content whole db result there read = read

pub taken_missing : {X Z : Type 0} (content : X → Segment) (layout : Layout) (db : Database) (none : Vec X Z) → none.items ≡ [] → has_table later.Taken layout ≡ false → ReadsTable content FitsSegment (ShowsTaken layout db) (Ok none)
taken_missing content older db none empty there = (ap (map content) empty, subst (AllByRecursion FitsSegment) (sym (ap (map content) empty)) tt)
taken_missing content former db none empty there = (ap (map content) empty, subst (AllByRecursion FitsSegment) (sym (ap (map content) empty)) tt)
taken_missing content unsealed db none empty there = absurd cc
taken_missing content whole db none empty there = absurd cc

-- what was sealed as the table shows it, if there is one
pub sealed_read_in : {X Z : Type 0} (content : X → SealedContent) (layout : Layout) (db : Database) (result : Result (Vec X Z) TableFault) → has_table later.Sealed layout ≡ true → ReadsTable content FitsSealed (ShowsSealed whole db) result → ReadsTable content FitsSealed (ShowsSealed layout db) result
sealed_read_in content older db result there read = absurd cc
sealed_read_in content former db result there read = absurd cc
sealed_read_in content unsealed db result there read = absurd cc
sealed_read_in content whole db result there read = read

pub sealed_missing : {X Z : Type 0} (content : X → SealedContent) (layout : Layout) (db : Database) (none : Vec X Z) → none.items ≡ [] → has_table later.Sealed layout ≡ false → ReadsTable content FitsSealed (ShowsSealed layout db) (Ok none)
sealed_missing content older db none empty there = (ap (map content) empty, subst (AllByRecursion FitsSealed) (sym (ap (map content) empty)) tt)
sealed_missing content former db none empty there = (ap (map content) empty, subst (AllByRecursion FitsSealed) (sym (ap (map content) empty)) tt)
sealed_missing content unsealed db none empty there = (ap (map content) empty, subst (AllByRecursion FitsSealed) (sym (ap (map content) empty)) tt)
sealed_missing content whole db none empty there = absurd cc

pub whole_by : (layout : Layout) → has_table later.Sealed layout ≡ true → schema_in layout ≡ register_schema
whole_by older there = absurd cc
whole_by former there = absurd cc
whole_by unsealed there = absurd cc
whole_by whole there = refl

-- ---- whether there is one of them

-- the query of it is understood where there is one, and else it names no table
pub found_in : (table : Later) (layout : Layout) (schema : Schema) → schema ≡ schema_in layout → (outline : Outline) → Outlines (understood schema (asking table)) outline → true ≡ has_table table layout
found_in table layout schema is outline h = elim (cases_Bool (has_table table layout)) [
  | inl there ↦ sym there
  | inr none ↦ absurd (subst (λ r. Outlines r outline) (ap (λ s. understood s (asking table)) is ∙ table_missing table layout none) h)
]

no_store_error : (cause : StoreError) → SqlInputError NoSuchTable ≡ store_error cause → ⊥
no_store_error OutOfMemory e = absurd cc
no_store_error Io e = absurd cc
no_store_error Corrupt e = absurd cc
no_store_error Full e = absurd cc
no_store_error Broken e = absurd cc
no_store_error Unstorable e = absurd cc

no_such_table : (result : Result Compiled CompileError) → IsPlain result → (e : CompileError) → result ≡ Err e → ⊥
no_such_table (Ok c) plain e same = absurd cc
no_such_table (Err f) plain e same = plain

pub missing_in : (table : Later) (layout : Layout) (old new : State) → old.now.schema ≡ schema_in layout → (params : Row) → IsNotRun old new (asking table) params (SqlInputError NoSuchTable) → false ≡ has_table table layout
unfolding IsNotRun
missing_in table layout old new is params (inr failed) = absurd (no_store_error failed.0 failed.1)
missing_in table layout old new is params (inl stopped) = elim (cases_Bool (has_table table layout)) [
  | inl there ↦ absurd (not_stated there stopped.0)
  | inr none ↦ sym none
]
  where
    not_stated : has_table table layout ≡ true → IsNoStatement old (asking table) params (SqlInputError NoSuchTable) → ⊥
    not_stated there (inl h) = no_such_table (understood (schema_in layout) (asking table)) (table_found table layout there) h.0 (ap (λ s. understood s (asking table)) (sym is) ∙ h.1)
    not_stated there (inr h) = elim h.2 [
      | inl p ↦ absurd (let e = p.1 in cc)
      | inr q ↦ elim q [
        | inl p ↦ absurd (let e = p.1 in cc)
        | inr p ↦ absurd (let e = p.1 in cc)
      ]
    ]

-- where no such table was found nothing has changed
pub missing_keeps : (sql : List ℕ) (params : Row) (old new : State) → IsNotRun old new sql params (SqlInputError NoSuchTable) → IsUnchanged old new
unfolding IsNotRun
missing_keeps sql params old new (inl stopped) = stopped.1
missing_keeps sql params old new (inr failed) = absurd (no_store_error failed.0 failed.1)

-- looking for it commits nothing
pub not_run_keeps : (sql : List ℕ) (params : Row) (old new : State) (e : Error) → IsNotRun old new sql params e → KeepsCommit old new
unfolding IsNotRun
not_run_keeps sql params old new e (inl stopped) = stops_keep old new (inl stopped.1)
not_run_keeps sql params old new e (inr failed) = stops_keep old new (inr failed.3)
