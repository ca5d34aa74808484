-- What the texts mean that write.
use Rattle.std.proofs.Common.{ℕ, ℤ, List, arith, ◌≡◌, pos, [], ◌∷◌, codes, refl}
use Rattle.sqlite.specs.{Order.Row, Effect.Database, declared.types.Value.TheVariants.{Null, Int, Text}, Term.{Term, lit, col, op2}, Source.TheVariants.Values}
use Rattle.sqlite.{specs.{Collation.TheVariants.Binary, Command.TheVariants.{Insert, Update, Delete}, Listing.understood}, proofs.Callers.{IsPlain, command_of}}
use Rattle.sqlite_rules.specs.{declared.error.Rowids.Rowids, Edit.edit_of}
use Rattle.yard_core.specs.declared.plan.Block.{Block}
use Rattle.terminal_core.specs.Rows.{VisitContent}
use Rattle.office_rows.specs.Tables.{partner_table, interchange_table, visit_table, place_table, listing_table, setting_table, block_table, office_schema}
use Rattle.office_rows.specs.{Rows.{Partner, Interchange, PlaceContent, ListingContent, Setting, Rows}, Stored.{Holds, HasRows}}
use Rattle.office_rows.specs.Values.{partner_values, interchange_values, visit_values, place_values, line_values, setting_values, block_values}
use Rattle.office_rows.proofs.WriteLemmas.{Edits, rows_of}
use Rattle.sqlite_sql.specs.{declared.ops.BinaryOp.TheVariants.Compare, declared.ops.CompareOp.TheVariants.Eq}
use Rattle.sqlite_tied.specs.Compute.{everything}

-- ==== TableLemmas: A write to one table leaves the rows of the others.

module _ (rows : Rows) (old new : Database) (has : HasRows rows old) (gone : List ℤ) (rowids : Rowids) (from : ℕ) (sources : List Row) where
  pub only_partners : (now : List Partner) → Edits partner_table (edit_of old.trees partner_table gone rowids from sources) old new → Holds partner_table partner_values now (new.trees 0) → HasRows (record rows { partners = now }) new
  only_partners now it held = record {
    schema = it.schema;
    lists = it.lists;
    rows_are = record {
      partners = held;
      interchanges = rw (it.applies.tables.1.0 (λ e. omega (arith, e))) has.rows_are.interchanges;
      visits = rw (it.applies.tables.1.1.0 (λ e. omega (arith, e))) has.rows_are.visits;
      places = rw (it.applies.tables.1.1.1.0 (λ e. omega (arith, e))) has.rows_are.places;
      lines = rw (it.applies.tables.1.1.1.1.0 (λ e. omega (arith, e))) has.rows_are.lines;
      settings = rw (it.applies.tables.1.1.1.1.1.0 (λ e. omega (arith, e))) has.rows_are.settings;
      blocks = rw (it.applies.tables.1.1.1.1.1.1.0 (λ e. omega (arith, e))) has.rows_are.blocks;
    };
  }

  pub only_interchanges : (now : List Interchange) → Edits interchange_table (edit_of old.trees interchange_table gone rowids from sources) old new → Holds interchange_table interchange_values now (new.trees 2) → HasRows (record rows { interchanges = now }) new
  only_interchanges now it held = record {
    schema = it.schema;
    lists = it.lists;
    rows_are = record {
      partners = rw (it.applies.tables.0 (λ e. omega (arith, e))) has.rows_are.partners;
      interchanges = held;
      visits = rw (it.applies.tables.1.1.0 (λ e. omega (arith, e))) has.rows_are.visits;
      places = rw (it.applies.tables.1.1.1.0 (λ e. omega (arith, e))) has.rows_are.places;
      lines = rw (it.applies.tables.1.1.1.1.0 (λ e. omega (arith, e))) has.rows_are.lines;
      settings = rw (it.applies.tables.1.1.1.1.1.0 (λ e. omega (arith, e))) has.rows_are.settings;
      blocks = rw (it.applies.tables.1.1.1.1.1.1.0 (λ e. omega (arith, e))) has.rows_are.blocks;
    };
  }

  pub only_visits : (now : List VisitContent) → Edits visit_table (edit_of old.trees visit_table gone rowids from sources) old new → Holds visit_table visit_values now (new.trees 4) → HasRows (record rows { visits = now }) new
  only_visits now it held = record {
    schema = it.schema;
    lists = it.lists;
    rows_are = record {
      partners = rw (it.applies.tables.0 (λ e. omega (arith, e))) has.rows_are.partners;
      interchanges = rw (it.applies.tables.1.0 (λ e. omega (arith, e))) has.rows_are.interchanges;
      visits = held;
      places = rw (it.applies.tables.1.1.1.0 (λ e. omega (arith, e))) has.rows_are.places;
      lines = rw (it.applies.tables.1.1.1.1.0 (λ e. omega (arith, e))) has.rows_are.lines;
      settings = rw (it.applies.tables.1.1.1.1.1.0 (λ e. omega (arith, e))) has.rows_are.settings;
      blocks = rw (it.applies.tables.1.1.1.1.1.1.0 (λ e. omega (arith, e))) has.rows_are.blocks;
    };
  }

  pub only_places : (now : List PlaceContent) → Edits place_table (edit_of old.trees place_table gone rowids from sources) old new → Holds place_table place_values now (new.trees 5) → HasRows (record rows { places = now }) new
  only_places now it held = record {
    schema = it.schema;
    lists = it.lists;
    rows_are = record {
      partners = rw (it.applies.tables.0 (λ e. omega (arith, e))) has.rows_are.partners;
      interchanges = rw (it.applies.tables.1.0 (λ e. omega (arith, e))) has.rows_are.interchanges;
      visits = rw (it.applies.tables.1.1.0 (λ e. omega (arith, e))) has.rows_are.visits;
      places = held;
      lines = rw (it.applies.tables.1.1.1.1.0 (λ e. omega (arith, e))) has.rows_are.lines;
      settings = rw (it.applies.tables.1.1.1.1.1.0 (λ e. omega (arith, e))) has.rows_are.settings;
      blocks = rw (it.applies.tables.1.1.1.1.1.1.0 (λ e. omega (arith, e))) has.rows_are.blocks;
    };
  }

  pub only_lines : (now : List ListingContent) → Edits listing_table (edit_of old.trees listing_table gone rowids from sources) old new → Holds listing_table line_values now (new.trees 9) → HasRows (record rows { lines = now }) new
  only_lines now it held = record {
    schema = it.schema;
    lists = it.lists;
    rows_are = record {
      partners = rw (it.applies.tables.0 (λ e. omega (arith, e))) has.rows_are.partners;
      interchanges = rw (it.applies.tables.1.0 (λ e. omega (arith, e))) has.rows_are.interchanges;
      visits = rw (it.applies.tables.1.1.0 (λ e. omega (arith, e))) has.rows_are.visits;
      places = rw (it.applies.tables.1.1.1.0 (λ e. omega (arith, e))) has.rows_are.places;
      lines = held;
      settings = rw (it.applies.tables.1.1.1.1.1.0 (λ e. omega (arith, e))) has.rows_are.settings;
      blocks = rw (it.applies.tables.1.1.1.1.1.1.0 (λ e. omega (arith, e))) has.rows_are.blocks;
    };
  }

  pub only_settings : (now : List Setting) → Edits setting_table (edit_of old.trees setting_table gone rowids from sources) old new → Holds setting_table setting_values now (new.trees 11) → HasRows (record rows { settings = now }) new
  only_settings now it held = record {
    schema = it.schema;
    lists = it.lists;
    rows_are = record {
      partners = rw (it.applies.tables.0 (λ e. omega (arith, e))) has.rows_are.partners;
      interchanges = rw (it.applies.tables.1.0 (λ e. omega (arith, e))) has.rows_are.interchanges;
      visits = rw (it.applies.tables.1.1.0 (λ e. omega (arith, e))) has.rows_are.visits;
      places = rw (it.applies.tables.1.1.1.0 (λ e. omega (arith, e))) has.rows_are.places;
      lines = rw (it.applies.tables.1.1.1.1.0 (λ e. omega (arith, e))) has.rows_are.lines;
      settings = held;
      blocks = rw (it.applies.tables.1.1.1.1.1.1.0 (λ e. omega (arith, e))) has.rows_are.blocks;
    };
  }

  pub only_blocks : (now : List Block) → Edits block_table (edit_of old.trees block_table gone rowids from sources) old new → Holds block_table block_values now (new.trees 13) → HasRows (record rows { blocks = now }) new
  only_blocks now it held = record {
    schema = it.schema;
    lists = it.lists;
    rows_are = record {
      partners = rw (it.applies.tables.0 (λ e. omega (arith, e))) has.rows_are.partners;
      interchanges = rw (it.applies.tables.1.0 (λ e. omega (arith, e))) has.rows_are.interchanges;
      visits = rw (it.applies.tables.1.1.0 (λ e. omega (arith, e))) has.rows_are.visits;
      places = rw (it.applies.tables.1.1.1.0 (λ e. omega (arith, e))) has.rows_are.places;
      lines = rw (it.applies.tables.1.1.1.1.0 (λ e. omega (arith, e))) has.rows_are.lines;
      settings = rw (it.applies.tables.1.1.1.1.1.0 (λ e. omega (arith, e))) has.rows_are.settings;
      blocks = held;
    };
  }

-- ==== Writing: What the texts mean that write.

abbrev pub equals : Term → Term → Term
equals a b = op2 (Compare Eq Binary) a b

abbrev pub insert_partner : List ℕ
insert_partner = codes "INSERT INTO partner (id, code, kind, next) VALUES (?1, ?2, ?3, ?4)"

abbrev pub insert_partner_terms : List Term
insert_partner_terms = col 0 0 ∷ lit Null ∷ col 0 1 ∷ col 0 2 ∷ col 0 3 ∷ []

pub insert_partner_is : command_of (understood office_schema insert_partner) ≡ Insert 0 (Values insert_partner_terms 5)
unfolding understood everything
insert_partner_is = refl

pub insert_partner_plain : IsPlain (understood office_schema insert_partner)
unfolding understood everything
insert_partner_plain = (refl, refl)

abbrev pub insert_interchange : List ℕ
insert_interchange = codes "INSERT INTO interchange (partner, number, body, reply) VALUES (?1, ?2, ?3, '')"

abbrev pub insert_interchange_terms : List Term
insert_interchange_terms = lit Null ∷ col 0 0 ∷ col 0 1 ∷ col 0 2 ∷ lit (Text []) ∷ []

pub insert_interchange_is : command_of (understood office_schema insert_interchange) ≡ Insert 1 (Values insert_interchange_terms 5)
unfolding understood everything
insert_interchange_is = refl

pub insert_interchange_plain : IsPlain (understood office_schema insert_interchange)
unfolding understood everything
insert_interchange_plain = (refl, refl)

abbrev pub insert_whole : List ℕ
insert_whole = codes "INSERT INTO interchange (partner, number, body, reply) VALUES (?1, ?2, ?3, ?4)"

abbrev pub insert_whole_terms : List Term
insert_whole_terms = lit Null ∷ col 0 0 ∷ col 0 1 ∷ col 0 2 ∷ col 0 3 ∷ []

pub insert_whole_is : command_of (understood office_schema insert_whole) ≡ Insert 1 (Values insert_whole_terms 5)
unfolding understood everything
insert_whole_is = refl

pub insert_whole_plain : IsPlain (understood office_schema insert_whole)
unfolding understood everything
insert_whole_plain = (refl, refl)

abbrev pub insert_visit : List ℕ
insert_visit = codes "INSERT INTO visit (visit, box, size, laden, booking, in_by, in_partner, in_number, in_at, in_slot, out_by, out_partner, out_number, out_at, kilos) VALUES (?1, ?2, ?3, ?4, ?5, ?6, ?7, ?8, ?9, ?10, ?11, ?12, ?13, ?14, ?15)"

abbrev pub insert_visit_terms : List Term
insert_visit_terms = col 0 0 ∷ lit Null ∷ col 0 1 ∷ col 0 2 ∷ col 0 3 ∷ col 0 4 ∷ col 0 5 ∷ col 0 6 ∷ col 0 7 ∷ col 0 8 ∷ col 0 9 ∷ col 0 10 ∷ col 0 11 ∷ col 0 12 ∷ col 0 13 ∷ col 0 14 ∷ []

pub insert_visit_is : command_of (understood office_schema insert_visit) ≡ Insert 2 (Values insert_visit_terms 16)
unfolding understood everything
insert_visit_is = refl

pub insert_visit_plain : IsPlain (understood office_schema insert_visit)
unfolding understood everything
insert_visit_plain = (refl, refl)

abbrev pub insert_place : List ℕ
insert_place = codes "INSERT INTO place (box, visit, slot) VALUES (?1, ?2, ?3)"

abbrev pub insert_place_terms : List Term
insert_place_terms = lit Null ∷ col 0 0 ∷ col 0 1 ∷ col 0 2 ∷ []

pub insert_place_is : command_of (understood office_schema insert_place) ≡ Insert 3 (Values insert_place_terms 4)
unfolding understood everything
insert_place_is = refl

pub insert_place_plain : IsPlain (understood office_schema insert_place)
unfolding understood everything
insert_place_plain = (refl, refl)

abbrev pub insert_listed : List ℕ
insert_listed = codes "INSERT INTO listed (vessel, voyage, side, box, port, done) VALUES (?1, ?2, ?3, ?4, ?5, ?6)"

abbrev pub insert_listed_terms : List Term
insert_listed_terms = lit Null ∷ col 0 0 ∷ col 0 1 ∷ col 0 2 ∷ col 0 3 ∷ col 0 4 ∷ col 0 5 ∷ []

pub insert_listed_is : command_of (understood office_schema insert_listed) ≡ Insert 4 (Values insert_listed_terms 7)
unfolding understood everything
insert_listed_is = refl

pub insert_listed_plain : IsPlain (understood office_schema insert_listed)
unfolding understood everything
insert_listed_plain = (refl, refl)

abbrev pub insert_setting : List ℕ
insert_setting = codes "INSERT INTO setting (name, value) VALUES (?1, ?2)"

abbrev pub insert_setting_terms : List Term
insert_setting_terms = lit Null ∷ col 0 0 ∷ col 0 1 ∷ []

pub insert_setting_is : command_of (understood office_schema insert_setting) ≡ Insert 5 (Values insert_setting_terms 3)
unfolding understood everything
insert_setting_is = refl

pub insert_setting_plain : IsPlain (understood office_schema insert_setting)
unfolding understood everything
insert_setting_plain = (refl, refl)

abbrev pub insert_block : List ℕ
insert_block = codes "INSERT INTO block (letter, bays, lanes, tiers) VALUES (?1, ?2, ?3, ?4)"

abbrev pub insert_block_terms : List Term
insert_block_terms = lit Null ∷ col 0 0 ∷ col 0 1 ∷ col 0 2 ∷ col 0 3 ∷ []

pub insert_block_is : command_of (understood office_schema insert_block) ≡ Insert 6 (Values insert_block_terms 5)
unfolding understood everything
insert_block_is = refl

pub insert_block_plain : IsPlain (understood office_schema insert_block)
unfolding understood everything
insert_block_plain = (refl, refl)

abbrev pub update_reply : List ℕ
update_reply = codes "UPDATE interchange SET reply = ?3 WHERE partner = ?1 AND number = ?2"

abbrev pub update_reply_tests : List Term
update_reply_tests = equals (col 1 1) (col 0 0) ∷ equals (col 1 2) (col 0 1) ∷ []

abbrev pub update_reply_shown : List Term
update_reply_shown = col 1 0 ∷ col 1 0 ∷ col 1 1 ∷ col 1 2 ∷ col 1 3 ∷ col 0 2 ∷ []

pub update_reply_is : command_of (understood office_schema update_reply) ≡ Update 1 (record { lets = []; body = rows_of 2 update_reply_tests update_reply_shown })
unfolding understood everything
update_reply_is = refl

pub update_reply_plain : IsPlain (understood office_schema update_reply)
unfolding understood everything
update_reply_plain = (refl, refl)

abbrev pub update_next : List ℕ
update_next = codes "UPDATE partner SET next = ?2 WHERE id = ?1"

abbrev pub update_next_tests : List Term
update_next_tests = equals (col 1 0) (col 0 0) ∷ []

abbrev pub update_next_shown : List Term
update_next_shown = col 1 0 ∷ col 1 0 ∷ lit Null ∷ col 1 2 ∷ col 1 3 ∷ col 0 1 ∷ []

pub update_next_is : command_of (understood office_schema update_next) ≡ Update 0 (record { lets = []; body = rows_of 0 update_next_tests update_next_shown })
unfolding understood everything
update_next_is = refl

pub update_next_plain : IsPlain (understood office_schema update_next)
unfolding understood everything
update_next_plain = (refl, refl)

abbrev pub update_exit : List ℕ
update_exit = codes "UPDATE visit SET out_by = ?2, out_partner = ?3, out_number = ?4, out_at = ?5 WHERE visit = ?1"

abbrev pub update_exit_tests : List Term
update_exit_tests = equals (col 1 0) (col 0 0) ∷ []

abbrev pub update_exit_shown : List Term
update_exit_shown = col 1 0 ∷ col 1 0 ∷ lit Null ∷ col 1 2 ∷ col 1 3 ∷ col 1 4 ∷ col 1 5 ∷ col 1 6 ∷ col 1 7 ∷ col 1 8 ∷ col 1 9 ∷ col 1 10 ∷ col 0 1 ∷ col 0 2 ∷ col 0 3 ∷ col 0 4 ∷ col 1 15 ∷ []

pub update_exit_is : command_of (understood office_schema update_exit) ≡ Update 2 (record { lets = []; body = rows_of 4 update_exit_tests update_exit_shown })
unfolding understood everything
update_exit_is = refl

pub update_exit_plain : IsPlain (understood office_schema update_exit)
unfolding understood everything
update_exit_plain = (refl, refl)

abbrev pub update_slot : List ℕ
update_slot = codes "UPDATE place SET slot = ?2 WHERE box = ?1"

abbrev pub update_slot_tests : List Term
update_slot_tests = equals (col 1 1) (col 0 0) ∷ []

abbrev pub update_slot_shown : List Term
update_slot_shown = col 1 0 ∷ col 1 0 ∷ col 1 1 ∷ col 1 2 ∷ col 0 1 ∷ []

pub update_slot_is : command_of (understood office_schema update_slot) ≡ Update 3 (record { lets = []; body = rows_of 5 update_slot_tests update_slot_shown })
unfolding understood everything
update_slot_is = refl

pub update_slot_plain : IsPlain (understood office_schema update_slot)
unfolding understood everything
update_slot_plain = (refl, refl)

abbrev pub update_done : List ℕ
update_done = codes "UPDATE listed SET done = 1 WHERE vessel = ?1 AND voyage = ?2 AND side = ?3 AND box = ?4"

abbrev pub update_done_tests : List Term
update_done_tests = equals (col 1 1) (col 0 0) ∷ equals (col 1 2) (col 0 1) ∷ equals (col 1 3) (col 0 2) ∷ equals (col 1 4) (col 0 3) ∷ []

abbrev pub update_done_shown : List Term
update_done_shown = col 1 0 ∷ col 1 0 ∷ col 1 1 ∷ col 1 2 ∷ col 1 3 ∷ col 1 4 ∷ col 1 5 ∷ lit (Int (pos 1)) ∷ []

pub update_done_is : command_of (understood office_schema update_done) ≡ Update 4 (record { lets = []; body = rows_of 9 update_done_tests update_done_shown })
unfolding understood everything
update_done_is = refl

pub update_done_plain : IsPlain (understood office_schema update_done)
unfolding understood everything
update_done_plain = (refl, refl)

abbrev pub delete_place : List ℕ
delete_place = codes "DELETE FROM place WHERE box = ?1"

abbrev pub delete_place_tests : List Term
delete_place_tests = equals (col 1 1) (col 0 0) ∷ []

abbrev pub delete_place_shown : List Term
delete_place_shown = col 1 0 ∷ []

pub delete_place_is : command_of (understood office_schema delete_place) ≡ Delete 3 (record { lets = []; body = rows_of 5 delete_place_tests delete_place_shown })
unfolding understood everything
delete_place_is = refl

pub delete_place_plain : IsPlain (understood office_schema delete_place)
unfolding understood everything
delete_place_plain = (refl, refl)

abbrev pub delete_line : List ℕ
delete_line = codes "DELETE FROM listed WHERE vessel = ?1 AND voyage = ?2 AND side = ?3 AND box = ?4"

abbrev pub delete_line_tests : List Term
delete_line_tests = update_done_tests

abbrev pub delete_line_shown : List Term
delete_line_shown = col 1 0 ∷ []

pub delete_line_is : command_of (understood office_schema delete_line) ≡ Delete 4 (record { lets = []; body = rows_of 9 delete_line_tests delete_line_shown })
unfolding understood everything
delete_line_is = refl

pub delete_line_plain : IsPlain (understood office_schema delete_line)
unfolding understood everything
delete_line_plain = (refl, refl)
