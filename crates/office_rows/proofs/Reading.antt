-- What the texts mean that read.
use Rattle.std.proofs.{Common.{◌≡◌, ℕ, List, [], ◌∷◌, codes, false, refl, None, Ok, ap, sym, subst, ◌∙◌}, lemmas.List.Sorted.IsPermutation-refl}
use Rattle.sqlite.specs.{Term.{Term, col}, Collation.TheVariants.Binary, Command.TheVariants.{Select, CreateTable}, Listing.{understood, reads_listing}}
use Rattle.sqlite.specs.{Order.Row, Table.Table, Effect.Database, Does.{Tally, lacks_sequence}, State.{State, Executes, Writes}}
use Rattle.sqlite.proofs.Callers.{IsPlain, command_of, runs_as}
use Rattle.sqlite_tied.specs.Compute.{everything}
use Rattle.sqlite_value.specs.{Keys.ascending, declared.keys.Key.Key}
use Rattle.office_rows.specs.Tables.{office_schema, partner_table, interchange_table, visit_table, place_table, listing_table, setting_table, block_table, schema_of, office_tables}
use Rattle.office_rows.{specs.{Rows.no_rows, Stored.{Holds, HasRows, HasEmpty}}, proofs.{WriteLemmas.{rows_of, listed_by, went, same_value}, Writing.equals}}
use Rattle.sqlite_catalog.specs.{Change.{created, next_tree, KeepsRows}, Listing.Lists}
use Rattle.sqlite_trees.specs.Objects.{catalog_tree}
use Rattle.office_rows.proofs.Creating as texts

abbrev pub select_partner : List ℕ
select_partner = codes "SELECT id, code, kind, next FROM partner ORDER BY id"

abbrev pub select_partner_shown : List Term
select_partner_shown = col 1 0 ∷ col 1 2 ∷ col 1 3 ∷ col 1 4 ∷ []

abbrev pub select_partner_order : List (Term × Key)
select_partner_order = (col 1 0, ascending Binary) ∷ []

abbrev pub select_partner_names : List (List ℕ)
select_partner_names = codes "id" ∷ codes "code" ∷ codes "kind" ∷ codes "next" ∷ []

pub select_partner_is : (command_of (understood office_schema select_partner) ≡ Select (record { lets = []; body = record (rows_of 0 [] select_partner_shown) { order = select_partner_order } }) select_partner_names) × (reads_listing office_schema select_partner ≡ false)
unfolding understood everything
select_partner_is = (refl, refl)

pub select_partner_plain : IsPlain (understood office_schema select_partner)
unfolding understood everything
select_partner_plain = (refl, refl)

abbrev pub select_interchange : List ℕ
select_interchange = codes "SELECT partner, number, reply FROM interchange ORDER BY partner, number"

abbrev pub select_interchange_shown : List Term
select_interchange_shown = col 1 1 ∷ col 1 2 ∷ col 1 4 ∷ []

abbrev pub select_interchange_order : List (Term × Key)
select_interchange_order = (col 1 1, ascending Binary) ∷ (col 1 2, ascending Binary) ∷ []

abbrev pub select_interchange_names : List (List ℕ)
select_interchange_names = codes "partner" ∷ codes "number" ∷ codes "reply" ∷ []

pub select_interchange_is : (command_of (understood office_schema select_interchange) ≡ Select (record { lets = []; body = record (rows_of 2 [] select_interchange_shown) { order = select_interchange_order } }) select_interchange_names) × (reads_listing office_schema select_interchange ≡ false)
unfolding understood everything
select_interchange_is = (refl, refl)

pub select_interchange_plain : IsPlain (understood office_schema select_interchange)
unfolding understood everything
select_interchange_plain = (refl, refl)

abbrev pub select_visit : List ℕ
select_visit = codes "SELECT visit, box, size, laden, booking, in_by, in_partner, in_number, in_at, in_slot, out_by, out_partner, out_number, out_at, kilos FROM visit ORDER BY visit"

abbrev pub select_visit_shown : List Term
select_visit_shown = col 1 0 ∷ col 1 2 ∷ col 1 3 ∷ col 1 4 ∷ col 1 5 ∷ col 1 6 ∷ col 1 7 ∷ col 1 8 ∷ col 1 9 ∷ col 1 10 ∷ col 1 11 ∷ col 1 12 ∷ col 1 13 ∷ col 1 14 ∷ col 1 15 ∷ []

abbrev pub select_visit_order : List (Term × Key)
select_visit_order = (col 1 0, ascending Binary) ∷ []

abbrev pub select_visit_names : List (List ℕ)
select_visit_names = codes "visit" ∷ codes "box" ∷ codes "size" ∷ codes "laden" ∷ codes "booking" ∷ codes "in_by" ∷ codes "in_partner" ∷ codes "in_number" ∷ codes "in_at" ∷ codes "in_slot" ∷ codes "out_by" ∷ codes "out_partner" ∷ codes "out_number" ∷ codes "out_at" ∷ codes "kilos" ∷ []

pub select_visit_is : (command_of (understood office_schema select_visit) ≡ Select (record { lets = []; body = record (rows_of 4 [] select_visit_shown) { order = select_visit_order } }) select_visit_names) × (reads_listing office_schema select_visit ≡ false)
unfolding understood everything
select_visit_is = (refl, refl)

pub select_visit_plain : IsPlain (understood office_schema select_visit)
unfolding understood everything
select_visit_plain = (refl, refl)

abbrev pub select_place : List ℕ
select_place = codes "SELECT box, visit, slot FROM place ORDER BY box"

abbrev pub select_place_shown : List Term
select_place_shown = col 1 1 ∷ col 1 2 ∷ col 1 3 ∷ []

abbrev pub select_place_order : List (Term × Key)
select_place_order = (col 1 1, ascending Binary) ∷ []

abbrev pub select_place_names : List (List ℕ)
select_place_names = codes "box" ∷ codes "visit" ∷ codes "slot" ∷ []

pub select_place_is : (command_of (understood office_schema select_place) ≡ Select (record { lets = []; body = record (rows_of 5 [] select_place_shown) { order = select_place_order } }) select_place_names) × (reads_listing office_schema select_place ≡ false)
unfolding understood everything
select_place_is = (refl, refl)

pub select_place_plain : IsPlain (understood office_schema select_place)
unfolding understood everything
select_place_plain = (refl, refl)

abbrev pub select_listed : List ℕ
select_listed = codes "SELECT vessel, voyage, side, box, port, done FROM listed ORDER BY vessel, voyage, side, box"

abbrev pub select_listed_shown : List Term
select_listed_shown = col 1 1 ∷ col 1 2 ∷ col 1 3 ∷ col 1 4 ∷ col 1 5 ∷ col 1 6 ∷ []

abbrev pub select_listed_order : List (Term × Key)
select_listed_order = (col 1 1, ascending Binary) ∷ (col 1 2, ascending Binary) ∷ (col 1 3, ascending Binary) ∷ (col 1 4, ascending Binary) ∷ []

abbrev pub select_listed_names : List (List ℕ)
select_listed_names = codes "vessel" ∷ codes "voyage" ∷ codes "side" ∷ codes "box" ∷ codes "port" ∷ codes "done" ∷ []

pub select_listed_is : (command_of (understood office_schema select_listed) ≡ Select (record { lets = []; body = record (rows_of 9 [] select_listed_shown) { order = select_listed_order } }) select_listed_names) × (reads_listing office_schema select_listed ≡ false)
unfolding understood everything
select_listed_is = (refl, refl)

pub select_listed_plain : IsPlain (understood office_schema select_listed)
unfolding understood everything
select_listed_plain = (refl, refl)

abbrev pub select_setting : List ℕ
select_setting = codes "SELECT name, value FROM setting ORDER BY name"

abbrev pub select_setting_shown : List Term
select_setting_shown = col 1 1 ∷ col 1 2 ∷ []

abbrev pub select_setting_order : List (Term × Key)
select_setting_order = (col 1 1, ascending Binary) ∷ []

abbrev pub select_setting_names : List (List ℕ)
select_setting_names = codes "name" ∷ codes "value" ∷ []

pub select_setting_is : (command_of (understood office_schema select_setting) ≡ Select (record { lets = []; body = record (rows_of 11 [] select_setting_shown) { order = select_setting_order } }) select_setting_names) × (reads_listing office_schema select_setting ≡ false)
unfolding understood everything
select_setting_is = (refl, refl)

pub select_setting_plain : IsPlain (understood office_schema select_setting)
unfolding understood everything
select_setting_plain = (refl, refl)

abbrev pub select_block : List ℕ
select_block = codes "SELECT letter, bays, lanes, tiers FROM block ORDER BY letter"

abbrev pub select_block_shown : List Term
select_block_shown = col 1 1 ∷ col 1 2 ∷ col 1 3 ∷ col 1 4 ∷ []

abbrev pub select_block_order : List (Term × Key)
select_block_order = (col 1 1, ascending Binary) ∷ []

abbrev pub select_block_names : List (List ℕ)
select_block_names = codes "letter" ∷ codes "bays" ∷ codes "lanes" ∷ codes "tiers" ∷ []

pub select_block_is : (command_of (understood office_schema select_block) ≡ Select (record { lets = []; body = record (rows_of 13 [] select_block_shown) { order = select_block_order } }) select_block_names) × (reads_listing office_schema select_block ≡ false)
unfolding understood everything
select_block_is = (refl, refl)

pub select_block_plain : IsPlain (understood office_schema select_block)
unfolding understood everything
select_block_plain = (refl, refl)

abbrev pub select_kept : List ℕ
select_kept = codes "SELECT body, reply FROM interchange WHERE partner = ?1 AND number = ?2"

abbrev pub select_kept_tests : List Term
select_kept_tests = equals (col 1 1) (col 0 0) ∷ equals (col 1 2) (col 0 1) ∷ []

abbrev pub select_kept_shown : List Term
select_kept_shown = col 1 3 ∷ col 1 4 ∷ []

abbrev pub select_kept_names : List (List ℕ)
select_kept_names = codes "body" ∷ codes "reply" ∷ []

pub select_kept_is : (command_of (understood office_schema select_kept) ≡ Select (record { lets = []; body = rows_of 2 select_kept_tests select_kept_shown }) select_kept_names) × (reads_listing office_schema select_kept ≡ false)
unfolding understood everything
select_kept_is = (refl, refl)

pub select_kept_plain : IsPlain (understood office_schema select_kept)
unfolding understood everything
select_kept_plain = (refl, refl)

abbrev pub select_next : List ℕ
select_next = codes "SELECT next FROM partner WHERE id = ?1"

abbrev pub select_next_tests : List Term
select_next_tests = equals (col 1 0) (col 0 0) ∷ []

abbrev pub select_next_shown : List Term
select_next_shown = col 1 4 ∷ []

abbrev pub select_next_names : List (List ℕ)
select_next_names = codes "next" ∷ []

pub select_next_is : (command_of (understood office_schema select_next) ≡ Select (record { lets = []; body = rows_of 0 select_next_tests select_next_shown }) select_next_names) × (reads_listing office_schema select_next ≡ false)
unfolding understood everything
select_next_is = (refl, refl)

pub select_next_plain : IsPlain (understood office_schema select_next)
unfolding understood everything
select_next_plain = (refl, refl)

-- ==== Created: What each statement that makes a table makes of an empty database.

pub nothing_held : {A : Type 0} {table : Table} {values : A → Row} (stored : List Row) → stored ≡ [] → Holds table values [] stored
nothing_held {A} {table} {values} stored none = rw none (record { shaped = (tt, tt); same = IsPermutation-refl [] })

-- the seven tables, each empty, have no rows
no_rows_held : (db : Database) → HasEmpty office_tables db → Lists (db.trees catalog_tree) office_schema → HasRows no_rows db
no_rows_held db has lists = record {
  schema = has.schema;
  lists = lists;
  rows_are = record {
    partners = nothing_held (db.trees 0) has.empty.0;
    interchanges = nothing_held (db.trees 2) has.empty.1.0;
    visits = nothing_held (db.trees 4) has.empty.1.1.0;
    places = nothing_held (db.trees 5) has.empty.1.1.1.0;
    lines = nothing_held (db.trees 9) has.empty.1.1.1.1.0;
    settings = nothing_held (db.trees 11) has.empty.1.1.1.1.1.0;
    blocks = nothing_held (db.trees 13) has.empty.1.1.1.1.1.1.0;
  };
}

module _ (old new : State) (count : ℕ) where
  pub created_partner : HasEmpty ([]) old.now → Executes texts.create_partner [] old new (Ok count) → HasEmpty (partner_table ∷ []) new.now
  created_partner has h =
      let w = subst (λ t. Writes old new None CreateTable t [] count) texts.create_partner_is.1 (runs_as texts.create_partner [] old new (schema_of ([])) has.schema CreateTable texts.create_partner_is.0 texts.create_partner_plain count h) in
      let all = went w.changed in
      let first = went all.1 in
      let made = first.1 in
      let both : Ok made.table ≡ Ok (record partner_table { tree = 0 }) = sym made.defined ∙ texts.partner_defined in
      let same : made.table ≡ record partner_table { tree = 0 } = cc in
      let schema : first.0.schema ≡ schema_of (partner_table ∷ []) = made.is ∙ ap (λ s. created s made.table) has.schema ∙ ap (created (schema_of ([]))) same in
      let plain : lacks_sequence first.0.schema ≡ false = ap lacks_sequence schema in
      let now : new.now ≡ first.0 = ap (λ (p : Tally × Database). p.1) (same_value all.2) ∙ same_value (rw plain at first.2) in
      let kept : KeepsRows (schema_of ([])).tables old.now.trees first.0.trees = subst (λ s. KeepsRows s.tables old.now.trees first.0.trees) has.schema made.others in
      let empty : first.0.trees 0 ≡ [] = subst (λ s. first.0.trees (next_tree s) ≡ []) has.schema made.empty in
      record {
        schema = ap (λ (d : Database). d.schema) now ∙ schema;
        empty = ((ap (λ (d : Database). d.trees 0) now ∙ empty, tt));
      }

  pub created_interchange : HasEmpty (partner_table ∷ []) old.now → Executes texts.create_interchange [] old new (Ok count) → HasEmpty (partner_table ∷ interchange_table ∷ []) new.now
  created_interchange has h =
      let w = subst (λ t. Writes old new None CreateTable t [] count) texts.create_interchange_is.1 (runs_as texts.create_interchange [] old new (schema_of (partner_table ∷ [])) has.schema CreateTable texts.create_interchange_is.0 texts.create_interchange_plain count h) in
      let all = went w.changed in
      let first = went all.1 in
      let made = first.1 in
      let both : Ok made.table ≡ Ok (record interchange_table { tree = 0 }) = sym made.defined ∙ texts.interchange_defined in
      let same : made.table ≡ record interchange_table { tree = 0 } = cc in
      let schema : first.0.schema ≡ schema_of (partner_table ∷ interchange_table ∷ []) = made.is ∙ ap (λ s. created s made.table) has.schema ∙ ap (created (schema_of (partner_table ∷ []))) same in
      let plain : lacks_sequence first.0.schema ≡ false = ap lacks_sequence schema in
      let now : new.now ≡ first.0 = ap (λ (p : Tally × Database). p.1) (same_value all.2) ∙ same_value (rw plain at first.2) in
      let kept : KeepsRows (schema_of (partner_table ∷ [])).tables old.now.trees first.0.trees = subst (λ s. KeepsRows s.tables old.now.trees first.0.trees) has.schema made.others in
      let empty : first.0.trees 2 ≡ [] = subst (λ s. first.0.trees (next_tree s) ≡ []) has.schema made.empty in
      record {
        schema = ap (λ (d : Database). d.schema) now ∙ schema;
        empty = ((ap (λ (d : Database). d.trees 0) now ∙ kept.0 ∙ has.empty.0, (ap (λ (d : Database). d.trees 2) now ∙ empty, tt)));
      }

  pub created_visit : HasEmpty (partner_table ∷ interchange_table ∷ []) old.now → Executes texts.create_visit [] old new (Ok count) → HasEmpty (partner_table ∷ interchange_table ∷ visit_table ∷ []) new.now
  created_visit has h =
      let w = subst (λ t. Writes old new None CreateTable t [] count) texts.create_visit_is.1 (runs_as texts.create_visit [] old new (schema_of (partner_table ∷ interchange_table ∷ [])) has.schema CreateTable texts.create_visit_is.0 texts.create_visit_plain count h) in
      let all = went w.changed in
      let first = went all.1 in
      let made = first.1 in
      let both : Ok made.table ≡ Ok (record visit_table { tree = 0 }) = sym made.defined ∙ texts.visit_defined in
      let same : made.table ≡ record visit_table { tree = 0 } = cc in
      let schema : first.0.schema ≡ schema_of (partner_table ∷ interchange_table ∷ visit_table ∷ []) = made.is ∙ ap (λ s. created s made.table) has.schema ∙ ap (created (schema_of (partner_table ∷ interchange_table ∷ []))) same in
      let plain : lacks_sequence first.0.schema ≡ false = ap lacks_sequence schema in
      let now : new.now ≡ first.0 = ap (λ (p : Tally × Database). p.1) (same_value all.2) ∙ same_value (rw plain at first.2) in
      let kept : KeepsRows (schema_of (partner_table ∷ interchange_table ∷ [])).tables old.now.trees first.0.trees = subst (λ s. KeepsRows s.tables old.now.trees first.0.trees) has.schema made.others in
      let empty : first.0.trees 4 ≡ [] = subst (λ s. first.0.trees (next_tree s) ≡ []) has.schema made.empty in
      record {
        schema = ap (λ (d : Database). d.schema) now ∙ schema;
        empty = ((ap (λ (d : Database). d.trees 0) now ∙ kept.0 ∙ has.empty.0, (ap (λ (d : Database). d.trees 2) now ∙ kept.1.0 ∙ has.empty.1.0, (ap (λ (d : Database). d.trees 4) now ∙ empty, tt))));
      }

  pub created_place : HasEmpty (partner_table ∷ interchange_table ∷ visit_table ∷ []) old.now → Executes texts.create_place [] old new (Ok count) → HasEmpty (partner_table ∷ interchange_table ∷ visit_table ∷ place_table ∷ []) new.now
  created_place has h =
      let w = subst (λ t. Writes old new None CreateTable t [] count) texts.create_place_is.1 (runs_as texts.create_place [] old new (schema_of (partner_table ∷ interchange_table ∷ visit_table ∷ [])) has.schema CreateTable texts.create_place_is.0 texts.create_place_plain count h) in
      let all = went w.changed in
      let first = went all.1 in
      let made = first.1 in
      let both : Ok made.table ≡ Ok (record place_table { tree = 0 }) = sym made.defined ∙ texts.place_defined in
      let same : made.table ≡ record place_table { tree = 0 } = cc in
      let schema : first.0.schema ≡ schema_of (partner_table ∷ interchange_table ∷ visit_table ∷ place_table ∷ []) = made.is ∙ ap (λ s. created s made.table) has.schema ∙ ap (created (schema_of (partner_table ∷ interchange_table ∷ visit_table ∷ []))) same in
      let plain : lacks_sequence first.0.schema ≡ false = ap lacks_sequence schema in
      let now : new.now ≡ first.0 = ap (λ (p : Tally × Database). p.1) (same_value all.2) ∙ same_value (rw plain at first.2) in
      let kept : KeepsRows (schema_of (partner_table ∷ interchange_table ∷ visit_table ∷ [])).tables old.now.trees first.0.trees = subst (λ s. KeepsRows s.tables old.now.trees first.0.trees) has.schema made.others in
      let empty : first.0.trees 5 ≡ [] = subst (λ s. first.0.trees (next_tree s) ≡ []) has.schema made.empty in
      record {
        schema = ap (λ (d : Database). d.schema) now ∙ schema;
        empty = ((ap (λ (d : Database). d.trees 0) now ∙ kept.0 ∙ has.empty.0, (ap (λ (d : Database). d.trees 2) now ∙ kept.1.0 ∙ has.empty.1.0, (ap (λ (d : Database). d.trees 4) now ∙ kept.1.1.0 ∙ has.empty.1.1.0, (ap (λ (d : Database). d.trees 5) now ∙ empty, tt)))));
      }

  pub created_listed : HasEmpty (partner_table ∷ interchange_table ∷ visit_table ∷ place_table ∷ []) old.now → Executes texts.create_listed [] old new (Ok count) → HasEmpty (partner_table ∷ interchange_table ∷ visit_table ∷ place_table ∷ listing_table ∷ []) new.now
  created_listed has h =
      let w = subst (λ t. Writes old new None CreateTable t [] count) texts.create_listed_is.1 (runs_as texts.create_listed [] old new (schema_of (partner_table ∷ interchange_table ∷ visit_table ∷ place_table ∷ [])) has.schema CreateTable texts.create_listed_is.0 texts.create_listed_plain count h) in
      let all = went w.changed in
      let first = went all.1 in
      let made = first.1 in
      let both : Ok made.table ≡ Ok (record listing_table { tree = 0 }) = sym made.defined ∙ texts.listed_defined in
      let same : made.table ≡ record listing_table { tree = 0 } = cc in
      let schema : first.0.schema ≡ schema_of (partner_table ∷ interchange_table ∷ visit_table ∷ place_table ∷ listing_table ∷ []) = made.is ∙ ap (λ s. created s made.table) has.schema ∙ ap (created (schema_of (partner_table ∷ interchange_table ∷ visit_table ∷ place_table ∷ []))) same in
      let plain : lacks_sequence first.0.schema ≡ false = ap lacks_sequence schema in
      let now : new.now ≡ first.0 = ap (λ (p : Tally × Database). p.1) (same_value all.2) ∙ same_value (rw plain at first.2) in
      let kept : KeepsRows (schema_of (partner_table ∷ interchange_table ∷ visit_table ∷ place_table ∷ [])).tables old.now.trees first.0.trees = subst (λ s. KeepsRows s.tables old.now.trees first.0.trees) has.schema made.others in
      let empty : first.0.trees 9 ≡ [] = subst (λ s. first.0.trees (next_tree s) ≡ []) has.schema made.empty in
      record {
        schema = ap (λ (d : Database). d.schema) now ∙ schema;
        empty = ((ap (λ (d : Database). d.trees 0) now ∙ kept.0 ∙ has.empty.0, (ap (λ (d : Database). d.trees 2) now ∙ kept.1.0 ∙ has.empty.1.0, (ap (λ (d : Database). d.trees 4) now ∙ kept.1.1.0 ∙ has.empty.1.1.0, (ap (λ (d : Database). d.trees 5) now ∙ kept.1.1.1.0 ∙ has.empty.1.1.1.0, (ap (λ (d : Database). d.trees 9) now ∙ empty, tt))))));
      }

  pub created_setting : HasEmpty (partner_table ∷ interchange_table ∷ visit_table ∷ place_table ∷ listing_table ∷ []) old.now → Executes texts.create_setting [] old new (Ok count) → HasEmpty (partner_table ∷ interchange_table ∷ visit_table ∷ place_table ∷ listing_table ∷ setting_table ∷ []) new.now
  created_setting has h =
      let w = subst (λ t. Writes old new None CreateTable t [] count) texts.create_setting_is.1 (runs_as texts.create_setting [] old new (schema_of (partner_table ∷ interchange_table ∷ visit_table ∷ place_table ∷ listing_table ∷ [])) has.schema CreateTable texts.create_setting_is.0 texts.create_setting_plain count h) in
      let all = went w.changed in
      let first = went all.1 in
      let made = first.1 in
      let both : Ok made.table ≡ Ok (record setting_table { tree = 0 }) = sym made.defined ∙ texts.setting_defined in
      let same : made.table ≡ record setting_table { tree = 0 } = cc in
      let schema : first.0.schema ≡ schema_of (partner_table ∷ interchange_table ∷ visit_table ∷ place_table ∷ listing_table ∷ setting_table ∷ []) = made.is ∙ ap (λ s. created s made.table) has.schema ∙ ap (created (schema_of (partner_table ∷ interchange_table ∷ visit_table ∷ place_table ∷ listing_table ∷ []))) same in
      let plain : lacks_sequence first.0.schema ≡ false = ap lacks_sequence schema in
      let now : new.now ≡ first.0 = ap (λ (p : Tally × Database). p.1) (same_value all.2) ∙ same_value (rw plain at first.2) in
      let kept : KeepsRows (schema_of (partner_table ∷ interchange_table ∷ visit_table ∷ place_table ∷ listing_table ∷ [])).tables old.now.trees first.0.trees = subst (λ s. KeepsRows s.tables old.now.trees first.0.trees) has.schema made.others in
      let empty : first.0.trees 11 ≡ [] = subst (λ s. first.0.trees (next_tree s) ≡ []) has.schema made.empty in
      record {
        schema = ap (λ (d : Database). d.schema) now ∙ schema;
        empty = ((ap (λ (d : Database). d.trees 0) now ∙ kept.0 ∙ has.empty.0, (ap (λ (d : Database). d.trees 2) now ∙ kept.1.0 ∙ has.empty.1.0, (ap (λ (d : Database). d.trees 4) now ∙ kept.1.1.0 ∙ has.empty.1.1.0, (ap (λ (d : Database). d.trees 5) now ∙ kept.1.1.1.0 ∙ has.empty.1.1.1.0, (ap (λ (d : Database). d.trees 9) now ∙ kept.1.1.1.1.0 ∙ has.empty.1.1.1.1.0, (ap (λ (d : Database). d.trees 11) now ∙ empty, tt)))))));
      }

  pub created_block : HasEmpty (partner_table ∷ interchange_table ∷ visit_table ∷ place_table ∷ listing_table ∷ setting_table ∷ []) old.now → Executes texts.create_block [] old new (Ok count) → HasRows no_rows new.now
  created_block has h =
      let w = subst (λ t. Writes old new None CreateTable t [] count) texts.create_block_is.1 (runs_as texts.create_block [] old new (schema_of (partner_table ∷ interchange_table ∷ visit_table ∷ place_table ∷ listing_table ∷ setting_table ∷ [])) has.schema CreateTable texts.create_block_is.0 texts.create_block_plain count h) in
      let all = went w.changed in
      let first = went all.1 in
      let made = first.1 in
      let both : Ok made.table ≡ Ok (record block_table { tree = 0 }) = sym made.defined ∙ texts.block_defined in
      let same : made.table ≡ record block_table { tree = 0 } = cc in
      let schema : first.0.schema ≡ schema_of (partner_table ∷ interchange_table ∷ visit_table ∷ place_table ∷ listing_table ∷ setting_table ∷ block_table ∷ []) = made.is ∙ ap (λ s. created s made.table) has.schema ∙ ap (created (schema_of (partner_table ∷ interchange_table ∷ visit_table ∷ place_table ∷ listing_table ∷ setting_table ∷ []))) same in
      let plain : lacks_sequence first.0.schema ≡ false = ap lacks_sequence schema in
      let now : new.now ≡ first.0 = ap (λ (p : Tally × Database). p.1) (same_value all.2) ∙ same_value (rw plain at first.2) in
      let kept : KeepsRows (schema_of (partner_table ∷ interchange_table ∷ visit_table ∷ place_table ∷ listing_table ∷ setting_table ∷ [])).tables old.now.trees first.0.trees = subst (λ s. KeepsRows s.tables old.now.trees first.0.trees) has.schema made.others in
      let empty : first.0.trees 13 ≡ [] = subst (λ s. first.0.trees (next_tree s) ≡ []) has.schema made.empty in
      let is : new.now.schema ≡ office_schema = ap (λ (d : Database). d.schema) now ∙ schema in
      no_rows_held new.now (record { schema = is; empty = ((ap (λ (d : Database). d.trees 0) now ∙ kept.0 ∙ has.empty.0, (ap (λ (d : Database). d.trees 2) now ∙ kept.1.0 ∙ has.empty.1.0, (ap (λ (d : Database). d.trees 4) now ∙ kept.1.1.0 ∙ has.empty.1.1.0, (ap (λ (d : Database). d.trees 5) now ∙ kept.1.1.1.0 ∙ has.empty.1.1.1.0, (ap (λ (d : Database). d.trees 9) now ∙ kept.1.1.1.1.0 ∙ has.empty.1.1.1.1.0, (ap (λ (d : Database). d.trees 11) now ∙ kept.1.1.1.1.1.0 ∙ has.empty.1.1.1.1.1.0, (ap (λ (d : Database). d.trees 13) now ∙ empty, tt)))))))) }) (listed_by new.now is w.sound)
