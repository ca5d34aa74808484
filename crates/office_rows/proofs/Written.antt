-- What each statement that writes makes of the rows.
use Rattle.std.proofs.Common.{◌≡◌, ℕ, List, [], ◌∷◌, ◌++◌, Bool, true, false, ◌&&◌, ◌==◌, not, cond, Ok, Some, map, filter, drop, refl, ap₂, ◌∙◌}
use Rattle.box6346.specs.{declared.box_number.BoxNumber.BoxNumber, declared.slot.Slot.Slot, SlotName.slot_text}
use Rattle.edi_syntax.specs.Moments.{moment_digits}
use Rattle.edi_messages.specs.Purposes.{CallContent}
use Rattle.yard_core.specs.declared.plan.Block.{Block}
use Rattle.terminal_core.specs.{declared.visits.Departure.Departure, declared.lines.LineState.TheVariants.Done, declared.lines.Side.Side, State.side_code}
use Rattle.terminal_core.specs.Rows.{VisitContent, visit_closed, moved_to, removed_from, line_done, unlisted}
use Rattle.sqlite.specs.{declared.types.Value.TheVariants.{Null, Text, Blob}, Order.{Row, column}, Collation.TheVariants.Binary, Ops.{binary, is_true}}
use Rattle.sqlite.specs.{Listing.understood, Source.TheVariants.Values, Command.TheVariants.{Insert, Update, Delete}, State.{State, Executes}}
use Rattle.sqlite.proofs.Callers.{statement_of, runs_as}
use Rattle.sqlite_sql.specs.{declared.ops.BinaryOp.TheVariants.Compare, declared.ops.CompareOp.TheVariants.Eq}
use Rattle.sqlite_rules.specs.{Cast.cast, Calls.ids_of, declared.error.Rowids.TheVariants.{Chosen, Given}}
use Rattle.office_rows.specs.Tables.{partner_table, interchange_table, visit_table, place_table, listing_table, setting_table, block_table, office_schema}
use Rattle.office_rows.specs.{Rows.{Partner, Interchange, PlaceContent, ListingContent, Setting, Rows}, Stored.HasRows}
use Rattle.office_rows.specs.Values.{number_value, way_code, partner_values, interchange_values, visit_values, place_values, line_values, setting_values, block_values}
use Rattle.office_rows.specs.Effects.{is_pair, stands_for, is_line, with_waiting, with_reply, with_next, with_change}
use Rattle.office_rows.proofs.WriteLemmas.{cast_null, cast_int, equal_numbers, equal_texts, inserts, updates, deletes, rows_of, holds_inserted, holds_updated, holds_deleted}
use Rattle.office_rows.proofs.Writing.{only_partners, only_interchanges, only_visits, only_places, only_lines, only_settings, only_blocks}
use Rattle.sqlite.specs.Kind.TheVariants as kind
use Rattle.office_rows.proofs.Writing as texts

and_true : (b : Bool) → (b && true) ≡ b
and_true true = refl
and_true false = refl

-- a column that is this number, or this text
abbrev equals : Row → ℕ → ℕ → Bool
equals c at n = is_true (binary (Compare Eq Binary) (column c at) (number_value n))

abbrev reads : Row → ℕ → List ℕ → Bool
reads c at t = is_true (binary (Compare Eq Binary) (column c at) (Text t))

module _ (old new : State) (rows : Rows) (count : ℕ) (has : HasRows rows old.now) where
  pub inserted_partner : (a : Partner) → Executes texts.insert_partner (partner_values a) old new (Ok count) → HasRows (record rows { partners = rows.partners ++ a ∷ [] }) new.now
  inserted_partner a h =
      let params = partner_values a in
      let source = column (partner_values a) 0 ∷ Null ∷ drop 1 (partner_values a) in
      let text = statement_of texts.insert_partner (understood office_schema texts.insert_partner) in
      let w = runs_as texts.insert_partner params old new office_schema has.schema (Insert 0 (Values texts.insert_partner_terms 5)) texts.insert_partner_is texts.insert_partner_plain count h in
      let it = inserts old new has.schema 0 partner_table refl refl params text count texts.insert_partner_terms 5 w in
      only_partners rows old.now new.now has [] Chosen 0 (source ∷ []) (rows.partners ++ a ∷ []) it.edits
      (holds_inserted partner_table partner_values rows.partners old.now new.now has.rows_are.partners source a (simp (cast_null, cast_int)) it)

  pub inserted_interchange : (partner_id number_of : ℕ) (body : List ℕ) → Executes texts.insert_interchange (number_value partner_id ∷ number_value number_of ∷ Blob body ∷ []) old new (Ok count) → HasRows (with_waiting partner_id number_of body rows) new.now
  inserted_interchange partner_id number_of body h =
      let a : Interchange = record { partner = partner_id; number = number_of; body = body; reply = [] } in
      let params = number_value partner_id ∷ number_value number_of ∷ Blob body ∷ [] in
      let source = Null ∷ interchange_values a in
      let text = statement_of texts.insert_interchange (understood office_schema texts.insert_interchange) in
      let w = runs_as texts.insert_interchange params old new office_schema has.schema (Insert 1 (Values texts.insert_interchange_terms 5)) texts.insert_interchange_is texts.insert_interchange_plain count h in
      let it = inserts old new has.schema 1 interchange_table refl refl params text count texts.insert_interchange_terms 5 w in
      only_interchanges rows old.now new.now has [] Chosen 0 (source ∷ []) (rows.interchanges ++ a ∷ []) it.edits
      (holds_inserted interchange_table interchange_values rows.interchanges old.now new.now has.rows_are.interchanges source a (simp (cast_null, cast_int)) it)

  pub inserted_whole : (a : Interchange) → Executes texts.insert_whole (interchange_values a) old new (Ok count) → HasRows (record rows { interchanges = rows.interchanges ++ a ∷ [] }) new.now
  inserted_whole a h =
      let params = interchange_values a in
      let source = Null ∷ interchange_values a in
      let text = statement_of texts.insert_whole (understood office_schema texts.insert_whole) in
      let w = runs_as texts.insert_whole params old new office_schema has.schema (Insert 1 (Values texts.insert_whole_terms 5)) texts.insert_whole_is texts.insert_whole_plain count h in
      let it = inserts old new has.schema 1 interchange_table refl refl params text count texts.insert_whole_terms 5 w in
      only_interchanges rows old.now new.now has [] Chosen 0 (source ∷ []) (rows.interchanges ++ a ∷ []) it.edits
      (holds_inserted interchange_table interchange_values rows.interchanges old.now new.now has.rows_are.interchanges source a (simp (cast_null, cast_int)) it)

  pub inserted_visit : (a : VisitContent) → Executes texts.insert_visit (visit_values a) old new (Ok count) → HasRows (record rows { visits = rows.visits ++ a ∷ [] }) new.now
  inserted_visit a h =
      let params = visit_values a in
      let source = column (visit_values a) 0 ∷ Null ∷ drop 1 (visit_values a) in
      let text = statement_of texts.insert_visit (understood office_schema texts.insert_visit) in
      let w = runs_as texts.insert_visit params old new office_schema has.schema (Insert 2 (Values texts.insert_visit_terms 16)) texts.insert_visit_is texts.insert_visit_plain count h in
      let it = inserts old new has.schema 2 visit_table refl refl params text count texts.insert_visit_terms 16 w in
      only_visits rows old.now new.now has [] Chosen 0 (source ∷ []) (rows.visits ++ a ∷ []) it.edits
      (holds_inserted visit_table visit_values rows.visits old.now new.now has.rows_are.visits source a (simp (cast_null, cast_int)) it)

  pub inserted_place : (a : PlaceContent) → Executes texts.insert_place (place_values a) old new (Ok count) → HasRows (record rows { places = rows.places ++ a ∷ [] }) new.now
  inserted_place a h =
      let params = place_values a in
      let source = Null ∷ place_values a in
      let text = statement_of texts.insert_place (understood office_schema texts.insert_place) in
      let w = runs_as texts.insert_place params old new office_schema has.schema (Insert 3 (Values texts.insert_place_terms 4)) texts.insert_place_is texts.insert_place_plain count h in
      let it = inserts old new has.schema 3 place_table refl refl params text count texts.insert_place_terms 4 w in
      only_places rows old.now new.now has [] Chosen 0 (source ∷ []) (rows.places ++ a ∷ []) it.edits
      (holds_inserted place_table place_values rows.places old.now new.now has.rows_are.places source a (simp (cast_null, cast_int)) it)

  pub inserted_listed : (a : ListingContent) → Executes texts.insert_listed (line_values a) old new (Ok count) → HasRows (record rows { lines = rows.lines ++ a ∷ [] }) new.now
  inserted_listed a h =
      let params = line_values a in
      let source = Null ∷ line_values a in
      let text = statement_of texts.insert_listed (understood office_schema texts.insert_listed) in
      let w = runs_as texts.insert_listed params old new office_schema has.schema (Insert 4 (Values texts.insert_listed_terms 7)) texts.insert_listed_is texts.insert_listed_plain count h in
      let it = inserts old new has.schema 4 listing_table refl refl params text count texts.insert_listed_terms 7 w in
      only_lines rows old.now new.now has [] Chosen 0 (source ∷ []) (rows.lines ++ a ∷ []) it.edits
      (holds_inserted listing_table line_values rows.lines old.now new.now has.rows_are.lines source a (simp (cast_null, cast_int)) it)

  pub inserted_setting : (a : Setting) → Executes texts.insert_setting (setting_values a) old new (Ok count) → HasRows (record rows { settings = rows.settings ++ a ∷ [] }) new.now
  inserted_setting a h =
      let params = setting_values a in
      let source = Null ∷ setting_values a in
      let text = statement_of texts.insert_setting (understood office_schema texts.insert_setting) in
      let w = runs_as texts.insert_setting params old new office_schema has.schema (Insert 5 (Values texts.insert_setting_terms 3)) texts.insert_setting_is texts.insert_setting_plain count h in
      let it = inserts old new has.schema 5 setting_table refl refl params text count texts.insert_setting_terms 3 w in
      only_settings rows old.now new.now has [] Chosen 0 (source ∷ []) (rows.settings ++ a ∷ []) it.edits
      (holds_inserted setting_table setting_values rows.settings old.now new.now has.rows_are.settings source a (simp cast_null) it)

  pub inserted_block : (a : Block) → Executes texts.insert_block (block_values a) old new (Ok count) → HasRows (record rows { blocks = rows.blocks ++ a ∷ [] }) new.now
  inserted_block a h =
      let params = block_values a in
      let source = Null ∷ block_values a in
      let text = statement_of texts.insert_block (understood office_schema texts.insert_block) in
      let w = runs_as texts.insert_block params old new office_schema has.schema (Insert 6 (Values texts.insert_block_terms 5)) texts.insert_block_is texts.insert_block_plain count h in
      let it = inserts old new has.schema 6 block_table refl refl params text count texts.insert_block_terms 5 w in
      only_blocks rows old.now new.now has [] Chosen 0 (source ∷ []) (rows.blocks ++ a ∷ []) it.edits
      (holds_inserted block_table block_values rows.blocks old.now new.now has.rows_are.blocks source a (simp (cast_null, cast_int)) it)

  pub update_replyd : (partner_id : ℕ) (number_of : ℕ) (reply : List ℕ) → Executes texts.update_reply (number_value partner_id ∷ number_value number_of ∷ Text reply ∷ []) old new (Ok count) → HasRows (with_reply partner_id number_of reply rows) new.now
  update_replyd partner_id number_of reply h =
      let params = number_value partner_id ∷ number_value number_of ∷ Text reply ∷ [] in
      let text = statement_of texts.update_reply (understood office_schema texts.update_reply) in
      let w = runs_as texts.update_reply params old new office_schema has.schema (Update 1 (record { lets = []; body = rows_of 2 texts.update_reply_tests texts.update_reply_shown })) texts.update_reply_is texts.update_reply_plain count h in
      let it = updates old new has.schema 1 interchange_table refl refl params text count texts.update_reply_tests texts.update_reply_shown (λ trees. refl) w in
      let chosen : Interchange → Bool = is_pair partner_id number_of in
      let changed : Interchange → Interchange = λ i. record i { reply = reply } in
      only_interchanges rows old.now new.now has (ids_of it.answer) Given 1 it.answer (map (λ a. cond (chosen a) (changed a) a) rows.interchanges) it.edits
      (holds_updated interchange_table interchange_values rows.interchanges old.now new.now has.rows_are.interchanges params texts.update_reply_tests texts.update_reply_shown
      (λ c. equals c 0 partner_id && (equals c 1 number_of && true)) (λ c. cast kind.Integer (column c 0) ∷ cast kind.Integer (column c 1) ∷ column c 2 ∷ Text reply ∷ []) chosen changed
      (λ r. refl) (λ r. refl) (λ r. refl) (λ a. ap₂ ◌&&◌ (equal_numbers a.partner partner_id) (and_true _ ∙ equal_numbers a.number number_of)) (λ a. simp cast_int) it)

  pub update_nextd : (id : ℕ) (next : ℕ) → Executes texts.update_next (number_value id ∷ number_value next ∷ []) old new (Ok count) → HasRows (with_next id next rows) new.now
  update_nextd id next h =
      let params = number_value id ∷ number_value next ∷ [] in
      let text = statement_of texts.update_next (understood office_schema texts.update_next) in
      let w = runs_as texts.update_next params old new office_schema has.schema (Update 0 (record { lets = []; body = rows_of 0 texts.update_next_tests texts.update_next_shown })) texts.update_next_is texts.update_next_plain count h in
      let it = updates old new has.schema 0 partner_table refl refl params text count texts.update_next_tests texts.update_next_shown (λ trees. refl) w in
      let chosen : Partner → Bool = λ p. p.id == id in
      let changed : Partner → Partner = λ p. record p { next = next } in
      only_partners rows old.now new.now has (ids_of it.answer) Given 1 it.answer (map (λ a. cond (chosen a) (changed a) a) rows.partners) it.edits
      (holds_updated partner_table partner_values rows.partners old.now new.now has.rows_are.partners params texts.update_next_tests texts.update_next_shown
      (λ c. equals c 0 id && true) (λ c. cast kind.Integer (column c 0) ∷ cast kind.Text (column c 1) ∷ cast kind.Integer (column c 2) ∷ cast kind.Integer (number_value next) ∷ []) chosen changed
      (λ r. refl) (λ r. refl) (λ r. refl) (λ a. and_true _ ∙ equal_numbers a.id id) (λ a. simp cast_int) it)

  pub update_exitd : (number_of : ℕ) (departure : Departure) → Executes texts.update_exit (number_value number_of ∷ number_value (way_code departure.way) ∷ number_value departure.source.partner ∷ number_value departure.source.number ∷ Text (moment_digits departure.moment) ∷ []) old new (Ok count) → HasRows (with_change (visit_closed number_of departure) rows) new.now
  update_exitd number_of departure h =
      let params = number_value number_of ∷ number_value (way_code departure.way) ∷ number_value departure.source.partner ∷ number_value departure.source.number ∷ Text (moment_digits departure.moment) ∷ [] in
      let text = statement_of texts.update_exit (understood office_schema texts.update_exit) in
      let w = runs_as texts.update_exit params old new office_schema has.schema (Update 2 (record { lets = []; body = rows_of 4 texts.update_exit_tests texts.update_exit_shown })) texts.update_exit_is texts.update_exit_plain count h in
      let it = updates old new has.schema 2 visit_table refl refl params text count texts.update_exit_tests texts.update_exit_shown (λ trees. refl) w in
      let chosen : VisitContent → Bool = λ v. v.number == number_of in
      let changed : VisitContent → VisitContent = λ v. record v { departure = Some departure } in
      only_visits rows old.now new.now has (ids_of it.answer) Given 1 it.answer (map (λ a. cond (chosen a) (changed a) a) rows.visits) it.edits
      (holds_updated visit_table visit_values rows.visits old.now new.now has.rows_are.visits params texts.update_exit_tests texts.update_exit_shown
      (λ c. equals c 0 number_of && true) (λ c. cast kind.Integer (column c 0) ∷ cast kind.Text (column c 1) ∷ cast kind.Text (column c 2) ∷ cast kind.Integer (column c 3) ∷ cast kind.Text (column c 4) ∷ cast kind.Integer (column c 5) ∷ cast kind.Integer (column c 6) ∷ cast kind.Integer (column c 7) ∷ cast kind.Text (column c 8) ∷ cast kind.Text (column c 9) ∷ cast kind.Integer (number_value (way_code departure.way)) ∷ cast kind.Integer (number_value departure.source.partner) ∷ cast kind.Integer (number_value departure.source.number) ∷ Text (moment_digits departure.moment) ∷ cast kind.Integer (column c 14) ∷ []) chosen changed
      (λ r. refl) (λ r. refl) (λ r. refl) (λ a. and_true _ ∙ equal_numbers a.number number_of) (λ a. simp cast_int) it)

  pub update_slotd : (container : BoxNumber) (slot : Slot) → Executes texts.update_slot (Text container ∷ Text (slot_text slot) ∷ []) old new (Ok count) → HasRows (with_change (moved_to container slot) rows) new.now
  update_slotd container slot h =
      let params = Text container ∷ Text (slot_text slot) ∷ [] in
      let text = statement_of texts.update_slot (understood office_schema texts.update_slot) in
      let w = runs_as texts.update_slot params old new office_schema has.schema (Update 3 (record { lets = []; body = rows_of 5 texts.update_slot_tests texts.update_slot_shown })) texts.update_slot_is texts.update_slot_plain count h in
      let it = updates old new has.schema 3 place_table refl refl params text count texts.update_slot_tests texts.update_slot_shown (λ trees. refl) w in
      let chosen : PlaceContent → Bool = stands_for container in
      let changed : PlaceContent → PlaceContent = λ p. record p { slot = slot } in
      only_places rows old.now new.now has (ids_of it.answer) Given 1 it.answer (map (λ a. cond (chosen a) (changed a) a) rows.places) it.edits
      (holds_updated place_table place_values rows.places old.now new.now has.rows_are.places params texts.update_slot_tests texts.update_slot_shown
      (λ c. reads c 0 container && true) (λ c. cast kind.Text (column c 0) ∷ cast kind.Integer (column c 1) ∷ Text (slot_text slot) ∷ []) chosen changed
      (λ r. refl) (λ r. refl) (λ r. refl) (λ a. and_true _ ∙ equal_texts a.container container) (λ a. simp cast_int) it)

  pub update_doned : (call : CallContent) (side : Side) (container : BoxNumber) → Executes texts.update_done (Text call.vessel ∷ Text call.voyage ∷ number_value (side_code side) ∷ Text container ∷ []) old new (Ok count) → HasRows (with_change (line_done call side container) rows) new.now
  update_doned call side container h =
      let params = Text call.vessel ∷ Text call.voyage ∷ number_value (side_code side) ∷ Text container ∷ [] in
      let text = statement_of texts.update_done (understood office_schema texts.update_done) in
      let w = runs_as texts.update_done params old new office_schema has.schema (Update 4 (record { lets = []; body = rows_of 9 texts.update_done_tests texts.update_done_shown })) texts.update_done_is texts.update_done_plain count h in
      let it = updates old new has.schema 4 listing_table refl refl params text count texts.update_done_tests texts.update_done_shown (λ trees. refl) w in
      let chosen : ListingContent → Bool = is_line call side container in
      let changed : ListingContent → ListingContent = λ l. record l { state = Done } in
      only_lines rows old.now new.now has (ids_of it.answer) Given 1 it.answer (map (λ a. cond (chosen a) (changed a) a) rows.lines) it.edits
      (holds_updated listing_table line_values rows.lines old.now new.now has.rows_are.lines params texts.update_done_tests texts.update_done_shown
      (λ c. reads c 0 call.vessel && (reads c 1 call.voyage && (equals c 2 (side_code side) && (reads c 3 container && true)))) (λ c. cast kind.Text (column c 0) ∷ cast kind.Text (column c 1) ∷ cast kind.Integer (column c 2) ∷ cast kind.Text (column c 3) ∷ cast kind.Text (column c 4) ∷ cast kind.Integer (number_value 1) ∷ []) chosen changed
      (λ r. refl) (λ r. refl) (λ r. refl) (λ a. ap₂ ◌&&◌ (equal_texts a.call.vessel call.vessel) (ap₂ ◌&&◌ (equal_texts a.call.voyage call.voyage) (ap₂ ◌&&◌ (equal_numbers (side_code a.side) (side_code side)) (and_true _ ∙ equal_texts a.container container)))) (λ a. simp cast_int) it)

  pub delete_placed : (container : BoxNumber) → Executes texts.delete_place (Text container ∷ []) old new (Ok count) → HasRows (with_change (removed_from container) rows) new.now
  delete_placed container h =
      let params = Text container ∷ [] in
      let text = statement_of texts.delete_place (understood office_schema texts.delete_place) in
      let w = runs_as texts.delete_place params old new office_schema has.schema (Delete 3 (record { lets = []; body = rows_of 5 texts.delete_place_tests texts.delete_place_shown })) texts.delete_place_is texts.delete_place_plain count h in
      let it = deletes old new has.schema 3 place_table refl refl params text count texts.delete_place_tests texts.delete_place_shown (λ trees. refl) w in
      only_places rows old.now new.now has (ids_of it.answer) Given 0 [] (filter (λ p. not (stands_for container p)) rows.places) it.edits
      (holds_deleted place_table place_values rows.places old.now new.now has.rows_are.places params texts.delete_place_tests texts.delete_place_shown
      (λ c. reads c 0 container && true) (stands_for container)
      (λ r. refl) (λ r. refl) (λ a. and_true _ ∙ equal_texts a.container container) it)

  pub delete_lined : (call : CallContent) (side : Side) (container : BoxNumber) → Executes texts.delete_line (Text call.vessel ∷ Text call.voyage ∷ number_value (side_code side) ∷ Text container ∷ []) old new (Ok count) → HasRows (with_change (unlisted call side container) rows) new.now
  delete_lined call side container h =
      let params = Text call.vessel ∷ Text call.voyage ∷ number_value (side_code side) ∷ Text container ∷ [] in
      let text = statement_of texts.delete_line (understood office_schema texts.delete_line) in
      let w = runs_as texts.delete_line params old new office_schema has.schema (Delete 4 (record { lets = []; body = rows_of 9 texts.delete_line_tests texts.delete_line_shown })) texts.delete_line_is texts.delete_line_plain count h in
      let it = deletes old new has.schema 4 listing_table refl refl params text count texts.delete_line_tests texts.delete_line_shown (λ trees. refl) w in
      only_lines rows old.now new.now has (ids_of it.answer) Given 0 [] (filter (λ l. not (is_line call side container l)) rows.lines) it.edits
      (holds_deleted listing_table line_values rows.lines old.now new.now has.rows_are.lines params texts.delete_line_tests texts.delete_line_shown
      (λ c. reads c 0 call.vessel && (reads c 1 call.voyage && (equals c 2 (side_code side) && (reads c 3 container && true)))) (is_line call side container)
      (λ r. refl) (λ r. refl) (λ a. ap₂ ◌&&◌ (equal_texts a.call.vessel call.vessel) (ap₂ ◌&&◌ (equal_texts a.call.voyage call.voyage) (ap₂ ◌&&◌ (equal_numbers (side_code a.side) (side_code side)) (and_true _ ∙ equal_texts a.container container)))) it)
