-- What each statement that makes a table makes of an empty database.
use Rattle.std.{specs.List.list_all, proofs.{lemmas.Bool.{cases_Bool, and_parts}, lemmas.Bool.Decides.nat_tests, lemmas.List.Recursion.{and_at, max_push}}}
use Rattle.std.proofs.Common.{◌≡◌, ℕ, List, [], ◌∷◌, None, Ok, false, ap, sym, subst, ◌∙◌, zero, suc, ◌+◌, ◌<◌, ◌==◌, ◌&&◌, ◌++◌, inl, inr, true, length, take, drop, set, get_or, max, nat_le, nat_lt, if◌then◌else◌, refl, ap₂, add-one, arith, Some, fold}
use Rattle.std.proofs.{lemmas.List.{take_more, get_or-set_same, get_or-set_other}, Math.Seq.drop-cons, lemmas.Slice.Eq.bytes_eq-Decides}
use Rattle.sqlite.specs.{Effect.{Database, IsDatabase}, Schema.Schema, Table.Table, Does.{Tally, lacks_sequence}, Command.TheVariants.{CreateTable, Nothing}}
use Rattle.sqlite.specs.{State.{State, Executes, Writes}, Compile.table_defined_by, Listing.understood}
use Rattle.sqlite.proofs.Callers.{IsPlain, command_of, statement_of, runs_as}
use Rattle.sqlite_catalog.specs.{Change.{created, next_tree, KeepsRows}, Listing.Lists}
use Rattle.sqlite_trees.specs.Objects.{catalog_tree}
use Rattle.office_rows.{specs.{Stored.{Holds, HasEmpty}, Tables.schema_of}, proofs.{WriteLemmas.{went, same_value}, Reading.nothing_held}}
use Rattle.office_closing.specs.{Changes.empty_register, Register.{RegisterContent, is_of, last_closed}, declared.register.Segment.Segment}
use Rattle.office_closing.specs.Stored.{HasRegister, HasRegisterIn, HasListed, HasTaken, HasWhole, archive_values, segment_values, file_values, list_values, sealed_values, if_any}
use Rattle.office_closing.specs.Tables.{archive_table, segment_table, closed_for_table, settled_table, taken_table, sealed_table, Layout, older, former, unsealed, whole, register_tables, older_schema, former_schema, unsealed_schema, register_schema}
use Rattle.office_closing.specs.{Sound.{is_within, close_more}, Lists.{SettledListContent, is_of_list, lines_of_list}}
use Rattle.office_admission.specs.Limits.{most_partners}
use Rattle.edi_messages.specs.Purposes.{CallContent}
use Rattle.terminal_core.specs.{State.side_code, declared.lines.Side.Side, declared.lines.Side.TheVariants.{Load, Discharge}}
use Rattle.office_closing.proofs.WriteTexts as texts

-- a sound database lists its tables
pub listed_by : {schema : Schema} (db : Database) → db.schema ≡ schema → IsDatabase db → Lists (db.trees catalog_tree) schema
listed_by db is sound = subst (Lists (db.trees catalog_tree)) is sound.lists

-- the six tables, each empty, are the register of a store of which nothing was put away
nothing_registered : (db : Database) → HasEmpty register_tables db → Lists (db.trees catalog_tree) register_schema → HasWhole empty_register db
nothing_registered db has listed = record {
  schema = has.schema;
  listed = listed;
  archives = nothing_held (db.trees 0) has.empty.0;
  segments = nothing_held (db.trees 2) has.empty.1.0;
  closed_for = nothing_held (db.trees 4) has.empty.1.1.0;
  lists = nothing_held (db.trees 6) has.empty.1.1.1.0;
  taken = nothing_held (db.trees 8) has.empty.1.1.1.1.0;
  sealed = nothing_held (db.trees 10) has.empty.1.1.1.1.1.0;
}

-- one more table is there, empty, and the others are as they were
pub record Adds (from to : Schema) (old new : Database) : Type 0 where
  pub schema : new.schema ≡ to
  pub listed : Lists (new.trees catalog_tree) to
  pub kept : KeepsRows from.tables old.trees new.trees
  pub empty : new.trees (next_tree from) ≡ []

module _ (old new : State) (count : ℕ) where
  pub created_archive : HasEmpty [] old.now → Executes texts.create_archive [] old new (Ok count) → HasEmpty (archive_table ∷ []) new.now
  created_archive has h =
      let w = subst (λ t. Writes old new None CreateTable t [] count) texts.create_archive_is.1 (runs_as texts.create_archive [] old new (schema_of []) has.schema CreateTable texts.create_archive_is.0 texts.create_archive_plain count h) in
      let all = went w.changed in
      let first = went all.1 in
      let made = first.1 in
      let both : Ok made.table ≡ Ok (record archive_table { tree = 0 }) = sym made.defined ∙ texts.archive_defined in
      let same : made.table ≡ record archive_table { tree = 0 } = cc in
      let schema : first.0.schema ≡ schema_of (archive_table ∷ []) = made.is ∙ ap (λ s. created s made.table) has.schema ∙ ap (created (schema_of [])) same in
      let plain : lacks_sequence first.0.schema ≡ false = ap lacks_sequence schema in
      let now : new.now ≡ first.0 = ap (λ (p : Tally × Database). p.1) (same_value all.2) ∙ same_value (rw plain at first.2) in
      let empty : first.0.trees 0 ≡ [] = subst (λ s. first.0.trees (next_tree s) ≡ []) has.schema made.empty in
      record {
        schema = ap (λ (d : Database). d.schema) now ∙ schema;
        empty = (ap (λ (d : Database). d.trees 0) now ∙ empty, tt);
      }

  pub created_segment : HasEmpty (archive_table ∷ []) old.now → Executes texts.create_segment [] old new (Ok count) → HasEmpty (archive_table ∷ segment_table ∷ []) new.now
  created_segment has h =
      let w = subst (λ t. Writes old new None CreateTable t [] count) texts.create_segment_is.1 (runs_as texts.create_segment [] old new (schema_of (archive_table ∷ [])) has.schema CreateTable texts.create_segment_is.0 texts.create_segment_plain count h) in
      let all = went w.changed in
      let first = went all.1 in
      let made = first.1 in
      let both : Ok made.table ≡ Ok (record segment_table { tree = 0 }) = sym made.defined ∙ texts.segment_defined in
      let same : made.table ≡ record segment_table { tree = 0 } = cc in
      let schema : first.0.schema ≡ schema_of (archive_table ∷ segment_table ∷ []) = made.is ∙ ap (λ s. created s made.table) has.schema ∙ ap (created (schema_of (archive_table ∷ []))) same in
      let plain : lacks_sequence first.0.schema ≡ false = ap lacks_sequence schema in
      let now : new.now ≡ first.0 = ap (λ (p : Tally × Database). p.1) (same_value all.2) ∙ same_value (rw plain at first.2) in
      let kept : KeepsRows (schema_of (archive_table ∷ [])).tables old.now.trees first.0.trees = subst (λ s. KeepsRows s.tables old.now.trees first.0.trees) has.schema made.others in
      let empty : first.0.trees 2 ≡ [] = subst (λ s. first.0.trees (next_tree s) ≡ []) has.schema made.empty in
      record {
        schema = ap (λ (d : Database). d.schema) now ∙ schema;
        empty = (ap (λ (d : Database). d.trees 0) now ∙ kept.0 ∙ has.empty.0, (ap (λ (d : Database). d.trees 2) now ∙ empty, tt));
      }

  pub created_closed_for : HasEmpty (archive_table ∷ segment_table ∷ []) old.now → Executes texts.create_closed_for [] old new (Ok count) → HasEmpty (archive_table ∷ segment_table ∷ closed_for_table ∷ []) new.now
  created_closed_for has h =
      let w = subst (λ t. Writes old new None CreateTable t [] count) texts.create_closed_for_is.1 (runs_as texts.create_closed_for [] old new (schema_of (archive_table ∷ segment_table ∷ [])) has.schema CreateTable texts.create_closed_for_is.0 texts.create_closed_for_plain count h) in
      let all = went w.changed in
      let first = went all.1 in
      let made = first.1 in
      let both : Ok made.table ≡ Ok (record closed_for_table { tree = 0 }) = sym made.defined ∙ texts.closed_for_defined in
      let same : made.table ≡ record closed_for_table { tree = 0 } = cc in
      let schema : first.0.schema ≡ older_schema = made.is ∙ ap (λ s. created s made.table) has.schema ∙ ap (created (schema_of (archive_table ∷ segment_table ∷ []))) same in
      let plain : lacks_sequence first.0.schema ≡ false = ap lacks_sequence schema in
      let now : new.now ≡ first.0 = ap (λ (p : Tally × Database). p.1) (same_value all.2) ∙ same_value (rw plain at first.2) in
      let kept : KeepsRows (schema_of (archive_table ∷ segment_table ∷ [])).tables old.now.trees first.0.trees = subst (λ s. KeepsRows s.tables old.now.trees first.0.trees) has.schema made.others in
      let empty : first.0.trees 4 ≡ [] = subst (λ s. first.0.trees (next_tree s) ≡ []) has.schema made.empty in
      record {
        schema = ap (λ (d : Database). d.schema) now ∙ schema;
        empty = (ap (λ (d : Database). d.trees 0) now ∙ kept.0 ∙ has.empty.0, (ap (λ (d : Database). d.trees 2) now ∙ kept.1.0 ∙ has.empty.1.0, (ap (λ (d : Database). d.trees 4) now ∙ empty, tt)));
      }

  adds : (from to : Schema) (table : Table) → created from (record table { tree = 0 }) ≡ to → lacks_sequence to ≡ false → old.now.schema ≡ from → (text : List ℕ)
      → (command_of (understood from text) ≡ CreateTable) × (statement_of text (understood from text) ≡ text) → IsPlain (understood from text)
      → table_defined_by text ≡ Ok (record table { tree = 0 }) → Executes text [] old new (Ok count) → Adds from to old.now new.now
  adds from to table makes lacks has text is texts_plain defined h =
      let w = subst (λ t. Writes old new None CreateTable t [] count) is.1 (runs_as text [] old new from has CreateTable is.0 texts_plain count h) in
      let all = went w.changed in
      let first = went all.1 in
      let made = first.1 in
      let both : Ok made.table ≡ Ok (record table { tree = 0 }) = sym made.defined ∙ defined in
      let same : made.table ≡ record table { tree = 0 } = cc in
      let schema : first.0.schema ≡ to = made.is ∙ ap (λ s. created s made.table) has ∙ ap (created from) same ∙ makes in
      let plain : lacks_sequence first.0.schema ≡ false = ap lacks_sequence schema ∙ lacks in
      let now : new.now ≡ first.0 = ap (λ (p : Tally × Database). p.1) (same_value all.2) ∙ same_value (rw plain at first.2) in
      let others : KeepsRows from.tables old.now.trees first.0.trees = subst (λ s. KeepsRows s.tables old.now.trees first.0.trees) has made.others in
      let none : first.0.trees (next_tree from) ≡ [] = subst (λ s. first.0.trees (next_tree s) ≡ []) has made.empty in
      let becomes : new.now.schema ≡ to = ap (λ (d : Database). d.schema) now ∙ schema in
      record {
        schema = becomes;
        listed = listed_by new.now becomes w.sound;
        kept = subst (λ (d : Database). KeepsRows from.tables old.now.trees d.trees) (sym now) others;
        empty = ap (λ (d : Database). d.trees (next_tree from)) now ∙ none;
      }

  pub created_settled : HasEmpty (archive_table ∷ segment_table ∷ closed_for_table ∷ []) old.now → Executes texts.create_settled [] old new (Ok count) → HasEmpty (archive_table ∷ segment_table ∷ closed_for_table ∷ settled_table ∷ []) new.now
  created_settled has h =
      let it = adds older_schema former_schema settled_table refl refl has.schema texts.create_settled texts.create_settled_is texts.create_settled_plain texts.settled_defined h in
      record { schema = it.schema; empty = (it.kept.0 ∙ has.empty.0, (it.kept.1.0 ∙ has.empty.1.0, (it.kept.1.1.0 ∙ has.empty.1.1.0, (it.empty, tt)))) }

  pub created_taken : HasEmpty (archive_table ∷ segment_table ∷ closed_for_table ∷ settled_table ∷ []) old.now → Executes texts.create_taken [] old new (Ok count) → HasEmpty (archive_table ∷ segment_table ∷ closed_for_table ∷ settled_table ∷ taken_table ∷ []) new.now
  created_taken has h =
      let it = adds former_schema unsealed_schema taken_table refl refl has.schema texts.create_taken texts.create_taken_is texts.create_taken_plain texts.taken_defined h in
      record { schema = it.schema; empty = (it.kept.0 ∙ has.empty.0, (it.kept.1.0 ∙ has.empty.1.0, (it.kept.1.1.0 ∙ has.empty.1.1.0, (it.kept.1.1.1.0 ∙ has.empty.1.1.1.0, (it.empty, tt))))) }

  pub created_sealed : HasEmpty (archive_table ∷ segment_table ∷ closed_for_table ∷ settled_table ∷ taken_table ∷ []) old.now → Executes texts.create_sealed [] old new (Ok count) → HasWhole empty_register new.now
  created_sealed has h =
      let it = adds unsealed_schema register_schema sealed_table refl refl has.schema texts.create_sealed texts.create_sealed_is texts.create_sealed_plain texts.sealed_defined h in
      nothing_registered new.now (record { schema = it.schema; empty = (it.kept.0 ∙ has.empty.0, (it.kept.1.0 ∙ has.empty.1.0, (it.kept.1.1.0 ∙ has.empty.1.1.0, (it.kept.1.1.1.0 ∙ has.empty.1.1.1.0, (it.kept.1.1.1.1.0 ∙ has.empty.1.1.1.1.0, (it.empty, tt)))))) }) it.listed

  completed_lists_in : (layout : Layout) (content : RegisterContent) → HasRegisterIn layout content old.now → Executes texts.complete_settled [] old new (Ok count) → HasListed content new.now
  completed_lists_in older content has h =
      let it = adds older_schema former_schema settled_table refl refl has.schema texts.complete_settled texts.complete_settled_is texts.complete_settled_plain texts.complete_defined h in
      inl (record {
        schema = it.schema;
        listed = it.listed;
        archives = subst (Holds archive_table archive_values content.archives) (sym it.kept.0) has.archives;
        segments = subst (Holds segment_table segment_values content.segments) (sym it.kept.1.0) has.segments;
        closed_for = subst (Holds closed_for_table file_values (if_any content.closed_for)) (sym it.kept.1.1.0) has.closed_for;
        lists = subst (λ l. Holds settled_table list_values l (new.now.trees 6)) (sym has.lists) (nothing_held (new.now.trees 6) it.empty);
        taken = has.taken;
        sealed = has.sealed;
      })
  completed_lists_in former content has h =
      let ran = runs_as texts.complete_settled [] old new former_schema has.schema Nothing texts.settled_there texts.settled_there_plain count h in
      inl (subst (HasRegisterIn former content) (sym ran.0.0.now_is) has)
  completed_lists_in unsealed content has h =
      let ran = runs_as texts.complete_settled [] old new unsealed_schema has.schema Nothing texts.settled_kept texts.settled_kept_plain count h in
      inr (inl (subst (HasRegisterIn unsealed content) (sym ran.0.0.now_is) has))
  completed_lists_in whole content has h =
      let ran = runs_as texts.complete_settled [] old new register_schema has.schema Nothing texts.completed_is texts.completed_plain count h in
      inr (inr (subst (HasWhole content) (sym ran.0.0.now_is) has))

  -- whichever tables it had, it has that of lists
  pub completed_lists : (content : RegisterContent) → HasRegister content old.now → Executes texts.complete_settled [] old new (Ok count) → HasListed content new.now
  completed_lists content has h = completed_lists_in has.0 content has.1 h

  -- and that of what had been taken
  pub completed_taken : (content : RegisterContent) → HasListed content old.now → Executes texts.complete_taken [] old new (Ok count) → HasTaken content new.now
  completed_taken content (inl has) h =
      let it = adds former_schema unsealed_schema taken_table refl refl has.schema texts.complete_taken texts.complete_taken_is texts.complete_taken_plain texts.complete_taken_defined h in
      inl (record {
        schema = it.schema;
        listed = it.listed;
        archives = subst (Holds archive_table archive_values content.archives) (sym it.kept.0) has.archives;
        segments = subst (Holds segment_table segment_values content.segments) (sym it.kept.1.0) has.segments;
        closed_for = subst (Holds closed_for_table file_values (if_any content.closed_for)) (sym it.kept.1.1.0) has.closed_for;
        lists = subst (Holds settled_table list_values content.lists) (sym it.kept.1.1.1.0) has.lists;
        taken = subst (λ l. Holds taken_table segment_values l (new.now.trees 8)) (sym has.taken) (nothing_held (new.now.trees 8) it.empty);
        sealed = has.sealed;
      })
  completed_taken content (inr (inl has)) h =
      let ran = runs_as texts.complete_taken [] old new unsealed_schema has.schema Nothing texts.taken_kept texts.taken_kept_plain count h in
      inl (subst (HasRegisterIn unsealed content) (sym ran.0.0.now_is) has)
  completed_taken content (inr (inr has)) h =
      let ran = runs_as texts.complete_taken [] old new register_schema has.schema Nothing texts.taken_there texts.taken_there_plain count h in
      inr (subst (HasWhole content) (sym ran.0.0.now_is) has)

  -- and all six
  pub completed_sealed : (content : RegisterContent) → HasTaken content old.now → Executes texts.complete_sealed [] old new (Ok count) → HasWhole content new.now
  completed_sealed content (inl has) h =
      let it = adds unsealed_schema register_schema sealed_table refl refl has.schema texts.complete_sealed texts.complete_sealed_is texts.complete_sealed_plain texts.complete_sealed_defined h in
      record {
        schema = it.schema;
        listed = it.listed;
        archives = subst (Holds archive_table archive_values content.archives) (sym it.kept.0) has.archives;
        segments = subst (Holds segment_table segment_values content.segments) (sym it.kept.1.0) has.segments;
        closed_for = subst (Holds closed_for_table file_values (if_any content.closed_for)) (sym it.kept.1.1.0) has.closed_for;
        lists = subst (Holds settled_table list_values content.lists) (sym it.kept.1.1.1.0) has.lists;
        taken = subst (Holds taken_table segment_values content.taken) (sym it.kept.1.1.1.1.0) has.taken;
        sealed = subst (λ l. Holds sealed_table sealed_values l (new.now.trees 10)) (sym has.sealed) (nothing_held (new.now.trees 10) it.empty);
      }
  completed_sealed content (inr has) h =
      let ran = runs_as texts.complete_sealed [] old new register_schema has.schema Nothing texts.sealed_there texts.sealed_there_plain count h in
      subst (HasWhole content) (sym ran.0.0.now_is) has

-- ==== LoopLemmas: Segments that a loop goes through, with the last closed number of each partner so far.

-- ---- partners

pub partners_within : (archives : ℕ) (segments : List Segment) → list_all (is_within archives) segments ≡ true → list_all (λ (segment : Segment). nat_le segment.partner most_partners) segments ≡ true
partners_within archives [] h = refl
partners_within archives (s ∷ segments) h =
    let parts = and_parts _ _ h in
    let partner : nat_le s.partner most_partners ≡ true = (and_parts _ _ (and_parts _ _ (and_parts _ _ parts.0).0).0).1 in
    ap₂ (λ a b. a && b) partner (partners_within archives segments parts.1)

pub partner_at : (segments : List Segment) (i : ℕ) (d : Segment) → i < length segments → list_all (λ (segment : Segment). nat_le segment.partner most_partners) segments ≡ true → (get_or segments i d).partner < 1000
partner_at segments i d within all =
    let h : nat_le (get_or segments i d).partner most_partners ≡ true = and_at (list_all (λ (segment : Segment). nat_le segment.partner most_partners)) (λ (segment : Segment). nat_le segment.partner most_partners) refl (λ x xs. refl) segments i d within all in
    most (get_or segments i d).partner h
  where
    most : (n : ℕ) → nat_le n 999 ≡ true → n < 1000
    most n h = grind (arith, nat_tests)

-- ---- one more

pub last_pushed : (partner : ℕ) (segments : List Segment) (s : Segment) → last_closed (segments ++ s ∷ []) partner ≡ max (last_closed segments partner) (if is_of partner s then s.last else 0)
last_pushed partner = max_push (λ (ss : List Segment). last_closed ss partner) (λ (s : Segment). if is_of partner s then s.last else 0) refl (λ x xs. refl)

-- within the list it does not matter what is asked for beyond it
pub any_default : (xs : List ℕ) (i a b : ℕ) → i < length xs → get_or xs i a ≡ get_or xs i b
any_default [] i a b h = absurd (omega arith)
any_default (x ∷ xs) zero a b h = refl
any_default (x ∷ xs) (suc i) a b h = any_default xs i a b (omega arith)

higher : (m n : ℕ) → m < n → max m n ≡ n
higher m n h = grind (arith, nat_tests)

pub no_higher : (m : ℕ) → max m 0 ≡ m
no_higher m = grind (arith, nat_tests)

same_of : (m n : ℕ) → (m == n) ≡ true → m ≡ n
same_of m n h = grind (arith, nat_tests)

other_of : (m n : ℕ) → (m == n) ≡ false → m ≡ n → ⊥
other_of m n h e = grind (arith, nat_tests)

module _ (segments : List Segment) (i : ℕ) (d : Segment) (within : i < length segments) where
  abbrev item : Segment
  item = get_or segments i d

  pub more_told : (lasts : List ℕ) (at : ℕ) → at ≡ item.partner → length lasts ≡ 1000 → item.partner < 1000 → ((partner : ℕ) → partner < 1000 → get_or lasts partner 0 ≡ last_closed (take i segments) partner)
      → get_or lasts at 0 < item.last → (partner : ℕ) → partner < 1000 → get_or (set lasts at item.last) partner 0 ≡ last_closed (take (i + 1) segments) partner
  more_told lasts at is count known told more partner small =
      let pushed : last_closed (take (i + 1) segments) partner ≡ max (last_closed (take i segments) partner) (if is_of partner item then item.last else 0) = ap (λ l. last_closed l partner) (take_more segments i d within) ∙ last_pushed partner (take i segments) item in
      elim (cases_Bool (item.partner == partner)) [
        | inl here ↦
            let same : at ≡ partner = is ∙ same_of item.partner partner here in
            let low : last_closed (take i segments) partner < item.last = omega (arith, told partner small, ap (λ n. get_or lasts n 0) same, more) in
            let set_is : get_or (set lasts at item.last) partner 0 ≡ item.last = ap (λ n. get_or (set lasts at item.last) n 0) (sym same) ∙ get_or-set_same lasts at item.last 0 (omega arith) in
            set_is ∙ sym (pushed ∙ ap (λ b. max (last_closed (take i segments) partner) (if b then item.last else 0)) here ∙ higher (last_closed (take i segments) partner) item.last low)
        | inr other ↦
            let apart : at ≡ partner → ⊥ = λ e. other_of item.partner partner other (sym is ∙ e) in
            get_or-set_other lasts at partner item.last 0 (λ e. apart (sym e)) ∙ told partner small ∙ sym (pushed ∙ ap (λ b. max (last_closed (take i segments) partner) (if b then item.last else 0)) other ∙ no_higher (last_closed (take i segments) partner))
      ]

  pub more_closed : last_closed (take i segments) item.partner < item.last → close_more (take i segments) (drop i segments) ≡ close_more (take (i + 1) segments) (drop (i + 1) segments)
  more_closed more =
      let rest : drop i segments ≡ item ∷ drop (i + 1) segments = drop-cons segments i d within ∙ ap (λ n. item ∷ drop n segments) (sym (add-one i)) in
      let passed : nat_lt (last_closed (take i segments) item.partner) item.last ≡ true = below (last_closed (take i segments) item.partner) item.last more in
      ap (close_more (take i segments)) rest ∙ ap (λ b. b && close_more (take i segments ++ item ∷ []) (drop (i + 1) segments)) passed
      ∙ ap (λ l. close_more l (drop (i + 1) segments)) (sym (take_more segments i d within))
    where
      below : (m n : ℕ) → m < n → nat_lt m n ≡ true
      below m n h = grind (arith, nat_tests)

-- ==== LineLemmas: A register with lists tells the lines of one of them.

same_code : (side : Side) → (side_code side == side_code side) ≡ true
same_code Load = refl
same_code Discharge = refl

own_list : (list : SettledListContent) → is_of_list list.call list.side list ≡ true
own_list list =
    ap₂ ◌&&◌ ((bytes_eq-Decides list.call.vessel list.call.vessel).1 refl)
    (ap₂ ◌&&◌ ((bytes_eq-Decides list.call.voyage list.call.voyage).1 refl) (same_code list.side))

-- these lines, or those of a later row
still_told : (call : CallContent) (side : Side) (text : List ℕ) (lists : List SettledListContent)
    → (told : List ℕ) × (fold (λ found list. if is_of_list call side list then Some list.lines else found) (Some text) lists ≡ Some told)
still_told call side text [] = (text, refl)
still_told call side text (list ∷ lists) =
    elim (is_of_list call side list) as (λ v. (told : List ℕ) × (fold (λ found list. if is_of_list call side list then Some list.lines else found) (if v then Some list.lines else Some text) lists ≡ Some told)) [
      | true ↦ still_told call side list.lines lists
      | false ↦ still_told call side text lists
    ]

-- lines of this list are told
abbrev pub TellsLines : List SettledListContent → CallContent → Side → Type 0
TellsLines lists call side = (text : List ℕ) × (lines_of_list lists call side ≡ Some text)

-- where any list was put away, lines of one are told
pub some_told : (lists : List SettledListContent) → (lists ≡ [] → ⊥) → (call : CallContent) × (side : Side) × TellsLines lists call side
some_told [] any = absurd (any refl)
some_told (list ∷ lists) any =
    let rest = still_told list.call list.side list.lines lists in
    (list.call, list.side, (rest.0, ap (λ v. fold (λ found other. if is_of_list list.call list.side other then Some other.lines else found) (if v then Some list.lines else None) lists) (own_list list) ∙ rest.1))
