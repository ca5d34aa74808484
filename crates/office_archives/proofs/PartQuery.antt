-- The query of a file's texts: what it means, and what it finds.
use Rattle.std.{specs.{List.{AllByRecursion, AllZip}, Io.KnownBytes.Appends}, proofs.lemmas.List.drop_all}
use Rattle.std.proofs.Common.{◌≡◌, ℕ, false, true, List, [], ◌∷◌, ◌++◌, map, filter, codes, refl, sym, ap, subst, ◌∙◌, ◌-◌, drop, arith, length, Bool, Option, None, Some}
use Rattle.sqlite.specs.{declared.types.Value.TheVariants.Null, Order.{Row, column}, Tree.{Trees, IsTable}, Collation.TheVariants.Binary, Term.{Term, col}}
use Rattle.sqlite.specs.{Query.{Query, Output, IsAnswer}, Program.overlay, Effect.{Database, ReadsFirst}, Command.Command, Command.TheVariants.Select}
use Rattle.sqlite.specs.{Listing.{understood, reads_listing}, State.{State, Begins, Shown, IsUnchanged}, Held.{Held, state}, Given.Advances}
use Rattle.sqlite.proofs.Callers.{IsPlain, command_of, begins_as, reads_as, given_begin, unchanged_then}
use Rattle.sqlite_value.specs.{Keys.ascending, declared.keys.Key.Key}
use Rattle.sqlite_tied.specs.Compute.{everything}
use Rattle.sqlite_trees.proofs.ListLemmas.{map-map, filter_all}
use Rattle.sqlite_resolve.specs.Compile.{first}
use Rattle.office_rows.specs.{Tables.{interchange_table, office_schema}, Rows.{Interchange, Rows}, Values.interchange_values, Stored.{HasRows, columns_of}}
use Rattle.office_rows.proofs.{WriteLemmas.{rows_of, passes, answer_in_order}, Creating.has_mapped}
use Rattle.office_tables.{specs.Reading.OnlyShows, proofs.WritesLemmas.{is_read, understands_query}}
use Rattle.office_loading.{specs.{Texts.IsText, Pages.lines_of}, proofs.{RowLemmas.{keyed, in_order}, StreamLemmas.{Stands, all_shown}, TextQuery.stored_body}}
use Rattle.office_loading.proofs.TakenLemmas.{nothing_appended}
use Rattle.office_archives.specs.{Parts.{ShowsInterchange, StandInOrder, AreDone, PassesRow, PartIsWritten, texts_written}, declared.passing.Rest.Rest}
use Rattle.office_archives.specs.declared.passing.Passing.{Passing}
use Rattle.sqlite_rules.proofs.ListLemmas.{has_last, has_front}
use Rattle.sqlite_trees.specs.declared.store.Store as store

abbrev pub select_part : List ℕ
select_part = codes "SELECT body, partner, number FROM interchange ORDER BY rowid"

abbrev part_shown : List Term
part_shown = col 1 3 ∷ col 1 1 ∷ col 1 2 ∷ []

abbrev part_order : List (Term × Key)
part_order = (col 1 0, ascending Binary) ∷ []

abbrev part_query : Query
part_query = record (rows_of 2 [] part_shown) { order = part_order }

abbrev part_command : Command
part_command = Select (record { lets = []; body = part_query }) (codes "body" ∷ codes "partner" ∷ codes "number" ∷ [])

part_is : (command_of (understood office_schema select_part) ≡ part_command) × (reads_listing office_schema select_part ≡ false)
unfolding understood everything
part_is = (refl, refl)

part_plain : IsPlain (understood office_schema select_part)
unfolding understood everything
part_plain = (refl, refl)

part_read : is_read (first select_part) ≡ true
unfolding everything
part_read = refl

pub part_shows : OnlyShows select_part
part_shows schema c is = understands_query schema select_part c part_read is

-- ---- what is found

-- what the query shows of a row
abbrev pub shown_of : Row → Row
shown_of r = column r 3 ∷ column r 1 ∷ column r 2 ∷ []

all_pass : (rows : List Row) → AllByRecursion (λ r. passes [] [] r ≡ true) rows
all_pass [] = tt
all_pass (r ∷ rows) = (refl, all_pass rows)

part_found : (trees : Trees) → IsTable (trees 2) → (answer : List Row) → IsAnswer part_query (overlay trees []) [] answer → answer ≡ map shown_of (trees 2)
part_found trees up answer a =
    let given = answer_in_order [] [] 2 part_shown part_order trees answer refl a in
    let all : filter (passes [] []) (trees 2) ≡ trees 2 = filter_all (passes [] []) (trees 2) (all_pass (trees 2)) in
    let one = in_order shown_of (filter (passes [] []) (trees 2)) a.ordered (rw all up) given.0 given.1 in
    given.2 ∙ ap (map (λ (o : Output). o.1)) (sym one) ∙ map-map (λ (o : Output). o.1) (keyed shown_of) (filter (passes [] []) (trees 2)) ∙ ap (map shown_of) all

module _ (rows : Rows) (old : State) (has : HasRows rows old.now) where
  -- the query shows all rows
  pub all_found : (new : State) (answer : List Row) → Shown select_part [] old new answer → answer ≡ map shown_of (old.now.trees 2)
  all_found new answer h =
      let read = reads_as select_part [] old new office_schema has.schema part_command part_is.0 part_plain part_is.1 answer h in
      part_found old.now.trees has.rows_are.interchanges.shaped.0 answer (read.answer Null)

  -- what it has given so far begins them
  pub first_found : (now : State) (given : List Row) → now.now ≡ old.now → Begins select_part [] now given → (tail : List Row) × (given ++ tail ≡ map shown_of (old.now.trees 2))
  first_found now given same begins =
      let schema : now.now.schema ≡ office_schema = ap (λ (d : Database). d.schema) same ∙ has.schema in
      let read = begins_as select_part [] now now office_schema schema part_command part_is.0 part_plain part_is.1 given begins in
      let answer = subst (λ (d : Database). ReadsFirst part_command d [] given) same read in
      (answer.1.0, part_found old.now.trees has.rows_are.interchanges.shaped.0 (given ++ answer.1.0) (answer.1.1 Null))

-- ---- which interchanges are shown

one_shown : (r : Row) (i : Interchange) → interchange_values i ≡ columns_of interchange_table r → ShowsInterchange (shown_of r) i
one_shown r i same = record {
  body = sym (ap (λ (c : Row). column c 2) same);
  partner = sym (ap (λ (c : Row). column c 0) same);
  number = sym (ap (λ (c : Row). column c 1) same);
}

-- where they stand in the table in this order, they are shown in this order
pub all_shown_in_order : (interchanges : List Interchange) (stored : List Row) → StandInOrder interchanges stored → AllZip ShowsInterchange (map shown_of stored) interchanges
all_shown_in_order [] [] same = tt
all_shown_in_order [] (r ∷ stored) same = absurd cc
all_shown_in_order (i ∷ interchanges) [] same = absurd cc
all_shown_in_order (i ∷ interchanges) (r ∷ stored) same =
    let first : interchange_values i ≡ columns_of interchange_table r = ap (λ (l : List Row). head_or l) same in
    let rest : map interchange_values interchanges ≡ map (columns_of interchange_table) stored = ap (λ (l : List Row). tail_of l) same in
    (one_shown r i first, all_shown_in_order interchanges stored rest)
  where
    head_or : List Row → Row
    head_or [] = []
    head_or (x ∷ l) = x

    tail_of : List Row → List Row
    tail_of [] = []
    tail_of (x ∷ l) = l

-- ==== PartLemmas: What is written while the rows of a file are read one at a time.

-- the row is that one
abbrev pub IsRow : Row → Row → Type 0
IsRow row read = read ≡ row

are_rows : (given read : List Row) → AllZip IsRow given read → read ≡ given
are_rows [] [] all = refl
are_rows [] (r ∷ read) all = absurd all
are_rows (g ∷ given) [] all = absurd all
are_rows (g ∷ given) (r ∷ read) all = λ k. all.0 k ∷ are_rows given read all.1 k

-- whatever interchanges these rows show, these are done
abbrev pub AreDoneSoFar : (before after : ℕ → ℕ) → Rest → (read : List Row) → (first now : Option (List ℕ)) → Passing → Type 0
AreDoneSoFar before after rest read first now passing =
    (interchanges : List Interchange) → AllZip ShowsInterchange read interchanges → AreDone before after rest interchanges first now passing

minus_none : (n : ℕ) → n ≡ n - 0
minus_none n = omega arith

drop_none : {X : Type 0} (n : ℕ) → drop {A = X} n [] ≡ []
drop_none n = drop_all n [] (omega arith)

none_written : (before : ℕ → ℕ) (rest : Rest) → texts_written before rest [] ≡ []
none_written before rest = ap (drop rest.from) (drop_none rest.carried) ∙ drop_none rest.from

pub none_done : (before after : ℕ → ℕ) (rest : Rest) (first : Option (List ℕ)) (passing : Passing) → passing.rest ≡ rest → passing.found ≡ 0 → AreDoneSoFar before after rest [] first first passing
none_done before after rest first passing same none [] all = record {
  counted = record {
    carried = ap (λ (r : Rest). r.carried) same ∙ minus_none rest.carried;
    from = ap (λ (r : Rest). r.from) same ∙ minus_none rest.from ∙ sym (ap (λ (l : List (List ℕ)). rest.from - length l) (drop_none rest.carried));
    found = none;
  };
  appended = subst (λ (l : List ℕ). Appends first first l) (sym (ap lines_of (none_written before rest))) (nothing_appended first);
}
none_done before after rest first passing same none (i ∷ interchanges) all = absurd all

-- the interchanges that rows and one row more show end in one that this row shows
last_shown : (read : List Row) (row : Row) (interchanges : List Interchange) → AllZip ShowsInterchange (read ++ row ∷ []) interchanges
    → (earlier : List Interchange) × (i : Interchange) × (interchanges ≡ earlier ++ i ∷ []) × AllZip ShowsInterchange read earlier × ShowsInterchange row i
last_shown [] row [] all = absurd all
last_shown [] row (i ∷ []) all = ([], i, refl, tt, all.0)
last_shown [] row (i ∷ j ∷ interchanges) all = absurd all.1
last_shown (r ∷ read) row [] all = absurd all
last_shown (r ∷ read) row (i ∷ interchanges) all =
    let more = last_shown read row interchanges all.1 in
    (i ∷ more.0, more.1, ap (λ l. i ∷ l) more.2, (all.0, more.3), more.4)

-- the writer took what is written of the row, if something is
pub row_passed : (before after : ℕ → ℕ) (row : Row) (was passing : Passing) (old new : Option (List ℕ)) (failed failed' taken : Bool) → taken ≡ true → PassesRow before after row was passing old new failed failed' taken → PassesRow before after row was passing old new failed failed' true
row_passed before after row was passing old new failed failed' true is h = h
row_passed before after row was passing old new failed failed' false is h = absurd cc

pub more_done : (before after : ℕ → ℕ) (rest : Rest) (read : List Row) (row : Row) (first old new : Option (List ℕ)) (was passing : Passing) (failed failed' : Bool) → PassesRow before after row was passing old new failed failed' true
    → AreDoneSoFar before after rest read first old was → AreDoneSoFar before after rest (read ++ row ∷ []) first new passing
more_done before after rest read row first old new was passing failed failed' passes so_far interchanges all =
    let last = last_shown read row interchanges all in
    subst (λ (l : List Interchange). AreDone before after rest l first new passing) (sym last.2) (passes.1 rest first last.0 last.1 last.4 (so_far last.0 last.3))

module _ {S : Type 0} (g : store.Ghosts S) (first old new : Held S) (read : List Row) (s : Stands g IsRow select_part first old read) (rows : Rows) (has : HasRows rows (state g first).now) where
  -- each row shows a text
  pub row_shows_text : (row : Row) → Advances g old new (Some row) → IsUnchanged (state g old) (state g new) → IsText row
  row_shows_text row moved same =
      let all = unchanged_then _ _ _ s.same same in
      let given = s.given ++ row ∷ [] in
      let next = first_found rows (state g first) has (state g new) given all.0.now_is (given_begin g select_part [] new given (moved select_part [] s.given s.has)) in
      let stored = (state g first).now.trees 2 in
      let found = has_mapped shown_of stored row (has_front (map shown_of stored) given next.0 row (sym next.1) (has_last given s.given row refl)) in
      let body = stored_body rows.interchanges stored has.rows_are.interchanges found.0 found.1 in
      (body.0, ap (λ (r : Row). column r 0) found.2 ∙ body.1)

  -- at the end the rows that were read show the interchanges that stand in the table
  pub all_are_shown : Advances g old new None → StandInOrder rows.interchanges ((state g first).now.trees 2) → AllZip ShowsInterchange read rows.interchanges
  all_are_shown moved stand =
      let all = all_shown g IsRow select_part first old new read s part_shows moved in
      let same = are_rows all.0 read all.2 ∙ all_found rows (state g first) has (state g new) all.0 all.1 in
      subst (λ (l : List Row). AllZip ShowsInterchange l rows.interchanges) (sym same) (all_shown_in_order rows.interchanges ((state g first).now.trees 2) stand)

pub part_done : (before after : ℕ → ℕ) (rest : Rest) (interchanges : List Interchange) (first now : Option (List ℕ)) (passing : Passing) (left : Rest) → AreDone before after rest interchanges first now passing → left.from ≡ passing.rest.from → left.carried ≡ passing.found
    → PartIsWritten before after rest interchanges first now left
part_done before after rest interchanges first now passing left done from carried = record {
  from = from ∙ done.counted.from;
  carried = carried ∙ done.counted.found;
  appended = done.appended;
}
