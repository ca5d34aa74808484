-- What the queries of texts mean, and what they find.
use Rattle.std.{specs.{List.{AllByRecursion, list_any}, Ordering.{is_gt, is_ge}}, proofs.{lemmas.Bool.{cases_Bool, or_parts}, lemmas.Bool.Decides.nat_tests}}
use Rattle.std.proofs.Common.{◌≡◌, ◌==◌, ℕ, not, List, [], ◌∷◌, Bool, true, false, map, filter, length, codes, refl, sym, ap, ◌∙◌, IsTrue, Some, inl, inr, suc, arith, ◌≢◌, ◌⊎◌, nat_lt, ◌+◌, ◌<◌, ◌≤◌, ◌++◌, ap₂, append-nil, append_assoc, length-append, None, subst}
use Rattle.std.proofs.{lemmas.List.{length-map, map-append}, lemmas.List.Sorted.{length_permutation, IsPermutation-sym, Contains-permutation}}
use Rattle.std.proofs.lemmas.List.Concat.{flat_map-append}
use Rattle.sqlite.specs.{declared.types.Value.Value, declared.types.Value.TheVariants.{Null, Int, Blob}, Order.{Row, column, value_cmp}, Ops.{binary, is_true}}
use Rattle.sqlite.specs.Tree.{Trees, rowid}
use Rattle.sqlite.specs.Collation.TheVariants.{Binary}
use Rattle.sqlite.specs.Term.{Term, col, op2}
use Rattle.sqlite.specs.Query.{Query, Output, IsAnswer}
use Rattle.sqlite.specs.Program.{overlay}
use Rattle.sqlite.specs.{Command.Command, Command.TheVariants.Select, Listing.{understood, reads_listing}, State.{State, Shown, IsUnchanged, Begins}}
use Rattle.sqlite.specs.{Effect.{Database, Reads, ReadsFirst}, Held.{Held, state}, Given.{HasGiven, Advances}}
use Rattle.sqlite.proofs.Callers.{IsPlain, command_of, reads_as, given_begin, begins_as, unchanged_then}
use Rattle.sqlite_sql.specs.{declared.ops.BinaryOp.TheVariants.Compare, declared.ops.CompareOp.TheVariants.{Gt, Ge}}
use Rattle.office_rows.specs.{Rows.{Rows, Interchange}, Stored.{HasRows, Holds, columns_of}, Tables.{office_schema, interchange_table}}
use Rattle.office_rows.{specs.Values.{number_value, interchange_values}, proofs.WriteLemmas.{rows_of, passes, answer_is, answer_in_order}}
use Rattle.office_rows.proofs.Creating.{has_mapped}
use Rattle.sqlite_value.specs.{Keys.ascending, declared.keys.Key.Key}
use Rattle.sqlite_tied.{specs.Compute.everything, proofs.RuleLemmas.and_true}
use Rattle.sqlite_trees.{specs.View.{IsShaped, is_int}, proofs.ListLemmas.{map-map, all_weaker, ascending-filter, filter_same}}
use Rattle.sqlite_rules.{specs.{Edit.id_in, Lists.Has}, proofs.TableLemmas.int_is}
use Rattle.sqlite_rules.proofs.ListLemmas.{contains_had, has_contained, has_filtered, has_last, has_front}
use Rattle.sqlite_resolve.specs.Compile.{first}
use Rattle.office_tables.{specs.Reading.OnlyShows, proofs.WritesLemmas.{is_read, understands_query}}
use Rattle.office_loading.{specs.{Texts.{is_after, is_from, AreTextsAfter, IsText}, Pages.{lines_of, IsPage, has_room}}, proofs.RowLemmas.{keyed, in_order}}
use Rattle.edi_syntax.specs.Bytes.{line_feed}
use Rattle.sqlite_trees.specs.declared.store.Shape.TheVariants as shape
use Rattle.sqlite_trees.specs.declared.store.Store as store

-- ---- the texts after a number

abbrev pub select_texts : List ℕ
select_texts = codes "SELECT body FROM interchange WHERE rowid > ?1 ORDER BY rowid"

abbrev pub texts_tests : List Term
texts_tests = op2 (Compare Gt Binary) (col 1 0) (col 0 0) ∷ []

abbrev pub texts_shown : List Term
texts_shown = col 1 3 ∷ []

abbrev pub texts_order : List (Term × Key)
texts_order = (col 1 0, ascending Binary) ∷ []

abbrev pub texts_query : Query
texts_query = record (rows_of 2 texts_tests texts_shown) { order = texts_order }

abbrev pub texts_command : Command
texts_command = Select (record { lets = []; body = texts_query }) (codes "body" ∷ [])

pub texts_is : (command_of (understood office_schema select_texts) ≡ texts_command) × (reads_listing office_schema select_texts ≡ false)
unfolding understood everything
texts_is = (refl, refl)

pub texts_plain : IsPlain (understood office_schema select_texts)
unfolding understood everything
texts_plain = (refl, refl)

texts_read : is_read (first select_texts) ≡ true
unfolding everything
texts_read = refl

pub texts_shows : OnlyShows select_texts
texts_shows schema c is = understands_query schema select_texts c texts_read is

-- ---- the numbers that are not below one

abbrev pub select_from : List ℕ
select_from = codes "SELECT rowid FROM interchange WHERE rowid >= ?1"

abbrev pub from_tests : List Term
from_tests = op2 (Compare Ge Binary) (col 1 0) (col 0 0) ∷ []

abbrev pub from_shown : List Term
from_shown = col 1 0 ∷ []

abbrev pub from_command : Command
from_command = Select (record { lets = []; body = rows_of 2 from_tests from_shown }) (codes "rowid" ∷ [])

pub from_is : (command_of (understood office_schema select_from) ≡ from_command) × (reads_listing office_schema select_from ≡ false)
unfolding understood everything
from_is = (refl, refl)

pub from_plain : IsPlain (understood office_schema select_from)
unfolding understood everything
from_plain = (refl, refl)

from_read : is_read (first select_from) ≡ true
unfolding everything
from_read = refl

pub from_shows : OnlyShows select_from
from_shows schema c is = understands_query schema select_from c from_read is

-- ---- what is found

truth_is : (b : Bool) → is_true (Rattle.sqlite.specs.Ops.from_truth (Some b)) ≡ b
truth_is true = refl
truth_is false = refl

greater : (v : Value) (n : ℕ) → IsTrue (is_int v) → is_true (binary (Compare Gt Binary) v (number_value n)) ≡ is_gt (value_cmp v (number_value n))
unfolding binary
greater v n int = rw (int_is v int) (truth_is (is_gt (value_cmp (Int (id_in v)) (number_value n))))

not_less : (v : Value) (n : ℕ) → IsTrue (is_int v) → is_true (binary (Compare Ge Binary) v (number_value n)) ≡ is_ge (value_cmp v (number_value n))
unfolding binary
not_less v n int = rw (int_is v int) (truth_is (is_ge (value_cmp (Int (id_in v)) (number_value n))))

module _ (from : ℕ) (trees : Trees) (shaped : IsShaped shape.Table (trees 2)) where
  abbrev params : Row
  params = number_value from ∷ []

  after_passes : AllByRecursion (λ r. passes params texts_tests r ≡ is_after from r) (trees 2)
  after_passes = all_weaker _ _ (λ r int. and_true _ ∙ greater (rowid r) from int) (trees 2) shaped.1

  from_passes : AllByRecursion (λ r. passes params from_tests r ≡ is_from from r) (trees 2)
  from_passes = all_weaker _ _ (λ r int. and_true _ ∙ not_less (rowid r) from int) (trees 2) shaped.1

  abbrev shows_text : Row → Row
  shows_text r = column r 3 ∷ []

  -- the texts are found in the order of their rows
  pub texts_found : (answer : List Row) → IsAnswer texts_query (overlay trees []) params answer → answer ≡ map (λ r. column r 3 ∷ []) (filter (is_after from) (trees 2))
  texts_found answer a =
      let given = answer_in_order params texts_tests 2 texts_shown texts_order trees answer refl a in
      let passing = filter (passes params texts_tests) (trees 2) in
      let one = in_order shows_text passing a.ordered (ascending-filter _ _ (trees 2) shaped.0) given.0 given.1 in
      given.2 ∙ ap (map (λ (o : Output). o.1)) (sym one) ∙ map-map (λ (o : Output). o.1) (keyed shows_text) passing ∙ ap (map shows_text) (filter_same _ _ (trees 2) after_passes)

  -- a number is found if one is there
  pub from_found : (answer : List Row) → IsAnswer (rows_of 2 from_tests from_shown) (overlay trees []) params answer → list_any (is_from from) (trees 2) ≡ not (length answer == 0)
  from_found answer a =
      let same = answer_is params from_tests 2 from_shown trees answer refl a in
      let passing = filter (is_from from) (trees 2) in
      let alike = filter_same _ _ (trees 2) from_passes in
      let count : length answer ≡ length passing = length_permutation _ _ same ∙ length-map _ _ ∙ ap length alike in
      any_is (is_from from) (trees 2) ∙ ap (λ n. not (n == 0)) (sym count)
    where
      one_more : (n : ℕ) → not (suc n == 0) ≡ true
      one_more n = grind (arith, nat_tests)

      any_is : (p : Row → Bool) (rows : List Row) → list_any p rows ≡ not (length (filter p rows) == 0)
      any_is p [] = refl
      any_is p (r ∷ rows) = elim (cases_Bool (p r)) [ inl here ↦ rw here (sym (one_more (length (filter p rows)))) | inr other ↦ rw (other, any_is p rows) ]

pub numbers_found : (from : ℕ) (old new : State) (rows : Rows) → HasRows rows old.now → (answer : List Row) → Shown select_from (number_value from ∷ []) old new answer
    → list_any (is_from from) (old.now.trees 2) ≡ not (length answer == 0)
numbers_found from old new rows has answer h =
    let read = reads_as select_from (number_value from ∷ []) old new office_schema has.schema from_command from_is.0 from_plain from_is.1 answer h in
    from_found from old.now.trees has.rows_are.interchanges.shaped answer (read.answer Null)

-- ==== PageLemmas: A page that takes one text after the other.

-- the lines and the count of these texts, which have room
pub record AreRead (most : ℕ) (lines : List ℕ) (count : ℕ) (texts : List (List ℕ)) : Type 0 where
  pub lines_are : lines ≡ lines_of texts
  pub count_is : count ≡ length texts
  pub fits : length texts ≤ 1 ⊎ length (lines_of texts) ≤ most

pub none_read : (most : ℕ) → AreRead most [] 0 []
none_read most = record { lines_are = refl; count_is = refl; fits = inl (omega arith) }

pub more_lines : (texts : List (List ℕ)) (text : List ℕ) → lines_of (texts ++ text ∷ []) ≡ lines_of texts ++ text ++ line_feed ∷ []
more_lines texts text = flat_map-append (λ t. t ++ line_feed ∷ []) texts (text ∷ []) ∙ ap (λ l. lines_of texts ++ l) (append-nil (text ++ line_feed ∷ [])) ∙ sym (append_assoc (lines_of texts) text (line_feed ∷ []))

more_bytes : (texts : List (List ℕ)) (text : List ℕ) → length (lines_of (texts ++ text ∷ [])) ≡ length (lines_of texts) + length text + 1
more_bytes texts text =
    let whole = ap length (more_lines texts text) in
    let first = length-append (lines_of texts ++ text) (line_feed ∷ []) in
    let second = length-append (lines_of texts) text in
    omega (arith, whole, first, second)

module _ (most : ℕ) (lines : List ℕ) (count : ℕ) (texts : List (List ℕ)) (read : AreRead most lines count texts) (text : List ℕ) where
  pub more_read : has_room most lines count text ≡ true → (more : List ℕ) (later : ℕ) → more ≡ lines ++ text ++ line_feed ∷ [] → later ≡ count + 1 → AreRead most more later (texts ++ text ∷ [])
  more_read room more later adds counts = record {
    lines_are = adds ∙ ap (λ l. l ++ text ++ line_feed ∷ []) read.lines_are ∙ sym (more_lines texts text);
    count_is = let e = length-append texts (text ∷ []) in omega (arith, read.count_is, counts, e);
    fits = by_case (count == 0) refl;
  }
    where
      by_case : (b : Bool) → (count == 0) ≡ b → length (texts ++ text ∷ []) ≤ 1 ⊎ length (lines_of (texts ++ text ∷ [])) ≤ most
      by_case true none = inl (let zero_is : count ≡ 0 = grind (arith, nat_tests) in let e = length-append texts (text ∷ []) in omega (arith, read.count_is, zero_is, e))
      by_case false some =
          let less : nat_lt (length lines + length text) most ≡ true = rw some at room in
          let below : length lines + length text < most = grind (arith, nat_tests) in
          inr (let e = more_bytes texts text in let l = ap length read.lines_are in omega (arith, below, e, l))

  pub page_full : has_room most lines count text ≡ false → (later : List (List ℕ)) → IsPage most (texts ++ text ∷ later) texts
  page_full none later =
      let parts : ((count == 0) ≡ false) × (nat_lt (length lines + length text) most ≡ false) = or_parts _ _ none in
      let one = parts.0 in
      let two = parts.1 in
      let some : count ≢ 0 = grind (arith, nat_tests) in
      let above : most ≤ length lines + length text = grind (arith, nat_tests) in
      record {
        later = text ∷ later;
        front = refl;
        fits = read.fits;
        full = (λ empty. some (read.count_is ∙ ap length empty), let e = more_bytes texts text in let l = ap length read.lines_are in omega (arith, above, e, l));
      }

pub page_whole : (most : ℕ) (lines : List ℕ) (count : ℕ) (texts : List (List ℕ)) → AreRead most lines count texts → IsPage most texts texts
page_whole most lines count texts read = record { later = []; front = sym (append-nil texts); fits = read.fits; full = tt }

-- ---- the texts of rows

pub texts_first : (texts all : List (List ℕ)) (others : List Value) → map Blob all ≡ map Blob texts ++ others → (later : List (List ℕ)) × (all ≡ texts ++ later) × (others ≡ map Blob later)
texts_first [] all others same = (all, refl, sym same)
texts_first (t ∷ texts) [] others same = absurd cc
texts_first (t ∷ texts) (a ∷ all) others same =
    let first : a ≡ t = cc in
    let rest : map Blob all ≡ map Blob texts ++ others = cc in
    let more = texts_first texts all others rest in
    (more.0, ap₂ ◌∷◌ first more.1, more.2)

-- ==== BodyLemmas: Each row of the table of interchanges has a text.

abbrev pub HasBody : Row → Type 0
HasBody row = (text : List ℕ) × (column row 3 ≡ Blob text)

has_map : {A B : Type 0} (f : A → B) (xs : List A) (x : A) → Has xs x → Has (map f xs) (f x)
has_map f [] x h = absurd h
has_map f (y ∷ ys) x (inl same) = inl (ap f same)
has_map f (y ∷ ys) x (inr later) = inr (has_map f ys x later)

pub stored_body : (records : List Interchange) (stored : List Row) → Holds interchange_table interchange_values records stored → (row : Row) → Has stored row → HasBody row
stored_body records stored holds row here =
    let columns = columns_of interchange_table in
    let all = map interchange_values records in
    let there = contains_had (map columns stored) (columns row) (has_map columns stored row here) in
    let found = has_mapped interchange_values records (columns row) (has_contained all (columns row) (Contains-permutation _ all (columns row) (IsPermutation-sym _ _ holds.same) there)) in
    (found.0.body, ap (λ (c : Row). column c 2) found.2)

pub bodies_of : (rows : List Row) → ((row : Row) → Has rows row → HasBody row) → (all : List (List ℕ)) × (map Blob all ≡ map (λ row. column row 3) rows)
bodies_of [] each = ([], refl)
bodies_of (row ∷ rows) each =
    let first = each row (inl refl) in
    let rest = bodies_of rows (λ r here. each r (inr here)) in
    (first.0 ∷ rest.0, ap₂ ◌∷◌ (sym first.1) rest.1)

-- ==== StandLemmas: Which texts the rows show that were read so far, one row at a time.

abbrev first_column : Row → Value
first_column row = column row 0

module _ (from : ℕ) (db : Database) (rows : Rows) (has : HasRows rows db) where
  abbrev after : List Row
  after = filter (is_after from) (db.trees 2)

  -- what the query shows
  abbrev shown : List Row
  shown = map (λ row. column row 3 ∷ []) after

  columns_shown : map first_column shown ≡ map (λ row. column row 3) after
  columns_shown = map-map first_column (λ row. column row 3 ∷ []) after

  given_first : (now : State) (given : List Row) → now.now ≡ db → Begins select_texts (number_value from ∷ []) now given → (tail : List Row) × (given ++ tail ≡ shown)
  given_first now given same begins =
      let schema : now.now.schema ≡ office_schema = ap (λ (d : Database). d.schema) same ∙ has.schema in
      let read = begins_as select_texts (number_value from ∷ []) now now office_schema schema texts_command texts_is.0 texts_plain texts_is.1 given begins in
      let answer = subst (λ (d : Database). ReadsFirst texts_command d (number_value from ∷ []) given) same read in
      (answer.1.0, texts_found from db.trees has.rows_are.interchanges.shaped (given ++ answer.1.0) (answer.1.1 Null))

  given_all : (now new : State) (given : List Row) → now.now ≡ db → Shown select_texts (number_value from ∷ []) now new given → given ≡ shown
  given_all now new given same shows =
      let schema : now.now.schema ≡ office_schema = ap (λ (d : Database). d.schema) same ∙ has.schema in
      let read = reads_as select_texts (number_value from ∷ []) now new office_schema schema texts_command texts_is.0 texts_plain texts_is.1 given shows in
      let answer = subst (λ (d : Database). Reads texts_command d (number_value from ∷ []) given) same read in
      texts_found from db.trees has.rows_are.interchanges.shaped given (answer.answer Null)

  texts_after : (all : List (List ℕ)) × AreTextsAfter from (db.trees 2) all
  texts_after = bodies_of after (λ row here. stored_body rows.interchanges (db.trees 2) has.rows_are.interchanges row (has_filtered (is_after from) (db.trees 2) row here).0)

  given_text : (given : List Row) (row : Row) (tail : List Row) → (given ++ row ∷ []) ++ tail ≡ shown → IsText row
  given_text given row tail same =
      let found = has_mapped (λ r. column r 3 ∷ []) after row (has_front shown (given ++ row ∷ []) tail row (sym same) (has_last (given ++ row ∷ []) given row refl)) in
      let body = stored_body rows.interchanges (db.trees 2) has.rows_are.interchanges found.0 (has_filtered (is_after from) (db.trees 2) found.0 found.1).0 in
      (body.0, ap first_column found.2 ∙ body.1)

  module _ (texts : List (List ℕ)) (given : List Row) (said : map Blob texts ≡ map first_column given) where
    whole_texts : given ≡ shown → AreTextsAfter from (db.trees 2) texts
    whole_texts same = said ∙ ap (map first_column) same ∙ columns_shown

    first_texts : (row : Row) (text : List ℕ) (tail : List Row) → column row 0 ≡ Blob text → (given ++ row ∷ []) ++ tail ≡ shown
        → (later : List (List ℕ)) × AreTextsAfter from (db.trees 2) (texts ++ text ∷ later)
    first_texts row text tail is same =
        let whole = texts_after in
        let values : map Blob whole.0 ≡ map Blob texts ++ (first_column row ∷ map first_column tail) =
        whole.1 ∙ sym columns_shown ∙ ap (map first_column) (sym same ∙ append_assoc given (row ∷ []) tail) ∙ map-append first_column given (row ∷ tail) ∙ ap (λ l. l ++ (first_column row ∷ map first_column tail)) (sym said) in
        let front = texts_first texts whole.0 (first_column row ∷ map first_column tail) values in
        by_later front.0 whole.0 front.1 (sym (ap (λ v. v ∷ map first_column tail) is) ∙ front.2) whole.1
      where
        by_later : (later : List (List ℕ)) (all : List (List ℕ)) → all ≡ texts ++ later → Blob text ∷ map first_column tail ≡ map Blob later → AreTextsAfter from (db.trees 2) all
            → (rest : List (List ℕ)) × AreTextsAfter from (db.trees 2) (texts ++ text ∷ rest)
        by_later [] all front same are = absurd cc
        by_later (t ∷ later) all front same are =
            let one : t ≡ text = cc in
            let whole : all ≡ texts ++ text ∷ later = front ∙ ap (λ x. texts ++ x ∷ later) one in
            (later, subst (AreTextsAfter from (db.trees 2)) whole are)

-- ---- while the rows are read

module _ {S : Type 0} (g : store.Ghosts S) (from : ℕ) (first : Held S) where
  abbrev stored : List Row
  stored = (state g first).now.trees 2

  -- the rows that were given so far show these texts, of which this holds
  pub record Stands (P : List (List ℕ) → Type 0) (now : Held S) : Type 0 where
    pub same : IsUnchanged (state g first) (state g now)
    pub given : List Row
    pub has : HasGiven g select_texts (number_value from ∷ []) now given
    pub texts : List (List ℕ)
    pub said : map Blob texts ≡ map first_column given
    pub holds : P texts

  pub stands_first : (P : List (List ℕ) → Type 0) (now : Held S) → P [] → HasGiven g select_texts (number_value from ∷ []) now [] × IsUnchanged (state g first) (state g now) → Stands P now
  stands_first P now holds h = record { same = h.1; given = []; has = h.0; texts = []; said = refl; holds = holds }

  module _ (P : List (List ℕ) → Type 0) (old new : Held S) (s : Stands P old) where
    pub stands_next : (Q : List (List ℕ) → Type 0) (row : Row) (text : List ℕ) → Advances g old new (Some row) → IsUnchanged (state g old) (state g new) → column row 0 ≡ Blob text
        → (P s.texts → Q (s.texts ++ text ∷ [])) → Stands Q new
    stands_next Q row text moved same is more = record {
      same = unchanged_then _ _ _ s.same same;
      given = s.given ++ row ∷ [];
      has = moved select_texts (number_value from ∷ []) s.given s.has;
      texts = s.texts ++ text ∷ [];
      said = map-append Blob s.texts (text ∷ []) ∙ ap₂ ◌++◌ s.said (ap (λ v. v ∷ []) (sym is)) ∙ sym (map-append first_column s.given (row ∷ []));
      holds = more s.holds;
    }

    -- the rows up to this one begin what the query shows
    shows_row : (row : Row) → Advances g old new (Some row) → IsUnchanged (state g old) (state g new) → (rows : Rows) (has : HasRows rows (state g first).now)
        → (tail : List Row) × ((s.given ++ row ∷ []) ++ tail ≡ shown from (state g first).now rows has)
    shows_row row moved same rows has =
        let all = unchanged_then _ _ _ s.same same in
        let given = s.given ++ row ∷ [] in
        given_first from (state g first).now rows has (state g new) given all.0.now_is (given_begin g select_texts (number_value from ∷ []) new given (moved select_texts (number_value from ∷ []) s.given s.has))

    pub row_shows_text : (row : Row) → Advances g old new (Some row) → IsUnchanged (state g old) (state g new) → (rows : Rows) → HasRows rows (state g first).now → IsText row
    row_shows_text row moved same rows has =
        let next = shows_row row moved same rows has in
        given_text from (state g first).now rows has s.given row next.0 next.1

    -- the texts so far and this one are the first
    pub text_is_next : (row : Row) (text : List ℕ) → Advances g old new (Some row) → IsUnchanged (state g old) (state g new) → column row 0 ≡ Blob text → (rows : Rows) → HasRows rows (state g first).now
        → (later : List (List ℕ)) × AreTextsAfter from stored (s.texts ++ text ∷ later)
    text_is_next row text moved same is rows has =
        let next = shows_row row moved same rows has in
        first_texts from (state g first).now rows has s.texts s.given s.said row text next.0 is next.1

    -- the texts so far are all
    pub texts_are_all : Advances g old new None → (rows : Rows) → HasRows rows (state g first).now → AreTextsAfter from stored s.texts
    texts_are_all moved rows has =
        let whole = given_all from (state g first).now rows has (state g old) (state g new) s.given s.same.0.now_is (moved select_texts (number_value from ∷ []) s.given s.has) in
        whole_texts from (state g first).now rows has s.texts s.given s.said whole
