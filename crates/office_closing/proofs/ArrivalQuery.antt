-- The query of the texts in the order of arrival: what it means, and what its rows say of the texts of a store and of an archive.
use Rattle.std.specs.List.{AllByRecursion}
use Rattle.std.specs.Prelude.{◌↔◌}
use Rattle.std.proofs.lemmas.List.{map-append}
use Rattle.std.proofs.lemmas.List.Elements.{filter-append}
use Rattle.std.proofs.Common.{◌≡◌, ◌⊎◌, inl, inr, ℕ, ◌+◌, ◌<◌, false, true, Bool, cond, List, [], ◌∷◌, ◌++◌, map, filter, codes, refl, sym, ap, subst, ◌∙◌}
use Rattle.partner_core.specs.Deliveries.{Delivery}
use Rattle.sqlite_value.specs.{declared.value.Value.Value, declared.value.Value.TheVariants.{Blob, Int, Null, Real, Text}, Keys.ascending}
use Rattle.sqlite_value.specs.declared.keys.Key.{Key}
use Rattle.sqlite.specs.{Order.{Row, column}, Tree.{Trees, IsTable}, Collation.TheVariants.Binary, Term.{Term, col}, Query.{Query, Output, IsAnswer}}
use Rattle.sqlite.specs.{Program.overlay, Effect.{Database, ReadsFirst}, Command.Command, Command.TheVariants.Select, Given.HasGiven, Held.state}
use Rattle.sqlite.specs.{Listing.{understood, reads_listing}, State.{State, Begins, Shown, IsUnchanged}}
use Rattle.sqlite.proofs.Callers.{IsPlain, command_of, begins_as, given_begin, reads_as}
use Rattle.sqlite_tied.specs.Compute.{everything}
use Rattle.sqlite_trees.{specs.declared.store.Store.Ghosts, proofs.ListLemmas.{map-map, filter_all}}
use Rattle.sqlite_resolve.specs.Compile.{first}
use Rattle.office_rows.specs.{Tables.{interchange_table, office_schema}, Rows.{Interchange, Rows}, Values.{interchange_values, number_value}}
use Rattle.office_rows.{specs.Stored.{HasRows, columns_of}, proofs.WriteLemmas.{rows_of, passes, answer_in_order}}
use Rattle.office_tables.{specs.Reading.OnlyShows, proofs.WritesLemmas.{is_read, understands_query}}
use Rattle.office_loading.proofs.RowLemmas.{keyed, in_order}
use Rattle.office_parts.specs.{Closing.is_beyond, InOrder.as_delivery}
use Rattle.office_closing.specs.Arriving.{AreApart, AreFirstShown, AreSameShown, HasAll, HasFirst, IsAnother, IsTold, StandInOrder, TellsTexts, arrival_in, arrivals_in, number_in, select_arrivals, shows_beyond}
use Rattle.office_closing.specs.{Copies.AreFirst, declared.arriving.Likeness.Likeness}
use Rattle.sqlite.specs.Held as connection
use Rattle.office_closing.specs.declared.arriving.Likeness.TheVariants as likeness

-- ---- the query

abbrev arrivals_shown : List Term
arrivals_shown = col 1 3 ∷ col 1 1 ∷ col 1 2 ∷ []

abbrev arrivals_order : List (Term × Key)
arrivals_order = (col 1 0, ascending Binary) ∷ []

abbrev arrivals_query : Query
arrivals_query = record (rows_of 2 [] arrivals_shown) { order = arrivals_order }

abbrev arrivals_command : Command
arrivals_command = Select (record { lets = []; body = arrivals_query }) (codes "body" ∷ codes "partner" ∷ codes "number" ∷ [])

arrivals_is : (command_of (understood office_schema select_arrivals) ≡ arrivals_command) × (reads_listing office_schema select_arrivals ≡ false)
unfolding understood everything
arrivals_is = (refl, refl)

arrivals_plain : IsPlain (understood office_schema select_arrivals)
unfolding understood everything
arrivals_plain = (refl, refl)

arrivals_read : is_read (first select_arrivals) ≡ true
unfolding everything
arrivals_read = refl

pub only_shows : OnlyShows select_arrivals
only_shows schema c is = understands_query schema select_arrivals c arrivals_read is

-- what it shows of a row
abbrev shown_of : Row → Row
shown_of r = column r 3 ∷ column r 1 ∷ column r 2 ∷ []

all_pass : (rows : List Row) → AllByRecursion (λ r. passes [] [] r ≡ true) rows
all_pass [] = tt
all_pass (r ∷ rows) = (refl, all_pass rows)

arrivals_found : (trees : Trees) → IsTable (trees 2) → (answer : List Row) → IsAnswer arrivals_query (overlay trees []) [] answer → answer ≡ map shown_of (trees 2)
arrivals_found trees up answer a =
    let given = answer_in_order [] [] 2 arrivals_shown arrivals_order trees answer refl a in
    let all : filter (passes [] []) (trees 2) ≡ trees 2 = filter_all (passes [] []) (trees 2) (all_pass (trees 2)) in
    let one = in_order shown_of (filter (passes [] []) (trees 2)) a.ordered (rw all up) given.0 given.1 in
    given.2 ∙ ap (map (λ (o : Output). o.1)) (sym one) ∙ map-map (λ (o : Output). o.1) (keyed shown_of) (filter (passes [] []) (trees 2)) ∙ ap (map shown_of) all

module _ (rows : Rows) (old : State) (has : HasRows rows old.now) where
  -- it shows all rows
  all_found : (new : State) (answer : List Row) → Shown select_arrivals [] old new answer → answer ≡ map shown_of (old.now.trees 2)
  all_found new answer h =
      let read = reads_as select_arrivals [] old new office_schema has.schema arrivals_command arrivals_is.0 arrivals_plain arrivals_is.1 answer h in
      arrivals_found old.now.trees has.rows_are.interchanges.shaped.0 answer (read.answer Null)

  -- what it has given so far begins them
  first_found : (now : State) (given : List Row) → now.now ≡ old.now → Begins select_arrivals [] now given → (tail : List Row) × (given ++ tail ≡ map shown_of (old.now.trees 2))
  first_found now given same begins =
      let schema : now.now.schema ≡ office_schema = ap (λ (d : Database). d.schema) same ∙ has.schema in
      let read = begins_as select_arrivals [] now now office_schema schema arrivals_command arrivals_is.0 arrivals_plain arrivals_is.1 given begins in
      let answer = subst (λ (d : Database). ReadsFirst arrivals_command d [] given) same read in
      (answer.1.0, arrivals_found old.now.trees has.rows_are.interchanges.shaped.0 (given ++ answer.1.0) (answer.1.1 Null))

-- ---- what the rows say

-- what a row shows of an interchange
abbrev row_of : Interchange → Row
row_of i = Blob i.body ∷ number_value i.partner ∷ number_value i.number ∷ []

abbrev row_or : List Row → Row
row_or [] = []
row_or (x ∷ l) = x

abbrev rest_of : {X : Type 0} → List X → List X
rest_of [] = []
rest_of (x ∷ l) = l

shown_row : (r : Row) (i : Interchange) → interchange_values i ≡ columns_of interchange_table r → shown_of r ≡ row_of i
shown_row r i same = λ k. ap (λ (c : Row). column c 2) (sym same) k ∷ ap (λ (c : Row). column c 0) (sym same) k ∷ ap (λ (c : Row). column c 1) (sym same) k ∷ []

module _ (last_closed : ℕ → ℕ) where
  beyond_rows : (interchanges : List Interchange) (stored : List Row) → StandInOrder interchanges stored → arrivals_in last_closed (map shown_of stored) ≡ map row_of (filter (is_beyond last_closed) interchanges)
  beyond_rows [] [] same = refl
  beyond_rows [] (r ∷ stored) same = absurd cc
  beyond_rows (i ∷ interchanges) [] same = absurd cc
  beyond_rows (i ∷ interchanges) (r ∷ stored) same =
      let here : interchange_values i ≡ columns_of interchange_table r = ap row_or same in
      let rest : map interchange_values interchanges ≡ map (columns_of interchange_table) stored = ap rest_of same in
      ap (λ (l : Row). arrivals_in last_closed (l ∷ map shown_of stored)) (shown_row r i here) ∙ by (is_beyond last_closed i) refl (beyond_rows interchanges stored rest)
    where
      by : (b : Bool) → is_beyond last_closed i ≡ b → arrivals_in last_closed (map shown_of stored) ≡ map row_of (filter (is_beyond last_closed) interchanges)
          → arrivals_in last_closed (row_of i ∷ map shown_of stored) ≡ map row_of (filter (is_beyond last_closed) (i ∷ interchanges))
      by true e more = ap (λ b. map arrival_in (cond b (row_of i ∷ filter (shows_beyond last_closed) (map shown_of stored)) (filter (shows_beyond last_closed) (map shown_of stored)))) e
          ∙ ap (λ l. row_of i ∷ l) more
          ∙ sym (ap (λ b. map row_of (cond b (i ∷ filter (is_beyond last_closed) interchanges) (filter (is_beyond last_closed) interchanges))) e)
      by false e more = ap (λ b. map arrival_in (cond b (row_of i ∷ filter (shows_beyond last_closed) (map shown_of stored)) (filter (shows_beyond last_closed) (map shown_of stored)))) e
          ∙ more
          ∙ sym (ap (λ b. map row_of (cond b (i ∷ filter (is_beyond last_closed) interchanges) (filter (is_beyond last_closed) interchanges))) e)

  front_rows : (given tail : List Row) → arrivals_in last_closed (given ++ tail) ≡ arrivals_in last_closed given ++ arrivals_in last_closed tail
  front_rows given tail = ap (map arrival_in) (filter-append (shows_beyond last_closed) given tail) ∙ map-append arrival_in (filter (shows_beyond last_closed) given) (filter (shows_beyond last_closed) tail)

-- ---- first ones

abbrev bytes_in : Value → List ℕ
bytes_in Null = []
bytes_in (Int n) = []
bytes_in (Real x) = []
bytes_in (Text t) = []
bytes_in (Blob b) = b

-- a row back as the delivery that it shows
abbrev delivery_in : Row → Delivery
delivery_in row = record { partner = number_in (column row 1); number = number_in (column row 2); text = bytes_in (column row 0) }

abbrev row_from : Delivery → Row
row_from d = Blob d.text ∷ number_value d.partner ∷ number_value d.number ∷ []

back_deliveries : (xs : List Interchange) → map delivery_in (map row_of xs) ≡ map as_delivery xs
back_deliveries [] = refl
back_deliveries (x ∷ xs) = ap (λ l. as_delivery x ∷ l) (back_deliveries xs)

back_rows : (xs : List Interchange) → map row_from (map as_delivery xs) ≡ map row_of xs
back_rows [] = refl
back_rows (x ∷ xs) = ap (λ l. row_of x ∷ l) (back_rows xs)

same_said : (xs ys : List Interchange) → map row_of xs ≡ map row_of ys → map as_delivery xs ≡ map as_delivery ys
same_said xs ys e = sym (back_deliveries xs) ∙ ap (map delivery_in) e ∙ back_deliveries ys

said_same : (xs ys : List Interchange) → map as_delivery xs ≡ map as_delivery ys → map row_of xs ≡ map row_of ys
said_same xs ys e = sym (back_rows xs) ∙ ap (map row_from) e ∙ back_rows ys

first_said : (xs ys : List Interchange) → AreFirst (map row_of xs) (map row_of ys) → AreFirst (map as_delivery xs) (map as_delivery ys)
first_said xs ys first =
    (map delivery_in first.0, sym (back_deliveries ys) ∙ ap (map delivery_in) first.1 ∙ map-append delivery_in (map row_of xs) first.0 ∙ ap (λ l. l ++ map delivery_in first.0) (back_deliveries xs))

said_first : (xs ys : List Interchange) → AreFirst (map as_delivery xs) (map as_delivery ys) → AreFirst (map row_of xs) (map row_of ys)
said_first xs ys first =
    (map row_from first.0, sym (back_rows ys) ∙ ap (map row_from) first.1 ∙ map-append row_from (map as_delivery xs) first.0 ∙ ap (λ l. l ++ map row_from first.0) (back_rows xs))

-- after the same rows the rest is the same
after_same : (before xs ys : List Row) → before ++ xs ≡ before ++ ys → xs ≡ ys
after_same [] xs ys e = e
after_same (x ∷ before) xs ys e = after_same before xs ys (ap rest_of e)

append_all : (xs ys zs : List Row) → (xs ++ ys) ++ zs ≡ xs ++ (ys ++ zs)
append_all [] ys zs = refl
append_all (x ∷ xs) ys zs = ap (λ l. x ∷ l) (append_all xs ys zs)

append_none : (xs : List Row) → xs ++ [] ≡ xs
append_none [] = refl
append_none (x ∷ xs) = ap (λ l. x ∷ l) (append_none xs)

-- after the same rows one has another than the other, or none
apart_none : (before tail rest : List Row) (one : Row) → before ≡ ((before ++ one ∷ []) ++ tail) ++ rest → ⊥
apart_none before tail rest one e =
    let at : [] ≡ one ∷ (tail ++ rest) = after_same before [] (one ∷ (tail ++ rest))
    (append_none before ∙ e ∙ ap (λ l. l ++ rest) (append_all before (one ∷ []) tail) ∙ append_all before (one ∷ tail) rest) in
    absurd cc

apart_other : (before tail tail' rest : List Row) (one other : Row) → (before ++ other ∷ []) ++ tail' ≡ ((before ++ one ∷ []) ++ tail) ++ rest → other ≡ one
apart_other before tail tail' rest one other e =
    let at : other ∷ tail' ≡ one ∷ (tail ++ rest) = after_same before (other ∷ tail') (one ∷ (tail ++ rest))
    (sym (append_all before (other ∷ []) tail') ∙ e ∙ ap (λ l. l ++ rest) (append_all before (one ∷ []) tail) ∙ append_all before (one ∷ tail) rest) in
    ap row_or at

-- ---- store and archive

module _ {S A : Type 0} (g : Ghosts S) (h : Ghosts A) (last_closed : ℕ → ℕ) (own0 own own' : connection.Held S) (copy0 copy copy' : connection.Held A)
    (own_same : IsUnchanged (state g own0) (state g own)) (copy_same : IsUnchanged (state h copy0) (state h copy)) (own_now : (state g own').now ≡ (state g own0).now) (copy_now : (state h copy').now ≡ (state h copy0).now)
    (rows rows' : Rows) (has : HasRows rows (state g own0).now) (has' : HasRows rows' (state h copy0).now)
    (order : StandInOrder rows.interchanges ((state g own0).now.trees 2)) (order' : StandInOrder rows'.interchanges ((state h copy0).now.trees 2)) where
  abbrev own_rows : List Row
  own_rows = map row_of (filter (is_beyond last_closed) rows.interchanges)

  abbrev copy_rows : List Row
  copy_rows = map row_of (filter (is_beyond last_closed) rows'.interchanges)

  own_given : (given : List Row) → HasGiven g select_arrivals [] own' given → AreFirst (arrivals_in last_closed given) own_rows
  own_given given is =
      let found = first_found rows (state g own0) has (state g own') given own_now (given_begin g select_arrivals [] own' given is) in
      (arrivals_in last_closed found.0, sym (beyond_rows last_closed rows.interchanges ((state g own0).now.trees 2) order) ∙ ap (arrivals_in last_closed) (sym found.1) ∙ front_rows last_closed given found.0)

  copy_given : (given : List Row) → HasGiven h select_arrivals [] copy' given → AreFirst (arrivals_in last_closed given) copy_rows
  copy_given given is =
      let found = first_found rows' (state h copy0) has' (state h copy') given copy_now (given_begin h select_arrivals [] copy' given is) in
      (arrivals_in last_closed found.0, sym (beyond_rows last_closed rows'.interchanges ((state h copy0).now.trees 2) order') ∙ ap (arrivals_in last_closed) (sym found.1) ∙ front_rows last_closed given found.0)

  own_has : HasRows rows (state g own).now
  own_has = subst (HasRows rows) (sym own_same.0.now_is) has

  copy_has : HasRows rows' (state h copy).now
  copy_has = subst (HasRows rows') (sym copy_same.0.now_is) has'

  own_all : (all : List Row) → Shown select_arrivals [] (state g own) (state g own') all → arrivals_in last_closed all ≡ own_rows
  own_all all shown =
      ap (arrivals_in last_closed) (all_found rows (state g own) own_has (state g own') all shown ∙ ap (λ (d : Database). map shown_of (d.trees 2)) own_same.0.now_is)
      ∙ beyond_rows last_closed rows.interchanges ((state g own0).now.trees 2) order

  copy_all : (all : List Row) → Shown select_arrivals [] (state h copy) (state h copy') all → arrivals_in last_closed all ≡ copy_rows
  copy_all all shown =
      ap (arrivals_in last_closed) (all_found rows' (state h copy) copy_has (state h copy') all shown ∙ ap (λ (d : Database). map shown_of (d.trees 2)) copy_same.0.now_is)
      ∙ beyond_rows last_closed rows'.interchanges ((state h copy0).now.trees 2) order'

  are_same : AreSameShown g h last_closed select_arrivals own own' copy copy' → HasAll last_closed rows rows'
  are_same told =
      same_said (filter (is_beyond last_closed) rows'.interchanges) (filter (is_beyond last_closed) rows.interchanges)
      (sym (copy_all told.copied told.copied_shown) ∙ told.same ∙ own_all told.all told.shown)

  -- the store's are the archive's, and then another one
  one_more : (told : AreFirstShown g h last_closed select_arrivals own own' copy copy') → (rest : List Row) × (own_rows ≡ copy_rows ++ told.one ∷ rest)
  one_more told =
      let front = own_given told.given told.has in
      (front.0, front.1 ∙ ap (λ l. l ++ front.0) told.shows ∙ append_all (arrivals_in last_closed told.copied) (told.one ∷ []) front.0 ∙ ap (λ l. l ++ told.one ∷ front.0) (copy_all told.copied told.copied_shown))

  are_first : AreFirstShown g h last_closed select_arrivals own own' copy copy' → HasFirst last_closed rows rows' × ¬ HasAll last_closed rows rows'
  are_first told =
      let more = one_more told in (
        first_said (filter (is_beyond last_closed) rows'.interchanges) (filter (is_beyond last_closed) rows.interchanges) (told.one ∷ more.0, more.1),
        λ all.
            let same : copy_rows ≡ own_rows = said_same (filter (is_beyond last_closed) rows'.interchanges) (filter (is_beyond last_closed) rows.interchanges) all in
            let none : [] ≡ told.one ∷ more.0 = after_same copy_rows [] (told.one ∷ more.0) (append_none copy_rows ∙ same ∙ more.1) in
            absurd cc,
      )

  are_apart : AreApart g h last_closed select_arrivals own own' copy copy' → HasFirst last_closed rows rows' → ⊥
  are_apart told first =
      let is = said_first (filter (is_beyond last_closed) rows'.interchanges) (filter (is_beyond last_closed) rows.interchanges) first in
      let front = copy_given told.given told.has in
      let whole : own_rows ≡ ((told.before ++ told.one ∷ []) ++ front.0) ++ is.0 = is.1 ∙ ap (λ l. l ++ is.0) (front.1 ∙ ap (λ l. l ++ front.0) told.shows) in
      by front.0 is.0 whole told.another
    where
      by : (tail rest : List Row) → own_rows ≡ ((told.before ++ told.one ∷ []) ++ tail) ++ rest → IsAnother g h last_closed select_arrivals own own' copy copy' told.before told.one → ⊥
      by tail rest whole (inl none) = apart_none told.before tail rest told.one (sym none.2 ∙ own_all none.0 none.1 ∙ whole)
      by tail rest whole (inr other) =
          let front = own_given other.0 other.2 in
          other.4 (apart_other told.before tail front.0 rest told.one other.1 (ap (λ l. l ++ front.0) (sym other.3) ∙ sym front.1 ∙ whole))

  pub tells_texts : (told : Likeness) → TellsTexts g h last_closed select_arrivals own own' copy copy' told → IsTold last_closed rows rows' told
  tells_texts likeness.Same are = are_same are
  tells_texts likeness.First are = are_first are
  tells_texts likeness.Other are = are_apart are
