-- What the texts mean that make the tables.
use Rattle.std.{specs.{Ordering.{is_eq, match_ordering}, List.list_any, List.Sorted.IsPermutation}, proofs.{lemmas.Cmp.tied_itself, lemmas.List.take_more}}
use Rattle.std.proofs.Common.{◌≡◌, ℤ, inl, inr, List, [], ◌∷◌, ◌++◌, map, filter, Bool, true, false, not, ◌||◌, cond, Ordering, Less, Equal, Greater, refl, sym, ap, ◌∙◌, true≢false, ◌⊎◌, IsTrue, Result, Ok, Err, OnOk, IfOk, subst, ℕ, slice_get, Some, None, Contains, arith, codes, zero, suc, ◌+◌, take, length, add-zero}
use Rattle.std.proofs.{lemmas.Bool.{and_parts, or_parts, not-true, cases_Bool}, lemmas.Option.{slice_get_within, get_or_from_slice_get}}
use Rattle.std.proofs.lemmas.List.Sorted.{IsPermutation-refl, IsPermutation-sym, IsPermutation-trans, IsPermutation-cons, IsPermutation-middle, IsPermutation-append, IsPermutation-append_right, list_any-IsPermutation, Contains-permutation, length_permutation}
use Rattle.sqlite_value.{specs.{declared.value.Value.TheVariants.Int, Order.{Row, value_cmp}}, proofs.OrderLemmas.value_cmp_total}
use Rattle.sqlite_trees.{specs.{Tree.{rowid, has_rowid, put_row, without_rowid}, View.IsShaped}, proofs.TreeLemmas.{IsTable-put_row, all-put_row}}
use Rattle.sqlite_trees.proofs.ListLemmas.{filter_all, filter_same, all_of, ascending-filter, all-filter}
use Rattle.sqlite_rules.{specs.{Lists.Has, Edit.{id_in, put_all, without_all, is_taken, are_fresh, have_rowids}}, proofs.TableLemmas.int_is}
use Rattle.sqlite_rules.proofs.{ListLemmas.{all_has, all_from, some_has, some_from, has_filtered, has_kept, has_contained, contains_had}, PlaceLemmas.tied_same}
use Rattle.sqlite.specs.State.{State, Shows, IsUnchanged, IsRolledBack, KeepsCommit, Survives}
use Rattle.sqlite.specs.Effect.{Database}
use Rattle.sqlite.specs.Listing.{understood}
use Rattle.sqlite.specs.Command.TheVariants.{CreateTable}
use Rattle.sqlite.{specs.Compile.table_defined_by, proofs.{StateLemmas.survives_then, Callers.{IsPlain, command_of, statement_of}}}
use Rattle.office_rows.specs.Stored.{HasRows, StoresRows}
use Rattle.office_rows.specs.Rows.{Rows}
use Rattle.office_rows.specs.Steps.{Steps, Turns}
use Rattle.office_rows.specs.Tables.{partner_table, interchange_table, visit_table, place_table, listing_table, setting_table, block_table, no_schema, schema_of}
use Rattle.office_rows.specs.Opening.{partners_from, setting_row, settings_named}
use Rattle.sqlite_tied.specs.Compute.{everything}
use Rattle.edi_messages.specs.declared.codes.PartnerKind.{PartnerKind}
use Rattle.sqlite_trees.specs.declared.store.Shape.TheVariants as shape

-- ==== EditLemmas: What one edit does to the rows of a table, in any order.

-- ---- rows that are put in

put_fresh : (new : Row) (rows : List Row) → is_taken rows new ≡ false → IsPermutation (new ∷ rows) (put_row new rows)
put_fresh new [] free = IsPermutation-refl (new ∷ [])
put_fresh new (r ∷ rows) free = go (value_cmp (rowid r) (rowid new)) (or_parts _ _ free).0 (put_fresh new rows (or_parts _ _ free).1)
  where
    go : (o : Ordering) → is_eq o ≡ false → IsPermutation (new ∷ rows) (put_row new rows) → IsPermutation (new ∷ r ∷ rows) (match_ordering o (r ∷ put_row new rows) (new ∷ rows) (new ∷ r ∷ rows))
    go Less other more = IsPermutation-trans _ _ _ (IsPermutation-sym _ _ (IsPermutation-middle (r ∷ []) new rows)) (IsPermutation-cons r _ _ more)
    go Equal other more = absurd (true≢false other)
    go Greater other more = IsPermutation-refl _

pub put_all_fresh : (news rows : List Row) → are_fresh rows news ≡ true → IsPermutation (news ++ rows) (put_all rows news)
put_all_fresh [] rows fresh = IsPermutation-refl rows
put_all_fresh (n ∷ news) rows fresh =
    let parts = and_parts _ _ fresh in
    IsPermutation-trans _ _ _ (IsPermutation-sym _ _ (IsPermutation-middle news n rows))
    (IsPermutation-trans _ _ _ (IsPermutation-append_right news _ _ (put_fresh n rows (not-true _ parts.0))) (put_all_fresh news (put_row n rows) parts.1))

pub put_all_shaped : (news rows : List Row) → have_rowids news ≡ true → IsShaped shape.Table rows → IsShaped shape.Table (put_all rows news)
put_all_shaped [] rows keyed shaped = shaped
put_all_shaped (n ∷ news) rows keyed shaped =
    let parts = and_parts _ _ keyed in
    put_all_shaped news (put_row n rows) parts.1 (IsTable-put_row n rows shaped.0, all-put_row _ n rows parts.0 shaped.1)

-- ---- rows that are taken out

abbrev id_of : Row → ℤ
id_of r = id_in (rowid r)

abbrev has_one : List ℤ → Row → Bool
has_one ids r = list_any (λ id. has_rowid id r) ids

without_one : (id : ℤ) (ids : List ℤ) (rows : List Row) → filter (λ r. not (has_one ids r)) (without_rowid id rows) ≡ filter (λ r. not (has_one (id ∷ ids) r)) rows
without_one id ids [] = refl
without_one id ids (r ∷ rows) = elim (cases_Bool (has_rowid id r)) [
  | inl here ↦ rw (here, without_one id ids rows)
  | inr other ↦ rw (other, without_one id ids rows)
]

pub without_all_is : (ids : List ℤ) (rows : List Row) → without_all rows ids ≡ filter (λ r. not (has_one ids r)) rows
without_all_is [] rows = sym (filter_all _ rows (all_of _ (λ x. refl) rows))
without_all_is (id ∷ ids) rows = without_all_is ids (without_rowid id rows) ∙ without_one id ids rows

pub without_all_shaped : (ids : List ℤ) (rows : List Row) → IsShaped shape.Table rows → IsShaped shape.Table (without_all rows ids)
without_all_shaped ids rows shaped = rw (without_all_is ids rows) (ascending-filter _ _ rows shaped.0, all-filter _ _ rows shaped.1)

-- a row has one of the ids of the rows that pass a test exactly where it passes itself
module _ (p : Row → Bool) (rows : List Row) (shaped : IsShaped shape.Table rows) where
  keyed : (r : Row) → Has rows r → rowid r ≡ Int (id_of r)
  keyed r h = int_is (rowid r) (all_has _ rows r shaped.1 h)

  any_of_map : (q : ℤ → Bool) (xs : List Row) → list_any q (map id_of xs) ≡ list_any (λ s. q (id_of s)) xs
  any_of_map q [] = refl
  any_of_map q (x ∷ xs) = ap (λ b. q (id_of x) || b) (any_of_map q xs)

  taken_if : (r : Row) → Has rows r → p r ≡ true → list_any (λ s. has_rowid (id_of s) r) (filter p rows) ≡ true
  taken_if r h passes = some_from _ (filter p rows) r (has_kept p rows r h passes) (rw (keyed r h) (ap is_eq (tied_itself value_cmp_total (Int (id_of r)))))

  taken_only : (r : Row) → Has rows r → list_any (λ s. has_rowid (id_of s) r) (filter p rows) ≡ true → p r ≡ true
  taken_only r h taken =
      let s = some_has _ (filter p rows) taken in
      let there = has_filtered p rows s.0 s.1 in
      let tie : value_cmp (rowid r) (rowid s.0) ≡ Equal = rw (keyed s.0 there.0) (equal_is _ s.2) in
      rw (tied_same rows r s.0 shaped.0 h there.0 tie) there.1
    where
      equal_is : (o : Ordering) → is_eq o ≡ true → o ≡ Equal
      equal_is Less e = absurd cc
      equal_is Equal e = refl
      equal_is Greater e = absurd cc

  taken_is : (ids : List ℤ) → IsPermutation (map id_of (filter p rows)) ids → (r : Row) → Has rows r → has_one ids r ≡ p r
  taken_is ids same r h =
      let there : has_one ids r ≡ list_any (λ s. has_rowid (id_of s) r) (filter p rows) =
      sym (list_any-IsPermutation (λ id. has_rowid id r) _ _ same) ∙ any_of_map (λ id. has_rowid id r) (filter p rows) in
      there ∙ elim (cases_Bool (p r)) [
        | inl passes ↦ rw passes (taken_if r h passes)
        | inr fails ↦ rw fails (elim (cases_Bool (list_any (λ s. has_rowid (id_of s) r) (filter p rows))) [ inl found ↦ absurd (let e = taken_only r h found in cc) | inr none ↦ none ])
      ]

  -- DELETE leaves the rows that do not pass
  pub deleted : (ids : List ℤ) → IsPermutation (map id_of (filter p rows)) ids → without_all rows ids ≡ filter (λ r. not (p r)) rows
  deleted ids same = without_all_is ids rows ∙ filter_same _ _ rows (all_from _ rows (λ r h. ap not (taken_is ids same r h)))

  -- UPDATE changes the rows that pass
  changes : (up : Row → Row) (xs : List Row) → IsPermutation (map (λ r. cond (p r) (up r) r) xs) (map up (filter p xs) ++ filter (λ r. not (p r)) xs)
  changes up [] = IsPermutation-refl []
  changes up (x ∷ xs) = elim (cases_Bool (p x)) [
    | inl passes ↦ rw passes (IsPermutation-cons (up x) _ _ (changes up xs))
    | inr fails ↦ rw fails (IsPermutation-trans _ _ _ (IsPermutation-cons x _ _ (changes up xs)) (IsPermutation-sym _ _ (IsPermutation-middle (map up (filter p xs)) x (filter (λ r. not (p r)) xs))))
  ]

  pub updated : (up : Row → Row) (ids : List ℤ) (news : List Row) → IsPermutation (map id_of (filter p rows)) ids → IsPermutation (map up (filter p rows)) news
      → are_fresh (without_all rows ids) news ≡ true → IsPermutation (map (λ r. cond (p r) (up r) r) rows) (put_all (without_all rows ids) news)
  updated up ids news same ups fresh =
      IsPermutation-trans _ _ _ (changes up rows)
      (IsPermutation-trans _ _ _ (IsPermutation-append _ _ _ _ ups (rw (deleted ids same) (IsPermutation-refl _))) (put_all_fresh news (without_all rows ids) fresh))

-- ==== StepLemmas: Calls in a transaction, one after the other.

-- the trees of a database that has the rows store them
pub stores : (rows : Rows) (db : Database) → HasRows rows db → StoresRows rows db.trees
stores rows db has = record { schema = refl; lists = has.lists; rows_are = has.rows_are }

-- a statement that was made inside goes on
pub steps_on : (change : Rows → Rows) (old new : State) → Shows old new new.now old.committed true → ((rows : Rows) → HasRows rows old.now → HasRows (change rows) new.now) → Steps change old new
steps_on change old new shows rows = record { rows = rows; inside = shows.mode; committed = shows.committed_is; is_open = shows.is_open }

-- where nothing is done the rows stay
pub steps_here : (change : Rows → Rows) (now : State) → IsTrue now.in_transaction → IsTrue now.is_open → ((rows : Rows) → change rows ≡ rows) → Steps change now now
steps_here change now inside is_open same = record { rows = λ rows has. rw same has; inside = inside; committed = refl; is_open = is_open }

pub steps_same : (f g : Rows → Rows) (a b : State) → ((rows : Rows) → f rows ≡ g rows) → Steps f a b → Steps g a b
steps_same f g a b same p = record { rows = λ rows has. subst (λ r. HasRows r b.now) (same rows) (p.rows rows has); inside = p.inside; committed = p.committed; is_open = p.is_open }

pub steps_then : (f g : Rows → Rows) (a b c : State) → Steps f a b → Steps g b c → Steps (λ rows. g (f rows)) a c
steps_then f g a b c p q = record { rows = λ rows has. q.rows (f rows) (p.rows rows has); inside = q.inside; committed = q.committed ∙ p.committed; is_open = q.is_open }

pub stops_keep : (old new : State) → IsUnchanged old new ⊎ IsRolledBack old new → KeepsCommit old new
stops_keep old new (inl same) = record { was_open = λ _. same.0.was_open; committed = λ _. same.0.committed_is }
stops_keep old new (inr undone) = record { was_open = undone.was_open; committed = λ open_now. (undone.undone open_now).1 }

pub keep_then : (a b c : State) → KeepsCommit a b → KeepsCommit b c → KeepsCommit a c
keep_then a b c p q = record { was_open = λ h. p.was_open (q.was_open h); committed = λ h. q.committed h ∙ p.committed (q.was_open h) }

pub on_ok : {X E : Type 0} {P Q : Type 0} (r : Result X E) → (P → Q) → OnOk r P → OnOk r Q
on_ok (Ok x) f h = f h
on_ok (Err e) f h = h

pub quiet_then : (a b c : State) → Survives a b (λ _. ⊥) → Survives b c (λ _. ⊥) → Survives a c (λ _. ⊥)
quiet_then a b c = survives_then a b c _ _ (λ _. ⊥) (λ _ db none. none) (λ _ db none. none)

pub if_ok : {X E : Type 0} {P Q : X → Type 0} (r : Result X E) → ((x : X) → P x → Q x) → IfOk r P → IfOk r Q
if_ok (Ok x) f h = f x h
if_ok (Err e) f h = h

-- ---- a database that becomes another

pub turns_on : (P Q : Database → Type 0) (old new : State) → Shows old new new.now old.committed true → (P old.now → Q new.now) → Turns P Q old new
turns_on P Q old new shows turn = record { now = turn; inside = shows.mode; committed = shows.committed_is; is_open = shows.is_open }

pub turns_then : (P Q R : Database → Type 0) (a b c : State) → Turns P Q a b → Turns Q R b c → Turns P R a c
turns_then P Q R a b c p q = record { now = λ h. q.now (p.now h); inside = q.inside; committed = q.committed ∙ p.committed; is_open = q.is_open }

pub steps_turn : (P : Database → Type 0) (rows : Rows) (change : Rows → Rows) (a b c : State) → Turns P (HasRows rows) a b → Steps change b c → Turns P (HasRows (change rows)) a c
steps_turn P rows change a b c p q = record { now = λ h. q.rows rows (p.now h); inside = q.inside; committed = q.committed ∙ p.committed; is_open = q.is_open }

-- ==== ReadLemmas: From the rows of an answer to the records.

pub has_mapped : {A B : Type 0} (f : A → B) (xs : List A) (y : B) → Has (map f xs) y → (x : A) × Has xs x × (y ≡ f x)
has_mapped f [] y h = absurd h
has_mapped f (x ∷ xs) y (inl same) = (x, inl refl, same)
has_mapped f (x ∷ xs) y (inr later) = let r = has_mapped f xs y later in (r.0, inr r.1, r.2)

pub none_first : {A B : Type 0} (f : A → B) (xs : List A) (ys : List B) → IsPermutation (map f xs) ys → slice_get ys 0 ≡ None → xs ≡ []
none_first f [] ys same none = refl
none_first f (x ∷ xs) [] same none = absurd (let e = length_permutation _ _ same in omega (arith, e))
none_first f (x ∷ xs) (y ∷ ys) same none = absurd cc

pub some_first : {A B : Type 0} (f : A → B) (xs : List A) (ys : List B) (y : B) → IsPermutation (map f xs) ys → slice_get ys 0 ≡ Some y → (x : A) × Contains xs x × (y ≡ f x)
some_first f xs [] y same some = absurd cc
some_first f xs (z ∷ ys) y same some =
    let is : y ≡ z = cc in
    let there = has_contained _ y (Contains-permutation _ _ y (IsPermutation-sym _ _ same) (contains_had (z ∷ ys) y (inl is))) in
    let r = has_mapped f xs y there in
    (r.0, contains_had xs r.0 r.1, r.2)

-- ==== Creating: What the texts mean that make the tables.

abbrev pub create_partner : List ℕ
create_partner = codes "CREATE TABLE partner (id INTEGER PRIMARY KEY, code TEXT NOT NULL UNIQUE, kind INTEGER NOT NULL, next INTEGER NOT NULL) STRICT"

pub create_partner_is : (command_of (understood no_schema create_partner) ≡ CreateTable) × (statement_of create_partner (understood no_schema create_partner) ≡ create_partner)
unfolding understood everything
create_partner_is = (refl, refl)

pub create_partner_plain : IsPlain (understood no_schema create_partner)
unfolding understood everything
create_partner_plain = (refl, refl)

pub partner_defined : table_defined_by create_partner ≡ Ok (record partner_table { tree = 0 })
unfolding understood everything
partner_defined = refl

abbrev pub create_interchange : List ℕ
create_interchange = codes "CREATE TABLE interchange (partner INTEGER NOT NULL REFERENCES partner(id), number INTEGER NOT NULL, body BLOB NOT NULL, reply TEXT NOT NULL, PRIMARY KEY(partner, number)) STRICT"

pub create_interchange_is : (command_of (understood (schema_of (partner_table ∷ [])) create_interchange) ≡ CreateTable) × (statement_of create_interchange (understood (schema_of (partner_table ∷ [])) create_interchange) ≡ create_interchange)
unfolding understood everything
create_interchange_is = (refl, refl)

pub create_interchange_plain : IsPlain (understood (schema_of (partner_table ∷ [])) create_interchange)
unfolding understood everything
create_interchange_plain = (refl, refl)

pub interchange_defined : table_defined_by create_interchange ≡ Ok (record interchange_table { tree = 0 })
unfolding understood everything
interchange_defined = refl

abbrev pub create_visit : List ℕ
create_visit = codes "CREATE TABLE visit (visit INTEGER PRIMARY KEY, box TEXT NOT NULL, size TEXT NOT NULL, laden INTEGER NOT NULL, booking TEXT NOT NULL, in_by INTEGER NOT NULL, in_partner INTEGER NOT NULL, in_number INTEGER NOT NULL, in_at TEXT NOT NULL, in_slot TEXT NOT NULL, out_by INTEGER NOT NULL, out_partner INTEGER NOT NULL, out_number INTEGER NOT NULL, out_at TEXT NOT NULL, kilos INTEGER NOT NULL) STRICT"

pub create_visit_is : (command_of (understood (schema_of (partner_table ∷ interchange_table ∷ [])) create_visit) ≡ CreateTable) × (statement_of create_visit (understood (schema_of (partner_table ∷ interchange_table ∷ [])) create_visit) ≡ create_visit)
unfolding understood everything
create_visit_is = (refl, refl)

pub create_visit_plain : IsPlain (understood (schema_of (partner_table ∷ interchange_table ∷ [])) create_visit)
unfolding understood everything
create_visit_plain = (refl, refl)

pub visit_defined : table_defined_by create_visit ≡ Ok (record visit_table { tree = 0 })
unfolding understood everything
visit_defined = refl

abbrev pub create_place : List ℕ
create_place = codes "CREATE TABLE place (box TEXT PRIMARY KEY, visit INTEGER NOT NULL UNIQUE REFERENCES visit(visit), slot TEXT NOT NULL UNIQUE) STRICT"

pub create_place_is : (command_of (understood (schema_of (partner_table ∷ interchange_table ∷ visit_table ∷ [])) create_place) ≡ CreateTable) × (statement_of create_place (understood (schema_of (partner_table ∷ interchange_table ∷ visit_table ∷ [])) create_place) ≡ create_place)
unfolding understood everything
create_place_is = (refl, refl)

pub create_place_plain : IsPlain (understood (schema_of (partner_table ∷ interchange_table ∷ visit_table ∷ [])) create_place)
unfolding understood everything
create_place_plain = (refl, refl)

pub place_defined : table_defined_by create_place ≡ Ok (record place_table { tree = 0 })
unfolding understood everything
place_defined = refl

abbrev pub create_listed : List ℕ
create_listed = codes "CREATE TABLE listed (vessel TEXT NOT NULL, voyage TEXT NOT NULL, side INTEGER NOT NULL, box TEXT NOT NULL, port TEXT NOT NULL, done INTEGER NOT NULL, PRIMARY KEY(vessel, voyage, side, box)) STRICT"

pub create_listed_is : (command_of (understood (schema_of (partner_table ∷ interchange_table ∷ visit_table ∷ place_table ∷ [])) create_listed) ≡ CreateTable) × (statement_of create_listed (understood (schema_of (partner_table ∷ interchange_table ∷ visit_table ∷ place_table ∷ [])) create_listed) ≡ create_listed)
unfolding understood everything
create_listed_is = (refl, refl)

pub create_listed_plain : IsPlain (understood (schema_of (partner_table ∷ interchange_table ∷ visit_table ∷ place_table ∷ [])) create_listed)
unfolding understood everything
create_listed_plain = (refl, refl)

pub listed_defined : table_defined_by create_listed ≡ Ok (record listing_table { tree = 0 })
unfolding understood everything
listed_defined = refl

abbrev pub create_setting : List ℕ
create_setting = codes "CREATE TABLE setting (name TEXT PRIMARY KEY, value TEXT NOT NULL) STRICT"

pub create_setting_is : (command_of (understood (schema_of (partner_table ∷ interchange_table ∷ visit_table ∷ place_table ∷ listing_table ∷ [])) create_setting) ≡ CreateTable) × (statement_of create_setting (understood (schema_of (partner_table ∷ interchange_table ∷ visit_table ∷ place_table ∷ listing_table ∷ [])) create_setting) ≡ create_setting)
unfolding understood everything
create_setting_is = (refl, refl)

pub create_setting_plain : IsPlain (understood (schema_of (partner_table ∷ interchange_table ∷ visit_table ∷ place_table ∷ listing_table ∷ [])) create_setting)
unfolding understood everything
create_setting_plain = (refl, refl)

pub setting_defined : table_defined_by create_setting ≡ Ok (record setting_table { tree = 0 })
unfolding understood everything
setting_defined = refl

abbrev pub create_block : List ℕ
create_block = codes "CREATE TABLE block (letter TEXT PRIMARY KEY, bays INTEGER NOT NULL, lanes INTEGER NOT NULL, tiers INTEGER NOT NULL) STRICT"

pub create_block_is : (command_of (understood (schema_of (partner_table ∷ interchange_table ∷ visit_table ∷ place_table ∷ listing_table ∷ setting_table ∷ [])) create_block) ≡ CreateTable) × (statement_of create_block (understood (schema_of (partner_table ∷ interchange_table ∷ visit_table ∷ place_table ∷ listing_table ∷ setting_table ∷ [])) create_block) ≡ create_block)
unfolding understood everything
create_block_is = (refl, refl)

pub create_block_plain : IsPlain (understood (schema_of (partner_table ∷ interchange_table ∷ visit_table ∷ place_table ∷ listing_table ∷ setting_table ∷ [])) create_block)
unfolding understood everything
create_block_plain = (refl, refl)

pub block_defined : table_defined_by create_block ≡ Ok (record block_table { tree = 0 })
unfolding understood everything
block_defined = refl

-- ==== OpeningLemmas: The rows of a set-up, one after the other.

pub take_at : {X : Type 0} (xs : List X) (i : ℕ) (x : X) → slice_get xs i ≡ Some x → take (i + 1) xs ≡ take i xs ++ x ∷ []
take_at xs i x h = take_more xs i x (slice_get_within xs i x h) ∙ ap (λ y. take i xs ++ y ∷ []) (get_or_from_slice_get xs i x x h)

pub setting_at : (names values : List (List ℕ)) (i : ℕ) (n v : List ℕ) → slice_get names i ≡ Some n → slice_get values i ≡ Some v → slice_get (settings_named names values) i ≡ Some (setting_row n v)
setting_at [] values i n v named valued = absurd cc
setting_at (name ∷ names) [] i n v named valued = absurd cc
setting_at (name ∷ names) (value ∷ values) zero n v named valued = let a : name ≡ n = cc in let b : value ≡ v = cc in cc
setting_at (name ∷ names) (value ∷ values) (suc i) n v named valued = setting_at names values i n v named valued

pub partners_then : (id : ℕ) (accounts : List (List ℕ × PartnerKind)) (account : List ℕ × PartnerKind)
    → partners_from id (accounts ++ account ∷ []) ≡ partners_from id accounts ++ (record { id = id + length accounts; code = account.0; kind = account.1; next = 1 }) ∷ []
partners_then id [] account = rw add-zero refl
partners_then id (a ∷ accounts) account =
    let same : id + 1 + length accounts ≡ id + suc (length accounts) = omega arith in
    ap (λ l. (record { id = id; code = a.0; kind = a.1; next = 1 }) ∷ l) (rw same at (partners_then (id + 1) accounts account))
