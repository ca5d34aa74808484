-- A row that a statement inserts has a key of its own.
use Rattle.std.{specs.{List.list_any, Ordering.{is_eq, is_ne}}, proofs.lemmas.Bool.{cases_Bool, and_parts, and_from, not-true, both_ways}}
use Rattle.std.proofs.Common.{◌≡◌, List, [], ◌∷◌, Bool, true, false, inl, inr, Ordering, Less, Equal, Greater, refl, sym}
use Rattle.sqlite_value.specs.{declared.value.Value.Value, declared.value.Value.TheVariants.{Null, Int, Real, Text, Blob}, Order.{Row, value_cmp}}
use Rattle.sqlite_trees.specs.{Tree.{Trees, rowid}, View.{IsShaped, is_int}}
use Rattle.sqlite_sql.specs.Ops.{binary, is_null}
use Rattle.sqlite_schema.specs.{declared.schema.Constraint.TheVariants.Unique, declared.schema.Keys.TheVariants.Enforced, declared.schema.Index.Index}
use Rattle.sqlite_schema.specs.{declared.schema.Table.Table, declared.schema.Schema.Schema, Rules.{agree, differ, clashes, guards, passes}}
use Rattle.sqlite_rules.specs.{Lists.Has, Cast.cast_row, declared.error.Rowids.TheVariants.Chosen, Edit.{with_rowid, is_taken, edit_of, Applies}}
use Rattle.sqlite_rules.proofs.{ListLemmas.{all_has, test_has, some_has, some_from}, RuleLemmas.keeps_at, TableLemmas.{put_all_keeps, put_all_adds}}
use Rattle.sqlite_trees.specs.declared.store.Shape.TheVariants as shape

never_null : (v : Value) → is_int v ≡ true → is_null v ≡ false
never_null Null h = sym h
never_null (Int n) h = refl
never_null (Real x) h = refl
never_null (Text t) h = refl
never_null (Blob b) h = refl

unequal : (o : Ordering) → is_eq o ≡ false → is_ne o ≡ true
unequal Less h = refl
unequal Equal h = sym h
unequal Greater h = refl

-- two rowids that are not equal differ
differ_ints : (v w : Value) → is_int v ≡ true → is_int w ≡ true → is_eq (value_cmp v w) ≡ false → differ v w ≡ true
unfolding binary
differ_ints v w p q other = rw (never_null v p, never_null w q, unequal (value_cmp v w) other) refl

none_has : {X : Type 0} (p : X → Bool) (xs : List X) (x : X) → list_any p xs ≡ false → Has xs x → p x ≡ false
none_has p xs x none there = elim (cases_Bool (p x)) [ inl is ↦ absurd (both_ways _ none (some_from p xs x there is)) | inr not_so ↦ not_so ]

module _ (schema : Schema) (table : Table) (index : Index) (old new : Trees) (source : Row) (listed : Has schema.tables table) (known : Has schema.indexes index) (on : guards index table ≡ true)
    (shaped : IsShaped shape.Table (old table.tree)) (applies : Applies schema Enforced old (edit_of old table [] Chosen 0 (source ∷ [])) new) where
  abbrev stored : List Row
  stored = old table.tree

  abbrev row : Row
  row = with_rowid Chosen stored (cast_row table source)

  abbrev shares : Row → Bool
  shares r = agree index.order index.columns r index.columns row

  there : Has (new table.tree) row
  there = rw applies.rows (put_all_adds (row ∷ []) stored row applies.fresh (inl refl))

  -- no row that was there has the key of the new one
  pub new_key : list_any shares stored ≡ false
  new_key = elim (cases_Bool (list_any shares stored)) [
    | inl some ↦ absurd (
        let r = some_has shares stored some in
        let kept : Has (new table.tree) r.0 = rw applies.rows (put_all_keeps (row ∷ []) stored r.0 applies.fresh r.1) in
        let free : is_taken stored row ≡ false = not-true _ (and_parts _ _ applies.fresh).0 in
        let apart : is_eq (value_cmp (rowid r.0) (rowid row)) ≡ false = none_has _ stored r.0 free r.1 in
        let other = differ_ints (rowid r.0) (rowid row) (all_has _ stored r.0 shaped.1 r.1) (and_parts _ _ applies.keyed).0 apart in
        let clash : clashes index.order index.columns (new table.tree) row ≡ true = some_from _ (new table.tree) r.0 kept (and_from _ _ r.2 other) in
        let passed : passes Unique schema new table row ≡ true = keeps_at Unique schema new table row (applies.fits.rules Unique (λ e. cc)) listed there in
        both_ways _ (not-true _ (test_has _ schema.indexes index passed known)) (and_from _ _ on clash))
    | inr none ↦ none
  ]
