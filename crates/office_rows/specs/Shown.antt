-- What a query of all rows of a table shows.
use Rattle.std.specs.{Prelude.{◌≡◌, ℕ, List, map, IsSorted}, List.Sorted.IsPermutation, Ordering.{on, nat_cmp}}
use Rattle.sqlite.specs.{Collation.TheVariants.Binary, Order.{Row, column}, Table.Table, Effect.Database, Query.key_cmp}
use Rattle.sqlite_value.specs.Keys.{ascending}
use Rattle.office_rows.specs.{Rows.{Partner, Rows}, Stored.columns_of}

-- these columns of a row
abbrev pub columns_at : List ℕ → Row → Row
columns_at places row = map (λ place. column row place) places

-- each row of the table shows these columns, by the columns of its key from the least up
pub record ShowsTable (table : Table) (shown key : List ℕ) (db : Database) (answer : List Row) : Type 0 where
  pub by_key : List Row
  pub same : IsPermutation (map (columns_of table) (db.trees table.tree)) by_key
  pub ordered : IsSorted (on (columns_at key) (key_cmp 0 (map (λ _. ascending Binary) key))) by_key
  pub is : answer ≡ map (columns_at shown) by_key

-- the partners' next numbers, in the order of the ids
abbrev pub AreNexts : Rows → List ℕ → Type 0
AreNexts rows nexts =
    (by_id : List Partner) × IsPermutation rows.partners by_id × IsSorted nat_cmp (map (λ (p : Partner). p.id) by_id)
    × (nexts ≡ map (λ (p : Partner). p.next) by_id)
