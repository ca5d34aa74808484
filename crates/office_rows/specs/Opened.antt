-- The rows of all tables as the queries of all rows show them.
use Rattle.std.specs.Prelude.{◌≡◌, ℕ, ◌==◌, not, Bool, List, [], ◌∷◌, length, map}
use Rattle.sqlite.specs.{declared.types.Value.TheVariants.Text, Order.Row, Effect.Database}
use Rattle.terminal_core.specs.Rows.{VisitContent}
use Rattle.yard_core.specs.declared.plan.Block.{Block}
use Rattle.office_rows.specs.{Tables.{partner_table, interchange_table, visit_table, place_table, listing_table, setting_table, block_table}, Shown.ShowsTable}
use Rattle.office_rows.specs.Rows.{Partner, Interchange, PlaceContent, ListingContent, Setting}
use Rattle.office_rows.specs.Values.{number_value, partner_values, visit_values, place_values, line_values, setting_values, block_values}

-- an interchange that is kept, without its texts: whether it was taken, so that it has a reply
pub record NumberKept : Type 0 where
  pub partner : ℕ
  pub number : ℕ
  pub is_taken : Bool

abbrev pub number_kept : Interchange → NumberKept
number_kept i = record { partner = i.partner; number = i.number; is_taken = not (length i.reply == 0) }

-- the columns of an interchange without its body
abbrev pub reply_values : Interchange → Row
reply_values i = number_value i.partner ∷ number_value i.number ∷ Text i.reply ∷ []

-- the rows of the seven tables, each by its key from the least up; interchanges without their texts
pub record OpenedRows : Type 0 where
  pub partners : List Partner
  pub numbers : List NumberKept
  pub visits : List VisitContent
  pub places : List PlaceContent
  pub lines : List ListingContent
  pub settings : List Setting
  pub blocks : List Block

-- the interchanges show these, whatever their bodies are
pub record ShowsNumbers (db : Database) (numbers : List NumberKept) : Type 0 where
  pub interchanges : List Interchange
  pub shown : ShowsTable interchange_table (0 ∷ 1 ∷ 3 ∷ []) (0 ∷ 1 ∷ []) db (map reply_values interchanges)
  pub are : numbers ≡ map number_kept interchanges

-- the queries of all rows show these
pub record Shows (db : Database) (rows : OpenedRows) : Type 0 where
  pub partners : ShowsTable partner_table (0 ∷ 1 ∷ 2 ∷ 3 ∷ []) (0 ∷ []) db (map partner_values rows.partners)
  pub numbers : ShowsNumbers db rows.numbers
  pub visits : ShowsTable visit_table (0 ∷ 1 ∷ 2 ∷ 3 ∷ 4 ∷ 5 ∷ 6 ∷ 7 ∷ 8 ∷ 9 ∷ 10 ∷ 11 ∷ 12 ∷ 13 ∷ 14 ∷ []) (0 ∷ []) db
      (map visit_values rows.visits)
  pub places : ShowsTable place_table (0 ∷ 1 ∷ 2 ∷ []) (0 ∷ []) db (map place_values rows.places)
  pub lines : ShowsTable listing_table (0 ∷ 1 ∷ 2 ∷ 3 ∷ 4 ∷ 5 ∷ []) (0 ∷ 1 ∷ 2 ∷ 3 ∷ []) db (map line_values rows.lines)
  pub settings : ShowsTable setting_table (0 ∷ 1 ∷ []) (0 ∷ []) db (map setting_values rows.settings)
  pub blocks : ShowsTable block_table (0 ∷ 1 ∷ 2 ∷ 3 ∷ []) (0 ∷ []) db (map block_values rows.blocks)
