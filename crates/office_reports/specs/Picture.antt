-- The picture of the yard: a page of HTML (our own).
use Rattle.std.specs.{Prelude.{◌≡◌, ℕ, List, [], ◌∷◌, ◌++◌, not, length, filter, codes, decimal}, List.flat_map, Map.values_of}
use Rattle.yard_core.specs.declared.plan.Block.{Block}
use Rattle.terminal_core.specs.State.{TerminalState}
use Rattle.office_reports.specs.{declared.yard.Standing.Standing, Listed.AreListed, Yard.StandsAt, Fields.{field_text, joined_pieces}}
use Rattle.office_reports.specs.{Fixed.{head, shapes, legend}, Views.{block_view, index}}

-- the terminal's name, and how many containers there are, full and empty
unfoldable pub page_head : List ℕ → List Standing → List ℕ
page_head name standings = joined_pieces
    (head ∷ codes "<title>Yard of " ∷ field_text name ∷ codes "</title>\n" ∷ shapes ∷ codes "<h1>Yard of "
    ∷ field_text name ∷ codes "</h1>\n<p><b>" ∷ decimal (length standings) ∷ codes "</b> containers: <b>"
    ∷ decimal (length (filter (λ standing. standing.is_laden) standings)) ∷ codes "</b> full, <b>"
    ∷ decimal (length (filter (λ standing. not standing.is_laden) standings)) ∷ codes "</b> empty</p>\n" ∷ [])

-- the page of a terminal's name, its blocks, and the containers in them: an index, the legend, and the blocks
abbrev pub page_text : List ℕ → List Block → List Standing → List ℕ
page_text name blocks standings =
    page_head name standings ++ index blocks ++ legend ++ flat_map (block_view standings) blocks
    ++ codes "</main>\n</body>\n</html>\n"

-- the page shows the containers in the yard, by the texts of their slots
pub record IsPicture (state : TerminalState) (name : List ℕ) (blocks : List Block) (page : List ℕ) : Type 0 where
  pub yard : List (List ℕ × Standing)
  pub listed : AreListed (StandsAt state) yard
  pub is : page ≡ page_text name blocks (values_of yard)
