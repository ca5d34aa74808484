-- Where a terminal keeps what it looks up: what the code relies on, and no caller has to read.
use Rattle.std.specs.{Prelude.{◌≡◌, ℕ, ◌<◌, List, Option, None, Some, true, is_none, find, reverse, slice_get, if◌then◌else◌, refl}, Map.lookup, Str.bytes_eq}
use Rattle.std.specs.{Coded.{Coded, code_by, coded×, coded_list, coded_ℕ}, Option.option_map}
use Rattle.box6346.specs.declared.box_number.BoxNumber.{BoxNumber}
use Rattle.terminal_core.specs.{Rows.VisitContent, State.{is_open_visit, is_visit_of}, Codes.visit_code}

-- each container's open visit is found by the index of its row
abbrev pub AreIndexed : List VisitContent → List (BoxNumber × ℕ) → Type 0
AreIndexed visits open_indexes =
    (container : BoxNumber) (row_index : ℕ) (visit : VisitContent) → slice_get visits row_index ≡ Some visit →
    is_open_visit container visit ≡ true
    → lookup (bytes_eq container) open_indexes ≡ Some row_index

-- each container's last visit is found by the index of its row, and a container that never came has no index
abbrev pub AreLastIndexed : List VisitContent → List (BoxNumber × ℕ) → Type 0
AreLastIndexed visits last_indexes =
    (container : BoxNumber) →
    option_map (slice_get visits) (lookup (bytes_eq container) last_indexes)
    ≡ option_map Some (find (is_visit_of container) (reverse visits))

-- the open and the last visits are found by their indexes
pub record AreFound (visits : List VisitContent) (open_indexes last_indexes : List (BoxNumber × ℕ)) : Type 0 where
  pub open_ones : AreIndexed visits open_indexes
  pub last_ones : AreLastIndexed visits last_indexes

-- the visits, and how many more there is room for: among them, among the indexes of those that are open, and among
-- those of the containers' last ones
pub record VisitBook : Type 0 where
  pub visits : List VisitContent
  pub spare_visits : ℕ
  pub spare_open_indexes : ℕ
  pub spare_last_indexes : ℕ

-- one visit more needs no memory
pub record HasRoom (book : VisitBook) : Type 0 where
  pub for_visit : 0 < book.spare_visits
  pub for_open_index : 0 < book.spare_open_indexes
  pub for_last_index : 0 < book.spare_last_indexes

abbrev pub book_code : Coded VisitBook
book_code =
    code_by (List VisitContent × (ℕ × (ℕ × ℕ)))
    (coded× (coded_list visit_code) (coded× coded_ℕ (coded× coded_ℕ coded_ℕ)))
    (λ b. (b.visits, (b.spare_visits, (b.spare_open_indexes, b.spare_last_indexes))))
    (λ p. record {
      visits = p.0;
      spare_visits = p.1.0;
      spare_open_indexes = p.1.1.0;
      spare_last_indexes = p.1.1.1;
    })
    (λ _. refl)

-- the visit, if it is open
abbrev pub if_open : VisitContent → Option VisitContent
if_open visit = if is_none visit.departure then Some visit else None
