-- How a list of rows is JSON: a front, the rows one at a time, and a back.
use Rattle.std.specs.Prelude.{ℕ, List, ◌++◌, codes, map}
use Rattle.json.specs.Print.{quoted}
use Rattle.serde_json.specs.{Data.{Data, array, object, member, no_members}, View.items_of}

abbrev pub rows_data : {X : Type 0} → (X → Data) → List X → Data
rows_data row rows = array (items_of (map row rows))

-- an object of rows, and of nothing else
abbrev pub rows_object : {X : Type 0} → (X → Data) → List X → Data
rows_object row rows = object (member (codes "rows") (rows_data row rows) no_members)

-- ---- what stands before rows, and after them

unfoldable pub rows_front : List ℕ
rows_front = codes "{\"rows\":["

unfoldable pub object_back : List ℕ
object_back = codes "}"

-- the list that an object of rows is of
unfoldable pub list_back : (side vessel voyage : List ℕ) → List ℕ
list_back side vessel voyage =
    codes ",\"side\":" ++ quoted side ++ codes ",\"vessel\":" ++ quoted vessel ++ codes ",\"voyage\":" ++ quoted voyage
    ++ codes "}"
