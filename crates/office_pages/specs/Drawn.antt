-- The picture of the yard, with a link from each container to its page (our own).
use Rattle.std.specs.{Prelude.{ℕ, ◌==◌, Bool, List, ◌++◌, codes, is_ok, nat_eq, Option, None, Some, if◌then◌else◌}, List.{join_by, slice_split, starts_with}}
use Rattle.std.specs.Str.{bytes_eq}
use Rattle.box6346.specs.ContainerNumber.{number_of as box_of}
use Rattle.office_reports.specs.Fields.{field_text}
use Rattle.office_pages.specs.{Addresses.container_address, Words.{lines, word_at, words}}

-- a container has a line of the picture: <g transform='translate(X -Y)'><title>BOX SIZE FULL SLOT</title>..
abbrev pub draws_container : List ℕ → Bool
draws_container line = starts_with nat_eq line (codes "<g transform='translate(")

-- what stands between `>`
abbrev pub tag_ends : List ℕ → List (List ℕ)
tag_ends line = slice_split (λ b. b == 62) line

-- the first word after the second `>`
abbrev pub titled : List ℕ → List ℕ
titled line = word_at (words (word_at (tag_ends line) 2)) 0

-- a container number, check digit and all
abbrev pub container_link : List ℕ → Option (List ℕ)
container_link word = if is_ok (box_of word) then Some (container_address word) else None

abbrev pub drawn_link : List ℕ → Option (List ℕ)
drawn_link line = if draws_container line then container_link (titled line) else None

-- the line as it is, with a link around it if it draws a container
abbrev pub around : Option (List ℕ) → List ℕ → List ℕ
around None line = line
around (Some address) line = codes "<a href='" ++ field_text address ++ codes "'>" ++ line ++ codes "</a>"

-- a link to the start page, at the top of what is shown
abbrev pub way_back : List ℕ
way_back = codes "<main>\n<nav>\n<a href='/'>Start</a>\n</nav>"

abbrev pub drawn_line : List ℕ → List ℕ
drawn_line line = if bytes_eq line (codes "<main>") then way_back else around (drawn_link line) line

abbrev pub picture_view : List ℕ → List ℕ
picture_view text = join_by drawn_line (codes "\n") (lines text)
