-- How many archives were not asked, in JSON.
use Rattle.std.specs.{Prelude.{ℕ, zero, suc, List, ◌++◌, codes, decimal, Option, None, Some}, Option.option_map}
use Rattle.serde_json.specs.Data.{Data, Members, member, no_members, number, object, unsigned}

-- what a report tells: an object of a first member and others
pub record ToldContent : Type 0 where
  pub key : List ℕ
  pub value : Data
  pub others : Members

abbrev pub members_of : ToldContent → Members
members_of told = member told.key told.value told.others

abbrev pub told_data : ToldContent → Data
told_data told = object (members_of told)

-- these members after how many archives were not asked
abbrev pub archives_data : (count : ℕ) → Members → Data
archives_data count members = object (member (codes "archives") (number (unsigned count)) members)

-- what is told, with how many archives were not asked as its first member, if there are any; if nothing is told, only that
abbrev pub with_archives : (count : ℕ) → Option ToldContent → Option Data
with_archives zero told = option_map told_data told
with_archives (suc n) None = Some (archives_data (suc n) no_members)
with_archives (suc n) (Some told) = Some (archives_data (suc n) (members_of told))

-- what stands before the other members
unfoldable pub archives_front : (count : ℕ) → List ℕ
archives_front count = codes "{\"archives\":" ++ decimal count
