-- What is found of one list.
use Rattle.std.specs.{Prelude.{◌≡◌, ℕ, List, Contains}, List.AllByRecursion}
use Rattle.terminal_core.specs.declared.lines.LineState.TheVariants.{Done}
use Rattle.office_rows.specs.Rows.{ListingContent}
use Rattle.office_closing.specs.{Texts.lines_text, Lists.SettledListContent, Going.{lines_on, name_of}}
use Rattle.office_parts.specs.OwnLists.{ListName, list_name}

-- the list that the line is of
abbrev pub list_on : ListingContent → ListName
list_on line = list_name line.call line.side

-- one of these lines is of the list
pub record HasLineOf (lines : List ListingContent) (list : ListName) : Type 0 where
  pub line : ListingContent
  pub has : Contains lines line
  pub is_its : list_on line ≡ list

abbrev pub AreAllDone : List ListingContent → Type 0
AreAllDone lines = AllByRecursion (λ (line : ListingContent). line.state ≡ Done) lines

-- each line of the list is done, and this is their text
pub record TellsDone (lines : List ListingContent) (list : ListName) (text : List ℕ) : Type 0 where
  pub done : AreAllDone (lines_on list lines)
  pub is_text : text ≡ lines_text (lines_on list lines)

-- the list, which is not among those named, with the text of its lines, which are done
pub record IsFoundAs (lines : List ListingContent) (named : List ListName) (archive : ℕ) (list : ListName)
    (one : SettledListContent) : Type 0 where
  pub its : name_of one ≡ list
  pub unnamed : ¬ Contains named list
  pub tells : TellsDone lines list one.lines
  pub archive_is : one.archive ≡ archive
