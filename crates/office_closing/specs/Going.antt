-- Which lists of a store may be put away: those of which every line is done, and which no text that waits names.
use Rattle.std.specs.{Prelude.{◌≡◌, ◌≢◌, ℕ, ◌<◌, List, [], ◌∷◌, map, filter, Contains, IsPermutation, Some}, List.AllByRecursion}
use Rattle.edi_messages.specs.declared.codes.PartnerKind.{PartnerKind}
use Rattle.terminal_core.specs.{Versions.newest, declared.lines.LineState.TheVariants.Done}
use Rattle.office_rows.specs.Rows.{ListingContent, Partner, Rows}
use Rattle.office_admission.specs.Setups.{SetupContent}
use Rattle.office_history.specs.Cascade.{text_in}
use Rattle.office_closing.specs.{Texts.{IsTextOf, lines_text}, Lists.SettledListContent}
use Rattle.office_parts.specs.{Bringing.is_of, Naming.interchange_lists, OwnLists.{ListName, list_name}}

-- ---- texts that wait

-- the text waits: it is kept under a number of an account beyond its next one
pub record IsWaiting (rows : Rows) (partner number : ℕ) (text : List ℕ) : Type 0 where
  pub account : Partner
  pub has : Contains rows.partners account
  pub is_its : account.id ≡ partner
  pub beyond : account.next < number
  pub kept : text_in rows partner number ≡ Some text

-- the lists that a text of the partner names, by a set-up's codes and its partners' kinds
abbrev pub lists_in : SetupContent → (partner : ℕ) → (text : List ℕ) → List ListName
lists_in content partner text =
    interchange_lists newest content.codes (map (λ (account : List ℕ × PartnerKind). account.1) content.partners) partner
    text

-- a text that waits names the list
pub record IsWaitedFor (content : SetupContent) (rows : Rows) (list : ListName) : Type 0 where
  pub partner : ℕ
  pub number : ℕ
  pub text : List ℕ
  pub waits : IsWaiting rows partner number text
  pub names : Contains (lists_in content partner text) list

-- ---- lists that are done

-- the lines of the list, of these
abbrev pub lines_on : ListName → List ListingContent → List ListingContent
lines_on list lines = filter (is_of list) lines

-- the list has a line, and each of its lines is done
pub record IsDone (lines : List ListingContent) (list : ListName) : Type 0 where
  pub some : lines_on list lines ≢ []
  pub done : AllByRecursion (λ (line : ListingContent). line.state ≡ Done) (lines_on list lines)

-- the list may be put away: it is done, and no text that waits names it
pub record MayGo (content : SetupContent) (rows : Rows) (list : ListName) : Type 0 where
  pub done : IsDone rows.lines list
  pub free : ¬ IsWaitedFor content rows list

-- ---- what is found

abbrev pub name_of : SettledListContent → ListName
name_of list = list_name list.call list.side

-- one of these lists has that name
pub record IsAmong (found : List SettledListContent) (list : ListName) : Type 0 where
  pub one : SettledListContent
  pub has : Contains found one
  pub named : name_of one ≡ list

-- no two of them have one name
abbrev pub AreNamedOnce : List SettledListContent → Type 0
AreNamedOnce [] = Unit {0}
AreNamedOnce (one ∷ found) = (¬ IsAmong found (name_of one)) × AreNamedOnce found

-- Of these lines, the lists that are done and not among those named, each with the text of its lines as they stand, as put
-- away with that archive.
pub record AreDone (lines : List ListingContent) (named : List ListName) (archive : ℕ) (found : List SettledListContent)
    : Type 0 where
  pub done : (one : SettledListContent) → Contains found one → IsDone lines (name_of one)
  pub unnamed : (one : SettledListContent) → Contains found one → ¬ Contains named (name_of one)
  pub text : (one : SettledListContent) → Contains found one → one.lines ≡ lines_text (lines_on (name_of one) lines)
  pub archive_is : (one : SettledListContent) → Contains found one → one.archive ≡ archive
  pub all : (list : ListName) → IsDone lines list → ¬ Contains named list → IsAmong found list
  pub once : AreNamedOnce found

-- ---- what goes

-- the list may be put away, and the text is that of its lines, in some order
pub record GoesAs (content : SetupContent) (rows : Rows) (one : SettledListContent) : Type 0 where
  pub may : MayGo content rows (name_of one)
  pub kept : List ListingContent
  pub is_text : IsTextOf one.call one.side one.lines kept
  pub same : IsPermutation (lines_on (name_of one) rows.lines) kept
