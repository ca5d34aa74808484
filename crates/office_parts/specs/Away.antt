-- The lists that were put away, the archives with which they were, and what is known of both after some events.
use Rattle.std.specs.{Prelude.{◌≡◌, ℕ, ◌<◌, Bool, true, List, [], ◌∷◌, IsPermutation, Option, None, Some}, List.AllByRecursion, Option.option_or}
use Rattle.box6346.specs.declared.box_number.BoxNumber.{BoxNumber}
use Rattle.edi_messages.specs.Purposes.{CallContent}
use Rattle.partner_core.specs.Deliveries.{run}
use Rattle.terminal_core.specs.{declared.lines.LineState.TheVariants.Done, declared.lines.Side.Side, State.{Lines, line_key}, Versions.newest}
use Rattle.office_admission.specs.{Deliveries.deliveries_of, Setups.SetupContent}
use Rattle.office_history.specs.{After.machine_after, Cascade.text_in}
use Rattle.office_parts.specs.{Archives.Archive, Bringing.lines_of, Done.IsDoneLine, Naming.{AreHere, interchange_lists}, OwnLists.{ListName, list_name}}
use Rattle.office_replies.specs.Events.{Event}
use Rattle.office_rows.specs.Rows.{ListingContent, Rows}

-- the lines of a list as they were put away last, if they ever were
abbrev pub lines_away : List Archive → ListName → Option (List ListingContent)
lines_away [] list = None
lines_away (archive ∷ archives) list = option_or (lines_away archives list) (archive.lists list)

-- these lines of the list were put away, in some order, and each is done
pub record ArePutAway (archives : List Archive) (list : ListName) (lines : List ListingContent) : Type 0 where
  pub kept : List ListingContent
  pub are : lines_away archives list ≡ Some kept
  pub same : IsPermutation lines kept
  pub done : AllByRecursion (λ (line : ListingContent). line.state ≡ Done) lines

-- a line of the list is done
pub record HasDoneLine (list : ListName) (lines : Lines) : Type 0 where
  pub call : CallContent
  pub side : Side
  pub container : BoxNumber
  pub is_its : list_name call side ≡ list
  pub is_done : IsDoneLine lines (line_key call side container)

-- the lists that a text of the partner names after those events
abbrev pub lists_after : SetupContent → List Event → (partner : ℕ) → (text : List ℕ) → List ListName
lists_after content es partner text =
    interchange_lists newest (machine_after content es).codes (machine_after content es).kinds partner text

-- Of the rows that a store has of its own, with all its lists, these lists are away. What was put away of each is what the rows
-- have of it. Of a list that was ever put away a line is done, so it is away, or has a line in the store. No text that
-- waits names one that is away.
pub record AreAway (archives : List Archive) (away : ListName → Bool) (content : SetupContent) (es : List Event)
    (own : Rows) : Type 0 where
  pub kept : (list : ListName) → away list ≡ true → ArePutAway archives list (lines_of list own)
  pub done : (list : ListName) (kept : List ListingContent) → lines_away archives list ≡ Some kept
      → HasDoneLine list (machine_after content es).terminal.lines
  pub waits : (partner number : ℕ) (text : List ℕ) → run (deliveries_of content es) partner < number
      → text_in own partner number ≡ Some text → AreHere away (lists_after content es partner text)
