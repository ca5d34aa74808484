-- What the definitions of the picture mean together.
use Rattle.std.specs.Prelude.{◌≡◌, ℕ, Bool, List, map}
use Rattle.box6346.specs.declared.slot.Slot.{Slot}
use Rattle.yard_core.specs.declared.plan.Block.{Block}
use Rattle.terminal_core.specs.State.{TerminalState}
use Rattle.office_reports.specs.{declared.yard.Standing.Standing, Fields.field_text, Markup.{Place, Between, place_after_all, tags, Shows}}
use Rattle.office_reports.specs.Picture.{IsPicture, page_text}

-- two pictures of one yard are one page
abbrev pub PicturesAreOne : Type 0
PicturesAreOne = (state : TerminalState) (name : List ℕ) (blocks : List Block) (one other : List ℕ) →
    IsPicture state name blocks one → IsPicture state name blocks other → one ≡ other

-- a field is written as a text that shows its bytes, one by one
abbrev pub FieldsAreShown : Type 0
FieldsAreShown = (bytes : List ℕ) → Shows (field_text bytes) bytes

-- wherever a field stands, what follows stands there too: the field begins no tag, and ends no tag and no value
abbrev pub FieldsStayInPlace : Type 0
FieldsStayInPlace = (place : Place) (bytes : List ℕ) → place_after_all place (field_text bytes) ≡ place

-- where containers stand, and which are full: all of them but their numbers and size-types
abbrev pub drawn_containers : List Standing → List (Slot × Bool)
drawn_containers standings = map (λ standing. (standing.slot, standing.is_laden)) standings

-- whatever the terminal's name, the numbers and the size-types are, the page has the same tags, with the same values,
-- in the same order
abbrev pub FieldsBringNoMarkup : Type 0
FieldsBringNoMarkup = (name other : List ℕ) (blocks : List Block) (ones others : List Standing) →
    drawn_containers ones ≡ drawn_containers others → tags Between (page_text name blocks ones) ≡ tags Between (page_text other blocks others)
