-- The forms of what messages order.
use Rattle.std.specs.Prelude.{◌≡◌, ℕ, ◌≤◌, Bool, ◌||◌, ◌==◌, List, [], length, Ok, IsTrue, All}
use Rattle.box6346.specs.{NumberText.is_number, SizeText.is_size, declared.box_number.BoxNumber.BoxNumber}
use Rattle.edi_syntax.specs.{Moments.{CivilMoment, is_moment}, Messages.Message}
use Rattle.edi_messages.specs.{Message.{LineContent, ordered, refused, MessageContent, reading}, Purposes.CallContent, Texts.is_name}
use Rattle.edi_messages.specs.Orders.{EntryContent, OrderContent, gate_in, gate_out, move, list_discharge, list_load, discharge, load}
use Rattle.edi_messages.specs.declared.codes.Codes.{Codes}

-- empty, or a name: 1 to 35 bytes from space to tilde
abbrev pub is_name_if_any : List ℕ → Bool
is_name_if_any text = length text == 0 || is_name text

-- ---- orders

pub record IsFormedCall (call : CallContent) : Type 0 where
  pub vessel : IsTrue (is_name call.vessel)
  pub voyage : IsTrue (is_name call.voyage)

pub record IsFormedEntry (entry : EntryContent) : Type 0 where
  pub container : IsTrue (is_number entry.number)
  pub size_type : IsTrue (is_size entry.size_type)
  pub booking : IsTrue (is_name_if_any entry.booking)
  pub moment : IsTrue (is_moment entry.moment)
  pub kilos : entry.kilos ≤ 999999

pub record IsFormedListing (call : CallContent) (container : BoxNumber) (port : List ℕ) : Type 0 where
  pub call_formed : IsFormedCall call
  pub container_formed : IsTrue (is_number container)
  pub port_formed : IsTrue (is_name_if_any port)

-- what an order brings with it has its form
abbrev pub IsFormedOrder : OrderContent → Type 0
IsFormedOrder (gate_in entry) = IsFormedEntry entry
IsFormedOrder (gate_out container moment) = IsTrue (is_moment moment)
IsFormedOrder (move container slot) = Unit {0}
IsFormedOrder (list_discharge call container) = IsFormedListing call container []
IsFormedOrder (list_load call container port) = IsFormedListing call container port
IsFormedOrder (discharge call entry) = IsFormedEntry entry
IsFormedOrder (load call container moment) = IsTrue (is_moment moment)

-- ---- messages

-- the line's order, if it gives one, has its form
abbrev pub OrdersWell : LineContent → Type 0
OrdersWell (ordered order) = IsFormedOrder order
OrdersWell (refused fault number) = Unit {0}

-- what a message is read as gives orders that have their form, in an interchange of a moment of the calendar
abbrev pub OrdersAreFormed : Type 0
OrdersAreFormed =
    (codes : Codes) (opened : CivilMoment) (message : Message) (content : MessageContent) → IsTrue (is_moment opened) →
    reading codes opened message ≡ Ok content
    → All OrdersWell content.lines
