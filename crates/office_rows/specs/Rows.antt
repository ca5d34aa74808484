-- The rows of the office's tables, as what they say.
use Rattle.std.specs.Prelude.{ℕ, List, [], string_bytes}
use Rattle.box6346.specs.{declared.box_number.BoxNumber.BoxNumber, declared.slot.Slot.Slot}
use Rattle.edi_messages.specs.{declared.codes.PartnerKind.PartnerKind, Purposes.CallContent, Owned.call_content}
use Rattle.yard_core.specs.declared.plan.Block.{Block}
use Rattle.terminal_core.specs.{declared.lines.LineState.LineState, declared.lines.Side.Side, declared.lines.Listing.Listing, Rows.VisitContent}

-- an account, and the number that its partner's next interchange has
pub record Partner : Type 0 where
  pub id : ℕ
  pub code : List ℕ
  pub kind : PartnerKind
  pub next : ℕ

-- an interchange that is kept; its reply is empty while it waits
pub record Interchange : Type 0 where
  pub partner : ℕ
  pub number : ℕ
  pub body : List ℕ
  pub reply : List ℕ

-- where a container stands, and the number of its visit
pub record PlaceContent : Type 0 where
  pub container : BoxNumber
  pub visit : ℕ
  pub slot : Slot

-- a line of a vessel's list
pub record ListingContent : Type 0 where
  pub call : CallContent
  pub side : Side
  pub container : BoxNumber
  pub port : List ℕ
  pub state : LineState

abbrev pub listing_content : Listing → ListingContent
listing_content row =
    record {
      call = call_content row.call;
      side = row.side;
      container = row.container;
      port = string_bytes row.port;
      state = row.state;
    }

pub record Setting : Type 0 where
  pub name : List ℕ
  pub value : List ℕ

-- the rows of the seven tables
pub record Rows : Type 0 where
  pub partners : List Partner
  pub interchanges : List Interchange
  pub visits : List VisitContent
  pub places : List PlaceContent
  pub lines : List ListingContent
  pub settings : List Setting
  pub blocks : List Block

abbrev pub no_rows : Rows
no_rows = record { partners = []; interchanges = []; visits = []; places = []; lines = []; settings = []; blocks = [] }
