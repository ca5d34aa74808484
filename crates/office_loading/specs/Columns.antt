-- Which columns and rows say what: what the code relies on, and no caller has to read.
use Rattle.std.specs.{Prelude.{◌≡◌, ℕ, ◌+◌, ◌<◌, Bool, false, ◌&&◌, ◌||◌, List, [], ◌∷◌, Option, IsTrue, IsUtf8, codes}, Str.bytes_eq, List.list_any}
use Rattle.box6346.specs.{NumberText.is_number, SizeText.is_size, SlotName.slot_text, declared.slot.Slot.Slot}
use Rattle.edi_syntax.specs.Moments.{CivilMoment, moment_digits}
use Rattle.edi_messages.specs.declared.codes.PartnerKind.{PartnerKind}
use Rattle.sqlite.specs.{declared.types.Value.Value, declared.types.Value.TheVariants.Text, Order.{Row, column}}
use Rattle.terminal_core.specs.{declared.visits.Arrival.Arrival, declared.visits.Departure.Departure, declared.lines.LineState.LineState, Rows.VisitContent}
use Rattle.terminal_core.specs.{declared.lines.Side.Side, declared.change.Source.Source, declared.visits.Way.Way, State.side_code}
use Rattle.terminal_core.specs.declared.change.Version.TheVariants.{First, Second}
use Rattle.yard_core.specs.declared.plan.Block.{Block}
use Rattle.office_rows.specs.{Rows.{Partner, Interchange, PlaceContent, ListingContent, Setting}, Opened.{NumberKept, number_kept, reply_values}}
use Rattle.office_rows.specs.Values.{number_value, kind_code, way_code, laden_code, state_code, out_by, out_partner, out_number, out_at, partner_values, visit_values, place_values, line_values, setting_values, block_values}
use Rattle.office_rows.specs.{Shown.columns_at, Opening.version_text}
use Rattle.office_loading.specs.Fits.{IsSlot, IsMoment, FitsPartner, FitsNumber, FitsSource, FitsArrival, FitsExit, FitsVisit, FitsPlace, FitsLine, FitsSetting, FitsBlock}

-- ---- columns

abbrev pub SaysNumber : ℕ → Value → ℕ → Type 0
SaysNumber limit value n = (value ≡ number_value n) × (n < limit)

abbrev pub SaysBytes : Value → List ℕ → Type 0
SaysBytes value text = value ≡ Text text

abbrev pub SaysText : Value → List ℕ → Type 0
SaysText value text = (value ≡ Text text) × IsUtf8 text

abbrev pub SaysContainer : Value → List ℕ → Type 0
SaysContainer value container = (value ≡ Text container) × IsTrue (is_number container)

abbrev pub SaysSize : Value → List ℕ → Type 0
SaysSize value size_type = (value ≡ Text size_type) × IsTrue (is_size size_type)

abbrev pub SaysSlot : Value → Slot → Type 0
SaysSlot value slot = (value ≡ Text (slot_text slot)) × IsSlot slot

abbrev pub SaysMoment : Value → CivilMoment → Type 0
SaysMoment value moment = (value ≡ Text (moment_digits moment)) × IsMoment moment

abbrev pub SaysKind : Value → PartnerKind → Type 0
SaysKind value kind = value ≡ number_value (kind_code kind)

abbrev pub SaysWay : Value → Way → Type 0
SaysWay value way = value ≡ number_value (way_code way)

abbrev pub SaysLaden : Value → Bool → Type 0
SaysLaden value is_laden = value ≡ number_value (laden_code is_laden)

abbrev pub SaysSide : Value → Side → Type 0
SaysSide value side = value ≡ number_value (side_code side)

abbrev pub SaysState : Value → LineState → Type 0
SaysState value state = value ≡ number_value (state_code state)

abbrev pub SaysLetter : Value → ℕ → Type 0
SaysLetter value letter = value ≡ Text (letter ∷ [])

-- ---- groups of columns

-- the partner in one column, the number in the next
abbrev pub SaysSource : ℕ → Row → Source → Type 0
SaysSource at row source =
    (columns_at (at ∷ (at + 1) ∷ []) row ≡ number_value source.partner ∷ number_value source.number ∷ []) × FitsSource source

abbrev pub arrival_values : Arrival → Row
arrival_values arrival =
    number_value (way_code arrival.way) ∷ number_value arrival.source.partner ∷ number_value arrival.source.number
    ∷ Text (moment_digits arrival.moment) ∷ Text (slot_text arrival.slot) ∷ []

abbrev pub SaysArrival : Row → Arrival → Type 0
SaysArrival row arrival = (columns_at (5 ∷ 6 ∷ 7 ∷ 8 ∷ 9 ∷ []) row ≡ arrival_values arrival) × FitsArrival arrival

abbrev pub exit_values : Option Departure → Row
exit_values departure =
    number_value (out_by departure) ∷ number_value (out_partner departure) ∷ number_value (out_number departure)
    ∷ Text (out_at departure) ∷ []

-- no interchange and no moment
abbrev pub IsOpen : Row → Type 0
IsOpen row = columns_at (11 ∷ 12 ∷ 13 ∷ []) row ≡ number_value 0 ∷ number_value 0 ∷ Text [] ∷ []

abbrev pub SaysExit : Row → Option Departure → Type 0
SaysExit row departure = (columns_at (10 ∷ 11 ∷ 12 ∷ 13 ∷ []) row ≡ exit_values departure) × FitsExit departure

-- ---- rows

abbrev pub SaysPartner : Row → Partner → Type 0
SaysPartner row partner = (columns_at (0 ∷ 1 ∷ 2 ∷ 3 ∷ []) row ≡ partner_values partner) × FitsPartner partner

-- whatever the reply says
abbrev pub SaysNumbered : Row → NumberKept → Type 0
SaysNumbered row n = (i : Interchange) × (columns_at (0 ∷ 1 ∷ 2 ∷ []) row ≡ reply_values i) × (n ≡ number_kept i)
    × FitsNumber n

abbrev pub SaysVisit : Row → VisitContent → Type 0
SaysVisit row visit =
    (columns_at (0 ∷ 1 ∷ 2 ∷ 3 ∷ 4 ∷ 5 ∷ 6 ∷ 7 ∷ 8 ∷ 9 ∷ 10 ∷ 11 ∷ 12 ∷ 13 ∷ 14 ∷ []) row ≡ visit_values visit)
    × FitsVisit visit

abbrev pub SaysPlace : Row → PlaceContent → Type 0
SaysPlace row place = (columns_at (0 ∷ 1 ∷ 2 ∷ []) row ≡ place_values place) × FitsPlace place

abbrev pub SaysLine : Row → ListingContent → Type 0
SaysLine row line = (columns_at (0 ∷ 1 ∷ 2 ∷ 3 ∷ 4 ∷ 5 ∷ []) row ≡ line_values line) × FitsLine line

abbrev pub SaysSetting : Row → Setting → Type 0
SaysSetting row setting = (columns_at (0 ∷ 1 ∷ []) row ≡ setting_values setting) × FitsSetting setting

abbrev pub SaysBlock : Row → Block → Type 0
SaysBlock row block = (columns_at (0 ∷ 1 ∷ 2 ∷ 3 ∷ []) row ≡ block_values block) × FitsBlock block

-- ---- the version

abbrev pub is_text : List ℕ → Value → Bool
is_text text (Text other) = bytes_eq other text
is_text text value = false

-- the setting that names this version
abbrev pub names_version : List ℕ → Row → Bool
names_version text row = is_text (codes "version") (column row 0) && is_text text (column row 1)

-- one of the rows names version 1 or 2
abbrev pub is_older : List Row → Bool
is_older rows =
    list_any (names_version (version_text First)) rows || list_any (names_version (version_text Second)) rows
