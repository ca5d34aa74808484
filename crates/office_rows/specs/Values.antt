-- The columns of rows: what SQL shows of what they say.
use Rattle.std.specs.Prelude.{ℕ, pos, Bool, true, false, List, [], ◌∷◌, Option, None, Some}
use Rattle.box6346.specs.SlotName.{slot_text}
use Rattle.edi_syntax.specs.Moments.{moment_digits}
use Rattle.edi_messages.specs.{declared.codes.PartnerKind.PartnerKind, declared.codes.PartnerKind.TheVariants.{Gate, Line, Quay, Yard}}
use Rattle.yard_core.specs.declared.plan.Block.{Block}
use Rattle.terminal_core.specs.{declared.visits.Departure.Departure, declared.lines.LineState.LineState, declared.lines.LineState.TheVariants.{Pending, Done}}
use Rattle.terminal_core.specs.{declared.visits.Way.Way, Rows.VisitContent, State.side_code}
use Rattle.sqlite.specs.{declared.types.Value.Value, declared.types.Value.TheVariants.{Int, Text, Blob}, Order.Row}
use Rattle.office_rows.specs.Rows.{Partner, Interchange, PlaceContent, ListingContent, Setting}
use Rattle.terminal_core.specs.declared.visits.Way.TheVariants as way

-- ---- codes

abbrev pub kind_code : PartnerKind → ℕ
kind_code Gate = 1
kind_code Line = 2
kind_code Quay = 3
kind_code Yard = 4

abbrev pub way_code : Way → ℕ
way_code way.Gate = 1
way_code way.Ship = 2

-- 1 full, 0 empty
abbrev pub laden_code : Bool → ℕ
laden_code true = 1
laden_code false = 0

abbrev pub state_code : LineState → ℕ
state_code Pending = 0
state_code Done = 1

-- ---- the exit of a visit, which an open one has not

abbrev pub out_by : Option Departure → ℕ
out_by None = 0
out_by (Some departure) = way_code departure.way

abbrev pub out_partner : Option Departure → ℕ
out_partner None = 0
out_partner (Some departure) = departure.source.partner

abbrev pub out_number : Option Departure → ℕ
out_number None = 0
out_number (Some departure) = departure.source.number

abbrev pub out_at : Option Departure → List ℕ
out_at None = []
out_at (Some departure) = moment_digits departure.moment

-- ---- rows, in the order of the columns

abbrev pub number_value : ℕ → Value
number_value n = Int (pos n)

abbrev pub partner_values : Partner → Row
partner_values p = number_value p.id ∷ Text p.code ∷ number_value (kind_code p.kind) ∷ number_value p.next ∷ []

abbrev pub interchange_values : Interchange → Row
interchange_values i = number_value i.partner ∷ number_value i.number ∷ Blob i.body ∷ Text i.reply ∷ []

abbrev pub visit_values : VisitContent → Row
visit_values v =
    number_value v.number ∷ Text v.container ∷ Text v.size_type ∷ number_value (laden_code v.is_laden) ∷ Text v.booking
    ∷ number_value (way_code v.arrival.way) ∷ number_value v.arrival.source.partner ∷ number_value v.arrival.source.number
    ∷ Text (moment_digits v.arrival.moment) ∷ Text (slot_text v.arrival.slot)
    ∷ number_value (out_by v.departure) ∷ number_value (out_partner v.departure) ∷ number_value (out_number v.departure)
    ∷ Text (out_at v.departure) ∷ number_value v.kilos ∷ []

abbrev pub place_values : PlaceContent → Row
place_values p = Text p.container ∷ number_value p.visit ∷ Text (slot_text p.slot) ∷ []

abbrev pub line_values : ListingContent → Row
line_values l = Text l.call.vessel ∷ Text l.call.voyage ∷ number_value (side_code l.side) ∷ Text l.container ∷ Text l.port
    ∷ number_value (state_code l.state) ∷ []

abbrev pub setting_values : Setting → Row
setting_values s = Text s.name ∷ Text s.value ∷ []

abbrev pub block_values : Block → Row
block_values b = Text (b.letter ∷ []) ∷ number_value b.bays ∷ number_value b.rows ∷ number_value b.tiers ∷ []

-- ---- columns of a part of the rows

-- what a query of one interchange shows, and one of a next number
abbrev pub kept_values : Interchange → Row
kept_values i = Blob i.body ∷ Text i.reply ∷ []

abbrev pub next_values : Partner → Row
next_values p = number_value p.next ∷ []
