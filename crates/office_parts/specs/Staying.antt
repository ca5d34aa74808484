-- What is away stays away through all events that name none of it, until it is brought back.
use Rattle.std.specs.Prelude.{◌≡◌, ℕ, ◌+◌, ◌<◌, Bool, true, false, List, [], ◌∷◌, ◌++◌, None, Some}
use Rattle.box6346.specs.declared.box_number.BoxNumber.{BoxNumber}
use Rattle.edi_messages.specs.{Purposes.CallContent, declared.codes.PartnerKind.PartnerKind}
use Rattle.edi_syntax.specs.Interchange.{interchange_of}
use Rattle.partner_core.specs.Deliveries.{run}
use Rattle.terminal_core.specs.{State.{LineContent, TerminalState, line_of}, declared.lines.Side.Side}
use Rattle.office_admission.specs.{Accounts.{account_answer, added_as, content_after}, Deliveries.deliveries_of, Kinds.kind_named, Setups.SetupContent}
use Rattle.office_admission.specs.Taking.{MachineState}
use Rattle.office_history.specs.{After.machine_after, Cascade.{TakenContent, text_in, texts_with, with_run}, Laws.{AddsNoRow, IsFor}}
use Rattle.office_parts.specs.{Archives.Archive, OwnTerminal.own_terminal, Parts.{Archived, ArePartsAfter}, Away.{AreAway, lines_away, lists_after}}
use Rattle.office_parts.specs.{Bringing.{BringsBack, all_but}, ListLaws.NameOwnLists, Naming.AreHere, OwnLists.{ListName, list_name, without_lists}}
use Rattle.office_parts.specs.ListParts.{AddsWithoutLists}
use Rattle.office_replies.specs.Events.{Event, added, delivered}
use Rattle.office_rows.specs.{Effects.{with_partner, with_waiting}, Rows.{ListingContent, Rows}}

-- ---- deliveries

-- a text that is next names no list that is away, and so does each that becomes next by it, if it names none itself
abbrev pub NextNamesNoneAway : Type 0
NextNamesNoneAway =
    (content : SetupContent) (es : List Event) (archives : List Archive) (away : ListName → Bool) (own : Rows)
    (sent : List ℕ) (partner number : ℕ) → AreAway archives away content es own →
    number ≡ run (deliveries_of content es) partner + 1 →
    AreHere away (lists_after content es partner (interchange_of sent))
    → NameOwnLists away (machine_after content es) partner (texts_with own partner number (interchange_of sent)) number

-- after a delivery that adds no row
abbrev pub AwayStaysWithoutRow : Type 0
AwayStaysWithoutRow =
    (content : SetupContent) (es : List Event) (archives : List Archive) (away : ListName → Bool) (own whole : Rows)
    (sent : List ℕ) → AreAway archives away content es own → AddsNoRow content es sent whole
    → AreAway archives away content (es ++ delivered sent ∷ []) own

-- after a text before its time
abbrev pub AwayStaysWithEarly : Type 0
AwayStaysWithEarly =
    (content : SetupContent) (es : List Event) (archives : List Archive) (away : ListName → Bool)
    (archived : Archived) (own whole : Rows) (sent : List ℕ) (partner number : ℕ) →
    AreAway archives away content es own → ArePartsAfter content es archived own whole →
    IsFor content es sent partner number → text_in own partner number ≡ None →
    run (deliveries_of content es) partner + 1 < number →
    AreHere away (lists_after content es partner (interchange_of sent))
    → AreAway archives away content (es ++ delivered sent ∷ [])
    (with_waiting partner number (interchange_of sent) own)

-- after a text that is next, and each that becomes next by it
abbrev pub AwayStaysWithNext : Type 0
AwayStaysWithNext =
    (content : SetupContent) (es : List Event) (archives : List Archive) (away : ListName → Bool)
    (archived : Archived) (own whole : Rows) (sent : List ℕ) (partner number : ℕ) (taken : List TakenContent)
    (there : MachineState) → AreAway archives away content es own → ArePartsAfter content es archived own whole →
    IsFor content es sent partner number → text_in own partner number ≡ None →
    number ≡ run (deliveries_of content es) partner + 1 →
    NameOwnLists away (machine_after content es) partner (texts_with own partner number (interchange_of sent)) number →
    AddsWithoutLists content es archived own whole away sent partner number taken there
    → AreAway archives away content (es ++ delivered sent ∷ [])
    (with_run partner number (interchange_of sent) taken own)

-- ---- an account more

abbrev pub AwayStaysWithAccount : Type 0
AwayStaysWithAccount =
    (content : SetupContent) (es : List Event) (archives : List Archive) (away : ListName → Bool)
    (archived : Archived) (own whole : Rows) (code kind : List ℕ) (named : PartnerKind) (id : ℕ) →
    AreAway archives away content es own → ArePartsAfter content es archived own whole → kind_named kind ≡ Some named →
    account_answer (content_after content es).partners code kind ≡ added_as id
    → AreAway archives away content (es ++ added code kind ∷ []) (with_partner id code named own)

-- ---- bringing back

-- once a list was brought back all others stay away
abbrev pub OthersStayAway : Type 0
OthersStayAway =
    (content : SetupContent) (es : List Event) (archives : List Archive) (archived : Archived)
    (away : ListName → Bool) (list : ListName) (own : Rows) (back : List ListingContent)
    (brings : BringsBack content es archived away list back own) → AreAway archives away content es own
    → AreAway archives (all_but list away) content es brings.most

-- ---- what the store's terminal tells of it

-- a list that is away has no line there
abbrev pub NoLineIsAway : Type 0
NoLineIsAway =
    (away : ListName → Bool) (state : TerminalState) (call : CallContent) (side : Side) (container : BoxNumber) →
    away (list_name call side) ≡ true
    → line_of (without_lists away state) call side container ≡ None

-- one that is not has the lines that it has
abbrev pub OtherLinesAreThere : Type 0
OtherLinesAreThere =
    (away : ListName → Bool) (state : TerminalState) (call : CallContent) (side : Side) (container : BoxNumber) →
    away (list_name call side) ≡ false
    → line_of (without_lists away state) call side container ≡ line_of state call side container

-- and one, if it was ever put away
pub record HasLine (state : TerminalState) (call : CallContent) (side : Side) : Type 0 where
  pub container : BoxNumber
  pub line : LineContent
  pub has : line_of state call side container ≡ Some line

abbrev pub ListsThatCameBackHaveLines : Type 0
ListsThatCameBackHaveLines =
    (content : SetupContent) (es : List Event) (archives : List Archive) (away : ListName → Bool) (stays : ℕ → Bool)
    (own : Rows) (call : CallContent) (side : Side) (kept : List ListingContent) →
    AreAway archives away content es own → lines_away archives (list_name call side) ≡ Some kept →
    away (list_name call side) ≡ false
    → HasLine (without_lists away (own_terminal stays (machine_after content es).terminal)) call side
