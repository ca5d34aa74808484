-- What a document name (1001) orders, by the type of the message and the kind of partner that sends it.
use Rattle.std.specs.{Prelude.{ℕ, List, [], ◌∷◌, take, Option}, Option.option_map, List.find, Str.bytes_eq}
use Rattle.edi_messages.specs.{declared.code.Code.Code, declared.code.CodeTable.CodeTable, declared.codes.Codes.Codes, declared.codes.PartnerKind.PartnerKind}
use Rattle.edi_messages.specs.{declared.codes.PartnerKind.TheVariants.{Gate, Line, Quay, Yard}, declared.message.MessageType.MessageType}
use Rattle.edi_messages.specs.{declared.message.MessageType.TheVariants.{Codeco, Coprar, Coarri}, declared.order.OrderKind.OrderKind}
use Rattle.edi_messages.specs.declared.order.OrderKind.TheVariants.{GateIn, GateOut, Move, ListDischarge, ListLoad, Discharge, Load}

-- a code's characters
abbrev pub code_text : Code → List ℕ
code_text code = take code.len code.bytes

-- a table's codes, in its order
abbrev pub table_texts : CodeTable → List (List ℕ)
table_texts table =
    code_text table.gate_in ∷ code_text table.gate_out ∷ code_text table.yard_move ∷ code_text table.discharge_list
    ∷ code_text table.load_list ∷ code_text table.discharge_report ∷ code_text table.load_report ∷ []

-- the codes that a kind of partner may send in a type of message, with what they order
abbrev pub meanings : CodeTable → PartnerKind → MessageType → List (List ℕ × OrderKind)
meanings table Gate Codeco = (code_text table.gate_in, GateIn) ∷ (code_text table.gate_out, GateOut) ∷ []
meanings table Yard Codeco = (code_text table.yard_move, Move) ∷ []
meanings table Line Coprar =
    (code_text table.discharge_list, ListDischarge) ∷ (code_text table.load_list, ListLoad) ∷ []
meanings table Quay Coarri = (code_text table.discharge_report, Discharge) ∷ (code_text table.load_report, Load) ∷ []
meanings table kind type = []

-- what a document name orders
abbrev pub order_meant : Codes → MessageType → List ℕ → Option OrderKind
order_meant codes type name =
    option_map (λ (meaning : List ℕ × OrderKind). meaning.1)
    (find (λ (meaning : List ℕ × OrderKind). bytes_eq name meaning.0) (meanings codes.table codes.kind type))
