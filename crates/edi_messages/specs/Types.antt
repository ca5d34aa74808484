-- Message types (UNH, S009): 0065 type, 0052 version, 0054 release, 0051 agency. The association code 0057 is free.
use Rattle.std.specs.{Prelude.{ℕ, ◌&&◌, List, codes, Option, None, Some, if◌then◌else◌}, Str.bytes_eq}
use Rattle.edi_syntax.specs.Text.{Content, component_of}
use Rattle.edi_messages.specs.{declared.message.MessageType.MessageType, declared.message.MessageType.TheVariants.{Codeco, Coprar, Coarri}}

-- the message type that 0065 names
abbrev pub type_named : List ℕ → Option MessageType
type_named name =
    if bytes_eq name (codes "CODECO") then Some Codeco
    else if bytes_eq name (codes "COPRAR") then Some Coprar
    else if bytes_eq name (codes "COARRI") then Some Coarri
    else None

-- the message type that a header identifies, in directory D.95B of the United Nations
abbrev pub message_type_of : Content → Option MessageType
message_type_of header =
    if bytes_eq (component_of header 2 2) (codes "D") && bytes_eq (component_of header 2 3) (codes "95B")
    && bytes_eq (component_of header 2 4) (codes "UN")
    then type_named (component_of header 2 1)
    else None
