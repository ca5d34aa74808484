-- Who an interchange says that it is from.
use Rattle.std.specs.Prelude.{◌≡◌, ℕ, List, Some}
use Rattle.edi_syntax.specs.{Text.Content, Envelope.header_of, Header.{control_number, sender}}
use Rattle.office_commands.specs.declared.notes.Sender.{Sender}

-- these segments name that sender (0004) and that number (0020) in their header
pub record IsSender (segments : List Content) (named : Sender) : Type 0 where
  pub code : named.code.items ≡ sender (header_of segments) 1
  pub number : control_number (header_of segments) ≡ Some named.number
