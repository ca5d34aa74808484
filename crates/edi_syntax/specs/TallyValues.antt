-- What the messages of an interchange come to, as a function of its segments.
use Rattle.std.specs.{Prelude.{List, length, false, Option, None, Some, if◌then◌else◌}, List.list_all}
use Rattle.edi_syntax.specs.{Text.Content, Messages.{messages_in, are_messages, is_counted, is_referenced}, declared.faults.Tally.Tally}

-- whether the messages are counted and referenced, and how many they are, if there are only messages and a UNZ
abbrev pub tally_in : List Content → Option Tally
tally_in segments =
    if are_messages false segments then Some (record {
      are_counted = list_all is_counted (messages_in segments);
      are_referenced = list_all is_referenced (messages_in segments);
      messages = length (messages_in segments);
    })
    else None
