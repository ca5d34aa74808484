use Rattle.std.proofs.Common.{◌≡◌, ◌++◌, map, take, string_bytes, flat_map}
use Rattle.serde_json.specs.View.{view}
use Rattle.office_pages.specs.Reply.{message_view}
use Rattle.office_pages.proofs.reply.push_messages.Given as goal

abbrev pub invariant-loop-message : goal.invariant-loop-message
invariant-loop-message l = string_bytes l.page ≡ string_bytes l.initial.page ++ flat_map message_view (map view (take l.message-index l.messages))
