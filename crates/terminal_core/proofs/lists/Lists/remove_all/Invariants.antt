use Rattle.std.proofs.Common.{◌≡◌, take}
use Rattle.edi_messages.specs.Owned.{call_content}
use Rattle.terminal_core.specs.Drop.{without_lines_of}
use Rattle.terminal_core.proofs.lists.Lists.remove_all.Given as goal

abbrev pub invariant-loop-container : goal.invariant-loop-container
invariant-loop-container l = l.self ≡ without_lines_of (call_content l.call) l.side (take l.container-index l.containers) l.fn.self
