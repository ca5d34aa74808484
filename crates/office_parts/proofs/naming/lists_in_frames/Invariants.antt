use Rattle.std.proofs.Common.{◌≡◌, ◌++◌, map}
use Rattle.edi_syntax.specs.Frames.{messages_left}
use Rattle.terminal_core.specs.Versions.{newest}
use Rattle.office_parts.specs.{Named.named_list_content, Naming.lists_in_messages}
use Rattle.office_parts.proofs.naming.lists_in_frames.Given as goal

abbrev pub invariant-loop-frame : goal.invariant-loop-frame
invariant-loop-frame l =
    map named_list_content l.lists.items ++ lists_in_messages newest l.codes l.opened (messages_left l.frames)
    ≡ lists_in_messages newest l.fn.codes l.fn.opened (messages_left l.fn.frames)
