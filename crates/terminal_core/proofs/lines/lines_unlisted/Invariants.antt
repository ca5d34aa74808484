use Rattle.std.{specs.Prelude.map, proofs.Common.{◌≡◌, take}}
use Rattle.edi_messages.specs.Owned.{call_content}
use Rattle.terminal_core.specs.Rows.{change_content, unlisted}
use Rattle.terminal_core.proofs.lines.lines_unlisted.Given as goal

abbrev pub invariant-loop-container : goal.invariant-loop-container
invariant-loop-container l = map change_content l.changes.items ≡ map (unlisted (call_content l.call) l.side) (take l.container-index l.containers)
