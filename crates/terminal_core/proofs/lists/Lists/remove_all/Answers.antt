use Rattle.std.proofs.Common.{arith}
use Rattle.edi_messages.specs.Owned.{call_content}
use Rattle.terminal_core.proofs.Dropping.{without_next}
use Rattle.terminal_core.proofs.lists.Lists.remove_all.Goals as goal

pub loop-container-preserved : goal.loop-container-preserved
loop-container-preserved c =
    without_next (call_content c.args.call.now) c.args.side c.args.containers.now c.loop-container.container-index c.container-item.result c.args.self.now c.loop-container.self c.remove.new.self
    (omega arith) c.container-item.is c.loop-container.invariant c.remove.ensures
