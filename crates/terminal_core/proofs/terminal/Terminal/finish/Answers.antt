use Rattle.edi_messages.specs.Owned.{call_content}
use Rattle.terminal_core.proofs.Lined.{line_done_in}
use Rattle.terminal_core.proofs.terminal.Terminal.finish.Goals as goal

pub returns-clause-done : goal.returns-clause-done
returns-clause-done c line there =
    line_done_in _ c.args.self.now (call_content c.args.call.now) c.args.side c.args.container line c.finish.new.self c.self.view_is there (c.finish.ensures line)
