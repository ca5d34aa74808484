use Rattle.std.{specs.Prelude.{map, IfOk}, proofs.Common.{sym, subst}}
use Rattle.edi_messages.specs.{Owned.order_content, declared.order.Order.Order}
use Rattle.terminal_core.specs.{Rows.change_content, Step.step, Calls.Follows}
use Rattle.terminal_core.proofs.terminal.Terminal.carry_out.Goals as goal

pub returns-in-Discharge-clause-ok : goal.returns-in-Discharge-clause-ok
returns-in-Discharge-clause-ok c =
    let P : Order → Type 0 = λ order.
    IfOk c.discharge.result (λ outcome. Follows (step c.args.self.now c.args.source (order_content order)) c.discharge.new.self outcome (map change_content c.args.changes.now.items) (map change_content c.discharge.new.changes.items)) in
    subst P (sym c.in-Discharge.is) c.discharge.ensures.ok

pub returns-in-Load-clause-ok : goal.returns-in-Load-clause-ok
returns-in-Load-clause-ok c =
    let P : Order → Type 0 = λ order.
    IfOk c.load.result (λ outcome. Follows (step c.args.self.now c.args.source (order_content order)) c.load.new.self outcome (map change_content c.args.changes.now.items) (map change_content c.load.new.changes.items)) in
    subst P (sym c.in-Load.is) c.load.ensures.ok
