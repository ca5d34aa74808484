use Rattle.std.proofs.Common.{◌≡◌, not, IfErr, IfOk, IsTrue, ap, subst, ◌∙◌}
use Rattle.sqlite.specs.Held.{Held, state}
use Rattle.office_tables.specs.Faults.{IsOfStore}
use Rattle.office_commands.{specs.Printing.PrintsTexts, proofs.TextLemmas.{ByRows, committed_ok, committed_err}}
use Rattle.office_commands.proofs.texts.print_kept.Goals as goal

-- No change was under way, so the rows that are read are those that are committed.
pub returns-clause-prints : goal.returns-clause-prints
returns-clause-prints g c clean =
    let was = c.into_connection-conn.result in
    let is : was ≡ c.args.desk.conn = c.into_connection-conn.ensures in
    let new = state g.S.Store c.print_texts-status.new.conn in
    let does = c.print_texts-status.ensures in
    let told = g.W.Write.contents c.args.writer.now.inner in
    let port = c.print_texts-status.new.writer in
    let settled : IsTrue (state g.S.Store was).is_open → (state g.S.Store was).now ≡ (state g.S.Store was).committed =
    c.is_autocommit-is_idle.ensures.settled (c.is_autocommit-is_idle.ensures.value ∙ ap not (ap (λ (h : Held _). h.in_transaction) is ∙ c.args.desk.idle)) in
    subst (λ (h : Held _). IfOk c.print_texts-status.result (λ status. ByRows (state g.S.Store h) (λ stored. PrintsTexts c.args.from stored told (g.W.Write.contents port.inner) port.failed port.flushed status))) is
    (committed_ok (state g.S.Store was) new settled (λ stored status. PrintsTexts c.args.from stored told (g.W.Write.contents port.inner) port.failed port.flushed status)
    c.print_texts-status.result does.reads clean (does.prints clean))

pub returns-clause-fault : goal.returns-clause-fault
returns-clause-fault g c clean is_open =
    let was = c.into_connection-conn.result in
    let is : was ≡ c.args.desk.conn = c.into_connection-conn.ensures in
    let new = state g.S.Store c.print_texts-status.new.conn in
    let does = c.print_texts-status.ensures in
    let settled : IsTrue (state g.S.Store was).is_open → (state g.S.Store was).now ≡ (state g.S.Store was).committed =
    c.is_autocommit-is_idle.ensures.settled (c.is_autocommit-is_idle.ensures.value ∙ ap not (ap (λ (h : Held _). h.in_transaction) is ∙ c.args.desk.idle)) in
    subst (λ (h : Held _). IfErr c.print_texts-status.result (λ fault. ByRows (state g.S.Store h) (λ stored. IsOfStore fault))) is
    (committed_err (state g.S.Store was) new settled IsOfStore c.print_texts-status.result does.reads clean is_open (does.fault clean))
