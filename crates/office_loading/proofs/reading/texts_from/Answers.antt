use Rattle.sqlite.specs.Held.{state}
use Rattle.office_loading.proofs.TakenLemmas.{reached_page}
use Rattle.office_loading.proofs.reading.texts_from.Goals as goal

pub returns-then-page-gt0-clause-answer : goal.returns-then-page-gt0-clause-answer
returns-then-page-gt0-clause-answer g c clean rows has =
    let stored = (state g.S.Store c.args.conn.now).now.trees 2 in
    let page = c.in_ok-page.page in
    let tells = c.in_ok-page.ensures.page clean rows has in
    (reached_page c.args.from c.args.most stored page.lines.items page.count tells c.if-page-gt0.true, tells)
