use Rattle.std.proofs.Common.{ap}
use Rattle.sqlite.specs.Held.{state}
use Rattle.office_rows.specs.Effects.{with_waiting}
use Rattle.office_tables.{specs.Taken.{taken_content, taken_contents}, proofs.{WritesLemmas.writes_then_if_open, WriteLemmas.writes_run}}
use Rattle.office_history.specs.Cascade.{with_interchanges}
use Rattle.office_tables.proofs.writing.write_all.Goals as goal

pub returns-in_ok-keep-in_default-clause-writes : goal.returns-in_ok-keep-in_default-clause-writes
returns-in_ok-keep-in_default-clause-writes g c =
    let a = c.args in
    let mid = state g.S.Store c.keep.new.tx.conn.now in
    writes_then_if_open (with_waiting a.partner a.number a.text.now) (with_interchanges a.partner (taken_contents a.taken.now)) _ mid _ _ c.write_interchanges-in_default.result
    c.in_ok-keep-in_default.ensures.writes c.write_interchanges-in_default.ensures.writes

pub returns-in_ok-write_first-in-Some-clause-writes : goal.returns-in_ok-write_first-in-Some-clause-writes
returns-in_ok-write_first-in-Some-clause-writes g c =
    let a = c.args in
    let mid = state g.S.Store c.write_first.new.tx.conn.now in
    writes_run a.partner a.number a.text.now (taken_contents a.taken.now) (taken_contents c.in-Some.behind.now) (taken_content c.in-Some.first.now) _ mid _ _ c.write_interchanges.result c.if-first-number.true
    (ap taken_contents c.in-Some.ensures.cases.0) c.in_ok-write_first-in-Some.ensures.writes c.write_interchanges.ensures.writes
