use Rattle.std.proofs.Common.{[], ◌∷◌}
use Rattle.sqlite.specs.{Held.state, State.Shown}
use Rattle.office_rows.specs.Values.{number_value}
use Rattle.office_tables.proofs.MadeLemmas.{reads_shown, reads_failed}
use Rattle.office_loading.proofs.TextQuery.{select_from, from_shows, numbers_found}
use Rattle.office_loading.proofs.reading.select_from.Goals as goal

pub returns-clause-shown : goal.returns-clause-shown
returns-clause-shown g c clean rows has =
    let old = state g.S.Store c.args.conn.now in
    let new = state g.S.Store c.query_all.new.self in
    let h : Shown select_from (number_value c.args.from ∷ []) old new c.in_ok-query_all.field-0.items = rw (c.integer.ensures) at (c.in_ok-query_all.ensures.ok clean) in
    numbers_found c.args.from old new rows has c.in_ok-query_all.field-0.items h

pub returns-clause-reads : goal.returns-clause-reads
returns-clause-reads g c =
    let old = state g.S.Store c.args.conn.now in
    let new = state g.S.Store c.query_all.new.self in
    reads_shown select_from _ old new from_shows c.in_ok-query_all.field-0.items _ c.in_ok-query_all.ensures.ok c.query_all.ensures.mode c.query_all.ensures.survives

pub returns-in_err-query_all-clause-reads : goal.returns-in_err-query_all-clause-reads
returns-in_err-query_all-clause-reads g c =
    let old = state g.S.Store c.args.conn.now in
    let new = state g.S.Store c.query_all.new.self in
    reads_failed select_from _ old new from_shows _ _ c.from_residual.ensures.0 c.in_err-query_all.ensures.err c.query_all.ensures.mode c.query_all.ensures.survives
