use Rattle.std.proofs.Common.{[], ◌∷◌}
use Rattle.sqlite.specs.{Held.state, State.Shown}
use Rattle.office_rows.{specs.Values.number_value, proofs.Listed.finds_pair}
use Rattle.office_tables.proofs.{WritesLemmas.kept_shows, MadeLemmas.{reads_shown, reads_failed}}
use Rattle.office_rows.proofs.Reading as texts
use Rattle.office_tables.proofs.finding.select_interchange.Goals as goal

pub returns-clause-shown : goal.returns-clause-shown
returns-clause-shown g c clean is interchanges held =
    let old = state g.S.Store c.args.conn.now in
    let new = state g.S.Store c.query_all.new.self in
    let params = number_value c.args.partner ∷ number_value c.args.number ∷ [] in
    let h : Shown texts.select_kept params old new c.in_ok-query_all.field-0.items = rw (c.integer.ensures, c.integer-2.ensures) at (c.in_ok-query_all.ensures.ok clean) in
    finds_pair old new c.in_ok-query_all.field-0.items is.0 is.1 interchanges held c.args.partner c.args.number h

pub returns-clause-reads : goal.returns-clause-reads
returns-clause-reads g c =
    let old = state g.S.Store c.args.conn.now in
    let new = state g.S.Store c.query_all.new.self in
    reads_shown texts.select_kept _ old new kept_shows c.in_ok-query_all.field-0.items _ c.in_ok-query_all.ensures.ok c.query_all.ensures.mode c.query_all.ensures.survives

pub returns-in_err-query_all-clause-reads : goal.returns-in_err-query_all-clause-reads
returns-in_err-query_all-clause-reads g c =
    let old = state g.S.Store c.args.conn.now in
    let new = state g.S.Store c.query_all.new.self in
    reads_failed texts.select_kept _ old new kept_shows _ _ c.from_residual.ensures.0 c.in_err-query_all.ensures.err c.query_all.ensures.mode c.query_all.ensures.survives
