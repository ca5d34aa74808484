use Rattle.std.proofs.Common.{Ok}
use Rattle.sqlite.specs.{Held.state, State.Executes}
use Rattle.terminal_core.specs.Rows.{placed_at}
use Rattle.office_rows.{specs.{Values.place_values, Effects.with_change}, proofs.Written.inserted_place}
use Rattle.office_tables.proofs.{PairLemmas.insert_place_stays, WritesLemmas.writes_of}
use Rattle.office_rows.proofs.Writing as texts
use Rattle.office_tables.proofs.terminal.insert_place.Goals as goal

pub returns-clause-writes : goal.returns-clause-writes
returns-clause-writes g c =
    let old = state g.S.Store c.args.tx.now.conn.now in
    let new = state g.S.Store c.execute.new.self.conn.now in
    writes_of (with_change (placed_at c.args.container c.args.visit c.args.slot)) old new _ c.execute.ensures.survives (λ clean inside.
    let ran = c.in_ok-execute.ensures.runs clean inside in
    let h : Executes texts.insert_place (place_values (record { container = c.args.container; visit = c.args.visit; slot = c.args.slot })) old new (Ok c.in_ok-execute.field-0) = rw (c.characters.ensures, c.text-container.ensures.same, c.integer.ensures, c.characters-2.ensures, c.text-slot.ensures) at ran.0 in
    (ran.1, λ rows has. inserted_place old new rows c.in_ok-execute.field-0 has (record { container = c.args.container; visit = c.args.visit; slot = c.args.slot }) h, λ rows has held. insert_place_stays old new rows c.in_ok-execute.field-0 has held _ h))
