use Rattle.std.proofs.Common.{[], ◌∷◌, Ok}
use Rattle.sqlite.specs.{Held.state, State.Executes}
use Rattle.office_rows.{specs.{Values.block_values, Opening.with_blocks}, proofs.Written.inserted_block}
use Rattle.office_tables.proofs.{PairLemmas.insert_block_stays, WritesLemmas.writes_of}
use Rattle.office_rows.proofs.Writing as texts
use Rattle.office_tables.proofs.settings.insert_block.Goals as goal

pub returns-clause-writes : goal.returns-clause-writes
returns-clause-writes g c =
    let old = state g.S.Store c.args.tx.now.conn.now in
    let new = state g.S.Store c.execute.new.self.conn.now in
    writes_of (with_blocks (c.args.block ∷ [])) old new _ c.execute.ensures.survives (λ clean inside.
    let ran = c.in_ok-execute.ensures.runs clean inside in
    let h : Executes texts.insert_block (block_values c.args.block) old new (Ok c.in_ok-execute.field-0) = rw (c.characters.ensures, c.integer.ensures, c.integer-2.ensures, c.integer-3.ensures, c.from.ensures, c.from-2.ensures, c.from-3.ensures) at ran.0 in
    (ran.1, λ rows has. inserted_block old new rows c.in_ok-execute.field-0 has c.args.block h, λ rows has held. insert_block_stays old new rows c.in_ok-execute.field-0 has held _ h))
