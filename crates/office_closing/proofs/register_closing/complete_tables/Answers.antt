use Rattle.sqlite.specs.Held.{state}
use Rattle.office_closing.{specs.Stored.{HasListed, HasRegister, HasTaken, HasWhole}, proofs.Committing.writes_through}
use Rattle.office_closing.proofs.register_closing.complete_tables.Goals as goal

pub returns-clause-writes : goal.returns-clause-writes
returns-clause-writes g c =
    let s0 = state g.S.Store c.args.tx.now.conn.now in
    let s1 = state g.S.Store c.complete_lists.new.tx.conn.now in
    let s2 = state g.S.Store c.complete_taken.new.tx.conn.now in
    let s3 = state g.S.Store c.complete_sealed.new.tx.conn.now in
    let two = writes_through HasRegister HasListed HasTaken s0 s1 s2 _ _ c.in_ok-complete_lists.ensures.writes c.in_ok-complete_taken.ensures.writes in
    writes_through HasRegister HasTaken HasWhole s0 s2 s3 _ c.complete_sealed.result two c.complete_sealed.ensures.writes
