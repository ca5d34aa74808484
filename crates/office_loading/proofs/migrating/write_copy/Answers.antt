use Rattle.std.proofs.Common.{take, refl, arith}
use Rattle.sqlite.specs.{State.HasCleanDisk, Held.state}
use Rattle.office_rows.{specs.{Tables.office_tables, Stored.HasEmpty, Opening.with_interchanges}, proofs.Creating.on_ok}
use Rattle.office_tables.proofs.MadeLemmas.{on_ok_from, if_open_then}
use Rattle.office_loading.{specs.{Contents.opened_rows, Copies.{AddsStanding, without_interchanges}}, proofs.StandingLemmas.{order_turn, reads_here}}
use Rattle.office_loading.proofs.migrating.write_copy.Goals as goal

pub returns-clause-made : goal.returns-clause-made
returns-clause-made g c clean inside =
    let from = state g.S.Store c.args.old.now in
    let read = state g.S.Store c.copy_interchanges.new.old in
    let s0 = state g.T.Store c.args.tx.now.conn.now in
    let s1 = state g.T.Store c.write_tables.new.tx.conn.now in
    let s2 = state g.T.Store c.copy_interchanges.new.tx.conn.now in
    let clean1 : HasCleanDisk s1 = omega (arith, c.copy_interchanges.ensures.survives.clean) in
    let first = c.in_ok-write_tables.ensures.makes.turns clean1 inside in
    on_ok c.copy_interchanges.result (λ (adds : AddsStanding from read s1 s2). record {
      copied = adds.copied;
      are = adds.are;
      turns = order_turn (HasEmpty (take 0 office_tables)) (without_interchanges (opened_rows c.args.tables.now)) (with_interchanges adds.copied) s0 s1 s2 refl first
          (adds.writes.steps clean first.inside first.is_open) (adds.writes.in_order clean first.inside first.is_open);
    }) c.copy_interchanges.ensures.adds

pub returns-clause-reads : goal.returns-clause-reads
returns-clause-reads g c = if_open_then (reads_here {T = Unit {0}} (state g.S.Store c.args.old.now) tt) c.copy_interchanges.ensures.reads

pub returns-clause-new : goal.returns-clause-new
returns-clause-new g c clean inside =
    let clean1 : HasCleanDisk (state g.T.Store c.write_tables.new.tx.conn.now) = omega (arith, c.copy_interchanges.ensures.survives.clean) in
    on_ok_from c.copy_interchanges.result (c.in_ok-write_tables.ensures.makes.missing clean1 inside)
