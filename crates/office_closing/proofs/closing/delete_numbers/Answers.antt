use Rattle.std.proofs.Common.{inl, inr, refl, rules, arith}
use Rattle.sqlite.specs.Held.{state}
use Rattle.office_closing.proofs.NumberLemmas.{no_number_deleted, number_deleted, numbers_deleted}
use Rattle.office_closing.proofs.closing.delete_numbers.Goals as goal

pub loop-number-init : goal.loop-number-init
loop-number-init g c = record { same = refl; above = omega arith; within = inr refl; deletes = no_number_deleted c.args.numbers (state g.S.Store c.args.tx.now.conn.now) }

pub loop-number-preserved : goal.loop-number-preserved
loop-number-preserved g c =
    let before = c.loop-number.invariant in
    record {
      same = search rules;
      above = omega (arith, before.above);
      within = inl (omega arith);
      deletes = number_deleted c.args.numbers c.loop-number.number _ _ _ _ before.above before.deletes c.in_ok-delete_interchange.ensures.deletes;
    }

pub returns-clause-deletes : goal.returns-clause-deletes
returns-clause-deletes g c =
    let before = c.loop-number.invariant in
    numbers_deleted c.args.numbers c.loop-number.number _ _ _ before.above (omega arith) before.within before.deletes
