use Rattle.std.proofs.{Common.{Err, Some, ap, refl, sym, subst, ◌∙◌}, lemmas.Result.err_from_is_err_and}
use Rattle.sqlite.specs.Held.{state}
use Rattle.office_rows.specs.Stored.{HasRows}
use Rattle.office_tables.{specs.{declared.table_fault.TableFault.TheVariants.Damaged, DeliveryReading.IsSame}, proofs.WritesLemmas.of_store_or}
use Rattle.office_tables.proofs.{MadeLemmas.{clean_first, reads_on, reads_stopped}, WriteLemmas.{one_read, only_on, only_stopped, then_read}}
use Rattle.office_loading.specs.Closed.{closed_content}
use Rattle.office_desk.{specs.{Finding.StaysBeside, Offices.HoldsOffice}, proofs.{Faults.next_known, NextLemmas.{next_beside, read_beside}}}
use Rattle.office_desk.proofs.DeliverLemmas.{keeps_accounts, none_beside}
use Rattle.office_desk.proofs.taking.look.Goals as goal

-- ---- what was found

pub returns-then-number-next-clause-found : goal.returns-then-number-next-clause-found
returns-then-number-next-clause-found g c clean =
    let was = state g.S.Store c.args.conn.now in
    let there = c.in_ok-there.there in
    let closed = closed_content c.args.closed.now in
    record {
      kept = next_beside closed c.args.partner c.args.number was.now there c.requires (sym c.next_of.ensures ∙ c.in-Some.is ∙ ap Some (sym c.if-number-next.true));
      beside = subst (λ b. StaysBeside closed was.now b (Some there)) c.take.ensures.value (c.in_ok-there.ensures.beside clean);
    }

pub returns-then-number-next-clause-reads : goal.returns-then-number-next-clause-reads
returns-then-number-next-clause-reads g c = only_on _ c.in_ok-there.ensures.reads

pub returns-in-Ok-clause-found : goal.returns-in-Ok-clause-found
returns-in-Ok-clause-found g c clean =
    let was = state g.S.Store c.args.conn.now in
    let before = clean_first c.kept.ensures.reads clean in
    let closed = closed_content c.args.closed.now in
    record {
      kept = read_beside closed c.args.partner c.args.number was.now c.in_ok-there.there c.in-Ok.kept (λ rows has. c.in-Ok.ensures.answer clean rows (subst (HasRows rows) (sym (c.in_ok-there.ensures.reads.same before).now) has));
      beside = subst (λ b. StaysBeside closed was.now b (Some c.in_ok-there.there)) c.take.ensures.value (c.in_ok-there.ensures.beside before);
    }

pub returns-in-Ok-clause-reads : goal.returns-in-Ok-clause-reads
returns-in-Ok-clause-reads g c = one_read (then_read c.in_ok-there.ensures.reads (reads_on _ c.in-Ok.ensures.reads))

pub returns-in-Err-clause-reads : goal.returns-in-Err-clause-reads
returns-in-Err-clause-reads g c = one_read (then_read c.in_ok-there.ensures.reads (reads_stopped (Err c.in-Err.fault) refl c.kept.ensures.reads))

pub returns-in_err-there-clause-reads : goal.returns-in_err-there-clause-reads
returns-in_err-there-clause-reads g c = only_stopped _ c.from_residual.ensures.0 c.beside_of.ensures.reads

pub returns-in_default-clause-reads : goal.returns-in_default-clause-reads
returns-in_default-clause-reads g c = only_stopped (Err Damaged) refl c.in_ok-there.ensures.reads

-- ---- why nothing was found

pub returns-in_err-there-clause-not_found : goal.returns-in_err-there-clause-not_found
returns-in_err-there-clause-not_found g c clean =
    let was = state g.S.Store c.args.conn.now in
    let closed = closed_content c.args.closed.now in
    let p = err_from_is_err_and c.from_residual.result c.from_residual.ensures.1 in
    rw (p.1, p.2) (record {
      beside = subst (λ b. StaysBeside closed was.now c.args.beside.now b) (sym c.take.ensures.after) (none_beside closed was.now c.args.beside.now);
      why = λ content rows terminal holds known. of_store_or _ _ (c.in_err-there.ensures.fault clean content rows terminal (subst (λ b. HoldsOffice closed content rows terminal was.now b) (sym c.take.ensures.value) holds));
    })

pub returns-in_default-clause-not_found : goal.returns-in_default-clause-not_found
returns-in_default-clause-not_found g c clean =
    let was = state g.S.Store c.args.conn.now in
    let closed = closed_content c.args.closed.now in
    record {
      beside = subst (λ b. StaysBeside closed was.now c.args.beside.now b) (sym c.take.ensures.after) (none_beside closed was.now c.args.beside.now);
      why = λ content rows terminal holds known.
          let there = (c.in_ok-there.ensures.beside clean).office content rows terminal (subst (λ b. HoldsOffice closed content rows terminal was.now b) (sym c.take.ensures.value) holds) in
          let its = (keeps_accounts closed content rows terminal was.now holds.has holds.loads).0 in
          absurd (next_known closed content rows its c.in_ok-there.there.nexts.items there.nexts c.args.partner c.requires known (sym c.next_of.ensures ∙ c.in_default.is));
    }

pub returns-in-Err-clause-not_found : goal.returns-in-Err-clause-not_found
returns-in-Err-clause-not_found g c clean =
    let was = state g.S.Store c.args.conn.now in
    let mid = state g.S.Store c.beside_of.new.conn in
    let before = clean_first c.kept.ensures.reads clean in
    let closed = closed_content c.args.closed.now in
    record {
      beside = subst (λ b. StaysBeside closed was.now b (Some c.in_ok-there.there)) c.take.ensures.value (c.in_ok-there.ensures.beside before);
      why = λ content rows terminal holds known.
          let same : IsSame was mid = c.in_ok-there.ensures.reads.same before in
          c.in-Err.ensures.fault clean rows (subst (HasRows rows) (sym same.now) holds.has);
    }
