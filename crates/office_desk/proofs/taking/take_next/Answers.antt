use Rattle.std.{specs.Prelude.{slice_index_or, slice_set}, proofs.Common.{◌≡◌, ◌⊎◌, inl, ◌+◌, ◌-◌, ◌<◌, length, arith, sym, ap, subst, ◌∙◌}}
use Rattle.std.proofs.lemmas.Result.{err_from_is_err_and}
use Rattle.sqlite.specs.{Held.state, State.HasCleanDisk}
use Rattle.office_admission.specs.Taking.{machine_of}
use Rattle.office_history.specs.Cascade.{AreTakenFrom, texts_with, with_run}
use Rattle.office_tables.specs.{DeliveryReading.IsSame, Taken.taken_contents, declared.running.Taken.Taken, Writing.{Commits, IsWhole, IsWholeInOrder}}
use Rattle.office_tables.{specs.Order.HasRowsInOrder, proofs.{WriteLemmas.{was_clean, was_open}, WritesLemmas.of_store_or}}
use Rattle.office_rows.specs.Stored.{HasRows}
use Rattle.office_desk.proofs.{AccountLemmas.takes_next, HoldLemmas.{either_of, leaves_less, number_at}}
use Rattle.office_desk.proofs.taking.take_next.Goals as goal

pub returns-clause-takes : goal.returns-clause-takes
returns-clause-takes g c clean =
    let d = c.args.delivery.now in
    let old = state g.S.Store c.args.conn.now in
    let mid = state g.S.Store c.take_run.new.conn in
    let new = state g.S.Store c.write_run.new.conn in
    let items = c.in_ok-taken.taken.items in
    let before : HasCleanDisk mid = c.write_run.ensures.writes.ends.clean clean in
    let wrote : Commits (with_run d.admitted.partner d.number d.text.now (taken_contents items)) mid new = rw c.deref.ensures.value at (c.in_ok-write_run.ensures.writes.ok clean) in
    let many = length items in
    let last = c.index-2.result.now in
    let is_last : last ≡ slice_index_or items (many - 1) last = c.index-2.ensures ∙ ap (λ k. slice_index_or items (k - 1) last) (c.len.ensures ∙ sym c.deref.ensures.len ∙ ap length c.deref.ensures.value) in
    record {
      ok = λ rows there.
          let same : IsSame old mid = c.in_ok-taken.ensures.reads.same before in
          let texts = texts_with rows d.admitted.partner d.number d.text.now in
          let taken : AreTakenFrom d.admitted.partner texts d.number (machine_of c.args.setup.now c.args.beside.terminal) (taken_contents items) (machine_of c.args.setup.now c.raise.new.self.terminal) =
          subst (λ t. AreTakenFrom d.admitted.partner texts d.number (machine_of c.args.setup.now c.args.beside.terminal) (taken_contents items) (machine_of c.args.setup.now t)) (sym c.raise.ensures.terminal)
          (c.in_ok-taken.ensures.taken before rows d.text.now there.has there.numbered c.requires.delivered.admitted) in
          let placed : (slice_index_or items (many - 1) last).number ≡ d.number + (many - 1) =
          number_at d.admitted.partner texts d.number _ _ items (many - 1) last taken (omega (arith, c.in_ok-taken.ensures.first)) in
          let after : last.number + 1 ≡ d.number + many = omega (arith, ap (λ (t : Taken). t.number) is_last, placed, c.in_ok-taken.ensures.first) in
          let raised : c.raise.new.self.nexts.items ≡ slice_set c.args.beside.nexts.items (d.admitted.partner - 1) (d.number + many) =
          c.raise.ensures.nexts ∙ ap (slice_set c.args.beside.nexts.items (d.admitted.partner - 1)) after in
          takes_next rows d.admitted.partner d.number d.text.now d.code.now c.args.setup.now c.args.beside c.raise.new.self c.in_ok-body.body c.index.result.now items old mid new
          c.in_ok-taken.ensures.first c.index.ensures taken raised (rw c.as_str.ensures.value at c.in_ok-body.ensures.bytes) there.has there.settled same wrote;
      err = λ is_open. tt;
      crash = tt;
      fault = tt;
    }

-- ---- calls that failed

pub returns-in_err-taken-clause-takes : goal.returns-in_err-taken-clause-takes
returns-in_err-taken-clause-takes g c clean =
    let old = state g.S.Store c.args.conn.now in
    let new = state g.S.Store c.take_run.new.conn in
    let p = err_from_is_err_and c.from_residual.result c.from_residual.ensures.1 in
    rw (p.1, p.2) (record {
      ok = tt;
      err = λ is_open. (c.take_run.ensures.reads.reads.keeps clean).committed is_open;
      crash = λ rows there db left. inl (leaves_less old new clean c.take_run.ensures.reads.reads.survives db left);
      fault = c.in_err-taken.ensures.fault clean;
    })

pub returns-in_err-body-clause-takes : goal.returns-in_err-body-clause-takes
returns-in_err-body-clause-takes g c clean =
    let old = state g.S.Store c.args.conn.now in
    let new = state g.S.Store c.take_run.new.conn in
    let p = err_from_is_err_and c.from_residual-in_err-body.result c.from_residual-in_err-body.ensures.1 in
    rw (p.1, p.2) (record {
      ok = tt;
      err = λ is_open. (c.take_run.ensures.reads.reads.keeps clean).committed is_open;
      crash = λ rows there db left. inl (leaves_less old new clean c.take_run.ensures.reads.reads.survives db left);
      fault = λ rows has. tt;
    })

pub returns-in_err-write_run-clause-takes : goal.returns-in_err-write_run-clause-takes
returns-in_err-write_run-clause-takes g c clean =
    let a = c.args in
    let d = a.delivery.now in
    let old = state g.S.Store a.conn.now in
    let mid = state g.S.Store c.take_run.new.conn in
    let items = c.in_ok-taken.taken.items in
    let before : HasCleanDisk mid = c.write_run.ensures.writes.ends.clean clean in
    let p = err_from_is_err_and c.from_residual-in_err-write_run.result c.from_residual-in_err-write_run.ensures.1 in
    rw (p.1, p.2) (record {
      ok = tt;
      err = λ is_open. c.in_err-write_run.ensures.writes.err clean is_open ∙ (c.in_ok-taken.ensures.reads.same before).committed;
      crash = λ rows there db left.
          let wrote : mid.may_leave db ⊎ IsWhole (with_run d.admitted.partner d.number d.text.now (taken_contents items)) mid db = rw c.deref.ensures.value at (c.write_run.ensures.writes.crash.crash clean db left) in
          either_of (leaves_less old mid before c.take_run.ensures.reads.reads.survives db)
          (λ is. record {
            taken = taken_contents items;
            new = machine_of a.setup.now c.take_run.new.terminal;
            are_taken = c.in_ok-taken.ensures.taken before rows d.text.now there.has there.numbered c.requires.delivered.admitted;
            are = is rows (subst (HasRows rows) (there.settled ∙ sym (c.in_ok-taken.ensures.reads.same before).committed) there.has);
          }) wrote;
      fault = λ rows has. of_store_or _ _ c.in_err-write_run.ensures.writes.fault;
    })

-- ---- the connection

pub returns-in_err-taken-clause-ends : goal.returns-in_err-taken-clause-ends
returns-in_err-taken-clause-ends g c = let reads = c.take_run.ensures.reads in record { idle = reads.reads.mode c.requires.idle; clean = λ clean. was_clean reads clean; was_open = λ clean. was_open reads clean }

pub returns-in_err-body-clause-ends : goal.returns-in_err-body-clause-ends
returns-in_err-body-clause-ends g c = let reads = c.take_run.ensures.reads in record { idle = reads.reads.mode c.requires.idle; clean = λ clean. was_clean reads clean; was_open = λ clean. was_open reads clean }

pub returns-clause-ends : goal.returns-clause-ends
returns-clause-ends g c =
    let reads = c.take_run.ensures.reads in
    let ends = c.write_run.ensures.writes.ends in
    record { idle = ends.idle; clean = λ clean. was_clean reads (ends.clean clean); was_open = λ clean is_open. was_open reads (ends.clean clean) (ends.was_open clean is_open) }

pub returns-in_err-write_run-clause-ends : goal.returns-in_err-write_run-clause-ends
returns-in_err-write_run-clause-ends g c =
    let reads = c.take_run.ensures.reads in
    let ends = c.write_run.ensures.writes.ends in
    record { idle = ends.idle; clean = λ clean. was_clean reads (ends.clean clean); was_open = λ clean is_open. was_open reads (ends.clean clean) (ends.was_open clean is_open) }

pub write_run-requires-clause-idle : goal.write_run-requires-clause-idle
write_run-requires-clause-idle g c = c.take_run.ensures.reads.reads.mode c.requires.idle

pub write_run-requires-clause-numbers : goal.write_run-requires-clause-numbers
write_run-requires-clause-numbers g c = rw c.deref.ensures.value c.in_ok-taken.ensures.numbers

-- each number of the run is a number that there is
pub overflow_add-index : goal.overflow_add-index
overflow_add-index g c =
    let items = c.in_ok-taken.taken.items in
    let many = length items in
    let last = c.index-2.result.now in
    let is_last : last ≡ slice_index_or items (many - 1) last = c.index-2.ensures ∙ ap (λ k. slice_index_or items (k - 1) last) (c.len.ensures ∙ sym c.deref.ensures.len ∙ ap length c.deref.ensures.value) in
    let below : (slice_index_or items (many - 1) last).number < 1000000000 = c.in_ok-taken.ensures.numbers (many - 1) last (omega (arith, c.in_ok-taken.ensures.first)) in
    omega (arith, ap (λ (t : Taken). t.number) is_last, below)

-- what was written is committed over an open connection
pub returns-clause-is_open : goal.returns-clause-is_open
returns-clause-is_open g c clean = (c.in_ok-write_run.ensures.writes.ok clean).is_open

-- ---- the order of arrival

pub returns-clause-in_order : goal.returns-clause-in_order
returns-clause-in_order g c clean =
    let d = c.args.delivery.now in
    let old = state g.S.Store c.args.conn.now in
    let mid = state g.S.Store c.take_run.new.conn in
    let new = state g.S.Store c.write_run.new.conn in
    let items = c.in_ok-taken.taken.items in
    let before : HasCleanDisk mid = c.write_run.ensures.writes.ends.clean clean in
    let wrote : Commits (with_run d.admitted.partner d.number d.text.now (taken_contents items)) mid new = rw c.deref.ensures.value at (c.in_ok-write_run.ensures.writes.ok clean) in
    let same : IsSame old mid = c.in_ok-taken.ensures.reads.same before in
    record {
      ok = λ rows there held. record {
        taken = taken_contents items;
        new = machine_of c.args.setup.now c.take_run.new.terminal;
        are_taken = c.in_ok-taken.ensures.taken before rows d.text.now there.has there.numbered c.requires.delivered.admitted;
        has = wrote.in_order rows (subst (HasRowsInOrder rows) (sym same.committed) held);
      };
      crash = tt;
    }

pub returns-in_err-taken-clause-in_order : goal.returns-in_err-taken-clause-in_order
returns-in_err-taken-clause-in_order g c clean =
    let old = state g.S.Store c.args.conn.now in
    let new = state g.S.Store c.take_run.new.conn in
    let p = err_from_is_err_and c.from_residual.result c.from_residual.ensures.1 in
    rw (p.1, p.2) (record { ok = tt; crash = λ rows there held db left. inl (leaves_less old new clean c.take_run.ensures.reads.reads.survives db left) })

pub returns-in_err-body-clause-in_order : goal.returns-in_err-body-clause-in_order
returns-in_err-body-clause-in_order g c clean =
    let old = state g.S.Store c.args.conn.now in
    let new = state g.S.Store c.take_run.new.conn in
    let p = err_from_is_err_and c.from_residual-in_err-body.result c.from_residual-in_err-body.ensures.1 in
    rw (p.1, p.2) (record { ok = tt; crash = λ rows there held db left. inl (leaves_less old new clean c.take_run.ensures.reads.reads.survives db left) })

pub returns-in_err-write_run-clause-in_order : goal.returns-in_err-write_run-clause-in_order
returns-in_err-write_run-clause-in_order g c clean =
    let a = c.args in
    let d = a.delivery.now in
    let old = state g.S.Store a.conn.now in
    let mid = state g.S.Store c.take_run.new.conn in
    let items = c.in_ok-taken.taken.items in
    let before : HasCleanDisk mid = c.write_run.ensures.writes.ends.clean clean in
    let p = err_from_is_err_and c.from_residual-in_err-write_run.result c.from_residual-in_err-write_run.ensures.1 in
    rw (p.1, p.2) (record {
      ok = tt;
      crash = λ rows there held db left.
          let wrote : mid.may_leave db ⊎ IsWholeInOrder (with_run d.admitted.partner d.number d.text.now (taken_contents items)) mid db = rw c.deref.ensures.value at (c.write_run.ensures.crash_in_order.crash clean db left) in
          either_of (leaves_less old mid before c.take_run.ensures.reads.reads.survives db)
          (λ is. record {
            taken = taken_contents items;
            new = machine_of a.setup.now c.take_run.new.terminal;
            are_taken = c.in_ok-taken.ensures.taken before rows d.text.now there.has there.numbered c.requires.delivered.admitted;
            has = is rows (subst (HasRowsInOrder rows) (sym (c.in_ok-taken.ensures.reads.same before).committed) held);
          }) wrote;
    })
