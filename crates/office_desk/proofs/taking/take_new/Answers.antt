use Rattle.std.proofs.{Common.{◌≡◌, ◌∷◌, ◌++◌, [], Some, inl, inr, length, refl, sym, ap, subst, ◌∙◌, arith}, lemmas.Bool.cases_order, lemmas.List.length-map}
use Rattle.sqlite.specs.Held.{state}
use Rattle.partner_core.specs.Answers.{Waiting}
use Rattle.office_replies.specs.Events.{delivered}
use Rattle.office_rows.{specs.Stored.HasRows, proofs.Creating.{if_ok, on_ok}}
use Rattle.office_tables.{specs.{Writing.Commits, Faults.IsOfStore}, proofs.WritesLemmas.{of_store_alone, of_store_or}}
use Rattle.office_admission.specs.Setups.{setup_content}
use Rattle.office_history.specs.After.{machine_with}
use Rattle.office_desk.specs.{Beside.{IsBeside, IsOrNone}, Order.{IsInOrder, IsRunInOrder, stored}, Taking.HasNumbered, Telling.{IsRunDone, delivery_of}}
use Rattle.office_desk.proofs.HoldLemmas.{committed_leaves, either_of, run_after, held_with, machine_same, next_answers, next_is, numbered, number_within, early_events, early_leaves, failed_holds, failed_leaves}
use Rattle.office_desk.proofs.{DeliverLemmas.{is_now, keeps_accounts, next_follows, office_with}, NextLemmas.{free_after, free_over}}
use Rattle.office_desk.proofs.Faults.{behind_fits, low_is_kept, committed_in_order, early_crash, early_rows, failed_in_order, failed_leaves_in_order, held_in_order, run_in_order}
use Rattle.office_desk.proofs.KeptLemmas.{early_or_stays, failed_stays, next_answers_so, next_found, numbered_in}
use Rattle.office_desk.proofs.PageLemmas.{early_leaves_over, failed_over, run_into, taken_leaves_over}
use Rattle.office_desk.proofs.taking.take_new.Goals as goal

pub take_next-requires-clause-known : goal.take_next-requires-clause-known
take_next-requires-clause-known g c = number_within c.args.there.nexts.items c.args.delivery.now.admitted.partner c.args.next c.requires.next

-- ---- a number below the next that is not used: no office has it

pub returns-then-delivery-next-clause-takes : goal.returns-then-delivery-next-clause-takes
returns-then-delivery-next-clause-takes g c closed new =
    let a = c.args in
    let d = a.delivery.now in
    let was = state g.S.Store a.conn.now in
    let content = setup_content a.setup.now in
    let partner = d.admitted.partner in
    record {
      events = λ clean is_open opening es holds. held_with holds was.committed a.beside.now holds.has (subst (IsBeside opening es) (sym c.requires.out) tt);
      crash = λ clean was_open opening es sent holds leaves comes db left. inl (leaves db left);
      office = λ clean is_open old holds.
          let its = (keeps_accounts closed content old.rows old.terminal was.committed holds.has holds.loads).0 in
          let is_next = next_found closed content old was.committed (Some a.there) holds partner a.next a.there c.requires.delivered.admitted.from_one holds.beside c.requires.next in
          let follows = next_follows closed content old.rows its partner a.next is_next in
          let low = c.if-delivery-next.true in (
            elim (cases_order (closed.last_closed partner) d.number) [
              | inl same ↦ inr (omega (arith, same), free_over old.rows new holds)
              | inr o ↦ elim o [
                | inl far ↦ absurd (low_is_kept closed content old.rows its partner d.number far (omega (arith, low, follows)) (free_over old.rows new holds))
                | inr near ↦ inr (omega (arith, near), free_over old.rows new holds)
              ]
            ],
            office_with closed content old.rows old.terminal was.committed was.committed (Some a.there) a.beside.now refl (subst (IsOrNone old.rows old.terminal) (sym c.requires.out) tt) holds,
          );
      office_crash = λ clean was_open old holds leaves db left. inl (leaves db left);
    }

-- ---- one that is early

pub returns-then-next-delivery-clause-now : goal.returns-then-next-delivery-clause-now
returns-then-next-delivery-clause-now g c = if_ok c.keep_early.result (λ response told. is_now response c.args.delivery.now.code.now c.args.delivery.now.number (Waiting c.args.next) told) c.keep_early.ensures.told

pub returns-then-next-delivery-clause-takes : goal.returns-then-next-delivery-clause-takes
returns-then-next-delivery-clause-takes g c closed new =
    let a = c.args in
    let d = a.delivery.now in
    let content = setup_content a.setup.now in
    let was = state g.S.Store a.conn.now in
    let end = state g.S.Store c.keep_early.new.conn in
    let partner = d.admitted.partner in
    let told = c.keep_early.ensures.told in
    let writes = c.keep_early.ensures.writes in
    let later = c.if-next-delivery.true in
    record {
      events = λ clean is_open opening es holds.
          early_events opening es (delivery_of d) d.code.now content was end (Some a.there) a.next holds (free_after new holds) (next_is opening es a.there partner a.next holds.beside c.requires.next) later
          c.keep_early.result told (writes.ok clean) (writes.err clean is_open);
      crash = λ clean was_open opening es sent holds leaves comes.
          early_leaves opening es (delivery_of d) d.code.now content was end (Some a.there) a.next holds (free_after new holds) (next_is opening es a.there partner a.next holds.beside c.requires.next) later
          sent c.keep_early.result comes leaves told (writes.ok clean) (writes.crash.crash clean);
      office = λ clean is_open old holds.
          let most = c.requires.delivered.admitted.known in
          let many : length content.partners ≡ length a.setup.now.partners.items = length-map a.setup.now.partners.items _ in
          let one = c.requires.delivered.admitted.from_one in
          let is_next = next_found closed content old was.committed (Some a.there) holds partner a.next a.there one holds.beside c.requires.next in
          early_or_stays closed content old (delivery_of d) d.code.now c.keep_early.result was end a.there a.next holds is_next (free_over old.rows new holds) later c.requires.delivered.number one (omega (arith, most, many))
          told (writes.ok clean) (writes.err clean is_open) writes.fault;
      office_crash = λ clean was_open old holds leaves.
          let is_next = next_found closed content old was.committed (Some a.there) holds partner a.next a.there c.requires.delivered.admitted.from_one holds.beside c.requires.next in
          early_leaves_over content (delivery_of d) old a.next is_next (free_over old.rows new holds) later c.keep_early.result was end holds.has leaves (writes.ok clean) (writes.crash.crash clean);
    }

-- ---- the next one

pub returns-clause-takes : goal.returns-clause-takes
returns-clause-takes g c closed new =
    let a = c.args in
    let d = a.delivery.now in
    let content = setup_content a.setup.now in
    let was = state g.S.Store a.conn.now in
    let end = state g.S.Store c.take_next.new.conn in
    let partner = d.admitted.partner in
    let one = c.requires.delivered.admitted.from_one in
    let same : d.number ≡ a.next = omega (arith, c.if-delivery-next.false, c.if-next-delivery.false) in
    let runs = rw c.in_ok-answer.was at c.take_next.ensures.takes in
    record {
      events = λ clean is_open opening es holds. λ sent comes.
          let takes = (runs clean).ok holds.rows (record { settled = new.settled; has = subst (HasRows holds.rows) (sym new.settled) holds.has; numbered = numbered opening es holds.rows partner holds.after }) in
          next_answers a.setup.now opening es sent d.text.now partner d.number a.next d.code.now c.in_ok-answer.answer a.there c.in_ok-answer.now was.committed end holds comes
          (free_after new holds) one (next_is opening es a.there partner a.next holds.beside c.requires.next) same takes;
      crash = λ clean was_open opening es sent holds leaves comes.
          let takes = (runs clean).ok holds.rows (record { settled = new.settled; has = subst (HasRows holds.rows) (sym new.settled) holds.has; numbered = numbered opening es holds.rows partner holds.after }) in
          let after = (next_answers a.setup.now opening es sent d.text.now partner d.number a.next d.code.now c.in_ok-answer.answer a.there c.in_ok-answer.now was.committed end holds comes
          (free_after new holds) one (next_is opening es a.there partner a.next holds.beside c.requires.next) same takes).holds in
          committed_leaves opening (es ++ delivered sent ∷ []) end after.rows takes.alone after.has after.after;
      office = λ clean is_open old holds.
          let most = c.requires.delivered.admitted.known in
          let many : length content.partners ≡ length a.setup.now.partners.items = length-map a.setup.now.partners.items _ in
          let is_next = next_found closed content old was.committed (Some a.there) holds partner a.next a.there one holds.beside c.requires.next in
          next_answers_so closed a.setup.now old (delivery_of d) d.code.now c.in_ok-answer.answer was.committed a.there c.in_ok-answer.now end a.next holds is_next (free_over old.rows new holds) same
          one (omega (arith, most, many)) c.requires.delivered.number
          (λ rows has numbers. (runs clean).ok rows (record { settled = new.settled; has = subst (HasRows rows) (sym new.settled) has; numbered = numbers }));
      office_crash = λ clean was_open old holds leaves.
          let is_next = next_found closed content old was.committed (Some a.there) holds partner a.next a.there one holds.beside c.requires.next in
          let there : HasNumbered old.rows partner was = record { settled = new.settled; has = subst (HasRows old.rows) (sym new.settled) holds.has; numbered = numbered_in closed content old was.committed (Some a.there) partner old.rows holds refl } in
          taken_leaves_over a.setup.now (delivery_of d) d.code.now old a.next a.there c.in_ok-answer.now c.in_ok-answer.answer end is_next (free_over old.rows new holds) same holds.beside.terminal_is ((runs clean).ok old.rows there);
    }

-- ---- and it failed

pub returns-in_err-answer-clause-takes : goal.returns-in_err-answer-clause-takes
returns-in_err-answer-clause-takes g c closed new =
    let a = c.args in
    let d = a.delivery.now in
    let content = setup_content a.setup.now in
    let was = state g.S.Store a.conn.now in
    let end = state g.S.Store c.take_next.new.conn in
    let partner = d.admitted.partner in
    let one = c.requires.delivered.admitted.from_one in
    let same : d.number ≡ a.next = omega (arith, c.if-delivery-next.false, c.if-next-delivery.false) in
    let runs = rw c.in_err-answer.was at c.take_next.ensures.takes in
    record {
      events = λ clean is_open opening es holds.
          let kept = (runs clean).err is_open in
          failed_holds opening es _ (delivery_of d) d.code.now c.from_residual.result content end.committed a.beside.now c.from_residual.ensures.1
          (held_with holds end.committed a.beside.now (subst (HasRows holds.rows) (sym kept) holds.has) (subst (IsBeside opening es) (sym c.requires.out) tt));
      crash = λ clean was_open opening es sent holds leaves comes. failed_leaves opening es _ sent c.from_residual.result end c.from_residual.ensures.1 (λ db left.
          let rows = holds.rows in
          either_of (λ before. leaves db before)
          (λ done. run_after opening es sent rows d.text.now partner d.number a.next a.there db holds.given holds.after holds.beside comes (free_after new holds) (next_is opening es a.there partner a.next holds.beside c.requires.next) same
          (subst (λ m. IsRunDone rows (delivery_of d) m db) (machine_same a.setup.now a.there.terminal ∙ ap (λ k. machine_with k a.there.terminal) (sym holds.now_is)) done))
          ((runs clean).crash rows (record { settled = new.settled; has = subst (HasRows rows) (sym new.settled) holds.has; numbered = numbered opening es rows partner holds.after }) db left));
      office = λ clean is_open old holds.
          let its = (keeps_accounts closed content old.rows old.terminal was.committed holds.has holds.loads).0 in
          let is_next = next_found closed content old was.committed (Some a.there) holds partner a.next a.there one holds.beside c.requires.next in
          let follows = next_follows closed content old.rows its partner a.next is_next in
          let stored = of_store_alone _ (behind_fits closed content old.rows its partner d.number (omega (arith, same, follows))) _ ((runs clean).fault old.rows (subst (HasRows old.rows) (sym new.settled) holds.has)) in
          failed_stays _ closed content old (delivery_of d) d.code.now c.from_residual.result _ _ c.from_residual.ensures.1
          (λ fault is. of_store_or _ fault (subst IsOfStore (sym is) stored))
          (office_with closed content old.rows old.terminal was.committed end.committed (Some a.there) a.beside.now ((runs clean).err is_open) (subst (IsOrNone old.rows old.terminal) (sym c.requires.out) tt) holds);
      office_crash = λ clean was_open old holds leaves.
          let is_next = next_found closed content old was.committed (Some a.there) holds partner a.next a.there one holds.beside c.requires.next in
          let there : HasNumbered old.rows partner was = record { settled = new.settled; has = subst (HasRows old.rows) (sym new.settled) holds.has; numbered = numbered_in closed content old was.committed (Some a.there) partner old.rows holds refl } in
          failed_over _ content (delivery_of d) old c.from_residual.result end c.from_residual.ensures.1 (λ db left.
          either_of (λ before. leaves db before) (λ done. run_into a.setup.now (delivery_of d) old a.next a.there db is_next (free_over old.rows new holds) same holds.beside.terminal_is done)
          ((runs clean).crash old.rows there db left));
    }

-- ---- over an open connection

pub returns-then-next-delivery-clause-is_open : goal.returns-then-next-delivery-clause-is_open
returns-then-next-delivery-clause-is_open g c clean =
    on_ok c.keep_early.result (λ (done : Commits _ (state g.S.Store c.args.conn.now) (state g.S.Store c.keep_early.new.conn)). done.is_open) (c.keep_early.ensures.writes.ok clean)

-- ---- the order of arrival

pub returns-then-delivery-next-clause-in_order : goal.returns-then-delivery-next-clause-in_order
returns-then-delivery-next-clause-in_order g c closed new = record {
  rows = λ clean is_open opening es sent holds order comes. order;
  crash = λ clean was_open opening es sent holds order leaves comes db left. inl (leaves db left);
}

pub returns-then-next-delivery-clause-in_order : goal.returns-then-next-delivery-clause-in_order
returns-then-next-delivery-clause-in_order g c closed new =
    let a = c.args in
    let d = a.delivery.now in
    let was = state g.S.Store a.conn.now in
    let end = state g.S.Store c.keep_early.new.conn in
    let partner = d.admitted.partner in
    let writes = c.keep_early.ensures.writes in
    let later = c.if-next-delivery.true in
    record {
      rows = λ clean is_open opening es sent holds order comes.
          early_rows opening es sent (delivery_of d) was end a.next order comes (free_after new (held_in_order holds order)) (next_is opening es a.there partner a.next holds.beside c.requires.next) later
          c.keep_early.result (writes.ok clean) (writes.err clean is_open);
      crash = λ clean was_open opening es sent holds order leaves comes.
          early_crash opening es sent (delivery_of d) was end a.next order comes (free_after new (held_in_order holds order)) (next_is opening es a.there partner a.next holds.beside c.requires.next) later
          c.keep_early.result leaves (writes.ok clean) (c.keep_early.ensures.crash_in_order.crash clean);
    }

pub returns-clause-in_order : goal.returns-clause-in_order
returns-clause-in_order g c closed new =
    let a = c.args in
    let d = a.delivery.now in
    let was = state g.S.Store a.conn.now in
    let end = state g.S.Store c.take_next.new.conn in
    let partner = d.admitted.partner in
    let same : d.number ≡ a.next = omega (arith, c.if-delivery-next.false, c.if-next-delivery.false) in
    let runs = rw c.in_ok-answer.was at c.take_next.ensures.takes in
    let in_order = rw c.in_ok-answer.was at c.take_next.ensures.in_order in
    record {
      rows = λ clean is_open opening es sent holds order comes.
          let rows = order.rows in
          let there : HasNumbered rows partner was = record { settled = new.settled; has = subst (HasRows rows) (sym new.settled) order.has.has; numbered = numbered opening es rows partner order.after.after } in
          run_in_order opening es sent rows d.text.now partner d.number a.next a.there end.committed holds.given order.after holds.beside comes
          (free_after new (held_in_order holds order)) (next_is opening es a.there partner a.next holds.beside c.requires.next) same
          (subst (λ m. IsRunInOrder rows (delivery_of d) m end.committed) (machine_same a.setup.now a.there.terminal ∙ ap (λ k. machine_with k a.there.terminal) (sym holds.now_is))
          ((in_order clean).ok rows there order.has));
      crash = λ clean was_open opening es sent holds order leaves comes.
          let rows = order.rows in
          let there : HasNumbered rows partner was = record { settled = new.settled; has = subst (HasRows rows) (sym new.settled) order.has.has; numbered = numbered opening es rows partner order.after.after } in
          committed_in_order opening (es ++ delivered sent ∷ []) end ((runs clean).ok rows there).alone
          (run_in_order opening es sent rows d.text.now partner d.number a.next a.there end.committed holds.given order.after holds.beside comes
          (free_after new (held_in_order holds order)) (next_is opening es a.there partner a.next holds.beside c.requires.next) same
          (subst (λ m. IsRunInOrder rows (delivery_of d) m end.committed) (machine_same a.setup.now a.there.terminal ∙ ap (λ k. machine_with k a.there.terminal) (sym holds.now_is))
          ((in_order clean).ok rows there order.has)));
    }

pub returns-in_err-answer-clause-in_order : goal.returns-in_err-answer-clause-in_order
returns-in_err-answer-clause-in_order g c closed new =
    let a = c.args in
    let d = a.delivery.now in
    let end = state g.S.Store c.take_next.new.conn in
    let partner = d.admitted.partner in
    let same : d.number ≡ a.next = omega (arith, c.if-delivery-next.false, c.if-next-delivery.false) in
    let runs = rw c.in_err-answer.was at c.take_next.ensures.takes in
    let in_order = rw c.in_err-answer.was at c.take_next.ensures.in_order in
    record {
      rows = λ clean is_open opening es sent holds order comes.
          failed_in_order opening es sent _ c.from_residual.result end.committed c.from_residual.ensures.1 (subst (IsInOrder opening es) (sym ((runs clean).err is_open)) order);
      crash = λ clean was_open opening es sent holds order leaves comes. failed_leaves_in_order opening es sent _ c.from_residual.result end c.from_residual.ensures.1 (λ db left.
          let rows = order.rows in
          either_of (λ before. leaves db before)
          (λ done. run_in_order opening es sent rows d.text.now partner d.number a.next a.there (stored db) holds.given order.after holds.beside comes
          (free_after new (held_in_order holds order)) (next_is opening es a.there partner a.next holds.beside c.requires.next) same
          (subst (λ m. IsRunInOrder rows (delivery_of d) m (stored db)) (machine_same a.setup.now a.there.terminal ∙ ap (λ k. machine_with k a.there.terminal) (sym holds.now_is)) done))
          ((in_order clean).crash rows (record { settled = new.settled; has = subst (HasRows rows) (sym new.settled) order.has.has; numbered = numbered opening es rows partner order.after.after }) order.has db left));
    }
