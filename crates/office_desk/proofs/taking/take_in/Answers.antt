use Rattle.std.proofs.{Common.{◌≡◌, inl, None, Some, length, not, refl, sym, ap, subst, ◌∙◌, arith}, lemmas.List.length-map}
use Rattle.sqlite.specs.{Held.state, State.HasCleanDisk}
use Rattle.office_rows.specs.Stored.{HasRows}
use Rattle.office_admission.specs.Setups.{setup_content}
use Rattle.office_tables.{specs.{Answers.{HasUnfitReply, IsKept}, Faults.IsOfStoreOr, DeliveryReading.IsSame}, proofs.WritesLemmas.of_store_weaker}
use Rattle.office_tables.proofs.WriteLemmas.{text_kept, was_clean, was_open}
use Rattle.office_loading.specs.Closed.{closed_content}
use Rattle.office_desk.specs.{Beside.IsAt, Finding.{IsOpenIfKept, KeepsBeside}, Kept.LacksAnswer, Order.{IsInOrder, stored}, Taking.IsNew, Telling.delivery_of}
use Rattle.office_desk.proofs.HoldLemmas.{leaves_less, used_leaves, held_with, next_is, used_answers, failed_holds, failed_leaves}
use Rattle.office_desk.proofs.{DeliverLemmas.{is_now, office_with}, KeptLemmas.{failed_stays, next_found, used_by_kept}, PageLemmas.{failed_over, used_into}}
use Rattle.office_desk.proofs.Faults.{failed_in_order, failed_leaves_in_order, used_in_order}
use Rattle.office_desk.proofs.taking.take_in.Goals as goal

-- ---- a number that is used

pub returns-in_ok-answer_used-in-Some-clause-ends : goal.returns-in_ok-answer_used-in-Some-clause-ends
returns-in_ok-answer_used-in-Some-clause-ends g c = let reads = c.look.ensures.reads in record { idle = reads.reads.mode c.requires.idle; clean = λ clean. was_clean reads clean; was_open = λ clean. was_open reads clean }

pub returns-in_ok-answer_used-in-Some-clause-now : goal.returns-in_ok-answer_used-in-Some-clause-now
returns-in_ok-answer_used-in-Some-clause-now g c = is_now c.in_ok-answer_used-in-Some.field-0 c.args.delivery.now.code.now c.args.delivery.now.number _ c.in_ok-answer_used-in-Some.ensures

pub returns-in_ok-answer_used-in-Some-clause-takes : goal.returns-in_ok-answer_used-in-Some-clause-takes
returns-in_ok-answer_used-in-Some-clause-takes g c =
    let a = c.args in
    let d = a.delivery.now in
    let partner = d.admitted.partner in
    let content = setup_content a.setup.now in
    let closed = closed_content a.closed.now in
    let old = state g.S.Store a.conn.now in
    let mid = state g.S.Store c.look.new.conn in
    let found = c.in_ok-kept.field-0 in
    let response = c.in_ok-answer_used-in-Some.field-0 in
    let kept_is : found.kept ≡ Some c.in-Some.kept = let e = c.in_ok-kept.kept-is in let is = c.in-Some.is in cc in
    let idle = c.is_autocommit-is_idle.ensures.value ∙ ap not c.requires.idle in
    record {
      events = λ clean is_open opening es holds. λ sent comes.
          let settled : old.now ≡ old.committed = c.is_autocommit-is_idle.ensures.settled idle ((c.look.ensures.reads.reads.keeps clean).was_open is_open) in
          let has : HasRows holds.rows old.now = subst (HasRows holds.rows) (sym settled) holds.has in
          let same : IsSame old mid = c.in_ok-kept.ensures.reads.same clean in
          let is_found = c.in_ok-kept.ensures.found clean in
          let at : IsAt opening es found.there = is_found.beside.events opening es holds.rows holds.given has holds.after holds.beside in
          let kept : IsKept partner d.number holds.rows (Some c.in-Some.kept) = subst (IsKept partner d.number holds.rows) kept_is (is_found.kept.events opening es holds.rows has holds.after at) in
          used_answers opening es sent d.text.now partner d.number found.next d.code.now c.in-Some.kept response content old.now mid.committed (Some found.there)
          (held_with holds old.now (Some found.there) has at) (settled ∙ sym same.committed) comes kept (next_is opening es found.there partner found.next at c.in_ok-kept.ensures.next) c.in_ok-answer_used-in-Some.ensures;
      crash = λ clean was_open opening es sent holds leaves comes.
          let settled : old.now ≡ old.committed = c.is_autocommit-is_idle.ensures.settled idle was_open in
          let has : HasRows holds.rows old.now = subst (HasRows holds.rows) (sym settled) holds.has in
          let is_found = c.in_ok-kept.ensures.found clean in
          let at : IsAt opening es found.there = is_found.beside.events opening es holds.rows holds.given has holds.after holds.beside in
          let kept : IsKept partner d.number holds.rows (Some c.in-Some.kept) = subst (IsKept partner d.number holds.rows) kept_is (is_found.kept.events opening es holds.rows has holds.after at) in
          used_leaves opening es sent holds.rows partner d.number c.in-Some.kept.text.items old mid holds.after comes.is_for
          (text_kept partner d.number holds.rows c.in-Some.kept holds.after.kept_once kept) (leaves_less old mid clean c.look.ensures.reads.reads.survives) leaves;
      office = λ clean is_open office holds.
          let settled : old.now ≡ old.committed = c.is_autocommit-is_idle.ensures.settled idle ((c.look.ensures.reads.reads.keeps clean).was_open is_open) in
          let held = office_with closed content office.rows office.terminal old.committed old.now a.beside.now a.beside.now settled holds.beside holds in
          let same : IsSame old mid = c.in_ok-kept.ensures.reads.same clean in
          let is_found = c.in_ok-kept.ensures.found clean in
          let is_of = is_found.beside.office content office.rows office.terminal held in
          let theirs = office_with closed content office.rows office.terminal old.now old.now a.beside.now (Some found.there) refl is_of held in
          let kept : IsKept partner d.number office.rows (Some c.in-Some.kept) = subst (IsKept partner d.number office.rows) kept_is (is_found.kept.office content office.rows office.terminal theirs) in
          used_by_kept closed content office old.now a.beside.now held (delivery_of d) d.code.now c.in-Some.kept response mid.committed found.there found.next
          (same.committed ∙ sym settled) is_of (next_found closed content office old.now a.beside.now held partner found.next found.there c.requires.delivered.admitted.from_one is_of c.in_ok-kept.ensures.next)
          kept c.in_ok-answer_used-in-Some.ensures;
      office_crash = λ clean was_open office holds leaves db left.
          let settled : old.now ≡ old.committed = c.is_autocommit-is_idle.ensures.settled idle was_open in
          let held = office_with closed content office.rows office.terminal old.committed old.now a.beside.now a.beside.now settled holds.beside holds in
          let is_found = c.in_ok-kept.ensures.found clean in
          let is_of = is_found.beside.office content office.rows office.terminal held in
          let theirs = office_with closed content office.rows office.terminal old.now old.now a.beside.now (Some found.there) refl is_of held in
          let kept : IsKept partner d.number office.rows (Some c.in-Some.kept) = subst (IsKept partner d.number office.rows) kept_is (is_found.kept.office content office.rows office.terminal theirs) in
          used_into closed content office old.now a.beside.now held (delivery_of d) c.in-Some.kept found.next
          (next_found closed content office old.now a.beside.now held partner found.next found.there c.requires.delivered.admitted.from_one is_of c.in_ok-kept.ensures.next) kept db
          (leaves db (leaves_less old mid clean c.look.ensures.reads.reads.survives db left));
    }

-- ---- one that is new

pub returns-in-None-clause-ends : goal.returns-in-None-clause-ends
returns-in-None-clause-ends g c =
    let reads = c.look.ensures.reads in
    let ends = c.take_new.ensures.ends in
    record {
      idle = ends.idle;
      clean = λ clean. was_clean reads (ends.clean clean);
      was_open = λ clean is_open. was_open reads (ends.clean clean) (ends.was_open clean is_open);
    }

pub returns-in-None-clause-takes : goal.returns-in-None-clause-takes
returns-in-None-clause-takes g c =
    let a = c.args in
    let d = a.delivery.now in
    let partner = d.admitted.partner in
    let content = setup_content a.setup.now in
    let closed = closed_content a.closed.now in
    let old = state g.S.Store a.conn.now in
    let mid = state g.S.Store c.look.new.conn in
    let ends = c.take_new.ensures.ends in
    let found = c.in_ok-kept.field-0 in
    let kept_is : found.kept ≡ None = let e = c.in_ok-kept.kept-is in let is = c.in-None.is in cc in
    let idle = c.is_autocommit-is_idle.ensures.value ∙ ap not c.requires.idle in
    let is_new : HasCleanDisk mid → old.now ≡ old.committed → IsSame old mid → IsNew (closed_content a.closed.now) (delivery_of d) found.there mid = λ clean settled same. record {
      settled = same.now ∙ settled ∙ sym same.committed;
      free = subst (λ db. KeepsBeside (closed_content a.closed.now) partner d.number db found.there None) (settled ∙ sym same.committed)
          (subst (KeepsBeside (closed_content a.closed.now) partner d.number old.now found.there) kept_is (c.in_ok-kept.ensures.found clean).kept);
    } in
    record {
      events = λ clean is_open opening es holds.
          let before = ends.clean clean in
          let settled : old.now ≡ old.committed = c.is_autocommit-is_idle.ensures.settled idle ((c.look.ensures.reads.reads.keeps before).was_open (ends.was_open clean is_open)) in
          let has : HasRows holds.rows old.now = subst (HasRows holds.rows) (sym settled) holds.has in
          let same : IsSame old mid = c.in_ok-kept.ensures.reads.same before in
          let at : IsAt opening es found.there = (c.in_ok-kept.ensures.found before).beside.events opening es holds.rows holds.given has holds.after holds.beside in
          (c.take_new.ensures.takes (closed_content a.closed.now) (is_new before settled same)).events clean is_open opening es
          (held_with holds mid.committed (Some found.there) (subst (HasRows holds.rows) (sym same.committed) holds.has) at);
      crash = λ clean was_open opening es sent holds leaves comes.
          let before = ends.clean clean in
          let settled : old.now ≡ old.committed = c.is_autocommit-is_idle.ensures.settled idle was_open in
          let has : HasRows holds.rows old.now = subst (HasRows holds.rows) (sym settled) holds.has in
          let same : IsSame old mid = c.in_ok-kept.ensures.reads.same before in
          let at : IsAt opening es found.there = (c.in_ok-kept.ensures.found before).beside.events opening es holds.rows holds.given has holds.after holds.beside in
          (c.take_new.ensures.takes (closed_content a.closed.now) (is_new before settled same)).crash clean (c.in_ok-kept.ensures.reads.reads.unchanged before was_open).0.is_open opening es sent
          (held_with holds mid.committed (Some found.there) (subst (HasRows holds.rows) (sym same.committed) holds.has) at)
          (λ db left. leaves db (leaves_less old mid before c.look.ensures.reads.reads.survives db left)) comes;
      office = λ clean is_open office holds.
          let before = ends.clean clean in
          let settled : old.now ≡ old.committed = c.is_autocommit-is_idle.ensures.settled idle ((c.look.ensures.reads.reads.keeps before).was_open (ends.was_open clean is_open)) in
          let held = office_with closed content office.rows office.terminal old.committed old.now a.beside.now a.beside.now settled holds.beside holds in
          let same : IsSame old mid = c.in_ok-kept.ensures.reads.same before in
          let is_of = (c.in_ok-kept.ensures.found before).beside.office content office.rows office.terminal held in
          (c.take_new.ensures.takes (closed_content a.closed.now) (is_new before settled same)).office clean is_open office
          (office_with closed content office.rows office.terminal old.now mid.committed a.beside.now (Some found.there) (same.committed ∙ sym settled) is_of held);
      office_crash = λ clean was_open office holds leaves.
          let before = ends.clean clean in
          let settled : old.now ≡ old.committed = c.is_autocommit-is_idle.ensures.settled idle was_open in
          let held = office_with closed content office.rows office.terminal old.committed old.now a.beside.now a.beside.now settled holds.beside holds in
          let same : IsSame old mid = c.in_ok-kept.ensures.reads.same before in
          let is_of = (c.in_ok-kept.ensures.found before).beside.office content office.rows office.terminal held in
          (c.take_new.ensures.takes closed (is_new before settled same)).office_crash clean (c.in_ok-kept.ensures.reads.reads.unchanged before was_open).0.is_open office
          (office_with closed content office.rows office.terminal old.now mid.committed a.beside.now (Some found.there) (same.committed ∙ sym settled) is_of held)
          (λ db left. leaves db (leaves_less old mid before c.look.ensures.reads.reads.survives db left));
    }

-- ---- the look failed

pub returns-in_err-kept-clause-takes : goal.returns-in_err-kept-clause-takes
returns-in_err-kept-clause-takes g c =
    let a = c.args in
    let d = a.delivery.now in
    let content = setup_content a.setup.now in
    let closed = closed_content a.closed.now in
    let old = state g.S.Store a.conn.now in
    let mid = state g.S.Store c.look.new.conn in
    let idle = c.is_autocommit-is_idle.ensures.value ∙ ap not c.requires.idle in
    record {
      events = λ clean is_open opening es holds.
          let settled : old.now ≡ old.committed = c.is_autocommit-is_idle.ensures.settled idle ((c.look.ensures.reads.reads.keeps clean).was_open is_open) in
          let has : HasRows holds.rows old.now = subst (HasRows holds.rows) (sym settled) holds.has in
          failed_holds opening es _ (delivery_of d) d.code.now c.from_residual.result content mid.committed c.look.new.beside c.from_residual.ensures.1
          (held_with holds mid.committed c.look.new.beside (subst (HasRows holds.rows) (sym ((c.look.ensures.reads.reads.keeps clean).committed is_open)) holds.has)
          ((c.in_err-kept.ensures.not_found clean).beside.events opening es holds.rows holds.given has holds.after holds.beside));
      crash = λ clean was_open opening es sent holds leaves comes. failed_leaves opening es _ sent c.from_residual.result mid c.from_residual.ensures.1 (λ db left.
          let settled : old.now ≡ old.committed = c.is_autocommit-is_idle.ensures.settled idle was_open in
          let has : HasRows holds.rows old.now = subst (HasRows holds.rows) (sym settled) holds.has in
          inl (leaves db (leaves_less old mid clean c.look.ensures.reads.reads.survives db left)));
      office = λ clean is_open office holds.
          let settled : old.now ≡ old.committed = c.is_autocommit-is_idle.ensures.settled idle ((c.look.ensures.reads.reads.keeps clean).was_open is_open) in
          let held = office_with closed content office.rows office.terminal old.committed old.now a.beside.now a.beside.now settled holds.beside holds in
          let most = c.requires.delivered.admitted.known in
          let many : length content.partners ≡ length a.setup.now.partners.items = length-map a.setup.now.partners.items _ in
          let not_found = c.in_err-kept.ensures.not_found clean in
          failed_stays _ closed content office (delivery_of d) d.code.now c.from_residual.result _ _ c.from_residual.ensures.1
          (λ fault is. of_store_weaker _ _ (λ unfit. inl unfit) fault (subst (IsOfStoreOr (HasUnfitReply d.admitted.partner d.number office.rows)) (sym is) (not_found.why content office.rows office.terminal held (omega (arith, most, many)))))
          (office_with closed content office.rows office.terminal old.committed mid.committed a.beside.now c.look.new.beside ((c.look.ensures.reads.reads.keeps clean).committed is_open)
          (not_found.beside.office content office.rows office.terminal held) holds);
      office_crash = λ clean was_open office holds leaves. failed_over _ content (delivery_of d) office c.from_residual.result mid c.from_residual.ensures.1 (λ db left.
          inl (leaves db (leaves_less old mid clean c.look.ensures.reads.reads.survives db left)));
    }

-- ---- memory was refused for the answer

pub returns-in_err-answer_used-in-Some-clause-takes : goal.returns-in_err-answer_used-in-Some-clause-takes
returns-in_err-answer_used-in-Some-clause-takes g c =
    let a = c.args in
    let d = a.delivery.now in
    let content = setup_content a.setup.now in
    let closed = closed_content a.closed.now in
    let old = state g.S.Store a.conn.now in
    let mid = state g.S.Store c.look.new.conn in
    let found = c.in_ok-kept.field-0 in
    let result = c.from_residual-in_err-answer_used-in-Some.result in
    let failed = c.from_residual-in_err-answer_used-in-Some.ensures.1 in
    let idle = c.is_autocommit-is_idle.ensures.value ∙ ap not c.requires.idle in
    record {
      events = λ clean is_open opening es holds.
          let settled : old.now ≡ old.committed = c.is_autocommit-is_idle.ensures.settled idle ((c.look.ensures.reads.reads.keeps clean).was_open is_open) in
          let has : HasRows holds.rows old.now = subst (HasRows holds.rows) (sym settled) holds.has in
          let same : IsSame old mid = c.in_ok-kept.ensures.reads.same clean in
          failed_holds opening es _ (delivery_of d) d.code.now result content mid.committed (Some found.there) failed
          (held_with holds mid.committed (Some found.there) (subst (HasRows holds.rows) (sym same.committed) holds.has)
          ((c.in_ok-kept.ensures.found clean).beside.events opening es holds.rows holds.given has holds.after holds.beside));
      crash = λ clean was_open opening es sent holds leaves comes. failed_leaves opening es _ sent result mid failed (λ db left.
          let settled : old.now ≡ old.committed = c.is_autocommit-is_idle.ensures.settled idle was_open in
          let has : HasRows holds.rows old.now = subst (HasRows holds.rows) (sym settled) holds.has in
          inl (leaves db (leaves_less old mid clean c.look.ensures.reads.reads.survives db left)));
      office = λ clean is_open office holds.
          let settled : old.now ≡ old.committed = c.is_autocommit-is_idle.ensures.settled idle ((c.look.ensures.reads.reads.keeps clean).was_open is_open) in
          let held = office_with closed content office.rows office.terminal old.committed old.now a.beside.now a.beside.now settled holds.beside holds in
          let same : IsSame old mid = c.in_ok-kept.ensures.reads.same clean in
          failed_stays _ closed content office (delivery_of d) d.code.now result _ _ failed
          (λ fault is. subst (IsOfStoreOr (LacksAnswer closed d.admitted.partner d.number office.rows)) (sym is) tt)
          (office_with closed content office.rows office.terminal old.committed mid.committed a.beside.now (Some found.there) same.committed
          ((c.in_ok-kept.ensures.found clean).beside.office content office.rows office.terminal held) holds);
      office_crash = λ clean was_open office holds leaves. failed_over _ content (delivery_of d) office result mid failed (λ db left.
          inl (leaves db (leaves_less old mid clean c.look.ensures.reads.reads.survives db left)));
    }

-- ---- over an open connection

pub returns-in_ok-answer_used-in-Some-clause-is_open : goal.returns-in_ok-answer_used-in-Some-clause-is_open
returns-in_ok-answer_used-in-Some-clause-is_open g c clean =
    let mid = state g.S.Store c.look.new.conn in
    let found = c.in_ok-kept.field-0 in
    let kept_is : found.kept ≡ Some c.in-Some.kept = let e = c.in_ok-kept.kept-is in let is = c.in-Some.is in cc in
    subst (λ kept. IsOpenIfKept kept mid) kept_is (c.in_ok-kept.ensures.is_open clean)

-- ---- the order of arrival

pub returns-in_ok-answer_used-in-Some-clause-in_order : goal.returns-in_ok-answer_used-in-Some-clause-in_order
returns-in_ok-answer_used-in-Some-clause-in_order g c =
    let a = c.args in
    let d = a.delivery.now in
    let partner = d.admitted.partner in
    let old = state g.S.Store a.conn.now in
    let mid = state g.S.Store c.look.new.conn in
    let found = c.in_ok-kept.field-0 in
    let kept_is : found.kept ≡ Some c.in-Some.kept = let e = c.in_ok-kept.kept-is in let is = c.in-Some.is in cc in
    let idle = c.is_autocommit-is_idle.ensures.value ∙ ap not c.requires.idle in
    record {
      rows = λ clean is_open opening es sent holds order comes.
          let settled : old.now ≡ old.committed = c.is_autocommit-is_idle.ensures.settled idle ((c.look.ensures.reads.reads.keeps clean).was_open is_open) in
          let has : HasRows holds.rows old.now = subst (HasRows holds.rows) (sym settled) holds.has in
          let same : IsSame old mid = c.in_ok-kept.ensures.reads.same clean in
          let is_found = c.in_ok-kept.ensures.found clean in
          let at : IsAt opening es found.there = is_found.beside.events opening es holds.rows holds.given has holds.after holds.beside in
          let kept : IsKept partner d.number holds.rows (Some c.in-Some.kept) = subst (IsKept partner d.number holds.rows) kept_is (is_found.kept.events opening es holds.rows has holds.after at) in
          used_in_order opening es sent holds.rows partner d.number c.in-Some.kept.text.items mid.committed holds.after comes.is_for
          (text_kept partner d.number holds.rows c.in-Some.kept holds.after.kept_once kept) (subst (IsInOrder opening es) (sym same.committed) order);
      crash = λ clean was_open opening es sent holds order leaves comes db left.
          let settled : old.now ≡ old.committed = c.is_autocommit-is_idle.ensures.settled idle was_open in
          let has : HasRows holds.rows old.now = subst (HasRows holds.rows) (sym settled) holds.has in
          let is_found = c.in_ok-kept.ensures.found clean in
          let at : IsAt opening es found.there = is_found.beside.events opening es holds.rows holds.given has holds.after holds.beside in
          let kept : IsKept partner d.number holds.rows (Some c.in-Some.kept) = subst (IsKept partner d.number holds.rows) kept_is (is_found.kept.events opening es holds.rows has holds.after at) in
          used_in_order opening es sent holds.rows partner d.number c.in-Some.kept.text.items (stored db) holds.after comes.is_for
          (text_kept partner d.number holds.rows c.in-Some.kept holds.after.kept_once kept) (leaves db (leaves_less old mid clean c.look.ensures.reads.reads.survives db left));
    }

pub returns-in-None-clause-in_order : goal.returns-in-None-clause-in_order
returns-in-None-clause-in_order g c =
    let a = c.args in
    let d = a.delivery.now in
    let partner = d.admitted.partner in
    let old = state g.S.Store a.conn.now in
    let mid = state g.S.Store c.look.new.conn in
    let ends = c.take_new.ensures.ends in
    let found = c.in_ok-kept.field-0 in
    let kept_is : found.kept ≡ None = let e = c.in_ok-kept.kept-is in let is = c.in-None.is in cc in
    let idle = c.is_autocommit-is_idle.ensures.value ∙ ap not c.requires.idle in
    let is_new : HasCleanDisk mid → old.now ≡ old.committed → IsSame old mid → IsNew (closed_content a.closed.now) (delivery_of d) found.there mid = λ clean settled same. record {
      settled = same.now ∙ settled ∙ sym same.committed;
      free = subst (λ db. KeepsBeside (closed_content a.closed.now) partner d.number db found.there None) (settled ∙ sym same.committed)
          (subst (KeepsBeside (closed_content a.closed.now) partner d.number old.now found.there) kept_is (c.in_ok-kept.ensures.found clean).kept);
    } in
    record {
      rows = λ clean is_open opening es sent holds order comes.
          let before = ends.clean clean in
          let settled : old.now ≡ old.committed = c.is_autocommit-is_idle.ensures.settled idle ((c.look.ensures.reads.reads.keeps before).was_open (ends.was_open clean is_open)) in
          let has : HasRows holds.rows old.now = subst (HasRows holds.rows) (sym settled) holds.has in
          let same : IsSame old mid = c.in_ok-kept.ensures.reads.same before in
          let at : IsAt opening es found.there = (c.in_ok-kept.ensures.found before).beside.events opening es holds.rows holds.given has holds.after holds.beside in
          (c.take_new.ensures.in_order (closed_content a.closed.now) (is_new before settled same)).rows clean is_open opening es sent
          (held_with holds mid.committed (Some found.there) (subst (HasRows holds.rows) (sym same.committed) holds.has) at)
          (subst (IsInOrder opening es) (sym same.committed) order) comes;
      crash = λ clean was_open opening es sent holds order leaves comes.
          let before = ends.clean clean in
          let settled : old.now ≡ old.committed = c.is_autocommit-is_idle.ensures.settled idle was_open in
          let has : HasRows holds.rows old.now = subst (HasRows holds.rows) (sym settled) holds.has in
          let same : IsSame old mid = c.in_ok-kept.ensures.reads.same before in
          let at : IsAt opening es found.there = (c.in_ok-kept.ensures.found before).beside.events opening es holds.rows holds.given has holds.after holds.beside in
          (c.take_new.ensures.in_order (closed_content a.closed.now) (is_new before settled same)).crash clean (c.in_ok-kept.ensures.reads.reads.unchanged before was_open).0.is_open opening es sent
          (held_with holds mid.committed (Some found.there) (subst (HasRows holds.rows) (sym same.committed) holds.has) at)
          (subst (IsInOrder opening es) (sym same.committed) order)
          (λ db left. leaves db (leaves_less old mid before c.look.ensures.reads.reads.survives db left)) comes;
    }

pub returns-in_err-kept-clause-in_order : goal.returns-in_err-kept-clause-in_order
returns-in_err-kept-clause-in_order g c =
    let old = state g.S.Store c.args.conn.now in
    let mid = state g.S.Store c.look.new.conn in
    record {
      rows = λ clean is_open opening es sent holds order comes.
          failed_in_order opening es sent _ c.from_residual.result mid.committed c.from_residual.ensures.1 (subst (IsInOrder opening es) (sym ((c.look.ensures.reads.reads.keeps clean).committed is_open)) order);
      crash = λ clean was_open opening es sent holds order leaves comes. failed_leaves_in_order opening es sent _ c.from_residual.result mid c.from_residual.ensures.1 (λ db left.
          inl (leaves db (leaves_less old mid clean c.look.ensures.reads.reads.survives db left)));
    }

pub returns-in_err-answer_used-in-Some-clause-in_order : goal.returns-in_err-answer_used-in-Some-clause-in_order
returns-in_err-answer_used-in-Some-clause-in_order g c =
    let old = state g.S.Store c.args.conn.now in
    let mid = state g.S.Store c.look.new.conn in
    let result = c.from_residual-in_err-answer_used-in-Some.result in
    let failed = c.from_residual-in_err-answer_used-in-Some.ensures.1 in
    record {
      rows = λ clean is_open opening es sent holds order comes.
          failed_in_order opening es sent _ result mid.committed failed (subst (IsInOrder opening es) (sym (c.in_ok-kept.ensures.reads.same clean).committed) order);
      crash = λ clean was_open opening es sent holds order leaves comes. failed_leaves_in_order opening es sent _ result mid failed (λ db left.
          inl (leaves db (leaves_less old mid clean c.look.ensures.reads.reads.survives db left)));
    }
