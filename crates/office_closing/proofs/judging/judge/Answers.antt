use Rattle.std.proofs.{Common.{◌≡◌, ◌∙◌, [], Ok, map, sym, subst, arith}, lemmas.Result.err_from_is_err_and}
use Rattle.sqlite.specs.{Held.state, Effect.Database, State.{State, HasCleanDisk}}
use Rattle.office_closing.specs.{Waiting.AreWaitedFor, declared.faults.CloseFault.CloseFault, Copies.{ClosesNone, FileNames, office_content}, Judging.WantsAll}
use Rattle.office_closing.specs.{Arriving.{HasTexts, StandInOrder}, Files.{IsRead, IsReadIfOpen, files}, Refusing.IsOfOrdering}
use Rattle.office_closing.specs.Register.{RegisterContent, last_closed}
use Rattle.office_closing.proofs.JudgeLemmas.{none_wants, plan_judged, plan_sealed, sealed_compared, sealed_kept, sealed_numbers, sealing_tells, wants_none, failed, passed, then_failed, then_if_open, then_if_open_failed, then_ok, untouched_err}
use Rattle.office_closing.proofs.PlanLemmas.{compared_tells, copy_tells, ordering_tells, own_tells, plan_tells, texts_for, waiting_tells}
use Rattle.office_parts.specs.Named.{named_list_content}
use Rattle.office_rows.specs.Stored.{HasRows}
use Rattle.office_closing.proofs.judging.judge.Goals as goal

-- the store after it was compared
compared_store : {X Y Z E F G : Type 0} {a b c d : State} {x : X} (y : Y) {z : Z} → IsRead {E = E} a b (Ok x) → IsReadIfOpen {E = F} b c (Ok y) → IsReadIfOpen {E = G} c d (Ok z) → IsRead {T = Unit {0}} {E = CloseFault} a d (Ok tt)
compared_store y opened waited compared = then_if_open {E = CloseFault} tt (then_if_open {G = CloseFault} y opened waited) compared

pub returns-in_err-own-clause-read : goal.returns-in_err-own-clause-read
returns-in_err-own-clause-read g c =
    let p = err_from_is_err_and c.from_residual.result c.from_residual.ensures.1 in
    rw (p.1, p.2) (record {
      store = failed _ c.in_err-own.ensures.rows_read;
      register = failed _ c.in_err-own.ensures.register_read;
      archive = untouched_err (state g.A.Store c.args.archive.now) _;
      archive_register = untouched_err (state g.M.Store c.args.archive_register.now) _;
    })

pub returns-in_err-copy-clause-read : goal.returns-in_err-copy-clause-read
returns-in_err-copy-clause-read g c =
    let p = err_from_is_err_and c.from_residual-in_err-copy.result c.from_residual-in_err-copy.ensures.1 in
    rw (p.1, p.2) (record {
      store = failed _ c.in_ok-own.ensures.rows_read;
      register = failed _ c.in_ok-own.ensures.register_read;
      archive = failed _ c.in_err-copy.ensures.rows_read;
      archive_register = failed _ c.in_err-copy.ensures.register_read;
    })

pub returns-in_err-named-clause-read : goal.returns-in_err-named-clause-read
returns-in_err-named-clause-read g c =
    let p = err_from_is_err_and c.from_residual-in_err-named.result c.from_residual-in_err-named.ensures.1 in
    rw (p.1, p.2) (record {
      store = then_if_open_failed _ c.in_ok-own.ensures.rows_read c.in_err-named.ensures.read;
      register = failed _ c.in_ok-own.ensures.register_read;
      archive = failed _ c.in_ok-copy.ensures.rows_read;
      archive_register = failed _ c.in_ok-copy.ensures.register_read;
    })

pub returns-in_err-plan-clause-read : goal.returns-in_err-plan-clause-read
returns-in_err-plan-clause-read g c =
    let p = err_from_is_err_and c.from_residual-in_err-plan.result c.from_residual-in_err-plan.ensures.1 in
    rw (p.1, p.2) (record {
      store = then_if_open_failed _ c.in_ok-own.ensures.rows_read c.in_ok-named.ensures.read;
      register = failed _ c.in_ok-own.ensures.register_read;
      archive = failed _ c.in_ok-copy.ensures.rows_read;
      archive_register = failed _ c.in_ok-copy.ensures.register_read;
    })

pub returns-in_err-seals-clause-read : goal.returns-in_err-seals-clause-read
returns-in_err-seals-clause-read g c =
    let p = err_from_is_err_and c.from_residual-in_err-seals.result c.from_residual-in_err-seals.ensures.1 in
    rw (p.1, p.2) (record {
      store = then_if_open_failed {E = CloseFault} _ (then_if_open c.in_ok-named.named c.in_ok-own.ensures.rows_read c.in_ok-named.ensures.read) c.in_err-seals.ensures.store_read;
      register = failed _ c.in_ok-own.ensures.register_read;
      archive = then_if_open_failed _ c.in_ok-copy.ensures.rows_read c.in_err-seals.ensures.archive_read;
      archive_register = failed _ c.in_ok-copy.ensures.register_read;
    })

pub returns-in_err-check_order-clause-read : goal.returns-in_err-check_order-clause-read
returns-in_err-check_order-clause-read g c =
    let p = err_from_is_err_and c.from_residual-in_err-check_order.result c.from_residual-in_err-check_order.ensures.1 in
    rw (p.1, p.2) (record {
      store = then_failed {F = CloseFault} _ (compared_store c.in_ok-named.named c.in_ok-own.ensures.rows_read c.in_ok-named.ensures.read c.in_ok-seals.ensures.store_read) c.in_err-check_order.ensures.store_read;
      register = failed _ c.in_ok-own.ensures.register_read;
      archive = then_failed {F = CloseFault} _ (then_if_open {Z = Unit {0}} {E = CloseFault} {F = CloseFault} {G = CloseFault} tt c.in_ok-copy.ensures.rows_read c.in_ok-seals.ensures.archive_read) c.in_err-check_order.ensures.archive_read;
      archive_register = failed _ c.in_ok-copy.ensures.register_read;
    })

pub returns-in_err-sealed-clause-read : goal.returns-in_err-sealed-clause-read
returns-in_err-sealed-clause-read g c =
    let p = err_from_is_err_and c.from_residual-in_err-sealed.result c.from_residual-in_err-sealed.ensures.1 in
    rw (p.1, p.2) (record {
      store = failed _ (then_ok {F = CloseFault} {G = CloseFault} c.in_ok-plan.plan (compared_store c.in_ok-named.named c.in_ok-own.ensures.rows_read c.in_ok-named.ensures.read c.in_ok-seals.ensures.store_read) c.in_ok-check_order.ensures.store_read);
      register = failed _ c.in_ok-own.ensures.register_read;
      archive = failed _ (then_ok {F = CloseFault} {G = CloseFault} c.in_ok-plan.plan (then_if_open {Z = Unit {0}} {E = CloseFault} {F = CloseFault} {G = CloseFault} tt c.in_ok-copy.ensures.rows_read c.in_ok-seals.ensures.archive_read) c.in_ok-check_order.ensures.archive_read);
      archive_register = failed _ c.in_ok-copy.ensures.register_read;
    })

pub returns-clause-read : goal.returns-clause-read
returns-clause-read g c = record {
  store = then_ok {F = CloseFault} c.in_ok-sealed.sealed (compared_store c.in_ok-named.named c.in_ok-own.ensures.rows_read c.in_ok-named.ensures.read c.in_ok-seals.ensures.store_read) c.in_ok-check_order.ensures.store_read;
  register = passed c.in_ok-sealed.sealed c.in_ok-own.ensures.register_read;
  archive = then_ok {F = CloseFault} c.in_ok-sealed.sealed (then_if_open {Z = Unit {0}} {E = CloseFault} {F = CloseFault} {G = CloseFault} tt c.in_ok-copy.ensures.rows_read c.in_ok-seals.ensures.archive_read) c.in_ok-check_order.ensures.archive_read;
  archive_register = passed c.in_ok-sealed.sealed c.in_ok-copy.ensures.register_read;
}

pub returns-clause-judged : goal.returns-clause-judged
returns-clause-judged g c clean held has =
    let names : FileNames = record { store = c.args.store_file.now; archive = c.args.archive_file.now } in
    let old = files g.S.Store g.R.Store g.A.Store g.M.Store c.args.store.now c.args.register.now c.args.archive.now c.args.archive_register.now in
    let own = c.in_ok-own.ensures in
    let copy = c.in_ok-copy.ensures in
    let named = c.in_ok-named.ensures in
    let call = c.in_ok-seals.ensures in
    let last = c.in_ok-check_order.ensures in
    let store_compared : HasCleanDisk (state g.S.Store c.compare_all.new.store) = omega (arith, last.store_read.survives.clean, clean.store) in
    let archive_compared : HasCleanDisk (state g.A.Store c.compare_all.new.archive) = omega (arith, last.archive_read.survives.clean, clean.archive) in
    let named_clean : HasCleanDisk (state g.S.Store c.waited_for.new.conn) = omega (arith, call.store_read.survives.clean, store_compared) in
    let store_clean : HasCleanDisk (state g.S.Store c.open_office.new.conn) = omega (arith, named.read.survives.clean, named_clean) in
    let archive_clean : HasCleanDisk (state g.A.Store c.open_office-2.new.conn) = omega (arith, call.archive_read.survives.clean, archive_compared) in
    let first = own.rows_read.unchanged store_clean in
    let opened_has = subst (HasRows held.own) (sym first.0.now_is) has.own in
    let own_has = subst (HasRows held.own) (sym (named.read.unchanged named_clean first.0.is_open).0.now_is) opened_has in
    let copy_has = subst (HasRows held.copy) (sym (copy.rows_read.unchanged archive_clean).0.now_is) has.copy in
    let opened = own.opened store_clean clean.register in
    let waited = named.named named_clean held.own opened_has (record { accounts = has.own_orderly.accounts; are = opened.nexts held.own has.own; kept_once = has.own_orderly.once }) in
    let named_lists = map named_list_content c.deref.result.now in
    let seals = c.in_ok-seals.seals.items in
    let sealed = c.in_ok-sealed.sealed in
    let with_ = c.in_ok-sealed.ensures.ok in
    let is = plan_sealed (office_content c.in_ok-own.own) (office_content c.in_ok-copy.copy) names named_lists seals c.in_ok-plan.plan sealed c.in_ok-plan.ensures.ok with_ in
    plan_judged held old has names (office_content c.in_ok-own.own) (office_content c.in_ok-copy.copy) opened (copy.opened archive_clean clean.archive_register)
    named_lists (subst (λ l. AreWaitedFor (office_content c.in_ok-own.own).setup held.own (map named_list_content l)) (sym c.deref.ensures.value) waited)
    seals sealed is c.utf8.archive_file c.utf8.store_file
    (sealed_numbers held seals c.in_ok-plan.plan sealed with_ (call.sealed store_compared archive_compared held.copy copy_has has.copy_orderly.once))
    (sealed_kept seals c.in_ok-plan.plan sealed with_)
    (sealed_compared held seals c.in_ok-plan.plan sealed with_ (call.compared store_compared archive_compared held own_has copy_has has.own_orderly.once has.copy_orderly.once))

-- ---- the order of arrival

pub returns-clause-texts : goal.returns-clause-texts
returns-clause-texts g c clean held has order =
    let names : FileNames = record { store = c.args.store_file.now; archive = c.args.archive_file.now } in
    let old = files g.S.Store g.R.Store g.A.Store g.M.Store c.args.store.now c.args.register.now c.args.archive.now c.args.archive_register.now in
    let own = c.in_ok-own.ensures in
    let copy = c.in_ok-copy.ensures in
    let named = c.in_ok-named.ensures in
    let call = c.in_ok-seals.ensures in
    let last = c.in_ok-check_order.ensures in
    let store_compared : HasCleanDisk (state g.S.Store c.compare_all.new.store) = omega (arith, last.store_read.survives.clean, clean.store) in
    let archive_compared : HasCleanDisk (state g.A.Store c.compare_all.new.archive) = omega (arith, last.archive_read.survives.clean, clean.archive) in
    let named_clean : HasCleanDisk (state g.S.Store c.waited_for.new.conn) = omega (arith, call.store_read.survives.clean, store_compared) in
    let store_clean : HasCleanDisk (state g.S.Store c.open_office.new.conn) = omega (arith, named.read.survives.clean, named_clean) in
    let archive_clean : HasCleanDisk (state g.A.Store c.open_office-2.new.conn) = omega (arith, call.archive_read.survives.clean, archive_compared) in
    let first = own.rows_read.unchanged store_clean in
    let second = named.read.unchanged named_clean first.0.is_open in
    let third = call.store_read.unchanged store_compared second.0.is_open in
    let store_same : (state g.S.Store c.compare_all.new.store).now ≡ (state g.S.Store c.args.store.now).now = third.0.now_is ∙ second.0.now_is ∙ first.0.now_is in
    let there = copy.rows_read.unchanged archive_clean in
    let then_ = call.archive_read.unchanged archive_compared there.0.is_open in
    let archive_same : (state g.A.Store c.compare_all.new.archive).now ≡ (state g.A.Store c.args.archive.now).now = then_.0.now_is ∙ there.0.now_is in
    let opened = own.opened store_clean clean.register in
    let opened_has = subst (HasRows held.own) (sym first.0.now_is) has.own in
    let waited = named.named named_clean held.own opened_has (record { accounts = has.own_orderly.accounts; are = opened.nexts held.own has.own; kept_once = has.own_orderly.once }) in
    let registered = opened.registered held.register has.register has.register_sound in
    texts_for (none_wants held old has names (office_content c.in_ok-own.own) (office_content c.in_ok-copy.copy) opened (copy.opened archive_clean clean.archive_register)
    (map named_list_content c.deref.result.now) (subst (λ l. AreWaitedFor (office_content c.in_ok-own.own).setup held.own (map named_list_content l)) (sym c.deref.ensures.value) waited)
    [] c.in_ok-plan.plan c.in_ok-plan.ensures.ok c.utf8.archive_file c.utf8.store_file)
    (subst (λ (r : RegisterContent). HasTexts (WantsAll c.in_ok-plan.plan) (last_closed r.segments) held.own held.copy) registered
    (last.texts clean.store clean.archive held.own held.copy (subst (HasRows held.own) (sym store_same) has.own) (subst (HasRows held.copy) (sym archive_same) has.copy)
    (subst (λ (d : Database). StandInOrder held.own.interchanges (d.trees 2)) (sym store_same) order.own)
    (subst (λ (d : Database). StandInOrder held.copy.interchanges (d.trees 2)) (sym archive_same) order.copy)))

-- ---- why it is refused

pub returns-in_err-own-clause-tells : goal.returns-in_err-own-clause-tells
returns-in_err-own-clause-tells g c clean =
    let p = err_from_is_err_and c.from_residual.result c.from_residual.ensures.1 in
    let names : FileNames = record { store = c.args.store_file.now; archive = c.args.archive_file.now } in
    let old = files g.S.Store g.R.Store g.A.Store g.M.Store c.args.store.now c.args.register.now c.args.archive.now c.args.archive_register.now in
    rw (p.1, p.2) (λ held has. own_tells held names old _ (c.in_err-own.ensures.fault clean.store clean.register held.own held.register has.own has.register has.register_sound))

pub returns-in_err-copy-clause-tells : goal.returns-in_err-copy-clause-tells
returns-in_err-copy-clause-tells g c clean =
    let p = err_from_is_err_and c.from_residual-in_err-copy.result c.from_residual-in_err-copy.ensures.1 in
    let names : FileNames = record { store = c.args.store_file.now; archive = c.args.archive_file.now } in
    let old = files g.S.Store g.R.Store g.A.Store g.M.Store c.args.store.now c.args.register.now c.args.archive.now c.args.archive_register.now in
    rw (p.1, p.2) (λ held has. copy_tells held names old _ (c.in_err-copy.ensures.fault clean.archive clean.archive_register held.copy held.copied has.copy has.copied has.copied_sound))

pub returns-in_err-named-clause-tells : goal.returns-in_err-named-clause-tells
returns-in_err-named-clause-tells g c clean =
    let p = err_from_is_err_and c.from_residual-in_err-named.result c.from_residual-in_err-named.ensures.1 in
    let names : FileNames = record { store = c.args.store_file.now; archive = c.args.archive_file.now } in
    let old = files g.S.Store g.R.Store g.A.Store g.M.Store c.args.store.now c.args.register.now c.args.archive.now c.args.archive_register.now in
    let own = c.in_ok-own.ensures in
    let store_clean : HasCleanDisk (state g.S.Store c.open_office.new.conn) = omega (arith, c.in_err-named.ensures.read.survives.clean, clean.store) in
    rw (p.1, p.2) (λ held has.
    let opened_has = subst (HasRows held.own) (sym (own.rows_read.unchanged store_clean).0.now_is) has.own in
    let nexts = (own.opened store_clean clean.register).nexts held.own has.own in
    waiting_tells held names old _ (c.in_err-named.ensures.fault clean.store held.own opened_has (record { accounts = has.own_orderly.accounts; are = nexts; kept_once = has.own_orderly.once })))

pub returns-in_err-plan-clause-tells : goal.returns-in_err-plan-clause-tells
returns-in_err-plan-clause-tells g c clean =
    let p = err_from_is_err_and c.from_residual-in_err-plan.result c.from_residual-in_err-plan.ensures.1 in
    let names : FileNames = record { store = c.args.store_file.now; archive = c.args.archive_file.now } in
    let old = files g.S.Store g.R.Store g.A.Store g.M.Store c.args.store.now c.args.register.now c.args.archive.now c.args.archive_register.now in
    let store_clean : HasCleanDisk (state g.S.Store c.open_office.new.conn) = omega (arith, c.in_ok-named.ensures.read.survives.clean, clean.store) in
    rw (p.1, p.2) (λ held has.
    plan_tells held names old (office_content c.in_ok-own.own) (office_content c.in_ok-copy.copy) (c.in_ok-own.ensures.opened store_clean clean.register)
    (c.in_ok-copy.ensures.opened clean.archive clean.archive_register) _ c.in_err-plan.ensures.err)

pub returns-in_err-seals-clause-tells : goal.returns-in_err-seals-clause-tells
returns-in_err-seals-clause-tells g c clean =
    let p = err_from_is_err_and c.from_residual-in_err-seals.result c.from_residual-in_err-seals.ensures.1 in
    let names : FileNames = record { store = c.args.store_file.now; archive = c.args.archive_file.now } in
    let old = files g.S.Store g.R.Store g.A.Store g.M.Store c.args.store.now c.args.register.now c.args.archive.now c.args.archive_register.now in
    let own = c.in_ok-own.ensures in
    let copy = c.in_ok-copy.ensures in
    let named = c.in_ok-named.ensures in
    let call = c.in_err-seals.ensures in
    let named_clean : HasCleanDisk (state g.S.Store c.waited_for.new.conn) = omega (arith, call.store_read.survives.clean, clean.store) in
    let store_clean : HasCleanDisk (state g.S.Store c.open_office.new.conn) = omega (arith, named.read.survives.clean, named_clean) in
    let first = own.rows_read.unchanged store_clean in
    let archive_clean : HasCleanDisk (state g.A.Store c.open_office-2.new.conn) = omega (arith, call.archive_read.survives.clean, clean.archive) in
    rw (p.1, p.2) (λ held has.
    let own_has = subst (HasRows held.own) (sym (named.read.unchanged named_clean first.0.is_open).0.now_is) (subst (HasRows held.own) (sym first.0.now_is) has.own) in
    let copy_has = subst (HasRows held.copy) (sym (copy.rows_read.unchanged archive_clean).0.now_is) has.copy in
    compared_tells held names old _ (call.fault clean.store clean.archive held.own held.copy own_has copy_has has.own_orderly.once has.copy_orderly.once))

pub returns-in_err-check_order-clause-tells : goal.returns-in_err-check_order-clause-tells
returns-in_err-check_order-clause-tells g c clean =
    let p = err_from_is_err_and c.from_residual-in_err-check_order.result c.from_residual-in_err-check_order.ensures.1 in
    let names : FileNames = record { store = c.args.store_file.now; archive = c.args.archive_file.now } in
    let old = files g.S.Store g.R.Store g.A.Store g.M.Store c.args.store.now c.args.register.now c.args.archive.now c.args.archive_register.now in
    let own = c.in_ok-own.ensures in
    let copy = c.in_ok-copy.ensures in
    let named = c.in_ok-named.ensures in
    let call = c.in_ok-seals.ensures in
    let last = c.in_err-check_order.ensures in
    let store_compared : HasCleanDisk (state g.S.Store c.compare_all.new.store) = omega (arith, last.store_read.survives.clean, clean.store) in
    let archive_compared : HasCleanDisk (state g.A.Store c.compare_all.new.archive) = omega (arith, last.archive_read.survives.clean, clean.archive) in
    let named_clean : HasCleanDisk (state g.S.Store c.waited_for.new.conn) = omega (arith, call.store_read.survives.clean, store_compared) in
    let store_clean : HasCleanDisk (state g.S.Store c.open_office.new.conn) = omega (arith, named.read.survives.clean, named_clean) in
    let archive_clean : HasCleanDisk (state g.A.Store c.open_office-2.new.conn) = omega (arith, call.archive_read.survives.clean, archive_compared) in
    let first = own.rows_read.unchanged store_clean in
    let second = named.read.unchanged named_clean first.0.is_open in
    let third = call.store_read.unchanged store_compared second.0.is_open in
    let store_same : (state g.S.Store c.compare_all.new.store).now ≡ (state g.S.Store c.args.store.now).now = third.0.now_is ∙ second.0.now_is ∙ first.0.now_is in
    let there = copy.rows_read.unchanged archive_clean in
    let then_ = call.archive_read.unchanged archive_compared there.0.is_open in
    let archive_same : (state g.A.Store c.compare_all.new.archive).now ≡ (state g.A.Store c.args.archive.now).now = then_.0.now_is ∙ there.0.now_is in
    rw (p.1, p.2) (λ held has.
    let opened = own.opened store_clean clean.register in
    let opened_has = subst (HasRows held.own) (sym first.0.now_is) has.own in
    let waited = named.named named_clean held.own opened_has (record { accounts = has.own_orderly.accounts; are = opened.nexts held.own has.own; kept_once = has.own_orderly.once }) in
    let wants : WantsAll c.in_ok-plan.plan → ClosesNone held.register held.copied held.copy = wants_none held old has names (office_content c.in_ok-own.own) (office_content c.in_ok-copy.copy) opened (copy.opened archive_clean clean.archive_register)
    (map named_list_content c.deref.result.now) (subst (λ l. AreWaitedFor (office_content c.in_ok-own.own).setup held.own (map named_list_content l)) (sym c.deref.ensures.value) waited)
    [] c.in_ok-plan.plan c.in_ok-plan.ensures.ok c.utf8.archive_file c.utf8.store_file in
    let registered = opened.registered held.register has.register has.register_sound in
    let of = last.fault clean.store clean.archive held.own held.copy (subst (HasRows held.own) (sym store_same) has.own) (subst (HasRows held.copy) (sym archive_same) has.copy) in
    let of_store = subst (λ (d : Database). IsOfOrdering (WantsAll c.in_ok-plan.plan) (last_closed (office_content c.in_ok-own.own).register.segments) held.own held.copy d (state g.A.Store c.compare_all.new.archive).now c.in_err-check_order.field-0.0) store_same of in
    let of_both = subst (λ (d : Database). IsOfOrdering (WantsAll c.in_ok-plan.plan) (last_closed (office_content c.in_ok-own.own).register.segments) held.own held.copy old.store.now d c.in_err-check_order.field-0.0) archive_same of_store in
    ordering_tells held names old (WantsAll c.in_ok-plan.plan) wants _ (subst (λ (r : RegisterContent). IsOfOrdering (WantsAll c.in_ok-plan.plan) (last_closed r.segments) held.own held.copy old.store.now old.archive.now c.in_err-check_order.field-0.0) registered of_both))

pub returns-in_err-sealed-clause-tells : goal.returns-in_err-sealed-clause-tells
returns-in_err-sealed-clause-tells g c clean =
    let p = err_from_is_err_and c.from_residual-in_err-sealed.result c.from_residual-in_err-sealed.ensures.1 in
    let names : FileNames = record { store = c.args.store_file.now; archive = c.args.archive_file.now } in
    let old = files g.S.Store g.R.Store g.A.Store g.M.Store c.args.store.now c.args.register.now c.args.archive.now c.args.archive_register.now in
    let own = c.in_ok-own.ensures in
    let copy = c.in_ok-copy.ensures in
    let named = c.in_ok-named.ensures in
    let call = c.in_ok-seals.ensures in
    let last = c.in_ok-check_order.ensures in
    let store_compared : HasCleanDisk (state g.S.Store c.compare_all.new.store) = omega (arith, last.store_read.survives.clean, clean.store) in
    let archive_compared : HasCleanDisk (state g.A.Store c.compare_all.new.archive) = omega (arith, last.archive_read.survives.clean, clean.archive) in
    let named_clean : HasCleanDisk (state g.S.Store c.waited_for.new.conn) = omega (arith, call.store_read.survives.clean, store_compared) in
    let store_clean : HasCleanDisk (state g.S.Store c.open_office.new.conn) = omega (arith, named.read.survives.clean, named_clean) in
    let archive_clean : HasCleanDisk (state g.A.Store c.open_office-2.new.conn) = omega (arith, call.archive_read.survives.clean, archive_compared) in
    rw (p.1, p.2) (λ held has.
    let copy_has = subst (HasRows held.copy) (sym (copy.rows_read.unchanged archive_clean).0.now_is) has.copy in
    sealing_tells held old has names (office_content c.in_ok-own.own) (office_content c.in_ok-copy.copy) (own.opened store_clean clean.register) (copy.opened archive_clean clean.archive_register)
    (map named_list_content c.deref.result.now) c.in_ok-seals.seals.items c.in_ok-plan.plan c.in_ok-plan.ensures.ok
    (call.sealed store_compared archive_compared held.copy copy_has has.copy_orderly.once) _ c.in_err-sealed.ensures.err)
