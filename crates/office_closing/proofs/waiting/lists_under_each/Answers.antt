use Rattle.std.proofs.{Common.{Ok, sym, ap, ap₂, subst, ◌++◌, ◌∙◌, ℕ, Contains, get_or, map}, lemmas.List.take_all, lemmas.List.Elements.Contains-get_or}
use Rattle.std.proofs.lemmas.Result.{err_from_is_err_and}
use Rattle.sqlite.specs.Held.{state}
use Rattle.office_rows.specs.Stored.{HasRows}
use Rattle.office_admission.specs.Setups.{setup_content}
use Rattle.office_tables.{specs.DeliveryReading.IsSame, proofs.{MadeLemmas.clean_first, WriteLemmas.{nothing_read, one_read, only_on, only_stopped, only_then}}}
use Rattle.office_parts.specs.Named.{named_list_content}
use Rattle.office_closing.{specs.Waiting.{lists_under, lists_under_each}, proofs.{FileLemmas.fault_of_more, WaitingLemmas.{numbers_more, one_more}}}
use Rattle.office_closing.proofs.waiting.lists_under_each.Goals as goal

pub loop-number-init : goal.loop-number-init
loop-number-init g c = record {
  reads = nothing_read (state g.S.Store c.args.conn.now) (Ok tt);
  named = λ clean rows has once. ap (map named_list_content) c.new-lists.ensures.items;
}

pub loop-number-preserved : goal.loop-number-preserved
loop-number-preserved g c =
    let before = c.loop-number.invariant in
    let call = c.in_ok-more.ensures in
    let all = c.args.numbers.now in
    let i = c.loop-number.number-index in
    record {
      reads = one_more tt before.reads call.reads;
      named = λ clean rows has once.
          let earlier = clean_first call.reads clean in
          let same : IsSame (state g.S.Store c.args.conn.now) (state g.S.Store c.loop-number.conn) = before.reads.same earlier in
          c.in_ok-append.ensures
          ∙ ap₂ ◌++◌ (before.named earlier rows has once) (call.named clean rows (subst (HasRows rows) (sym same.now) has) once)
          ∙ numbers_more (lists_under (setup_content c.args.setup.now) rows c.args.partner) all i c.loop-number-test.true;
    }

pub returns-clause-named : goal.returns-clause-named
returns-clause-named g c clean rows has once =
    c.loop-number.invariant.named clean rows has once
    ∙ ap (lists_under_each (setup_content c.args.setup.now) rows c.args.partner) (take_all c.loop-number.number-index c.args.numbers.now c.loop-number-test.false)

pub returns-clause-reads : goal.returns-clause-reads
returns-clause-reads g c = only_on _ c.loop-number.invariant.reads

pub returns-in_err-more-clause-reads : goal.returns-in_err-more-clause-reads
returns-in_err-more-clause-reads g c = only_stopped _ c.from_residual.ensures.0 (only_then c.loop-number.invariant.reads (one_read c.in_err-more.ensures.reads))

pub returns-in_err-append-clause-reads : goal.returns-in_err-append-clause-reads
returns-in_err-append-clause-reads g c = only_on _ (only_then c.loop-number.invariant.reads (one_read c.in_ok-more.ensures.reads))

pub returns-in_err-more-clause-fault : goal.returns-in_err-more-clause-fault
returns-in_err-more-clause-fault g c =
    let p = err_from_is_err_and c.from_residual.result c.from_residual.ensures.1 in
    let numbers = c.args.numbers.now in
    let i = c.loop-number.number-index in
    let there : (number : ℕ) × Contains numbers number = (get_or numbers i 0, Contains-get_or numbers i 0 c.loop-number-test.true) in
    rw (p.1, p.2) (fault_of_more (λ _. there) _ c.in_err-more.ensures.fault)
