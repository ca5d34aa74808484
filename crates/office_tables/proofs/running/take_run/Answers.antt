use Rattle.std.proofs.{Common.{◌≡◌, ◌+◌, ◌++◌, [], ◌∷◌, ◌<◌, All, length, None, Ok, Some, ap, subst, sym, ◌∙◌, arith}, lemmas.List.length-append}
use Rattle.std.proofs.lemmas.List.Elements.{All-push}
use Rattle.sqlite.specs.{Held.state, State.HasCleanDisk}
use Rattle.office_rows.specs.Stored.{HasRows}
use Rattle.office_history.specs.Cascade.{text_in, texts_with}
use Rattle.office_tables.specs.{DeliveryReading.IsSame, Taken.taken_contents, declared.running.Taken.Taken}
use Rattle.office_tables.proofs.WriteLemmas.{nothing_read, only_on, only_stopped, only_then, was_clean, first_pushed, more_pushed, all_taken, texts_behind, below_last}
use Rattle.office_tables.proofs.running.take_run.Goals as goal

pub loop-taken-init : goal.loop-taken-init
loop-taken-init g c =
    let old = state g.S.Store c.args.conn.now in
    let pushed : c.append.new.taken.items ≡ c.in_ok-first.first ∷ [] = c.in_ok-append.ensures ∙ ap (λ l. l ++ c.in_ok-first.first ∷ []) c.new-taken.ensures.items in
    let is = c.in_ok-first.ensures.taken in
    record {
      after = omega arith;
      last = c.requires.number;
      some = omega (arith, ap length pushed);
      numbers = subst (All (λ (t : Taken). t.number < 1000000000)) (sym pushed) (All-push (λ (t : Taken). t.number < 1000000000) [] c.in_ok-first.first (λ k d below. absurd (omega (arith, below))) (below_last c.in_ok-first.first.number c.args.number c.in_ok-first.ensures.number c.requires.number));
      reads = nothing_read old (Ok c.args.number);
      taken = λ rows text clean has numbered admits.
          first_pushed rows c.args.admitted.now.partner c.args.number _ _ text c.in_ok-first.first c.append.new.taken.items pushed (is text admits);
    }

pub returns-in_err-first-clause-reads : goal.returns-in_err-first-clause-reads
returns-in_err-first-clause-reads g c = nothing_read (state g.S.Store c.args.conn.now) _

pub returns-in_err-append-clause-reads : goal.returns-in_err-append-clause-reads
returns-in_err-append-clause-reads g c = nothing_read (state g.S.Store c.args.conn.now) _

pub returns-in_err-text-clause-reads : goal.returns-in_err-text-clause-reads
returns-in_err-text-clause-reads g c = only_then c.loop-taken.invariant.reads (only_stopped _ c.from_residual-in_err-text.ensures.0 c.text_behind.ensures.reads)

pub returns-in_err-next-clause-reads : goal.returns-in_err-next-clause-reads
returns-in_err-next-clause-reads g c = only_then c.loop-taken.invariant.reads (only_on _ c.in_ok-text.ensures.reads)

pub returns-in_err-append-2-clause-reads : goal.returns-in_err-append-2-clause-reads
returns-in_err-append-2-clause-reads g c = only_then c.loop-taken.invariant.reads (only_on _ c.in_ok-text.ensures.reads)

pub returns-clause-reads : goal.returns-clause-reads
returns-clause-reads g c = only_then c.loop-taken.invariant.reads (only_on _ c.in_ok-text.ensures.reads)

pub returns-clause-taken : goal.returns-clause-taken
returns-clause-taken g c clean rows text has numbered admits =
    let old = state g.S.Store c.args.conn.now in
    let mid = state g.S.Store c.loop-taken.conn in
    let before : HasCleanDisk mid = was_clean c.text_behind.ensures.reads clean in
    let first : IsSame old mid = c.loop-taken.invariant.reads.same before in
    let found = c.in_ok-text.ensures.text clean rows (subst (HasRows rows) (sym first.now) has) numbered in
    let partner = c.args.admitted.now.partner in
    let none : text_in rows partner (c.loop-taken.last + 1) ≡ None = rw c.in_default.is at found in
    all_taken partner (texts_with rows partner c.args.number text) c.args.number (c.loop-taken.last + 1) _ _ (taken_contents c.loop-taken.taken.items)
    (c.loop-taken.invariant.taken rows text before has numbered admits) (texts_behind rows partner c.args.number c.loop-taken.last text None c.loop-taken.invariant.after none)

pub loop-taken-preserved : goal.loop-taken-preserved
loop-taken-preserved g c =
    let old = state g.S.Store c.args.conn.now in
    let mid = state g.S.Store c.loop-taken.conn in
    let new = state g.S.Store c.text_behind.new.conn in
    let before = c.loop-taken.invariant in
    let next = c.in_ok-next.next in
    let pushed : c.append-in-Some.new.taken.items ≡ c.loop-taken.taken.items ++ next ∷ [] = c.in_ok-append-2.ensures in
    let is = c.in_ok-next.ensures in
    let below : c.loop-taken.last < 999999999 = rw c.in-Some.is at c.in_ok-text.ensures.last in
    record {
      after = omega (arith, before.after);
      last = omega (arith, below);
      some = omega (arith, before.some, ap length pushed ∙ length-append c.loop-taken.taken.items (next ∷ []));
      numbers = subst (All (λ (t : Taken). t.number < 1000000000)) (sym pushed) (All-push (λ (t : Taken). t.number < 1000000000) c.loop-taken.taken.items next before.numbers (below_last next.number (c.loop-taken.last + 1) is.number_is (omega (arith, below))));
      reads = only_then before.reads (only_on _ c.in_ok-text.ensures.reads);
      taken = λ rows text clean has numbered admits.
          let first : IsSame old mid = before.reads.same (was_clean c.text_behind.ensures.reads clean) in
          let partner = c.args.admitted.now.partner in
          let found : text_in rows partner (c.loop-taken.last + 1) ≡ Some c.in-Some.text.items = rw c.in-Some.is at (c.in_ok-text.ensures.text clean rows (subst (HasRows rows) (sym first.now) has) numbered) in
          more_pushed rows partner c.args.number c.loop-taken.last _ _ _ text c.in-Some.text.items c.loop-taken.taken.items next c.append-in-Some.new.taken.items pushed before.after found
          (before.taken rows text (was_clean c.text_behind.ensures.reads clean) has numbered admits) (rw c.deref.ensures.value at is);
    }
