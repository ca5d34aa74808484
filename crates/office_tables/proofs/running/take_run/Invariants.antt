use Rattle.std.proofs.Common.{ℕ, List, ◌+◌, ◌<◌, ◌≤◌, ◌-◌, All, Ok, length}
use Rattle.sqlite.specs.{Held.state, State.HasCleanDisk}
use Rattle.office_rows.specs.{Rows.Rows, Stored.HasRows}
use Rattle.office_admission.specs.{Outcomes.IsAdmitted, Taking.machine_of}
use Rattle.office_history.specs.Cascade.{texts_with}
use Rattle.office_tables.specs.{DeliveryReading.OnlyReads, Taken.taken_contents, Taking.IsNumbered, declared.running.Taken.Taken}
use Rattle.office_tables.proofs.WriteLemmas.{AreTakenTo}
use Rattle.office_tables.proofs.running.take_run.Given as goal

abbrev pub invariant-loop-taken : goal.invariant-loop-taken
invariant-loop-taken g l =
    let old = state g.S.Store l.fn.conn in
    let now = state g.S.Store l.conn in
    record {
      after : l.number ≤ l.last;
      last : l.last ≤ 999999999;
      some : 1 ≤ length l.taken.items;
      numbers : All (λ (t : Taken). t.number < 1000000000) l.taken.items;
      reads : OnlyReads old now (Ok l.last);
      taken : (rows : Rows) (text : List ℕ) → HasCleanDisk now → HasRows rows old.now → IsNumbered l.admitted.partner rows → IsAdmitted l.setup text l.admitted →
          AreTakenTo l.admitted.partner (texts_with rows l.admitted.partner l.number text) l.number (machine_of l.setup l.fn.terminal) (taken_contents l.taken.items) (l.last + 1) (machine_of l.setup l.terminal);
    }

abbrev pub decreases-loop-taken : goal.decreases-loop-taken
decreases-loop-taken g l = 1000000000 - l.last
