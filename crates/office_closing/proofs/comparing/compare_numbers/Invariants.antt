use Rattle.std.proofs.Common.{ℕ, ◌<◌, ◌≤◌, ◌-◌, Ok, fold}
use Rattle.sqlite.specs.{Held.state, State.HasCleanDisk}
use Rattle.office_rows.specs.{Rows.Rows, Stored.HasRows}
use Rattle.office_history.specs.After.{AreKeptOnce}
use Rattle.office_closing.specs.{Comparing.IsToldAlike, Files.IsReadIfOpen, Seals.{HoldsSealing, SealingContent, add_one, kept_under}}
use Rattle.office_closing.proofs.SealLemmas.{up_to}
use Rattle.office_closing.proofs.comparing.compare_numbers.Given as goal

abbrev pub invariant-loop-number : goal.invariant-loop-number
invariant-loop-number g l = record {
  above : l.numbers.from ≤ l.number;
  within : l.number - l.numbers.from ≤ l.numbers.to - l.numbers.from;
  store : IsReadIfOpen {E = Unit {0}} (state g.S.Store l.fn.store) (state g.S.Store l.store) (Ok l.number);
  archive : IsReadIfOpen {E = Unit {0}} (state g.A.Store l.fn.archive) (state g.A.Store l.archive) (Ok l.number);
  alike : HasCleanDisk (state g.S.Store l.store) → HasCleanDisk (state g.A.Store l.archive) → (own copy : Rows) → HasRows own (state g.S.Store l.fn.store).now → HasRows copy (state g.A.Store l.fn.archive).now →
      AreKeptOnce own.interchanges → AreKeptOnce copy.interchanges → (number : ℕ) → l.numbers.from < number → number ≤ l.number → IsToldAlike l.numbers.partner number own copy;
  sealed : HasCleanDisk (state g.S.Store l.store) → HasCleanDisk (state g.A.Store l.archive) → (copy : Rows) → HasRows copy (state g.A.Store l.fn.archive).now → AreKeptOnce copy.interchanges → (sealed : SealingContent) →
      HoldsSealing l.fn.sealing sealed → HoldsSealing l.sealing (fold add_one sealed (kept_under copy (up_to l.numbers l.number)));
}

abbrev pub decreases-loop-number : goal.decreases-loop-number
decreases-loop-number g l = l.numbers.to - l.number
