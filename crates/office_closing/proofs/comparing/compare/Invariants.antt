use Rattle.std.proofs.Common.{None, Ok, take}
use Rattle.sqlite.specs.{Held.state, State.HasCleanDisk}
use Rattle.office_rows.specs.{Rows.Rows, Stored.HasRows}
use Rattle.office_history.specs.After.{AreKeptOnce}
use Rattle.office_closing.{specs.{Comparing.IsComparedAs, Files.IsReadIfOpen, Seals.HoldsSealing}, proofs.SealLemmas.so_far}
use Rattle.office_closing.proofs.comparing.compare.Given as goal

abbrev pub invariant-loop-numbers : goal.invariant-loop-numbers
invariant-loop-numbers g l = record {
  store : IsReadIfOpen {T = Unit {0}} {E = Unit {0}} (state g.S.Store l.fn.store) (state g.S.Store l.store) (Ok tt);
  archive : IsReadIfOpen {T = Unit {0}} {E = Unit {0}} (state g.A.Store l.fn.archive) (state g.A.Store l.archive) (Ok tt);
  alike : HasCleanDisk (state g.S.Store l.store) → HasCleanDisk (state g.A.Store l.archive) → (own copy : Rows) → HasRows own (state g.S.Store l.fn.store).now → HasRows copy (state g.A.Store l.fn.archive).now →
      AreKeptOnce own.interchanges → AreKeptOnce copy.interchanges → IsComparedAs (take l.numbers-index l.closing) own copy None;
  sealed : HasCleanDisk (state g.S.Store l.store) → HasCleanDisk (state g.A.Store l.archive) → (copy : Rows) → HasRows copy (state g.A.Store l.fn.archive).now → AreKeptOnce copy.interchanges →
      HoldsSealing l.sealing (so_far copy (take l.numbers-index l.closing));
}
