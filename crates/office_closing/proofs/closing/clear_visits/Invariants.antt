use Rattle.std.proofs.Common.{◌≡◌, ◌++◌, ℕ, List, Ok, length}
use Rattle.sqlite.specs.Held.{state}
use Rattle.office_closing.specs.{Clearing.{Clears, IsWithoutSomeVisits}, Deleting.{all_but, without_visits}}
use Rattle.office_closing.proofs.closing.clear_visits.Given as goal

abbrev pub invariant-loop-rest : goal.invariant-loop-rest
invariant-loop-rest g l =
    (done : List ℕ) × (done ++ l.rest ≡ l.visits)
    × Clears {T = Unit {0}} (without_visits done) (IsWithoutSomeVisits (all_but l.visits)) (state g.S.Store l.fn.conn) (state g.S.Store l.conn) (Ok tt)

abbrev pub decreases-loop-rest : goal.decreases-loop-rest
decreases-loop-rest g l = length l.rest
