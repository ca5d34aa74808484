use Rattle.std.proofs.Common.{◌≡◌, Ok, map, take}
use Rattle.sqlite.specs.Held.{state}
use Rattle.office_closing.specs.{Changes.{unchanged, with_sealed}, Register.sealed_content, Stored.HasWhole, Transactions.WritesIfOpen}
use Rattle.office_closing.proofs.register_closing.insert_all_sealed.Given as goal

abbrev pub invariant-loop-one : goal.invariant-loop-one
invariant-loop-one g l =
    (l.tx.conn.ghost_name ≡ l.fn.tx.conn.ghost_name)
    × WritesIfOpen {T = Unit {0}} HasWhole unchanged (with_sealed (map sealed_content (take l.one-index l.sealed))) (state g.S.Store l.fn.tx.conn.now) (state g.S.Store l.tx.conn.now) (Ok tt)
