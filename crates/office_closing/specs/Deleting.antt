-- Which rows a closing deletes, and what a call that deletes rows does to the transaction that it is in.
use Rattle.std.specs.{Prelude.{◌≡◌, ℕ, ◌==◌, ◌&&◌, nat_le, nat_lt, not, Bool, List, Result, OnOk, IfErr, IsTrue}, List.list_any}
use Rattle.sqlite.specs.State.{State, HasCleanDisk, KeepsCommit, Survives}
use Rattle.office_rows.specs.{Effects.is_pair, Rows.{Interchange, Rows}, Stored.HasRows}
use Rattle.office_closing.specs.{Going.name_of, Lists.SettledListContent, declared.comparing.Numbers.Numbers}
use Rattle.office_parts.specs.{Bringing.is_list, OwnLists.ListName, LeftOver.rows_without, OwnTerminal.own_visits}
use Rattle.office_tables.specs.{Faults.IsOfStore, declared.table_fault.TableFault.TableFault}

-- ---- which interchanges go: those under some numbers of each partner

-- the partner's number is one of these: above the last one that was closed before, and up to the last that is closed now
abbrev pub is_of : ℕ → ℕ → Numbers → Bool
is_of partner number numbers =
    (partner == numbers.partner) && (nat_lt numbers.from number && nat_le number numbers.to)

abbrev pub is_among : List Numbers → ℕ → ℕ → Bool
is_among closing partner number = list_any (is_of partner number) closing

-- the interchange has such a number
abbrev pub goes : List Numbers → Interchange → Bool
goes closing i = is_among closing i.partner i.number

-- ---- which lists go

-- the name is that of one of these lists
abbrev pub is_one_of : List SettledListContent → ListName → Bool
is_one_of lists list = list_any (λ (one : SettledListContent). is_list (name_of one) list) lists

-- ---- what the calls that delete make of the rows

-- the rows without a partner's interchange under this number
abbrev pub without_interchange : ℕ → ℕ → Rows → Rows
without_interchange partner number rows = rows_without (is_pair partner number) rows

-- the rows with those visits whose numbers stay
abbrev pub with_visits_that : (stays : ℕ → Bool) → Rows → Rows
with_visits_that stays rows = record rows { visits = own_visits stays rows.visits }

-- each number stays but these
abbrev pub all_but : List ℕ → ℕ → Bool
all_but numbers number = not (list_any (λ n. n == number) numbers)

-- the rows without the visits of these numbers
abbrev pub without_visits : List ℕ → Rows → Rows
without_visits numbers rows = with_visits_that (all_but numbers) rows

-- ---- in a transaction

-- the rows become these, in the transaction that goes on
pub record Becomes (change : Rows → Rows) (old new : State) : Type 0 where
  pub rows : (rows : Rows) → HasRows rows old.now → HasRows (change rows) new.now
  pub inside : IsTrue new.in_transaction
  pub committed : new.committed ≡ old.committed
  pub is_open : IsTrue old.is_open → IsTrue new.is_open

-- Where it went well the rows are these; whatever it answers, nothing is committed and a crash leaves what it left before;
-- and it fails only as the store does, or memory. So do `Writes` of the office's tables, which keep the order of the
-- interchanges besides: what a deletion leaves no longer stands under the rowids 1, 2, 3 and so on.
pub record Deletes {T : Type 0} (change : Rows → Rows) (old new : State) (result : Result T TableFault) : Type 0 where
  pub becomes : HasCleanDisk new → IsTrue old.in_transaction → OnOk result (Becomes change old new)
  pub keeps : HasCleanDisk new → IsTrue old.in_transaction → KeepsCommit old new
  pub survives : Survives old new (λ _. ⊥)
  pub fault : IfErr result IsOfStore
