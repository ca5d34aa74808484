-- What is read of a store by which no change is under way.
use Rattle.std.{specs.Prelude.{IfErr, IsTrue, OnOk}, proofs.Common.{◌≡◌, Result, Ok, Err, IfOk, sym, subst}}
use Rattle.sqlite.specs.{Effect.Database, State.{State, IsUnchanged}}

-- it is what is committed
pub ok_committed : {T E : Type 0} (old new : State) (settled : IsTrue old.is_open → old.now ≡ old.committed) (Shows : Database → T → Type 0) (result : Result T E) → OnOk result (IsUnchanged old new) → IfOk result (Shows old.now) → IfOk result (Shows old.committed)
ok_committed old new settled Shows (Ok x) same shown = subst (λ db. Shows db x) (settled same.0.was_open) shown
ok_committed old new settled Shows (Err fault) same shown = tt

-- if the tables are there
pub loaded_committed : {T E : Type 0} (old new : State) (settled : IsTrue old.is_open → old.now ≡ old.committed) (Has : Database → Type 0) (Shows : Database → T → Type 0) (result : Result T E) → OnOk result (IsUnchanged old new) → (Has old.now → IfOk result (Shows old.now)) → Has old.committed → IfOk result (Shows old.committed)
loaded_committed old new settled Has Shows (Ok x) same shown has =
    let now = settled same.0.was_open in
    subst (λ db. Shows db x) now (shown (subst Has (sym now) has))
loaded_committed old new settled Has Shows (Err fault) same shown has = tt

pub err_committed : {T E : Type 0} (old : State) (settled : IsTrue old.is_open → old.now ≡ old.committed) (Fails : Database → E → Type 0) (result : Result T E) → IsTrue old.is_open → IfErr result (Fails old.now) → IfErr result (Fails old.committed)
err_committed old settled Fails result is_open fails = subst (λ db. IfErr result (Fails db)) (settled is_open) fails
