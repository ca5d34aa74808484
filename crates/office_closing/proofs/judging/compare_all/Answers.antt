use Rattle.std.proofs.Common.{◌≡◌, List, None, Ok, Err, OnOk, Result, false, true, sym, subst, ◌∙◌}
use Rattle.sqlite.specs.{Effect.Database, Held.state}
use Rattle.office_history.specs.After.{AreKeptOnce}
use Rattle.office_rows.specs.{Rows.Rows, Stored.HasRows}
use Rattle.office_closing.specs.{declared.comparing.Numbers.Numbers, declared.planning.Plan.Plan, Closes.Held, Comparing.IsComparedAs, Judging.IsComparedIf, Steps.is_unraised}
use Rattle.office_closing.proofs.JudgeLemmas.{unread}
use Rattle.office_closing.proofs.judging.compare_all.Goals as goal

-- what is said of any rows, of those that are held
of_held : {X E : Type 0} (plan : Plan) (numbers : List Numbers) (store archive : Database) (result : Result X E) → numbers ≡ plan.numbers.items
    → OnOk result ((own copy : Rows) → HasRows own store → HasRows copy archive → AreKeptOnce own.interchanges → AreKeptOnce copy.interchanges → IsComparedAs numbers own copy None)
    → OnOk result ((held : Held) → HasRows held.own store → HasRows held.copy archive → AreKeptOnce held.own.interchanges → AreKeptOnce held.copy.interchanges → IsComparedIf plan held)
of_held plan numbers store archive (Ok x) same compared =
    λ held own_has copy_has own_once copy_once due. subst (λ l. IsComparedAs l held.own held.copy None) same (compared held.own held.copy own_has copy_has own_once copy_once)
of_held plan numbers store archive (Err fault) same compared = tt

-- of any rows, where nothing is to be compared
of_none : {X E : Type 0} (plan : Plan) (store archive : Database) (result : Result X E) → is_unraised plan.stage ≡ false
    → OnOk result ((held : Held) → HasRows held.own store → HasRows held.copy archive → AreKeptOnce held.own.interchanges → AreKeptOnce held.copy.interchanges → IsComparedIf plan held)
of_none plan store archive (Ok x) off = λ held own_has copy_has own_once copy_once due. absurd (let e : false ≡ true = sym off ∙ due in cc)
of_none plan store archive (Err fault) off = tt

pub returns-then-is_due-clause-compared : goal.returns-then-is_due-clause-compared
returns-then-is_due-clause-compared g c here there =
    of_held c.args.plan.now _ (state g.S.Store c.args.store.now).now (state g.A.Store c.args.archive.now).now c.compare_numbers.result c.deref.ensures.value (c.compare_numbers.ensures.compared here there)

pub returns-else-is_due-clause-store_read : goal.returns-else-is_due-clause-store_read
returns-else-is_due-clause-store_read g c = unread (state g.S.Store c.args.store.now) c.seal_numbers.result

pub returns-else-is_due-clause-compared : goal.returns-else-is_due-clause-compared
returns-else-is_due-clause-compared g c here there =
    of_none c.args.plan.now (state g.S.Store c.args.store.now).now (state g.A.Store c.args.archive.now).now c.seal_numbers.result (sym c.is_unraised-is_due.ensures ∙ c.if-is_due.false)
