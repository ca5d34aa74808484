use Rattle.std.proofs.{Common.subst, lemmas.Result.{IfErr-weaker, IfOk-weaker}}
use Rattle.sqlite.specs.Held.{state}
use Rattle.office_admission.specs.Setups.{setup_content}
use Rattle.office_loading.{specs.Tables.{FailsToLoadOwn, LoadsOwn}, proofs.OfficeLemmas.{fails_whole, loads_whole}}
use Rattle.office_loading.proofs.loading.load.Goals as goal

pub returns-clause-loaded : goal.returns-clause-loaded
returns-clause-loaded g c clean is =
    IfOk-weaker c.load_own.result _ _
    (λ p loads. loads_whole _ _ _ (subst (λ closed. LoadsOwn closed (state g.S.Store c.args.conn.now).now (setup_content p.0) p.1) c.nothing-closed.ensures loads))
    (c.load_own.ensures.loaded clean is)

pub returns-clause-refused : goal.returns-clause-refused
returns-clause-refused g c clean is =
    IfErr-weaker c.load_own.result _ _
    (λ fault fails. fails_whole (state g.S.Store c.args.conn.now).now fault (subst (λ closed. FailsToLoadOwn closed (state g.S.Store c.args.conn.now).now fault) c.nothing-closed.ensures fails))
    (c.load_own.ensures.refused clean is)
