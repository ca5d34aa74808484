use Rattle.std.proofs.{Common.{◌≡◌, ap, subst}, lemmas.Result.err_from_is_err_and}
use Rattle.sqlite.specs.{Effect.Database, Held.state}
use Rattle.office_admission.specs.Setups.{SetupContent, setup_content}
use Rattle.office_rows.specs.Tables.{office_schema}
use Rattle.office_loading.specs.{Closed.ClosedContent, Tables.LoadsOwn}
use Rattle.office_tables.proofs.{MadeLemmas.clean_first, WriteLemmas.{one_read, only_on}}
use Rattle.terminal_core.specs.State.{TerminalState}
use Rattle.office_commands.proofs.RefusingLemmas.{unloaded}
use Rattle.office_commands.proofs.offices.read_setup.Goals as goal

loads_so : (own closed : ClosedContent) (found db : Database) (content : SetupContent) {terminal : TerminalState} → own ≡ closed → found ≡ db → LoadsOwn own found content terminal → (terminal : TerminalState) × LoadsOwn closed db content terminal
loads_so own closed found db content {terminal} same is loads =
    (terminal, subst (λ (k : ClosedContent). LoadsOwn k db content terminal) same (subst (λ (d : Database). LoadsOwn own d content terminal) is loads))

-- What was loaded is what the files hold.
pub returns-clause-setup : goal.returns-clause-setup
returns-clause-setup g c = λ image shows clean db held.
    let found = state g.S.Store c.args.looked.now.conn in
    let is : found.committed ≡ record { schema = office_schema; trees = db } = shows (clean_first c.load.ensures.reads clean) db office_schema held.held held.lists in
    loads_so _ _ found.committed _ _ c.in_ok-closed.ensures is (c.in_ok-setup.ensures.loaded clean (ap (λ (d : Database). d.schema) is))

pub returns-clause-nexts : goal.returns-clause-nexts
returns-clause-nexts g c = c.in_ok-setup.ensures.nexts

pub returns-clause-reads : goal.returns-clause-reads
returns-clause-reads g c = only_on _ (one_read c.in_ok-setup.ensures.reads)

-- ---- why it is not loaded

pub returns-in_err-setup-clause-refused : goal.returns-in_err-setup-clause-refused
returns-in_err-setup-clause-refused g c =
    let p = err_from_is_err_and c.from_residual-in_err-setup.result c.from_residual-in_err-setup.ensures.1 in
    λ clean now_open schema. rw (p.1, p.2) (unloaded _ _ _ _ c.in_ok-closed.ensures (c.in_err-setup.ensures.refused clean now_open schema))

pub returns-clause-loads : goal.returns-clause-loads
returns-clause-loads g c clean schema =
    subst (λ (k : ClosedContent). LoadsOwn k (state g.S.Store c.args.looked.now.conn).committed (setup_content c.in_ok-setup.setup) c.in_ok-setup.there.terminal) c.in_ok-closed.ensures (c.in_ok-setup.ensures.loaded clean schema)
