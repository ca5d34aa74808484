use Rattle.std.proofs.{Common.{inl, inr, ap, ◌∙◌, subst, sym}, lemmas.Result.err_from_is_err_and}
use Rattle.sqlite.specs.{Held.state, State.IsUnchanged}
use Rattle.office_rows.specs.Stored.{HasRows}
use Rattle.office_admission.specs.Setups.{setup_content}
use Rattle.office_tables.proofs.{WritesLemmas.of_store_alone, MadeLemmas.{clean_first, reads_on, reads_stopped, ◌then◌}}
use Rattle.office_loading.specs.{Tables.ShowsPartners, Closed.closed_content}
use Rattle.office_desk.proofs.Faults.{nexts_fit}
use Rattle.office_desk.proofs.beside.load_beside.Goals as goal

pub returns-clause-reads : goal.returns-clause-reads
returns-clause-reads g c = reads_on _ (c.in_ok-setup.ensures.reads then c.in_ok-nexts.ensures.reads)

pub returns-in_err-nexts-clause-reads : goal.returns-in_err-nexts-clause-reads
returns-in_err-nexts-clause-reads g c = c.in_ok-setup.ensures.reads then reads_stopped _ c.from_residual-in_err-nexts.ensures.0 c.nexts.ensures.reads

-- Loading has left the rows from which the numbers are read.
pub returns-clause-nexts : goal.returns-clause-nexts
returns-clause-nexts g c clean rows has =
    let old = state g.S.Store c.args.conn.now in
    let mid = state g.S.Store c.load_own.new.conn in
    let first : IsUnchanged old mid = c.in_ok-setup.ensures.reads.unchanged (clean_first c.nexts.ensures.reads clean) in
    let there : HasRows rows mid.now = rw first.0.now_is has in
    c.in_ok-nexts.ensures.answer clean rows there

-- What isn't loaded is refused as loading refuses it.
pub returns-in_err-setup-clause-refused : goal.returns-in_err-setup-clause-refused
returns-in_err-setup-clause-refused g c clean is =
    let p = err_from_is_err_and c.from_residual.result c.from_residual.ensures.1 in
    rw (p.1, p.2) (inl (c.in_err-setup.ensures.refused clean is))

-- What refused the numbers is no number: the tables show an office.
pub returns-in_err-nexts-clause-refused : goal.returns-in_err-nexts-clause-refused
returns-in_err-nexts-clause-refused g c clean is =
    let before = clean_first c.nexts.ensures.reads clean in
    let p = err_from_is_err_and c.from_residual-in_err-nexts.result c.from_residual-in_err-nexts.ensures.1 in
    let old = state g.S.Store c.args.conn.now in
    let mid = state g.S.Store c.load_own.new.conn in
    let first : IsUnchanged old mid = c.in_ok-setup.ensures.reads.unchanged before in
    let loads = c.in_ok-setup.ensures.loaded before is in
    let content = setup_content c.in_ok-setup.setup in
    let there : ShowsPartners mid.now loads.0.partners = subst (λ db. ShowsPartners db loads.0.partners) (sym first.0.now_is) loads.1.partners in
    let why = of_store_alone _ (nexts_fit (closed_content c.args.closed.now) old.now content c.in_ok-setup.terminal loads) _ (c.in_err-nexts.ensures.shown clean (ap (λ db. db.schema) first.0.now_is ∙ is) loads.0.partners there) in
    rw (p.1, p.2) (inr (content, c.in_ok-setup.terminal, loads, why))
