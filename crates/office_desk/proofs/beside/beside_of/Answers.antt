use Rattle.std.proofs.{Common.subst, lemmas.Result.err_from_is_err_and}
use Rattle.sqlite.specs.Held.{state}
use Rattle.office_admission.specs.Setups.{setup_content}
use Rattle.office_tables.proofs.{MadeLemmas.{reads_on, reads_stopped}, WriteLemmas.{nothing_read, one_read}}
use Rattle.office_loading.specs.Closed.{closed_content}
use Rattle.office_desk.{specs.Finding.StaysBeside, proofs.{Faults.opens_alone, HoldLemmas.nexts_loaded, DeliverLemmas.{loaded_is, same_beside, beside_loaded}}}
use Rattle.office_desk.proofs.beside.beside_of.Goals as goal

pub returns-in-Some-clause-beside : goal.returns-in-Some-clause-beside
returns-in-Some-clause-beside g c clean =
    let db = (state g.S.Store c.args.conn.now).now in
    subst (λ b. StaysBeside (closed_content c.args.closed.now) db c.args.beside b) c.in-Some.is (same_beside (closed_content c.args.closed.now) db c.args.beside)

pub returns-in-Some-clause-reads : goal.returns-in-Some-clause-reads
returns-in-Some-clause-reads g c = nothing_read (state g.S.Store c.args.conn.now) _

pub returns-in_ok-there-in-None-clause-reads : goal.returns-in_ok-there-in-None-clause-reads
returns-in_ok-there-in-None-clause-reads g c = one_read (reads_on _ c.in_ok-there-in-None.ensures.reads)

pub returns-in_err-there-in-None-clause-reads : goal.returns-in_err-there-in-None-clause-reads
returns-in_err-there-in-None-clause-reads g c = one_read (reads_stopped _ c.from_residual.ensures.0 c.load_beside.ensures.reads)

pub returns-in_ok-there-in-None-clause-beside : goal.returns-in_ok-there-in-None-clause-beside
returns-in_ok-there-in-None-clause-beside g c clean =
    let db = (state g.S.Store c.args.conn.now).now in
    let closed = closed_content c.args.closed.now in
    let own = setup_content c.in_ok-there-in-None.field-0-0 in
    let there = c.in_ok-there-in-None.there in
    record {
      events = λ content es rows given has after beside. record {
        terminal = beside_loaded closed content es rows db own there.terminal given after has (c.in_ok-there-in-None.ensures.loaded clean has.schema);
        nexts = nexts_loaded content es rows there.nexts.items after (c.in_ok-there-in-None.ensures.nexts clean rows has);
      };
      office = λ content rows terminal holds. record {
        terminal_is = loaded_is closed content own rows terminal there.terminal db c.args.beside holds (c.in_ok-there-in-None.ensures.loaded clean holds.has.schema);
        nexts = c.in_ok-there-in-None.ensures.nexts clean rows holds.has;
      };
    }

-- An office is loaded, but for lack of store or memory.
pub returns-in_err-there-in-None-clause-fault : goal.returns-in_err-there-in-None-clause-fault
returns-in_err-there-in-None-clause-fault g c clean =
    let p = err_from_is_err_and c.from_residual.result c.from_residual.ensures.1 in
    rw (p.1, p.2) (λ content rows terminal holds. opens_alone (closed_content c.args.closed.now) _ content terminal _ holds.loads (c.in_err-there-in-None.ensures.refused clean holds.has.schema))
