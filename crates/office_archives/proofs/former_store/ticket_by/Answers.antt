use Rattle.std.proofs.Common.{sym, ap, subst, ◌∙◌}
use Rattle.sqlite.specs.{Effect.Database, Held.state}
use Rattle.office_admission.specs.Setups.{setup_content}
use Rattle.office_loading.specs.{Closed.closed_content, Tables.LoadsOwn}
use Rattle.office_tables.proofs.MadeLemmas.{clean_first, reads_on, ◌then◌}
use Rattle.office_report_data.specs.Told.{shown}
use Rattle.office_archives.proofs.Rising.{taken_in}
use Rattle.office_report_data.specs.Told as value
use Rattle.office_archives.proofs.former_store.ticket_by.Goals as goal

pub returns-clause-ticket : goal.returns-clause-ticket
returns-clause-ticket g c clean rows has once =
    let before = clean_first c.load_own.ensures.reads clean in
    let old = state g.S.Store c.args.conn.now in
    let same = (c.in_ok-kept.ensures.reads.unchanged before).0.now_is in
    let closed = closed_content c.args.closed.now in
    let content = setup_content c.in_ok-terminal.field-0-0 in
    let loads = c.in_ok-terminal.ensures.loaded clean (ap (λ (db : Database). db.schema) same ∙ has.schema) in
    record {
      db = old.now;
      has = has;
      closed = closed;
      content = content;
      terminal = c.in_ok-terminal.terminal;
      loads = subst (λ db. LoadsOwn closed db content c.in_ok-terminal.terminal) same loads;
      taken = taken_in rows c.args.partner c.args.number c.in_ok-kept.field-0 once (c.in_ok-kept.ensures.answer before rows has) (sym c.was_taken.ensures ∙ c.if-not-was_taken.false);
      tells = c.in_ok-show_ticket.ensures ∙ ap (λ told. shown c.args.view (value.ticket told)) c.in_ok-report.ensures;
    }

pub returns-clause-reads : goal.returns-clause-reads
returns-clause-reads g c = reads_on _ (c.in_ok-kept.ensures.reads then c.in_ok-terminal.ensures.reads)
