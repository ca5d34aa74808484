use Rattle.std.proofs.{Common.{◌≡◌, None, Some, not, refl, sym, ap, subst, ◌∙◌, IsTrue}, lemmas.Result.err_from_is_err_and}
use Rattle.sqlite.specs.{Held.state, State.{HasCleanDisk, IsUnchanged}}
use Rattle.office_rows.specs.{Stored.HasRows, Tables.office_schema}
use Rattle.edi_messages.specs.Codes.{table_texts}
use Rattle.office_admission.specs.Setups.{SetupContent, setup_content}
use Rattle.office_history.{specs.After.{SaysSame, content_after}, proofs.Alike.reopens}
use Rattle.office_loading.specs.{Tables.LoadsOwn, Closed.closed_content}
use Rattle.office_tables.proofs.MadeLemmas.{clean_first, reads_stopped}
use Rattle.office_desk.{specs.{Beside.{IsBeside, IsOrNone}, Offices.HoldsOffice, Telling.Holds}, proofs.OwnNumbers.codes_after}
use Rattle.office_desk.proofs.{HoldLemmas.{held_leaves, nexts_loaded}, DeliverLemmas.{office_with, shown_by_own, beside_loaded}}
use Rattle.office_desk.proofs.desk.Desk.open.Goals as goal

pub new-requires-clause-given : goal.new-requires-clause-given
new-requires-clause-given g c = c.in_ok-setup.ensures.given

pub returns : goal.returns
returns g c = record {
  opens = λ sound content es rows given has after.
      let desk = c.new.result in
      let own = c.in_ok-setup.setup in
      let closed = closed_content c.args.closed in
      let there = c.in_ok-setup.beside in
      let old = state g.S.Store c.args.conn in
      let new = state g.S.Store c.load_beside.new.conn in
      let clean : HasCleanDisk new = subst (λ k. HasCleanDisk (state g.S.Store k)) c.new.ensures.conn sound.0 in
      let is_open : IsTrue new.is_open = subst (λ k. IsTrue (state g.S.Store k).is_open) c.new.ensures.conn sound.1 in
      let settled : old.now ≡ old.committed = c.is_autocommit-is_idle.ensures.settled (c.is_autocommit-is_idle.ensures.value ∙ ap not c.requires.idle) ((c.load_beside.ensures.reads.keeps clean).was_open is_open) in
      let held_rows : HasRows rows old.now = subst (HasRows rows) (sym settled) has in
      let loads : LoadsOwn closed old.now (setup_content own) there.terminal = c.in_ok-setup.ensures.loaded clean held_rows.schema in
      let still : IsUnchanged old new = c.in_ok-setup.ensures.reads.unchanged clean in
      let back = reopens content es rows old.now loads.0 (setup_content own) there.terminal after given held_rows loads.1 (shown_by_own closed loads.0 (setup_content own) there.terminal loads.2) in
      let opening : SetupContent = record content { codes = own.codes } in
      let beside : IsBeside opening es (Some there) = record {
        terminal = beside_loaded closed opening es rows old.now (setup_content own) there.terminal back.given back.rows_are held_rows loads;
        nexts = nexts_loaded opening es rows there.nexts.items back.rows_are (c.in_ok-setup.ensures.nexts clean rows held_rows);
      } in
      let held : Holds opening es (setup_content desk.setup) (state g.S.Store desk.conn).committed desk.beside = record {
        given = back.given;
        now_is = subst (λ s. content_after opening es ≡ setup_content s) (sym c.new.ensures.setup) back.now;
        rows = rows;
        has = subst (HasRows rows) (sym (ap (λ k. (state g.S.Store k).committed) c.new.ensures.conn ∙ still.0.committed_is)) has;
        after = back.rows_are;
        beside = subst (IsBeside opening es) (sym c.new.ensures.beside) beside;
      } in
      record {
        says = subst (λ s. SaysSame (setup_content s) (content_after content es)) (sym c.new.ensures.setup) back.says;
        opening = opening;
        opening_says = record { terminal = refl; codes = back.says.codes ∙ ap table_texts (codes_after es content); partners = refl; blocks = refl; limit = refl };
        stands = held;
        leaves = held_leaves opening es (setup_content desk.setup) (state g.S.Store desk.conn) desk.beside sound.1 (λ db left. g.met.S.Store.settled desk.conn.store db sound.1 left) held;
      };
  office = λ sound schema.
      let desk = c.new.result in
      let own = c.in_ok-setup.setup in
      let closed = closed_content c.args.closed in
      let there = c.in_ok-setup.beside in
      let old = state g.S.Store c.args.conn in
      let new = state g.S.Store c.load_beside.new.conn in
      let clean : HasCleanDisk new = subst (λ k. HasCleanDisk (state g.S.Store k)) c.new.ensures.conn sound.0 in
      let is_open : IsTrue new.is_open = subst (λ k. IsTrue (state g.S.Store k).is_open) c.new.ensures.conn sound.1 in
      let settled : old.now ≡ old.committed = c.is_autocommit-is_idle.ensures.settled (c.is_autocommit-is_idle.ensures.value ∙ ap not c.requires.idle) ((c.load_beside.ensures.reads.keeps clean).was_open is_open) in
      let tables : old.now.schema ≡ office_schema = ap (λ db. db.schema) settled ∙ schema in
      let loads : LoadsOwn closed old.committed (setup_content desk.setup) there.terminal =
      subst (λ s. LoadsOwn closed old.committed (setup_content s) there.terminal) (sym c.new.ensures.setup) (subst (λ db. LoadsOwn closed db (setup_content own) there.terminal) settled (c.in_ok-setup.ensures.loaded clean tables)) in
      let still : IsUnchanged old (state g.S.Store desk.conn) = subst (λ k. IsUnchanged old (state g.S.Store k)) (sym c.new.ensures.conn) (c.in_ok-setup.ensures.reads.unchanged clean) in
      record {
        there = there;
        beside = c.new.ensures.beside;
        loads = subst (λ k. LoadsOwn (closed_content k) old.committed (setup_content desk.setup) there.terminal) (sym c.new.ensures.closed) loads;
        holds = λ rows has. subst (λ k. HoldsOffice (closed_content k) (setup_content desk.setup) rows there.terminal (state g.S.Store desk.conn).committed desk.beside) (sym c.new.ensures.closed) (office_with closed (setup_content desk.setup) rows there.terminal old.committed (state g.S.Store desk.conn).committed None desk.beside still.0.committed_is
            (subst (IsOrNone rows there.terminal) (sym c.new.ensures.beside)
            (record { terminal_is = refl; nexts = c.in_ok-setup.ensures.nexts clean rows (subst (HasRows rows) (sym settled) has) }))
            (record { has = has; loads = loads; beside = tt }));
        unchanged = still;
      };
  stays = λ sound. clean_first c.load_beside.ensures.reads (subst (λ k. HasCleanDisk (state g.S.Store k)) c.new.ensures.conn sound.0);
  closed = c.new.ensures.closed;
  refused = tt;
}

-- It was refused as its tables were, and the connection was given up after them.
pub returns-in_err-setup-clause-refused : goal.returns-in_err-setup-clause-refused
returns-in_err-setup-clause-refused g c =
    let p = err_from_is_err_and c.from_residual.result c.from_residual.ensures.1 in
    rw (p.1, p.2) (record {
      last = c.load_beside.new.conn;
      reads = reads_stopped _ refl c.load_beside.ensures.reads;
      deserved = c.in_err-setup.ensures.refused;
    })
