use Rattle.std.proofs.Common.{◌≡◌, ℕ, option_map, not, refl, sym, ap, subst, ◌∙◌}
use Rattle.std.proofs.lemmas.Result.{IfErr-weaker}
use Rattle.sqlite.specs.{Effect.Database, Held.state}
use Rattle.office_rows.{specs.Stored.HasRows, proofs.Creating.if_ok}
use Rattle.office_tables.proofs.WriteLemmas.{one_read, was_clean, was_open}
use Rattle.office_admission.specs.Setups.{setup_content}
use Rattle.office_loading.specs.Closed.{closed_content}
use Rattle.office_desk.{specs.Looking.PagesOf, proofs.{HoldLemmas.{leaves_less, held_with}, DeliverLemmas.office_with}}
use Rattle.office_desk.proofs.desk.Desk.find_texts.Goals as goal

-- no change was under way, so the rows that are read are those that the desk has
pub returns-clause-told : goal.returns-clause-told
returns-clause-told g c = λ sound.
    let old = state g.S.Store c.args.self.now.conn in
    let reads = one_read c.lines_from.ensures.reads in
    let settled : old.now ≡ old.committed = c.is_autocommit-is_idle.ensures.settled (c.is_autocommit-is_idle.ensures.value ∙ ap not c.args.self.now.idle) (was_open reads sound.0 sound.1) in
    if_ok c.lines_from.result (λ found pages rows has.
    subst (λ (db : Database). PagesOf db c.args.from (option_map (λ lines. lines.items) found)) settled (pages rows (subst (HasRows rows) (sym settled) has)))
    (c.lines_from.ensures.pages sound.0)

pub returns-clause-fault : goal.returns-clause-fault
returns-clause-fault g c = λ sound.
    let old = state g.S.Store c.args.self.now.conn in
    let reads = one_read c.lines_from.ensures.reads in
    let settled : old.now ≡ old.committed = c.is_autocommit-is_idle.ensures.settled (c.is_autocommit-is_idle.ensures.value ∙ ap not c.args.self.now.idle) (was_open reads sound.0 sound.1) in
    IfErr-weaker c.lines_from.result _ _ (λ fault why rows terminal holds. why rows (subst (HasRows rows) (sym settled) holds.has))
    (c.lines_from.ensures.fault sound.0)

pub returns-clause-looks : goal.returns-clause-looks
returns-clause-looks g c =
    let content = setup_content c.args.self.now.setup in
    let there = c.args.self.now.beside in
    let old = state g.S.Store c.args.self.now.conn in
    let new = state g.S.Store c.lines_from.new.conn in
    let reads = one_read c.lines_from.ensures.reads in
    record {
      same = λ sound opening es stands.
          held_with stands new.committed there (subst (HasRows stands.rows) (sym ((reads.reads.keeps sound.0).committed sound.1)) stands.has) stands.beside;
      holds = λ sound rows kept holds.
          office_with (closed_content c.args.self.now.closed) content rows kept old.committed new.committed there there ((reads.reads.keeps sound.0).committed sound.1) holds.beside holds;
      committed = λ sound. (reads.reads.keeps sound.0).committed sound.1;
      setup = refl;
      closed = refl;
      crash = λ sound clean schema db left. leaves_less old new clean reads.reads.survives db left;
      stays = λ sound. (was_clean reads sound.0, was_open reads sound.0 sound.1);
      clean = was_clean reads;
    }
