use Rattle.std.{specs.Prelude.IsTrue, proofs.Common.{◌≡◌, OnOk, Some, not, option_map, string_bytes, refl, sym, ap, subst, ◌∙◌}}
use Rattle.std.proofs.lemmas.Result.{IfErr-weaker, err_from_is_err_and}
use Rattle.sqlite.specs.{Held.state, State.HasCleanDisk}
use Rattle.office_rows.{specs.Stored.HasRows, proofs.Creating.{if_ok, on_ok}}
use Rattle.office_tables.{specs.DeliveryReading.IsSame, proofs.{WritesLemmas.{of_store_or, of_store_weaker}, WriteLemmas.{was_clean, was_open}}}
use Rattle.office_loading.specs.Closed.{closed_content}
use Rattle.office_desk.{specs.{Beside.{IsBeside, IsOrNone}, Finding.StaysBeside, Offices.HoldsOffice, Reports.TellsOf}, proofs.Faults.asked_unfit}
use Rattle.office_desk.proofs.{DeliverLemmas.{keeps_accounts, office_once, office_with}, HoldLemmas.{leaves_less, held_with}}
use Rattle.office_history.specs.After.{content_after, machine_after}
use Rattle.office_admission.specs.Setups.{setup_content}
use Rattle.office_desk.proofs.desk.Desk.find_report.Goals as goal

-- What stands beside the rows, or is loaded from them, is at the deliveries.
pub returns-clause-told : goal.returns-clause-told
returns-clause-told g c = λ sound.
    let own = c.args.self.now.setup in
    let content = setup_content own in
    let closed = closed_content c.args.self.now.closed in
    let old = state g.S.Store c.args.self.now.conn in
    let mid = state g.S.Store c.beside_of.new.conn in
    let there = c.in_ok-there.there in
    let reads = c.tell-found.ensures.reads in
    let clean : HasCleanDisk mid = was_clean reads sound.0 in
    let settled : old.now ≡ old.committed = c.is_autocommit-is_idle.ensures.settled (c.is_autocommit-is_idle.ensures.value ∙ ap not c.args.self.now.idle) (was_open c.beside_of.ensures.reads clean (was_open reads sound.0 sound.1)) in
    let stays : StaysBeside closed old.now c.args.self.now.beside (Some there) = subst (λ b. StaysBeside closed old.now b (Some there)) c.take.ensures.value (c.in_ok-there.ensures.beside clean) in
    if_ok c.tell-found.result (λ found told. record {
      after = λ opening es holds.
          let has : HasRows holds.rows old.now = subst (HasRows holds.rows) (sym settled) holds.has in
          let same : IsSame old mid = c.in_ok-there.ensures.reads.same clean in
          let beside : IsBeside opening es (Some there) = stays.events opening es holds.rows holds.given has holds.after holds.beside in
          let tells : TellsOf (content_after opening es) (machine_after opening es).terminal holds.rows c.args.query.now (option_map string_bytes found) =
          subst (λ k. TellsOf k (machine_after opening es).terminal holds.rows c.args.query.now (option_map string_bytes found)) (sym holds.now_is)
          (subst (λ t. TellsOf content t holds.rows c.args.query.now (option_map string_bytes found)) (ap (λ m. m.terminal) beside.terminal)
          (told holds.rows (subst (HasRows holds.rows) (sym same.now) has) holds.after.kept_once)) in
          (tells.0, record { rows = holds.rows; after = holds.after; tells = tells.1 }, tells.2);
      office = λ rows kept holds.
          let now : HoldsOffice closed content rows kept old.now c.args.self.now.beside = office_with closed content rows kept old.committed old.now c.args.self.now.beside c.args.self.now.beside settled holds.beside holds in
          let same : IsSame old mid = c.in_ok-there.ensures.reads.same clean in
          subst (λ t. TellsOf content t rows c.args.query.now (option_map string_bytes found)) (stays.office content rows kept now).terminal_is
          (told rows (subst (HasRows rows) (sym same.now) now.has) (office_once closed content rows kept old.now c.args.self.now.beside now));
    })
    (c.tell-found.ensures.told sound.0)

pub returns-clause-looks : goal.returns-clause-looks
returns-clause-looks g c =
    let content = setup_content c.args.self.now.setup in
    let closed = closed_content c.args.self.now.closed in
    let there = c.in_ok-there.there in
    let old = state g.S.Store c.args.self.now.conn in
    let mid = state g.S.Store c.beside_of.new.conn in
    let end = state g.S.Store c.tell-found.new.conn in
    let first = c.beside_of.ensures.reads in
    let reads = c.tell-found.ensures.reads in
    let idle = c.is_autocommit-is_idle.ensures.value ∙ ap not c.args.self.now.idle in
    let stays : HasCleanDisk mid → StaysBeside closed old.now c.args.self.now.beside (Some there) = λ clean. subst (λ b. StaysBeside closed old.now b (Some there)) c.take.ensures.value (c.in_ok-there.ensures.beside clean) in
    record {
      same = λ sound opening es stands.
          let clean : HasCleanDisk mid = was_clean reads sound.0 in
          let settled : old.now ≡ old.committed = c.is_autocommit-is_idle.ensures.settled idle (was_open first clean (was_open reads sound.0 sound.1)) in
          let has : HasRows stands.rows old.now = subst (HasRows stands.rows) (sym settled) stands.has in
          let same : IsSame old mid = c.in_ok-there.ensures.reads.same clean in
          let kept : end.committed ≡ old.committed = (reads.reads.keeps sound.0).committed sound.1 ∙ same.committed in
          held_with stands end.committed (Some there) (subst (HasRows stands.rows) (sym kept) stands.has) ((stays clean).events opening es stands.rows stands.given has stands.after stands.beside);
      holds = λ sound rows kept holds.
          let clean : HasCleanDisk mid = was_clean reads sound.0 in
          let settled : old.now ≡ old.committed = c.is_autocommit-is_idle.ensures.settled idle (was_open first clean (was_open reads sound.0 sound.1)) in
          let now : HoldsOffice closed content rows kept old.now c.args.self.now.beside = office_with closed content rows kept old.committed old.now c.args.self.now.beside c.args.self.now.beside settled holds.beside holds in
          let same : IsSame old mid = c.in_ok-there.ensures.reads.same clean in
          office_with closed content rows kept old.committed end.committed c.args.self.now.beside (Some there) ((reads.reads.keeps sound.0).committed sound.1 ∙ same.committed)
          ((stays clean).office content rows kept now) holds;
      committed = λ sound. (reads.reads.keeps sound.0).committed sound.1 ∙ (c.in_ok-there.ensures.reads.same (was_clean reads sound.0)).committed;
      setup = refl;
      closed = refl;
      crash = λ sound clean schema db left. leaves_less old mid (was_clean reads clean) first.reads.survives db (leaves_less mid end clean reads.reads.survives db left);
      stays = λ sound. (was_clean first (was_clean reads sound.0), was_open first (was_clean reads sound.0) (was_open reads sound.0 sound.1));
      clean = λ clean. was_clean first (was_clean reads clean);
    }

-- What stands beside the rows is given up where it could not be loaded.
pub returns-in_err-there-clause-looks : goal.returns-in_err-there-clause-looks
returns-in_err-there-clause-looks g c =
    let content = setup_content c.args.self.now.setup in
    let closed = closed_content c.args.self.now.closed in
    let old = state g.S.Store c.args.self.now.conn in
    let mid = state g.S.Store c.beside_of.new.conn in
    let after = c.take.new.self in
    let reads = c.beside_of.ensures.reads in
    record {
      same = λ sound opening es stands.
          held_with stands mid.committed after (subst (HasRows stands.rows) (sym ((reads.reads.keeps sound.0).committed sound.1)) stands.has) (subst (IsBeside opening es) (sym c.take.ensures.after) tt);
      holds = λ sound rows kept holds.
          office_with closed content rows kept old.committed mid.committed c.args.self.now.beside after ((reads.reads.keeps sound.0).committed sound.1) (subst (IsOrNone rows kept) (sym c.take.ensures.after) tt) holds;
      committed = λ sound. (reads.reads.keeps sound.0).committed sound.1;
      setup = refl;
      closed = refl;
      crash = λ sound clean schema db left. leaves_less old mid clean reads.reads.survives db left;
      stays = λ sound. (was_clean reads sound.0, was_open reads sound.0 sound.1);
      clean = was_clean reads;
    }

-- ---- why it can't be reported

pub returns-clause-fault : goal.returns-clause-fault
returns-clause-fault g c = λ sound.
    let content = setup_content c.args.self.now.setup in
    let closed = closed_content c.args.self.now.closed in
    let asked = c.args.query.now.about in
    let old = state g.S.Store c.args.self.now.conn in
    let mid = state g.S.Store c.beside_of.new.conn in
    let reads = c.tell-found.ensures.reads in
    let clean : HasCleanDisk mid = was_clean reads sound.0 in
    let settled : old.now ≡ old.committed = c.is_autocommit-is_idle.ensures.settled (c.is_autocommit-is_idle.ensures.value ∙ ap not c.args.self.now.idle) (was_open c.beside_of.ensures.reads clean (was_open reads sound.0 sound.1)) in
    let same : IsSame old mid = c.in_ok-there.ensures.reads.same clean in
    IfErr-weaker c.tell-found.result _ _ (λ fault why rows kept holds.
    let now : HoldsOffice closed content rows kept old.now c.args.self.now.beside = office_with closed content rows kept old.committed old.now c.args.self.now.beside c.args.self.now.beside settled holds.beside holds in
    let its = (keeps_accounts closed content rows kept old.now now.has now.loads).0 in
    of_store_weaker _ _ (asked_unfit closed content rows its asked) fault (why rows (subst (HasRows rows) (sym same.now) now.has)))
    (c.tell-found.ensures.fault sound.0)

pub returns-in_err-there-clause-fault : goal.returns-in_err-there-clause-fault
returns-in_err-there-clause-fault g c = λ sound.
    let content = setup_content c.args.self.now.setup in
    let closed = closed_content c.args.self.now.closed in
    let old = state g.S.Store c.args.self.now.conn in
    let reads = c.beside_of.ensures.reads in
    let p = err_from_is_err_and c.from_residual.result c.from_residual.ensures.1 in
    let settled : old.now ≡ old.committed = c.is_autocommit-is_idle.ensures.settled (c.is_autocommit-is_idle.ensures.value ∙ ap not c.args.self.now.idle) (was_open reads sound.0 sound.1) in
    rw (p.1, p.2) (λ rows kept holds.
    let now : HoldsOffice closed content rows kept old.now c.take.result = office_with closed content rows kept old.committed old.now c.args.self.now.beside c.take.result settled (subst (IsOrNone rows kept) (sym c.take.ensures.value) holds.beside) holds in
    of_store_or _ _ (c.in_err-there.ensures.fault sound.0 content rows kept now))

-- ---- an open connection stays so

pub returns-clause-stays_open : goal.returns-clause-stays_open
returns-clause-stays_open g c = λ clean was.
    let reads = c.tell-found.ensures.reads in
    let there = c.in_ok-there.ensures.reads.reads.unchanged (was_clean reads clean) was in
    on_ok c.tell-found.result (λ is. is.0.is_open) (reads.reads.unchanged clean there.0.is_open)

pub returns-in_err-there-clause-stays_open : goal.returns-in_err-there-clause-stays_open
returns-in_err-there-clause-stays_open g c = λ clean was.
    let p = err_from_is_err_and c.from_residual.result c.from_residual.ensures.1 in
    subst (λ r. OnOk r (IsTrue (state g.S.Store c.beside_of.new.conn).is_open)) (sym p.1) tt
