use Rattle.std.proofs.lemmas.Result.{err_from_is_err_and}
use Rattle.sqlite.specs.Held.{state}
use Rattle.office_closing.specs.{Copies.FileNames, Files.files}
use Rattle.office_closing.proofs.ClosesLemmas.{closes_refused, closes_uncleared, closes_unmarked, closes_unraised, away_whole, closes_whole}
use Rattle.office_closing.proofs.closing.close.Goals as goal

pub returns-in_err-plan : goal.returns-in_err-plan
returns-in_err-plan g c =
    let p = err_from_is_err_and c.from_residual.result c.from_residual.ensures.1 in
    let names : FileNames = record { store = c.args.store_file.now; archive = c.args.archive_file.now } in
    let old = files g.S.Store g.R.Store g.A.Store g.M.Store c.args.store.now c.args.register.now c.args.archive.now c.args.archive_register.now in
    let mid = files g.S.Store g.R.Store g.A.Store g.M.Store c.judge.new.store c.judge.new.register c.judge.new.archive c.judge.new.archive_register in
    rw (p.1, p.2) (record { closes = closes_refused names old mid c.in_err-plan.field-0.0 c.check_idle.ensures c.requires.idle c.in_err-plan.ensures.read c.in_err-plan.ensures.tells; put_away = λ clean. tt })

pub returns-in_err-mark_archive : goal.returns-in_err-mark_archive
returns-in_err-mark_archive g c =
    let p = err_from_is_err_and c.from_residual-in_err-mark_archive.result c.from_residual-in_err-mark_archive.ensures.1 in
    let names : FileNames = record { store = c.args.store_file.now; archive = c.args.archive_file.now } in
    let old = files g.S.Store g.R.Store g.A.Store g.M.Store c.args.store.now c.args.register.now c.args.archive.now c.args.archive_register.now in
    let mid = files g.S.Store g.R.Store g.A.Store g.M.Store c.judge.new.store c.judge.new.register c.judge.new.archive c.judge.new.archive_register in
    rw (p.1, p.2) (record {
      closes = closes_unmarked names old mid c.in_ok-plan.plan c.check_idle.ensures c.requires.idle c.in_ok-plan.ensures.read c.in_ok-plan.ensures.judged c.in_ok-plan.ensures.texts
          (state g.M.Store c.mark_archive.new.conn) c.in_err-mark_archive.field-0.0 c.in_err-mark_archive.ensures.steps c.in_err-mark_archive.ensures.file;
      put_away = λ clean. tt;
    })

pub returns-in_err-raise : goal.returns-in_err-raise
returns-in_err-raise g c =
    let p = err_from_is_err_and c.from_residual-in_err-raise.result c.from_residual-in_err-raise.ensures.1 in
    let names : FileNames = record { store = c.args.store_file.now; archive = c.args.archive_file.now } in
    let old = files g.S.Store g.R.Store g.A.Store g.M.Store c.args.store.now c.args.register.now c.args.archive.now c.args.archive_register.now in
    let mid = files g.S.Store g.R.Store g.A.Store g.M.Store c.judge.new.store c.judge.new.register c.judge.new.archive c.judge.new.archive_register in
    rw (p.1, p.2) (record {
      closes = closes_unraised names old mid c.in_ok-plan.plan c.check_idle.ensures c.requires.idle c.in_ok-plan.ensures.read c.in_ok-plan.ensures.judged c.in_ok-plan.ensures.texts
          _ (state g.M.Store c.mark_archive.new.conn) c.in_ok-mark_archive.ensures.steps
          (state g.R.Store c.raise.new.conn) c.in_err-raise.field-0.0 c.in_err-raise.ensures.steps c.in_err-raise.ensures.file;
      put_away = λ clean. tt;
    })

pub returns-in-Ok : goal.returns-in-Ok
returns-in-Ok g c =
    let names : FileNames = record { store = c.args.store_file.now; archive = c.args.archive_file.now } in
    let old = files g.S.Store g.R.Store g.A.Store g.M.Store c.args.store.now c.args.register.now c.args.archive.now c.args.archive_register.now in
    let mid = files g.S.Store g.R.Store g.A.Store g.M.Store c.judge.new.store c.judge.new.register c.judge.new.archive c.judge.new.archive_register in
    record {
      closes = closes_whole names old mid c.in_ok-plan.plan c.check_idle.ensures c.requires.idle c.in_ok-plan.ensures.read c.in_ok-plan.ensures.judged c.in_ok-plan.ensures.texts
          _ (state g.M.Store c.mark_archive.new.conn) c.in_ok-mark_archive.ensures.steps
          _ (state g.R.Store c.raise.new.conn) c.in_ok-raise.ensures.steps
          (state g.S.Store c.clear_all.new.conn) _ _ c.in-Ok.ensures.clears;
      put_away = away_whole names old mid c.in_ok-plan.plan c.check_idle.ensures c.requires.idle c.in_ok-plan.ensures.read c.in_ok-plan.ensures.judged c.in_ok-plan.ensures.texts
          _ (state g.M.Store c.mark_archive.new.conn) c.in_ok-mark_archive.ensures.steps
          _ (state g.R.Store c.raise.new.conn) c.in_ok-raise.ensures.steps
          (state g.S.Store c.clear_all.new.conn) _ c.in-Ok.ensures.clears _ c.put_away.ensures;
    }

pub returns-in-Err : goal.returns-in-Err
returns-in-Err g c =
    let names : FileNames = record { store = c.args.store_file.now; archive = c.args.archive_file.now } in
    let old = files g.S.Store g.R.Store g.A.Store g.M.Store c.args.store.now c.args.register.now c.args.archive.now c.args.archive_register.now in
    let mid = files g.S.Store g.R.Store g.A.Store g.M.Store c.judge.new.store c.judge.new.register c.judge.new.archive c.judge.new.archive_register in
    record {
      closes = rw c.not_written.ensures (closes_uncleared names old mid c.in_ok-plan.plan c.check_idle.ensures c.requires.idle c.in_ok-plan.ensures.read c.in_ok-plan.ensures.judged c.in_ok-plan.ensures.texts
          _ (state g.M.Store c.mark_archive.new.conn) c.in_ok-mark_archive.ensures.steps
          _ (state g.R.Store c.raise.new.conn) c.in_ok-raise.ensures.steps
          (state g.S.Store c.clear_all.new.conn) _ c.in-Err.ensures.clears);
      put_away = λ clean. tt;
    }
