use Rattle.std.proofs.{Common.{◌≡◌, [], ◌∷◌, ◌++◌, false, IfErr, refl, ap, append_assoc, ◌∙◌, arith, rules}, lemmas.List.append-nil}
use Rattle.sqlite.specs.{Held.state, Given.HasGiven, State.{HasCleanDisk, IsUnchanged, FailsToQuery, Survives, CommitsShowing}}
use Rattle.office_rows.specs.Opening.{with_interchanges}
use Rattle.office_tables.proofs.{MadeLemmas.{reads_same, reads_failed, query_survives, ◌then◌}, WritesLemmas.{none_written, one_more_written}}
use Rattle.office_loading.{specs.Copies.ShowsInterchange, proofs.StreamLemmas.{begun_shows, stands_first, stands_next, all_shown}}
use Rattle.office_loading.proofs.StandingLemmas.{select_standing, standing_shows, are_standing}
use Rattle.office_loading.proofs.copying.copy_interchanges.Goals as goal

pub returns-in_err-rows-clause-reads : goal.returns-in_err-rows-clause-reads
returns-in_err-rows-clause-reads g c =
    let old = state g.S.Store c.args.old.now in
    let new = state g.S.Store c.query.follows.lender-at-none in
    let mode : c.args.old.now.in_transaction ≡ false → c.query.follows.lender-at-none.in_transaction ≡ false = search rules in
    let kept : Survives old new (CommitsShowing select_standing [] old) = search rules in
    let fails : HasCleanDisk new → IfErr c.query.result (FailsToQuery select_standing [] old new) = search rules in
    reads_failed select_standing [] old new standing_shows _ _ c.from_residual.ensures.0 (λ clean. rw c.in_err-rows.was at (fails clean)) mode kept

pub each-init : goal.each-init
each-init g c =
    let made = c.in_ok-rows.ensures in
    let old = state g.S.Store c.args.old.now in
    let new = state g.S.Store c.in_ok-rows.rows.conn.now in
    let begun : HasCleanDisk new → HasGiven g.S.Store select_standing [] c.in_ok-rows.rows.conn.now [] × IsUnchanged old new =
    λ clean. begun_shows g.S.Store select_standing [] c.args.old.now c.in_ok-rows.rows.conn.now standing_shows (made.begun clean) in
    record {
      same_rows = refl;
      same = refl;
      reads = reads_same old new tt (λ clean. (begun clean).1) made.mode (query_survives select_standing [] old new standing_shows made.survives);
      copied = (
        [],
        λ clean. stands_first g.S.Store ShowsInterchange select_standing c.args.old.now c.in_ok-rows.rows.conn.now (begun clean),
        none_written (with_interchanges []) (state g.T.Store c.args.tx.now.conn.now) (λ rows. ap (λ l. record rows { interchanges = l }) (append-nil rows.interchanges)),
      );
    }

pub returns-in_default-clause-adds : goal.returns-in_default-clause-adds
returns-in_default-clause-adds g c =
    let moved = c.next.follows.holds-at-none in
    let now = c.next.follows.lender-at-none.conn.now in
    let so_far = c.each.invariant.copied in
    record {
      copied = so_far.0;
      are = λ clean is.
          let late : HasCleanDisk (state g.S.Store now) = search rules in
          let was = so_far.1 (omega (arith, moved.survives.clean)) in
          let done = rw (c.in_ok-row.was, c.in_default.is) at (moved.ok late) in
          let all = all_shown g.S.Store ShowsInterchange select_standing c.args.old.now c.each.rows.conn.now now so_far.0 was standing_shows done in
          are_standing (state g.S.Store c.args.old.now) (state g.S.Store now) all.0 so_far.0 is all.1 all.2;
      writes = so_far.2;
    }

pub each-preserved : goal.each-preserved
each-preserved g c =
    let moved = c.next.follows.holds-at-none in
    let before = c.each.rows.conn.now in
    let now = c.next.follows.lender-at-none.conn.now in
    let same : HasCleanDisk (state g.S.Store now) → IsUnchanged (state g.S.Store before) (state g.S.Store now) = λ clean. rw c.in_ok-row.was at (moved.same clean) in
    let so_far = c.each.invariant.copied in
    let added = c.in_ok-copy_interchange.ensures.adds in
    record {
      same_rows = moved.same_reference ∙ c.each.invariant.same_rows;
      same = search rules;
      reads = c.each.invariant.reads then reads_same (state g.S.Store before) (state g.S.Store now) tt same moved.mode moved.survives;
      copied = (
        so_far.0 ++ added.one ∷ [],
        λ clean.
            let was = so_far.1 (omega (arith, moved.survives.clean)) in
            let one = rw (c.in_ok-row.was, c.in-Some.is) at (moved.ok clean) in
            stands_next g.S.Store ShowsInterchange select_standing c.args.old.now before now so_far.0 was (so_far.0 ++ added.one ∷ []) c.in-Some.row.now added.one one (same clean) added.shows refl,
        one_more_written with_interchanges (λ done more rows. ap (λ l. record rows { interchanges = l }) (append_assoc rows.interchanges done more)) so_far.0 (so_far.0 ++ added.one ∷ []) added.one refl _ _ _ so_far.2 added.writes,
      );
    }
