use Rattle.std.proofs.{Common.{◌≡◌, sym, ap, ◌∙◌, ◌+◌, refl, rules, take, [], ◌∷◌, ◌++◌}, lemmas.List.take_more}
use Rattle.sqlite.specs.Held.{state}
use Rattle.terminal_core.specs.Rows.{change_content}
use Rattle.office_rows.specs.Effects.{with_change}
use Rattle.office_tables.proofs.{WritesLemmas.{none_written, writes_if_open}, WriteLemmas.written_more}
use Rattle.office_tables.proofs.writing.apply_all.Goals as goal

pub loop-change-init : goal.loop-change-init
loop-change-init g c = (refl, none_written (λ rows. rows) (state g.S.Store c.args.tx.now.conn.now) (λ rows. refl))

pub loop-change-preserved : goal.loop-change-preserved
loop-change-preserved g c =
    let i = c.loop-change.change-index in
    let all = c.args.changes.now in
    let item = c.change-item.result in
    let more : take (i + 1) all ≡ take i all ++ item ∷ [] = take_more all i item c.loop-change-test.true ∙ ap (λ x. take i all ++ x ∷ []) (sym c.change-item.is) in
    (search rules, written_more change_content with_change (take i all) (take (i + 1) all) item _ _ _ more c.loop-change.invariant.1 (writes_if_open _ _ _ _ c.in_ok-apply.ensures.writes))
