use Rattle.std.proofs.{Common.{◌≡◌, sym, ap, ◌∙◌, ◌+◌, refl, rules, take, [], ◌∷◌, ◌++◌}, lemmas.List.take_more}
use Rattle.sqlite.specs.Held.{state}
use Rattle.office_history.specs.Cascade.{with_interchange}
use Rattle.office_tables.{specs.Taken.taken_content, proofs.{WritesLemmas.none_written, WriteLemmas.written_more}}
use Rattle.office_tables.proofs.writing.write_interchanges.Goals as goal

pub loop-item-init : goal.loop-item-init
loop-item-init g c = (refl, none_written (λ rows. rows) (state g.S.Store c.args.tx.now.conn.now) (λ rows. refl))

pub loop-item-preserved : goal.loop-item-preserved
loop-item-preserved g c =
    let i = c.loop-item.item-index in
    let all = c.args.taken.now in
    let item = c.item-item.result in
    let more : take (i + 1) all ≡ take i all ++ item ∷ [] = take_more all i item c.loop-item-test.true ∙ ap (λ x. take i all ++ x ∷ []) (sym c.item-item.is) in
    (search rules, written_more taken_content (with_interchange c.args.partner) (take i all) (take (i + 1) all) item _ _ _ more c.loop-item.invariant.1 c.in_ok-write_interchange.ensures.writes)
