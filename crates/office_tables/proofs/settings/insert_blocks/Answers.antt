use Rattle.std.proofs.{Common.{[], append_assoc, refl, ap, rules}, lemmas.List.{append-nil, take_more}}
use Rattle.sqlite.specs.Held.{state}
use Rattle.office_rows.specs.Opening.{with_blocks}
use Rattle.office_tables.proofs.WritesLemmas.{none_written, one_more_written}
use Rattle.office_tables.proofs.settings.insert_blocks.Goals as goal

pub loop-block-init : goal.loop-block-init
loop-block-init g c = (refl, none_written (with_blocks []) (state g.S.Store c.args.tx.now.conn.now) (λ rows. ap (λ l. record rows { blocks = l }) (append-nil rows.blocks)))

pub loop-block-preserved : goal.loop-block-preserved
loop-block-preserved g c =
    let i = c.loop-block.block-index in
    (search rules, one_more_written with_blocks (λ done more rows. ap (λ l. record rows { blocks = l }) (append_assoc rows.blocks done more)) _ _ _ (take_more c.args.blocks.now i _ c.loop-block-test.true) _ _ _ c.loop-block.invariant.1 c.in_ok-insert_block.ensures.writes)
