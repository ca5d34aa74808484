use Rattle.std.proofs.{Common.{◌≡◌, ◌-◌, [], ◌∷◌, length, map, take, drop, append_assoc, sym, ap, ◌∙◌, arith}, lemmas.List.{drop_more, take_rest}}
use Rattle.sqlite.specs.Held.{state}
use Rattle.office_rows.specs.{Rows.listing_content, Opening.with_lines}
use Rattle.office_tables.proofs.WritesLemmas.{writes_then_if_open, writes_same}
use Rattle.office_tables.proofs.returning.insert_some.Goals as goal

-- the first, and then those after it
pub returns-clause-writes : goal.returns-clause-writes
returns-clause-writes g c =
    let all = c.args.lines.now in
    let first = c.index-lines-0.result in
    let rest = take (length all - 1) (drop 1 all) in
    let is : all ≡ first ∷ rest =
    drop_more all 0 first (omega (arith, c.requires)) ∙ ap (λ x. x ∷ drop 1 all) (sym c.index-lines-0.is) ∙ ap (λ l. first ∷ l) (sym (take_rest all 1)) in
    let old = state g.S.Store c.args.tx.now.conn.now in
    let mid = state g.S.Store c.insert_one.new.tx.conn.now in
    let new = state g.S.Store c.insert_lines.new.tx.conn.now in
    let one = with_lines (listing_content first ∷ []) in
    let more = with_lines (map listing_content rest) in
    writes_same (λ rows. more (one rows)) (with_lines (map listing_content all)) old new c.insert_lines.result
    (λ rows. ap (λ l. record rows { lines = l }) (append_assoc rows.lines (listing_content first ∷ []) (map listing_content rest)) ∙ ap (λ l. with_lines (map listing_content l) rows) (sym is))
    (writes_then_if_open one more old mid new _ c.insert_lines.result c.in_ok-insert_one.ensures.writes c.insert_lines.ensures.writes)
