use Rattle.std.proofs.Common.{[], ◌∷◌, take}
use Rattle.sqlite.specs.Held.{state}
use Rattle.office_rows.specs.Stored.{HasEmpty}
use Rattle.office_tables.proofs.MadeLemmas.{creates_then}
use Rattle.office_closing.specs.{Changes.empty_register, Stored.HasWhole}
use Rattle.office_closing.specs.Tables.{register_tables, archive_table, segment_table, closed_for_table, settled_table, taken_table, sealed_table}
use Rattle.office_closing.proofs.creating.create_tables.Goals as goal

pub returns-clause-creates : goal.returns-clause-creates
returns-clause-creates g c =
    let s0 = state g.S.Store c.args.tx.now.conn.now in
    let s1 = state g.S.Store c.create_archive.new.tx.conn.now in
    let s2 = state g.S.Store c.create_segment.new.tx.conn.now in
    let s3 = state g.S.Store c.create_closed_for.new.tx.conn.now in
    let s4 = state g.S.Store c.create_settled.new.tx.conn.now in
    let s5 = state g.S.Store c.create_taken.new.tx.conn.now in
    let two = creates_then (archive_table ∷ []) (segment_table ∷ []) (HasEmpty (take 0 register_tables)) (HasEmpty (take 1 register_tables)) (HasEmpty (take 2 register_tables)) s0 s1 s2 _ _ c.in_ok-create_archive.ensures.creates c.in_ok-create_segment.ensures.creates in
    let three = creates_then (archive_table ∷ segment_table ∷ []) (closed_for_table ∷ []) (HasEmpty (take 0 register_tables)) (HasEmpty (take 2 register_tables)) (HasEmpty (take 3 register_tables)) s0 s2 s3 _ _ two c.in_ok-create_closed_for.ensures.creates in
    let four = creates_then (archive_table ∷ segment_table ∷ closed_for_table ∷ []) (settled_table ∷ []) (HasEmpty (take 0 register_tables)) (HasEmpty (take 3 register_tables)) (HasEmpty (take 4 register_tables)) s0 s3 s4 _ _ three c.in_ok-create_settled.ensures.creates in
    let s6 = state g.S.Store c.create_sealed.new.tx.conn.now in
    let five = creates_then (archive_table ∷ segment_table ∷ closed_for_table ∷ settled_table ∷ []) (taken_table ∷ []) (HasEmpty (take 0 register_tables)) (HasEmpty (take 4 register_tables)) (HasEmpty (take 5 register_tables)) s0 s4 s5 _ _ four c.in_ok-create_taken.ensures.creates in
    creates_then (archive_table ∷ segment_table ∷ closed_for_table ∷ settled_table ∷ taken_table ∷ []) (sealed_table ∷ []) (HasEmpty (take 0 register_tables)) (HasEmpty (take 5 register_tables)) (HasWhole empty_register) s0 s5 s6 _ c.create_sealed.result five c.create_sealed.ensures.creates
