use Rattle.std.proofs.Common.{[], ◌∷◌, take}
use Rattle.sqlite.specs.Held.{state}
use Rattle.office_rows.specs.{Tables.{office_tables, partner_table, interchange_table, visit_table, place_table}, Stored.HasEmpty}
use Rattle.office_tables.proofs.MadeLemmas.{creates_then}
use Rattle.office_tables.proofs.creating.create_first_tables.Goals as goal

pub returns-clause-creates : goal.returns-clause-creates
returns-clause-creates g c =
    let s0 = state g.S.Store c.args.tx.now.conn.now in
    let s1 = state g.S.Store c.create_partner.new.tx.conn.now in
    let s2 = state g.S.Store c.create_interchange.new.tx.conn.now in
    let s3 = state g.S.Store c.create_visit.new.tx.conn.now in
    let s4 = state g.S.Store c.create_place.new.tx.conn.now in
    let two = creates_then (partner_table ∷ []) (interchange_table ∷ []) (HasEmpty (take 0 office_tables)) (HasEmpty (take 1 office_tables)) (HasEmpty (take 2 office_tables)) s0 s1 s2 _ _ c.in_ok-create_partner.ensures.creates c.in_ok-create_interchange.ensures.creates in
    let three = creates_then (partner_table ∷ interchange_table ∷ []) (visit_table ∷ []) (HasEmpty (take 0 office_tables)) (HasEmpty (take 2 office_tables)) (HasEmpty (take 3 office_tables)) s0 s2 s3 _ _ two c.in_ok-create_visit.ensures.creates in
    creates_then (partner_table ∷ interchange_table ∷ visit_table ∷ []) (place_table ∷ []) (HasEmpty (take 0 office_tables)) (HasEmpty (take 3 office_tables)) (HasEmpty (take 4 office_tables)) s0 s3 s4 _ c.create_place.result three c.create_place.ensures.creates
