use Rattle.std.proofs.Common.{[], ◌∷◌, take}
use Rattle.sqlite.specs.Held.{state}
use Rattle.office_rows.specs.{Tables.{office_tables, listing_table, setting_table, block_table}, Rows.no_rows, Stored.{HasRows, HasEmpty}}
use Rattle.office_tables.proofs.MadeLemmas.{creates_then}
use Rattle.office_tables.proofs.creating.create_tables.Goals as goal

pub returns-clause-creates : goal.returns-clause-creates
returns-clause-creates g c =
    let s0 = state g.S.Store c.args.tx.now.conn.now in
    let s1 = state g.S.Store c.create_first_tables.new.tx.conn.now in
    let s2 = state g.S.Store c.create_listed.new.tx.conn.now in
    let s3 = state g.S.Store c.create_setting.new.tx.conn.now in
    let s4 = state g.S.Store c.create_block.new.tx.conn.now in
    let five = creates_then (take 4 office_tables) (listing_table ∷ []) (HasEmpty (take 0 office_tables)) (HasEmpty (take 4 office_tables)) (HasEmpty (take 5 office_tables)) s0 s1 s2 _ _ c.in_ok-create_first_tables.ensures.creates c.in_ok-create_listed.ensures.creates in
    let six = creates_then (take 5 office_tables) (setting_table ∷ []) (HasEmpty (take 0 office_tables)) (HasEmpty (take 5 office_tables)) (HasEmpty (take 6 office_tables)) s0 s2 s3 _ _ five c.in_ok-create_setting.ensures.creates in
    creates_then (take 6 office_tables) (block_table ∷ []) (HasEmpty (take 0 office_tables)) (HasEmpty (take 6 office_tables)) (HasRows no_rows) s0 s3 s4 _ c.create_block.result six c.create_block.ensures.creates
