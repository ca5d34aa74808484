use Rattle.std.proofs.Common.{map}
use Rattle.sqlite.specs.Held.{state}
use Rattle.terminal_core.specs.Rows.{visit_content}
use Rattle.office_rows.specs.{Rows.{Rows, no_rows, listing_content}, Opening.{with_settings, with_partners, with_blocks, with_visits, with_places, with_lines}}
use Rattle.office_tables.{specs.Writes.WritesIfOpen, proofs.MadeLemmas.{makes_empty, makes_with}}
use Rattle.office_loading.specs.Contents.{setting_content, partner_content, place_content}
use Rattle.office_loading.proofs.migrating.write_tables.Goals as goal

pub returns-clause-makes : goal.returns-clause-makes
returns-clause-makes g c =
    let all = c.args.tables.now in
    let s0 = state g.S.Store c.args.tx.now.conn.now in
    let s1 = state g.S.Store c.create_tables.new.tx.conn.now in
    let s2 = state g.S.Store c.write_settings.new.tx.conn.now in
    let s3 = state g.S.Store c.write_partners.new.tx.conn.now in
    let s4 = state g.S.Store c.insert_blocks.new.tx.conn.now in
    let s5 = state g.S.Store c.write_visits.new.tx.conn.now in
    let s6 = state g.S.Store c.write_places.new.tx.conn.now in
    let s7 = state g.S.Store c.write_lines.new.tx.conn.now in
    let r1 : Rows = no_rows in
    let r2 : Rows = with_settings (map setting_content all.settings.items) r1 in
    let r3 : Rows = with_partners (map partner_content all.partners.items) r2 in
    let r4 : Rows = with_blocks (all.blocks.items) r3 in
    let r5 : Rows = with_visits (map visit_content all.visits.items) r4 in
    let r6 : Rows = with_places (map place_content all.places.items) r5 in
    let k2 : WritesIfOpen (with_settings (map setting_content all.settings.items)) s1 s2 _ = rw c.deref.ensures.value at c.in_ok-write_settings.ensures.writes in
    let k3 : WritesIfOpen (with_partners (map partner_content all.partners.items)) s2 s3 _ = rw c.deref-2.ensures.value at c.in_ok-write_partners.ensures.writes in
    let k4 : WritesIfOpen (with_blocks (all.blocks.items)) s3 s4 _ = rw c.deref-3.ensures.value at c.in_ok-insert_blocks.ensures.writes in
    let k5 : WritesIfOpen (with_visits (map visit_content all.visits.items)) s4 s5 _ = rw c.deref-4.ensures.value at c.in_ok-write_visits.ensures.writes in
    let k6 : WritesIfOpen (with_places (map place_content all.places.items)) s5 s6 _ = rw c.deref-5.ensures.value at c.in_ok-write_places.ensures.writes in
    let k7 : WritesIfOpen (with_lines (map listing_content all.lines.items)) s6 s7 c.write_lines.result = rw c.deref-6.ensures.value at c.write_lines.ensures.writes in
    let t1 = makes_empty r1 s0 s1 _ c.in_ok-create_tables.ensures.creates in
    let t2 = makes_with r1 (with_settings (map setting_content all.settings.items)) s0 s1 s2 _ _ t1 k2 in
    let t3 = makes_with r2 (with_partners (map partner_content all.partners.items)) s0 s2 s3 _ _ t2 k3 in
    let t4 = makes_with r3 (with_blocks (all.blocks.items)) s0 s3 s4 _ _ t3 k4 in
    let t5 = makes_with r4 (with_visits (map visit_content all.visits.items)) s0 s4 s5 _ _ t4 k5 in
    let t6 = makes_with r5 (with_places (map place_content all.places.items)) s0 s5 s6 _ _ t5 k6 in
    makes_with r6 (with_lines (map listing_content all.lines.items)) s0 s6 s7 _ c.write_lines.result t6 k7
