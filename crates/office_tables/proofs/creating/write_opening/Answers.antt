use Rattle.sqlite.specs.Held.{state}
use Rattle.office_rows.specs.{Rows.{Rows, no_rows}, Opening.{settings_of, partners_from, with_settings, with_partners, with_blocks}}
use Rattle.office_admission.specs.Setups.{setup_content}
use Rattle.office_tables.{specs.Writes.WritesIfOpen, proofs.{MadeLemmas.{makes_empty, makes_with}, WritesLemmas.writes_if_open}}
use Rattle.office_tables.proofs.creating.write_opening.Goals as goal

pub returns-clause-makes : goal.returns-clause-makes
returns-clause-makes g c =
    let content = setup_content c.args.setup.now in
    let s0 = state g.S.Store c.args.tx.now.conn.now in
    let s1 = state g.S.Store c.create_tables.new.tx.conn.now in
    let s2 = state g.S.Store c.insert_settings.new.tx.conn.now in
    let s3 = state g.S.Store c.insert_partners.new.tx.conn.now in
    let s4 = state g.S.Store c.insert_blocks.new.tx.conn.now in
    let r1 : Rows = no_rows in
    let r2 : Rows = with_settings (settings_of content) r1 in
    let r3 : Rows = with_partners (partners_from 1 content.partners) r2 in
    let set = writes_if_open _ s1 s2 _ c.in_ok-insert_settings.ensures.writes in
    let named : WritesIfOpen (with_partners (partners_from 1 content.partners)) s2 s3 _ = rw c.as_slice.ensures at c.in_ok-insert_partners.ensures.writes in
    let stood : WritesIfOpen (with_blocks content.blocks) s3 s4 c.insert_blocks.result = rw c.deref.ensures.value at c.insert_blocks.ensures.writes in
    let first = makes_empty r1 s0 s1 _ c.in_ok-create_tables.ensures.creates in
    let second = makes_with r1 (with_settings (settings_of content)) s0 s1 s2 _ _ first set in
    let third = makes_with r2 (with_partners (partners_from 1 content.partners)) s0 s2 s3 _ _ second named in
    makes_with r3 (with_blocks content.blocks) s0 s3 s4 _ c.insert_blocks.result third stood
