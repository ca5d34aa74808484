use Rattle.sqlite.specs.Held.{state}
use Rattle.office_rows.proofs.Creating.{if_ok}
use Rattle.office_closing.proofs.{Committing.{lists_archives, lists_nothing}, WriteTexts.{archive_shows, select_archive, select_archive_missing}}
use Rattle.office_closing.proofs.register_reading.select_archives.Goals as goal

pub select-requires : goal.select-requires
select-requires g c = archive_shows

pub returns-clause-shown : goal.returns-clause-shown
returns-clause-shown g c clean layout is =
    let old = state g.S.Store c.args.conn.now in
    let new = state g.S.Store c.select.new.conn in
    if_ok c.select.result (λ answer shown. lists_archives old new layout is answer.items shown) (c.select.ensures.shown clean)

pub returns-clause-missing : goal.returns-clause-missing
returns-clause-missing g c clean none =
    let old = state g.S.Store c.args.conn.now in
    let new = state g.S.Store c.select.new.conn in
    if_ok c.select.result (λ answer shown. lists_nothing old new select_archive _ select_archive_missing none answer.items shown) (c.select.ensures.shown clean)
