use Rattle.std.proofs.Common.{[]}
use Rattle.sqlite.specs.Held.{state}
use Rattle.office_rows.proofs.{Listed.lists_setting, Creating.if_ok, Reading.select_setting}
use Rattle.office_loading.proofs.{RowLemmas.{never_shown, setting_missing, lists_settings}, LackingLemmas.setting_shows}
use Rattle.office_loading.proofs.selecting.select_settings.Goals as goal

pub select-requires : goal.select-requires
select-requires g c = setting_shows

pub returns-clause-shown : goal.returns-clause-shown
returns-clause-shown g c clean layout is =
    let old = state g.S.Store c.args.conn.now in
    let new = state g.S.Store c.select.new.conn in
    if_ok c.select.result (λ answer shown. lists_setting old new answer.items layout is shown) (c.select.ensures.shown clean)

pub returns-clause-missing : goal.returns-clause-missing
returns-clause-missing g c clean none =
    let old = state g.S.Store c.args.conn.now in
    let new = state g.S.Store c.select.new.conn in
    let fails = setting_missing old.now.schema none in
    if_ok c.select.result (λ answer shown. never_shown select_setting [] old new answer.items fails.0 fails.1 shown) (c.select.ensures.shown clean)

pub returns-clause-there : goal.returns-clause-there
returns-clause-there g c clean tree has =
    let old = state g.S.Store c.args.conn.now in
    let new = state g.S.Store c.select.new.conn in
    if_ok c.select.result (λ answer shown. lists_settings old new tree has answer.items shown) (c.select.ensures.shown clean)
