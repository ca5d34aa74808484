use Rattle.std.proofs.Common.{◌≡◌, [], ◌∷◌, Some}
use Rattle.office_rows.specs.Shown.{columns_at}
use Rattle.office_loading.specs.Columns.{exit_values}
use Rattle.office_loading.proofs.loading.read_exit.Goals as goal

pub returns : goal.returns
returns c =
    let way = c.in_ok-way.ensures in
    let source = c.in_ok-source.ensures in
    let moment = c.in_ok-moment.ensures in
    let from = source.0 in
    let at = moment.0 in
    let same : columns_at (10 ∷ 11 ∷ 12 ∷ 13 ∷ []) c.args.row.now ≡ exit_values (Some (record { way = c.in_ok-way.way; source = c.in_ok-source.source; moment = c.in_ok-moment.moment })) = cc in
    (same, record { source = source.1; moment = moment.1 })
