use Rattle.std.proofs.Common.{◌≡◌, [], ◌∷◌}
use Rattle.office_rows.specs.Shown.{columns_at}
use Rattle.office_loading.specs.Columns.{arrival_values}
use Rattle.office_loading.proofs.loading.read_arrival.Goals as goal

pub returns : goal.returns
returns c =
    let way = c.in_ok-way.ensures in
    let source = c.in_ok-source.ensures in
    let moment = c.in_ok-moment.ensures in
    let slot = c.in_ok-slot.ensures in
    let from = source.0 in
    let at = moment.0 in
    let place = slot.0 in
    let same : columns_at (5 ∷ 6 ∷ 7 ∷ 8 ∷ 9 ∷ []) c.args.row.now ≡ arrival_values (record { way = c.in_ok-way.way; source = c.in_ok-source.source; moment = c.in_ok-moment.moment; slot = c.in_ok-slot.slot }) = cc in
    (same, record { source = source.1; moment = moment.1; slot = slot.1 })
