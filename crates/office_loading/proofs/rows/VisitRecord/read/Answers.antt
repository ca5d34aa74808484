use Rattle.std.specs.Prelude.{[], ◌∷◌, ◌++◌}
use Rattle.office_loading.proofs.rows.VisitRecord.read.Goals as goal

pub returns : goal.returns
returns c =
    let number = c.in_ok-number.ensures in
    let container = c.in_ok-container.ensures in
    let size = c.in_ok-size_type.ensures in
    let laden = c.in_ok-is_laden.ensures in
    let booking = c.in_ok-booking.ensures in
    let arrival = c.in_ok-arrival.ensures in
    let exit = c.in_ok-departure.ensures in
    let kilos = c.in_ok-kilos.ensures in
    let number_is = number.0 in
    let container_is = container.0 in
    let size_is = size.0 in
    let booking_is = booking.0 in
    let arrival_is = arrival.0 in
    let exit_is = exit.0 in
    let kilos_is = kilos.0 in
    ((λ i. number_is i ∷ container_is i ∷ size_is i ∷ laden i ∷ booking_is i ∷ (arrival_is i ++ (exit_is i ++ (kilos_is i ∷ [])))), record { number = number.1; container = container.1; size_type = size.1; booking = booking.1; arrival = arrival.1; exit = exit.1; kilos = kilos.1 })
