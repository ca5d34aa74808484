-- What is read of the booking that was kept is read of the segment that names it.
use Rattle.std.{specs.{Option.option_map, List.find}, proofs.Common.{◌≡◌, [], codes, ◌∙◌}}
use Rattle.edi_syntax.specs.{Segment.value, Text.component_of}
use Rattle.edi_messages.{specs.{Orders.{name_kept, booking}, Parts.{part_left, is_qualified}, Spans.group_content}, proofs.DetailLemmas.kept_as}
use Rattle.edi_messages.proofs.part.own_booking.Goals as goal

pub returns-in-Some : goal.returns-in-Some
returns-in-Some c =
    let group = c.args.group.now in
    let same = kept_as (λ segment. component_of segment 1 2) name_kept [] (option_map value group.booking) (find (is_qualified (codes "RFF") (codes "BN")) (part_left group.details)) group.booked in
    let named : name_kept (value c.in-Some.name) ≡ booking (group_content group) = rw c.in-Some.is at same in
    rw (← named) c.own_name.ensures

pub returns-in-None : goal.returns-in-None
returns-in-None c =
    let group = c.args.group.now in
    let same = kept_as (λ segment. component_of segment 1 2) name_kept [] (option_map value group.booking) (find (is_qualified (codes "RFF") (codes "BN")) (part_left group.details)) group.booked in
    let none : [] ≡ booking (group_content group) = rw c.in-None.is at same in
    c.new.ensures.bytes ∙ none
