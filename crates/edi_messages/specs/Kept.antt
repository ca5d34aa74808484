-- What is kept of the segments that speak of an equipment, as they are met.
use Rattle.std.specs.Prelude.{Option, if◌then◌else◌}
use Rattle.edi_syntax.specs.{Segment.value, Moments.CivilMoment}
use Rattle.edi_messages.specs.{Orders.moment_of_length, declared.details.StatedMoment.StatedMoment}

-- the moment of a text of that format
abbrev pub moment_kept : StatedMoment → Option CivilMoment
moment_kept moment = moment_of_length (if moment.has_time then 12 else 8) (value moment.text)
