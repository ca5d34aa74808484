-- What is read of the moment that was kept is read of the segment that states it.
use Rattle.std.{specs.{Option.{option_map, ok_or}, List.find}, proofs.Common.{Option, Ok, sym, ap, ◌∙◌}}
use Rattle.edi_syntax.specs.Moments.{CivilMoment}
use Rattle.edi_messages.specs.{Kept.moment_kept, Orders.moment_stated, Parts.{part_left, states_moment}, declared.line.LineFault.TheVariants.Moment}
use Rattle.edi_messages.proofs.DetailLemmas.{kept_as}
use Rattle.edi_messages.proofs.group_reading.read_moment.Goals as goal

pub returns-in-Some-moment_of : goal.returns-in-Some-moment_of
returns-in-Some-moment_of c =
    let group = c.args.group.now in
    let same = kept_as moment_stated (λ (m : Option CivilMoment). ok_or m Moment) (Ok c.args.opened) (option_map moment_kept group.moment) (find states_moment (part_left group.details)) group.timed in
    sym (ap (λ (m : Option CivilMoment). ok_or m Moment) (sym c.moment_of.ensures ∙ c.in-Some-moment_of.is)) ∙ (rw c.in-Some.is at same)

pub returns-in-None-moment_of : goal.returns-in-None-moment_of
returns-in-None-moment_of c =
    let group = c.args.group.now in
    let same = kept_as moment_stated (λ (m : Option CivilMoment). ok_or m Moment) (Ok c.args.opened) (option_map moment_kept group.moment) (find states_moment (part_left group.details)) group.timed in
    sym (ap (λ (m : Option CivilMoment). ok_or m Moment) (sym c.moment_of.ensures ∙ c.in-None-moment_of.is)) ∙ (rw c.in-Some.is at same)

pub returns-in-None : goal.returns-in-None
returns-in-None c =
    let group = c.args.group.now in
    let same = kept_as moment_stated (λ (m : Option CivilMoment). ok_or m Moment) (Ok c.args.opened) (option_map moment_kept group.moment) (find states_moment (part_left group.details)) group.timed in
    rw c.in-None.is at same
