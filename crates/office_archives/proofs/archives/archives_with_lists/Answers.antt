use Rattle.std.proofs.Common.{true, false, length-take-le, take, refl, sym, subst}
use Rattle.office_archives.specs.Telling.{SaysIfAway}
use Rattle.office_archives.proofs.archives.archives_with_lists.Goals as goal

pub returns-then-not-has_lists : goal.returns-then-not-has_lists
returns-then-not-has_lists g c list are low = (false, subst (SaysIfAway (take c.args.count list)) c.if-not-has_lists.true (c.has_lists.ensures list are), refl)

pub returns : goal.returns
returns g c list are low = (true, subst (SaysIfAway (take c.args.count list)) c.if-not-has_lists.false (c.has_lists.ensures list are), sym (length-take-le c.args.count list low))
