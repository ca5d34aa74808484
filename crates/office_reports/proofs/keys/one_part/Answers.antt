use Rattle.std.proofs.{Common.{ap, sym, lit<}, lemmas.Str.Pattern.split_parts}
use Rattle.office_reports.{specs.Keys.one_part, proofs.Parting.{one_part_of, not_one}}
use Rattle.office_reports.proofs.keys.one_part.Goals as goal

pub returns-in-Some : goal.returns-in-Some
returns-in-Some c =
    let split = rw c.in-Some.is at (split_parts 47 c.args.key.now c.split_once.result c.split_once.ensures.cases (lit< tt)) in
    not_one c.args.key.now _ _ split.0 split.1

pub returns-in-None : goal.returns-in-None
returns-in-None c =
    let none = rw c.in-None.is at (split_parts 47 c.args.key.now c.split_once.result c.split_once.ensures.cases (lit< tt)) in
    sym (ap one_part (one_part_of c.args.key.now none))
