use Rattle.std.proofs.Common.{◌≡◌, ◌++◌, [], drop, map}
use Rattle.office_reports.specs.Last.{firsts_after}
use Rattle.office_reports.proofs.last.firsts_of.Given as goal

abbrev pub invariant-loop-name : goal.invariant-loop-name
invariant-loop-name l =
    map (λ name. name.now) l.firsts.items ++ firsts_after (map (λ name. name.now) l.firsts.items) (map (λ name. name.now) (drop l.name-index l.names))
    ≡ firsts_after [] (map (λ name. name.now) l.names)
