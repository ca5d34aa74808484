use Rattle.std.specs.{List.list_any, Str.bytes_eq}
use Rattle.std.proofs.Common.{◌≡◌, drop, map}
use Rattle.office_reports.proofs.last.is_among.Given as goal

abbrev pub invariant-loop-one : goal.invariant-loop-one
invariant-loop-one l =
    list_any (bytes_eq l.name) (map (λ one. one.now) (drop l.one-index l.names)) ≡ list_any (bytes_eq l.name) (map (λ one. one.now) l.names)
