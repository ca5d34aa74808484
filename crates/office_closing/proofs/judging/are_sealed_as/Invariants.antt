use Rattle.std.{specs.{List.list_all, Str.bytes_eq}, proofs.Common.{◌≡◌, drop, map}}
use Rattle.office_closing.specs.Register.{SealedContent, sealed_content}
use Rattle.office_closing.proofs.judging.are_sealed_as.Given as goal

abbrev pub invariant-loop-one : goal.invariant-loop-one
invariant-loop-one l =
    list_all (λ (one : SealedContent). bytes_eq one.seals l.seals) (map sealed_content l.sealed)
    ≡ list_all (λ (one : SealedContent). bytes_eq one.seals l.seals) (map sealed_content (drop l.one-index l.sealed))
