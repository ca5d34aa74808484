use Rattle.std.{specs.{List.list_all, Str.bytes_eq}, proofs.Common.{◌≡◌, drop, map}}
use Rattle.office_closing.specs.Register.{SealedContent, sealed_content}
use Rattle.office_closing.proofs.register.Register.is_of_terminal.Given as goal

abbrev pub invariant-loop-sealed : goal.invariant-loop-sealed
invariant-loop-sealed l =
    list_all (λ (one : SealedContent). bytes_eq one.terminal l.code) (map sealed_content l.self.sealed.items)
    ≡ list_all (λ (one : SealedContent). bytes_eq one.terminal l.code) (map sealed_content (drop l.sealed-index l.self.sealed.items))
