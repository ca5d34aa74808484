use Rattle.std.proofs.Common.{◌≡◌, ◌⊎◌, ◌+◌, ◌≤◌, Bool, true, false, inl, inr, refl, subst, sym}
use Rattle.std.specs.Vec.{vec_capacity}
use Rattle.office_http.specs.{Held.{most_held}, Lines.{IsWidened}, declared.line.Line.{Line}}
use Rattle.office_http.specs.declared.line.Line.TheVariants as line
use Rattle.office_http.proofs.line.Line.widen.Goals as goal

one_of : {P Q : Type 0} → (made : Bool) → (made ≡ true → Q) → (made ≡ false → P) → P ⊎ Q
one_of true is_made kept = inr (is_made refl)
one_of false is_made kept = inl (kept refl)

pub returns-in-Asking : goal.returns-in-Asking
returns-in-Asking c =
    subst (λ (one : Line). IsWidened c.args.size c.args.held one (line.Asking (record { peer = c.in-Asking.asking.peer; asked = c.widen.new.bytes; wanted = c.in-Asking.asking.wanted }))) (sym c.in-Asking.is) (
      _,
      refl,
      record {
        peer = refl;
        asked = c.widen.ensures.items;
        wanted = refl;
        wide = c.widen.ensures.wide;
        bound = one_of c.widen.result c.widen.ensures.bound c.widen.ensures.refused;
      },
    )
