-- The characters that the advice names.
use Rattle.std.proofs.{Common.{◌≡◌, ℕ, Option, Some, None, cond, nat_eq, get_or, refl, sym, ap}, lemmas.Bool.{eq-eqb, ne_eqb}}
use Rattle.edi_syntax.{specs.Advice.ServiceCharacters, proofs.{AdviceLemmas.service_of_advice, characters.Service.read.Goals.{then-text-eq32, else-text-eq32}}}
use Rattle.edi_syntax.proofs.characters.Service.read.Goals as goal

pub returns-then-are_service_characters-clause-ok : goal.returns-then-are_service_characters-clause-ok
returns-then-are_service_characters-clause-ok c =
    let text = c.args.text.now in
    let release : c.if-text-eq32.release ≡ cond (nat_eq (get_or text 6 0) 32) None (Some (get_or text 6 0)) =
    elim c.if-text-eq32.branch [
      | then-text-eq32 w ↦ rw (eq-eqb (get_or text 6 0) 32 w.if-text-eq32.true) w.release-is
      | else-text-eq32 w ↦ rw (ne_eqb (get_or text 6 0) 32 w.if-text-eq32.false) w.release-is
    ] in
    let begins = sym c.if-not-begins_with_advice.ensures in
    let with_release : Option ℕ → ServiceCharacters = λ r. record { component = get_or text 3 0; element = get_or text 4 0; release = r; terminator = get_or text 8 0 } in
    let found = service_of_advice text _ begins c.if-text-lt9.false (ap with_release release) in
    (found.0, found.1, rw begins refl)
