use Rattle.std.{specs.{List.list_all, Str.bytes_eq}, proofs.Common.{◌≡◌, true, false, map, refl, sym, ap₂, ◌∙◌}}
use Rattle.office_closing.specs.{Register.{SealedContent, sealed_content}, Steps.is_unraised}
use Rattle.office_closing.proofs.JudgeLemmas.{all_with, one_without}
use Rattle.office_closing.proofs.judging.seal_plan.Goals as goal

pub returns-then-are_sealed_as-clause-ok : goal.returns-then-are_sealed_as-clause-ok
returns-then-are_sealed_as-clause-ok c =
    let plan = c.args.plan in
    let seals = c.args.seals.items in
    let off : is_unraised plan.stage ≡ false = sym c.is_unraised-is_due.ensures ∙ c.if-is_due.false in
    let tested : list_all (λ (one : SealedContent). bytes_eq one.seals seals) (map sealed_content plan.sealed.items) ≡ c.are_sealed_as.result =
    sym (c.are_sealed_as.ensures ∙ ap₂ (λ s l. list_all (λ (one : SealedContent). bytes_eq one.seals s) (map sealed_content l)) c.deref-2.ensures.value c.deref.ensures.value) in
    record {
      due = λ due few.
          let both : true ≡ false = sym due ∙ off in
          absurd cc;
      kept = λ not_due. (refl, all_with seals (map sealed_content plan.sealed.items) (tested ∙ c.if-are_sealed_as.true));
      rest = refl;
    }

pub returns-else-are_sealed_as-clause-err : goal.returns-else-are_sealed_as-clause-err
returns-else-are_sealed_as-clause-err c =
    let plan = c.args.plan in
    let seals = c.args.seals.items in
    let off : is_unraised plan.stage ≡ false = sym c.is_unraised-is_due.ensures ∙ c.if-is_due.false in
    let tested : list_all (λ (one : SealedContent). bytes_eq one.seals seals) (map sealed_content plan.sealed.items) ≡ c.are_sealed_as.result =
    sym (c.are_sealed_as.ensures ∙ ap₂ (λ s l. list_all (λ (one : SealedContent). bytes_eq one.seals s) (map sealed_content l)) c.deref-2.ensures.value c.deref.ensures.value) in
    let one = one_without seals (map sealed_content plan.sealed.items) (tested ∙ c.if-are_sealed_as.false) in
    (off, one.0, one.1, one.2)
