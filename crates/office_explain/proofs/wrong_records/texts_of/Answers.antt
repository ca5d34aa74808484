use Rattle.std.proofs.Common.{◌∙◌, ap, ap₂, sym, subst, List, ℕ, ◌++◌, ◌∷◌, [], append_assoc}
use Rattle.std.proofs.lemmas.List.{map-append}
use Rattle.csv.specs.Records.{AllText, fields_of}
use Rattle.office_explain.proofs.Givens.{all_more}
use Rattle.office_explain.proofs.wrong_records.texts_of.Goals as goal

pub loop-row-preserved : goal.loop-row-preserved
loop-row-preserved c =
    let steps = rw c.in-Some.is at c.next.ensures.steps in
    let P : List (List ℕ) → Type 0 = AllText in
    record {
      next = tt;
      ends = tt;
      same = rw (c.in_ok-push-in-Ok.ensures.items, map-append fields_of c.loop-row.texts.items (c.in-Ok.text ∷ []), map-append fields_of c.loop-row.yielded (c.in-Some.row ∷ []))
          (ap₂ (λ (a b : List (List (List ℕ))). a ++ b) c.loop-row.invariant.same (ap (λ (l : List (List ℕ)). l ∷ []) c.in-Ok.ensures.same));
      text = all_more AllText fields_of c.loop-row.yielded c.in-Some.row c.loop-row.invariant.text (subst P c.in-Ok.ensures.same c.in-Ok.ensures.text);
      left = c.loop-row.invariant.left ∙ ap (λ l. c.loop-row.yielded ++ l) steps.0 ∙ sym (append_assoc c.loop-row.yielded (c.in-Some.row ∷ []) _);
    }
