use Rattle.std.{specs.{Prelude.{◌≡◌, ℕ, ◌++◌, Bool, true, false, min, List, [], length, take, Result, Ok, Err, OnOk, OnErr, if◌then◌else◌}, Result.is_ok}, proofs.Common.{◌∙◌, ◌⊎◌, ap, inl, inr, refl, subst, sym}}
use Rattle.std.proofs.{Math.Nat.{min_comm}, lemmas.List.{take_min}}
use Rattle.office_http.specs.Lines.{IsCutTo, most_kept}
use Rattle.office_http.proofs.line.Asking.late.Goals as goal

-- what was held of the front: all of it, or nothing where it did not fit
held : {A E V : Type 0} (made : Result A E) (items : V → List ℕ) (old new : V) (taken : List ℕ) → OnOk made (items new ≡ items old ++ taken) →
    OnErr made (new ≡ old) → items old ≡ [] → (items new ≡ taken) ⊎ (items new ≡ [])
held (Ok x) items old new taken ok err none = inl (ok ∙ ap (λ (l : List ℕ). l ++ taken) none)
held (Err e) items old new taken ok err none = inr (ap items err ∙ none)

-- what is held in the end
cut : (asked start front new : List ℕ) (grown : Bool) → (front ≡ take most_kept asked) ⊎ (front ≡ []) → start ≡ [] →
    new ≡ (if grown then start ++ front else start) → IsCutTo asked new
cut asked start front new true (inl is) none grown = inl (grown ∙ ap (λ (l : List ℕ). l ++ front) none ∙ is)
cut asked start front new true (inr is) none grown = inr (grown ∙ ap (λ (l : List ℕ). l ++ front) none ∙ is)
cut asked start front new false held none grown = inr (grown ∙ none)

front_of : (asked : List ℕ) (end : ℕ) → end ≡ min (length asked) most_kept → take end asked ≡ take most_kept asked
front_of asked end is =
    let turned : min (length asked) most_kept ≡ min most_kept (length asked) = min_comm (length asked) most_kept in
    ap (λ n. take n asked) (is ∙ turned) ∙ take_min most_kept asked

pub returns-clause-front : goal.returns-clause-front
returns-clause-front c =
    let asked : List ℕ = c.args.self.asked.items in
    let taken : take c.min-end.result c.as_slice.result.now ≡ take most_kept asked =
    ap (λ (l : List ℕ). take c.min-end.result l) c.as_slice.ensures.value ∙ front_of asked c.min-end.result (c.min-end.ensures ∙ ap (λ n. min n most_kept) (c.len.ensures ∙ sym c.as_slice.ensures.len ∙ ap (λ (l : List ℕ). length l) c.as_slice.ensures.value)) in
    let front = elim (held c.try_extend_from_slice.result (λ v. v.items) c.new-front.result c.try_extend_from_slice.new.self (take c.min-end.result c.as_slice.result.now)
    c.try_extend_from_slice.ensures.ok c.try_extend_from_slice.ensures.err c.new-front.ensures) as (λ _. (c.as_slice-2.result.now ≡ take most_kept asked) ⊎ (c.as_slice-2.result.now ≡ [])) [
      | inl is ↦ inl (c.as_slice-2.ensures.value ∙ is ∙ taken)
      | inr is ↦ inr (c.as_slice-2.ensures.value ∙ is)
    ] in
    subst (IsCutTo asked) (sym (ap (λ v. v.items) c.closed.ensures.asked))
    (cut asked c.new.result.items c.as_slice-2.result.now c.extend_from_slice.new.self.items (is_ok c.extend_from_slice.result) front c.new.ensures.items c.extend_from_slice.ensures.items)
