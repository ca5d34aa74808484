-- One line break less at the end.
use Rattle.std.proofs.{Common.{◌≡◌, ◌-◌, ℕ, List, [], ◌∷◌, ◌++◌, length, take, drop, true, refl, sym, ap, ◌∙◌, append_assoc}, lemmas.Bool.and_from}
use Rattle.std.proofs.lemmas.List.{take_rest, take-append-drop, append-nil}
use Rattle.edi_syntax.specs.{Characters.is_break, Reading.breaks_len, Interchange.without_breaks_at_end}
use Rattle.edi_syntax.proofs.SegmentsLemmas.{breaks_at, break_at_end, other_at_end}
use Rattle.edi_syntax.proofs.interchange.interchange_text.Goals as goal

pub loop-last-init : goal.loop-last-init
loop-last-init c =
    let text = c.args.delivered.now in
    let found = c.len_of_breaks.ensures.found in
    let rest : take (length text - c.len_of_breaks.result) (drop c.len_of_breaks.result text) ≡ drop (breaks_len text) text = take_rest text c.len_of_breaks.result ∙ ap (λ (n : ℕ). drop n text) found in
    let whole : text ≡ take (breaks_len text) text ++ (drop (breaks_len text) text ++ []) = sym (take-append-drop (breaks_len text) text) ∙ ap (λ (t : List ℕ). take (breaks_len text) text ++ t) (sym (append-nil (drop (breaks_len text) text))) in
    rw rest record { left = refl; taken = (take (breaks_len text) text, [], breaks_at text, refl, whole) }

pub returns-then-not-is_break-clause-exact : goal.returns-then-not-is_break-clause-exact
returns-then-not-is_break-clause-exact c =
    let split = c.in-Some.ensures.cases.0 in
    sym (c.loop-last.invariant.left ∙ ap without_breaks_at_end split ∙ other_at_end c.in-Some.before.now c.in-Some.last.now (sym c.if-not-is_break.ensures) ∙ sym split)

pub loop-last-preserved : goal.loop-last-preserved
loop-last-preserved c =
    let split = c.in-Some.ensures.cases.0 in
    let is_one : is_break c.in-Some.last.now ≡ true = sym c.if-not-is_break.ensures in
    let (front, back, before, behind, whole) = c.loop-last.invariant.taken in
    record {
      left = c.loop-last.invariant.left ∙ ap without_breaks_at_end split ∙ break_at_end c.in-Some.before.now c.in-Some.last.now is_one;
      taken = (
        front,
        c.in-Some.last.now ∷ back,
        before,
        and_from _ _ is_one behind,
        whole ∙ ap (λ (t : List ℕ). front ++ (t ++ back)) split ∙ ap (λ (t : List ℕ). front ++ t) (append_assoc c.in-Some.before.now (c.in-Some.last.now ∷ []) back),
      );
    }
