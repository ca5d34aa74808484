-- Where each value of the identifier can be printed, the first five can.
use Rattle.std.{specs.List.list_all, proofs.Common.{◌≡◌, ◌&&◌, ℕ, zero, suc, true, List, [], ◌∷◌, get_or, refl, sym, ◌∙◌}, proofs.lemmas.Bool.{and_parts, and_from}}
use Rattle.edi_syntax.specs.{Characters.is_printable, Text.Content, Segment.content, Header.is_printable_element}
use Rattle.edi_syntax.specs.Messages.{is_printable_identity, is_printable_component}
use Rattle.edi_syntax.proofs.faults.is_printable_identity.Goals as goal

value_printed : (values : List (List ℕ)) (k : ℕ) → list_all (list_all is_printable) values ≡ true → list_all is_printable (get_or values k []) ≡ true
value_printed [] zero all = refl
value_printed [] (suc k) all = refl
value_printed (value ∷ values) zero all = (and_parts (list_all is_printable value) (list_all (list_all is_printable) values) all).0
value_printed (value ∷ values) (suc k) all =
    value_printed values k (and_parts (list_all is_printable value) (list_all (list_all is_printable) values) all).1

printed : (elements : List (List (List ℕ))) (i k : ℕ) → list_all (list_all is_printable) (get_or elements i ([] ∷ [])) ≡ true →
    list_all is_printable (get_or (get_or elements i []) k []) ≡ true
printed [] i zero all = refl
printed [] i (suc k) all = refl
printed (element ∷ elements) zero k all = value_printed element k all
printed (element ∷ elements) (suc i) k all = printed elements i k all

five_printed : (segment : Content) → is_printable_element segment 2 ≡ true → is_printable_identity segment ≡ true
five_printed segment all =
    let first = is_printable_component segment 2 1 in
    let second = is_printable_component segment 2 2 in
    let third = is_printable_component segment 2 3 in
    let fourth = is_printable_component segment 2 4 in
    and_from (first && second && third && fourth) (is_printable_component segment 2 5)
    (and_from (first && second && third) fourth
    (and_from (first && second) third
    (and_from first second (printed segment.elements 1 0 all) (printed segment.elements 1 1 all))
    (printed segment.elements 1 2 all))
    (printed segment.elements 1 3 all))
    (printed segment.elements 1 4 all)

pub returns-then-is_printable_element : goal.returns-then-is_printable_element
returns-then-is_printable_element c =
    let printable = c.if-is_printable_element.true in
    printable ∙ sym (five_printed (content c.args.header) (sym c.is_printable_element.ensures ∙ printable))
