-- The first fault, by what the messages come to.
use Rattle.std.{specs.{List.list_all, Str.bytes_eq}, proofs.Common.{◌≡◌, ℕ, List, ◌∷◌, [], true, false, refl, sym, ap, ◌∙◌}}
use Rattle.std.proofs.lemmas.Bool.{not-true, not-false}
use Rattle.edi_syntax.specs.{Segment.{content, segments_left}, Header.test_indicator, Messages.{are_messages, messages_in, is_counted, is_referenced}}
use Rattle.edi_syntax.proofs.TallyLemmas.{tally_none, tally_some}
use Rattle.edi_syntax.proofs.faults.body_fault.Goals as goal

pub returns-in-None : goal.returns-in-None
returns-in-None c =
    let no_test : bytes_eq (test_indicator (content c.args.header)) (49 ∷ []) ≡ false =
    ap (λ (v : List ℕ). bytes_eq v (49 ∷ [])) (sym c.component.ensures) ∙ sym c.equals.ensures.test ∙ c.if-equals.false in
    let framed : are_messages false (segments_left c.args.rest) ≡ false = tally_none (segments_left c.args.rest) (sym c.in-None.is ∙ c.requires.tallied) in
    rw (no_test, framed) refl

pub returns-then-not-tally : goal.returns-then-not-tally
returns-then-not-tally c =
    let no_test : bytes_eq (test_indicator (content c.args.header)) (49 ∷ []) ≡ false =
    ap (λ (v : List ℕ). bytes_eq v (49 ∷ [])) (sym c.component.ensures) ∙ sym c.equals.ensures.test ∙ c.if-equals.false in
    let h = tally_some (segments_left c.args.rest) c.in-Some.tally (sym c.in-Some.is ∙ c.requires.tallied) in
    let framed : are_messages false (segments_left c.args.rest) ≡ true = h.framed in
    let counted : list_all is_counted (messages_in (segments_left c.args.rest)) ≡ false = sym h.counted ∙ not-true c.in-Some.tally.are_counted c.if-not-tally.true in
    rw (no_test, framed, counted) refl

pub returns-then-not-tally-2 : goal.returns-then-not-tally-2
returns-then-not-tally-2 c =
    let no_test : bytes_eq (test_indicator (content c.args.header)) (49 ∷ []) ≡ false =
    ap (λ (v : List ℕ). bytes_eq v (49 ∷ [])) (sym c.component.ensures) ∙ sym c.equals.ensures.test ∙ c.if-equals.false in
    let h = tally_some (segments_left c.args.rest) c.in-Some.tally (sym c.in-Some.is ∙ c.requires.tallied) in
    let framed : are_messages false (segments_left c.args.rest) ≡ true = h.framed in
    let counted : list_all is_counted (messages_in (segments_left c.args.rest)) ≡ true = sym h.counted ∙ not-false c.in-Some.tally.are_counted c.if-not-tally.false in
    let referenced : list_all is_referenced (messages_in (segments_left c.args.rest)) ≡ false = sym h.referenced ∙ not-true c.in-Some.tally.are_referenced c.if-not-tally-2.true in
    rw (no_test, framed, counted, referenced) refl

pub returns-else-not-tally-2 : goal.returns-else-not-tally-2
returns-else-not-tally-2 c =
    let no_test : bytes_eq (test_indicator (content c.args.header)) (49 ∷ []) ≡ false =
    ap (λ (v : List ℕ). bytes_eq v (49 ∷ [])) (sym c.component.ensures) ∙ sym c.equals.ensures.test ∙ c.if-equals.false in
    let h = tally_some (segments_left c.args.rest) c.in-Some.tally (sym c.in-Some.is ∙ c.requires.tallied) in
    let framed : are_messages false (segments_left c.args.rest) ≡ true = h.framed in
    let counted : list_all is_counted (messages_in (segments_left c.args.rest)) ≡ true = sym h.counted ∙ not-false c.in-Some.tally.are_counted c.if-not-tally.false in
    let referenced : list_all is_referenced (messages_in (segments_left c.args.rest)) ≡ true = sym h.referenced ∙ not-false c.in-Some.tally.are_referenced c.if-not-tally-2.false in
    rw (no_test, framed, counted, referenced) c.trailer_fault.ensures
