-- A position is refused, or closed, just where the grammar says so.
use Rattle.std.proofs.{Common.{◌≡◌, Bool, true, refl, sym, ap, ◌∙◌}, lemmas.Bool.{true≢false, false≢true}}
use Rattle.edi_syntax.specs.{Advice.service_at, Positions.is_refused, Cuts.{is_closed, past_advice, position_of, CutsGoByTheGrammar}}
use Rattle.edi_syntax.specs.{declared.position.Position.Position, declared.position.Position.TheVariants.{Between, First, Second, Tagged, Inside, Refused}}
use Rattle.edi_syntax.proofs.PositionLemmas.{refused_where_nothing_goes_on, closed_where_a_trailer_ends}
use Rattle.edi_syntax.proofs.laws.cuts_go_by_the_grammar.Goals as goal

refused : (position : Position) → is_refused position ≡ true → position ≡ Refused
refused (Between closed) h = absurd (false≢true h)
refused (First closes) h = absurd (false≢true h)
refused (Second closes) h = absurd (false≢true h)
refused (Tagged closes) h = absurd (false≢true h)
refused (Inside released closes) h = absurd (false≢true h)
refused Refused h = refl

closed : (position : Position) → is_closed position ≡ true → position ≡ Between true
closed (Between b) h = ap (λ (c : Bool). Between c) h
closed (First closes) h = absurd (false≢true h)
closed (Second closes) h = absurd (false≢true h)
closed (Tagged closes) h = absurd (false≢true h)
closed (Inside released closes) h = absurd (false≢true h)
closed Refused h = absurd (false≢true h)

law : CutsGoByTheGrammar
law text =
    let goes = refused_where_nothing_goes_on (service_at text) (past_advice text) in
    let ends = closed_where_a_trailer_ends (service_at text) (past_advice text) in (
      λ is. goes.0 (refused (position_of text) is),
      λ is. goes.1 (λ same. true≢false (sym (ap is_refused same) ∙ is)),
      λ is. ends.0 (closed (position_of text) is),
      λ closes. ap is_closed (ends.1 closes),
    )

pub returns : goal.returns
returns c = law
