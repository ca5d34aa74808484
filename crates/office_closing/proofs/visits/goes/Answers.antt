use Rattle.std.{specs.Prelude.{is_some, map}, proofs.Common.{◌≡◌, true, false, not, ap, refl, sym, subst, ◌∙◌}}
use Rattle.terminal_core.specs.Rows.{VisitContent, visit_content}
use Rattle.office_closing.proofs.ClearLemmas.{same_visit}
use Rattle.office_closing.proofs.visits.goes.Goals as goal

pub returns-in_default-clause-ok : goal.returns-in_default-clause-ok
returns-in_default-clause-ok c = (λ e. absurd cc, λ it. absurd (c.in_default.ensures (visit_content c.args.visit.now) it.is_copied refl))

pub returns-then-is_none-clause-ok : goal.returns-then-is_none-clause-ok
returns-then-is_none-clause-ok c = (
  λ e. absurd cc,
  λ it.
      let v = visit_content c.args.visit.now in
      let w = visit_content c.in-Some.copied.now in
      let same : v ≡ w = same_visit (map visit_content c.args.copy.now) c.requires.numbered v w it.is_copied c.in-Some.ensures.0 (sym c.in-Some.ensures.1) in
      let over : is_some w.departure ≡ true = subst (λ (u : VisitContent). is_some u.departure ≡ true) same it.over in
      let none : is_some w.departure ≡ false = c.is_none.ensures ∙ ap not c.if-is_none.true in
      let e : true ≡ false = sym over ∙ none in
      absurd cc,
)

pub returns-in_default-clause-alike : goal.returns-in_default-clause-alike
returns-in_default-clause-alike c it = c.in_default.ensures it.there it.is_copied it.numbered

pub returns-then-is_none-clause-alike : goal.returns-then-is_none-clause-alike
returns-then-is_none-clause-alike c it =
    let w = visit_content c.in-Some.copied.now in
    let same : it.there ≡ w = same_visit (map visit_content c.args.copy.now) c.requires.numbered it.there w it.is_copied c.in-Some.ensures.0 (it.numbered ∙ sym c.in-Some.ensures.1) in
    let over : is_some w.departure ≡ true = subst (λ (u : VisitContent). is_some u.departure ≡ true) same it.over in
    let none : is_some w.departure ≡ false = c.is_none.ensures ∙ ap not c.if-is_none.true in
    let e : true ≡ false = sym over ∙ none in
    absurd cc

pub returns-clause-alike : goal.returns-clause-alike
returns-clause-alike c it =
    let w = visit_content c.in-Some.copied.now in
    let same : it.there ≡ w = same_visit (map visit_content c.args.copy.now) c.requires.numbered it.there w it.is_copied c.in-Some.ensures.0 (it.numbered ∙ sym c.in-Some.ensures.1) in
    it.differs (same ∙ sym (c.is_same.ensures.0 c.if-not-is_same.false))
