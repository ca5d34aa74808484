use Rattle.std.proofs.Common.{◌∙◌, sym, ap}
use Rattle.edi_syntax.{specs.Cuts.{Cutting, is_nil}, proofs.PositionLemmas.{rests_when_whole, rests_when_nil}}
use Rattle.edi_syntax.proofs.cutter.Cutter.at_rest.Goals as goal

pub returns-then-is_whole : goal.returns-then-is_whole
returns-then-is_whole c =
    c.if-is_whole.true
    ∙ rests_when_whole _ c.self.inside.reading c.args.self.now
    (record { holds = c.self.invariant; seen = ap (λ (v : Cutting). v.text) c.self.view_is; found = sym c.is_whole.ensures ∙ c.if-is_whole.true })

pub returns-else-is_whole : goal.returns-else-is_whole
returns-else-is_whole c =
    c.is_empty.ensures ∙ ap is_nil c.as_slice.ensures.value
    ∙ rests_when_nil _ c.self.inside.reading c.args.self.now
    (record { holds = c.self.invariant; seen = ap (λ (v : Cutting). v.text) c.self.view_is; found = sym c.is_whole.ensures ∙ c.if-is_whole.false })
