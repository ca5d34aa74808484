use Rattle.std.proofs.Common.{◌∙◌, sym, ap}
use Rattle.edi_syntax.{specs.Cuts.Cutting, proofs.PositionLemmas.{shows_interchange, shows_none}}
use Rattle.edi_syntax.proofs.cutter.Cutter.interchange.Goals as goal

pub returns-then-is_whole : goal.returns-then-is_whole
returns-then-is_whole c =
    c.deref.ensures.value
    ∙ shows_interchange _ c.self.inside.reading c.args.self.now
    (record { holds = c.self.invariant; seen = ap (λ (v : Cutting). v.text) c.self.view_is; found = sym c.is_whole.ensures ∙ c.if-is_whole.true })

pub returns-else-is_whole : goal.returns-else-is_whole
returns-else-is_whole c =
    shows_none _ c.self.inside.reading c.args.self.now
    (record { holds = c.self.invariant; seen = ap (λ (v : Cutting). v.text) c.self.view_is; found = sym c.is_whole.ensures ∙ c.if-is_whole.false })
