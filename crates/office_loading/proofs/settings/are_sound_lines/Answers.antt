use Rattle.std.proofs.Common.{refl}
use Rattle.office_loading.{specs.Formed.IsSoundLine, proofs.Kept.{each_more, each_of}}
use Rattle.office_loading.proofs.settings.are_sound_lines.Goals as goal

pub loop-line-preserved : goal.loop-line-preserved
loop-line-preserved c = each_more IsSoundLine c.args.lines.now c.loop-line.line-index c.line-item.result c.line-item.result c.loop-line-test.true c.line-item.is (c.is_sound_line.ensures.0 c.if-not-is_sound_line.false) c.loop-line.invariant

pub returns : goal.returns
returns c = (λ t. each_of IsSoundLine c.args.lines.now c.loop-line.line-index c.loop-line-test.false c.loop-line.invariant, λ all. refl)
