use Rattle.std.proofs.Common.{sym, ◌∙◌}
use Rattle.office_closing.proofs.Created.{partners_within}
use Rattle.office_closing.proofs.sound.are_sound_segments.Goals as goal

pub close_more-requires : goal.close_more-requires
close_more-requires c = partners_within c.args.archives c.args.segments.now (sym c.are_within.ensures ∙ c.if-are_within.true)
