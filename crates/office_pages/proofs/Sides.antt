-- A side is read again from its key.
use Rattle.std.proofs.Common.{◌≡◌, [], ◌∷◌, refl}
use Rattle.terminal_core.specs.{declared.lines.Side.Side, declared.lines.Side.TheVariants.{Load, Discharge}, State.side_code}
use Rattle.office_pages.specs.Marks.{side_of}

pub side_again : (side : Side) → side_of (side_code side ∷ []) ≡ side
side_again Load = refl
side_again Discharge = refl
