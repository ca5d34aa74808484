-- The rules of each version of the office. Those of the newest are in force.
use Rattle.std.specs.Prelude.{Bool, true, false}
use Rattle.terminal_core.specs.{declared.change.Version.Version, declared.change.Version.TheVariants.{First, Second, Third}}

abbrev pub newest : Version
newest = Third

-- empty containers are spared: no full one is put on them
abbrev pub spares_empty : Version → Bool
spares_empty First = false
spares_empty Second = false
spares_empty Third = true
