-- What came to an office: the list that the headline speaks of.
use Rattle.std.specs.Prelude.{ℕ, List}
use Rattle.terminal_core.specs.declared.change.Version.{Version}

-- a text that was delivered; a store of that version that was brought to the newest; an account that was to be added,
-- its code and its kind as they came
pub data Event : Type 0 where
  delivered : List ℕ → Event
  migrated : Version → Event
  added : List ℕ → List ℕ → Event
