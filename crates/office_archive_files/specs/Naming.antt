-- What a store's register names after a closing.
use Rattle.std.specs.Prelude.{◌≡◌, ℕ, List, [], ◌∷◌, ◌++◌, IsTrue}
use Rattle.office_parts.specs.Archives.{Archive}
use Rattle.office_closing.specs.{Changes.unmarked, Sound.is_sound, Closes.{Closing, Held, IsClosing, closed_after, raised_register}, Copies.FileNames}
use Rattle.office_archives.specs.Shelves.{HasLists, NamesAll}

-- If the archive's own register names these archives, then the store's register names them after the closing, and after them the
-- archive, which reaches what is closed then and has the lists that are put away with it.
abbrev pub ClosingsAreNamed : Type 0
ClosingsAreNamed =
    (held : Held) (names : FileNames) (closing : Closing) (list : List Archive) (one : Archive) →
    IsClosing held names closing → IsTrue (is_sound held.copied) → NamesAll (unmarked held.copied) list →
    ((partner : ℕ) → one.last_closed partner ≡ closed_after held closing partner) →
    HasLists one closing.lists →
    NamesAll (raised_register held closing) (list ++ one ∷ [])
