-- States as words on colours, and the words of ways and sides.
use Rattle.std.specs.{Prelude.{ℕ, ◌==◌, Bool, List, [], ◌∷◌, ◌++◌, codes, if◌then◌else◌}, Str.bytes_eq}
use Rattle.terminal_core.specs.{declared.lines.Side.Side, declared.lines.Side.TheVariants.{Load, Discharge}, declared.visits.Way.Way, State.side_code}
use Rattle.terminal_core.specs.declared.visits.Way.TheVariants.{Gate, Ship}
use Rattle.office_pages.specs.Pieces.{PieceContent, Count, Digits, Markup}

abbrev pub load_mark : Bool → List ℕ
load_mark is_laden = if is_laden then codes "<b class='s full'>full</b>" else codes "<b class='s empty'>empty</b>"

abbrev pub way_word : Way → List ℕ
way_word Gate = codes "gate"
way_word Ship = codes "ship"

-- a side in an address
abbrev pub side_word : Side → List ℕ
side_word Load = codes "load"
side_word Discharge = codes "discharge"

abbrev pub side_name : Side → List ℕ
side_name Load = codes "Load"
side_name Discharge = codes "Discharge"

-- the side as it stands in a key
abbrev pub side_of : List ℕ → Side
side_of side = if bytes_eq side (side_code Load ∷ []) then Load else Discharge

-- how much of a whole there is of something, as a bar: its class says whether that is a part, nearly all or all
unfoldable pub bar : (kind : List ℕ) → (done whole : ℕ) → List PieceContent
bar kind done whole =
    Markup (codes "<progress class='") ∷ Markup kind ∷ Markup (codes "' value='") ∷ Digits done ∷ Markup (codes "' max='")
    ∷ Digits whole ∷ Markup (codes "' aria-label='") ∷ Count done ∷ Markup (codes " of ") ∷ Count whole
    ∷ Markup (codes "'></progress>") ∷ []

-- all that was to do is done
abbrev pub done_kind : (done whole : ℕ) → List ℕ
done_kind done whole = if done == whole then codes "whole" else codes "part"
