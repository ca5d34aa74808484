-- The page of a container: where it is or how it left, which lists want it, and its visits.
use Rattle.std.specs.Prelude.{ℕ, ◌==◌, false, List, [], ◌∷◌, ◌++◌, length, codes, if◌then◌else◌, Option, None, Some}
use Rattle.box6346.specs.{declared.box_number.BoxNumber.BoxNumber, declared.slot.Slot.Slot}
use Rattle.terminal_core.specs.State.{LineContent, LineKey}
use Rattle.office_reports.specs.{Containers.{ContainerContent, StayContent}, Passages.PassageContent, Visits.VisitsContent}
use Rattle.office_pages.specs.{Fixed.foot, Frame.page_top, Marks.{load_mark, way_word}, Visits.visits_section, Wanted.wanted_section}
use Rattle.office_pages.specs.Pieces.{Container, Kilos, Letter, LetterPart, Markup, MomentText, Number, Reply, SizeText, SlotText, Text, pieces_text}

-- ---- where it is

-- a slot, and what stands on the container there
abbrev pub place_by : Slot → Option BoxNumber → List ℕ
place_by slot None = pieces_text
    (Markup (codes "<div class='place'><b class='s ok'>in the yard</b><span class='m'>") ∷ SlotText slot
    ∷ Markup (codes "</span><b class='s ok'>free</b></div>\n") ∷ [])
place_by slot (Some blocker) = pieces_text
    (Markup (codes "<div class='place'><b class='s ok'>in the yard</b><span class='m'>") ∷ SlotText slot
    ∷ Markup (codes "</span><span><b class='s wait'>under</b> ") ∷ Container blocker ∷ Markup (codes "</span></div>\n") ∷ [])

-- where it stands, or that it has left
abbrev pub place_view : Option StayContent → List ℕ
place_view None = pieces_text (Markup (codes "<div class='place'><b class='s off'>has left</b></div>\n") ∷ [])
place_view (Some stay) = place_by stay.slot stay.blocker

abbrev pub place_section : ContainerContent → List ℕ
place_section report =
    pieces_text (Markup (codes "<h1><small>Container</small> ") ∷ Number report.container ∷ Markup (codes "</h1>\n<section>\n") ∷ [])
    ++ place_view report.stay

-- ---- what is known of it

abbrev pub size_fact : ContainerContent → List ℕ
size_fact report = pieces_text
    (Markup (codes "<dl>\n<dt>Size-type</dt><dd><span class='m'>") ∷ SizeText report.size_type ∷ Markup (codes "</span> ")
    ∷ Markup (load_mark report.is_laden) ∷ Markup (codes "</dd>\n") ∷ [])

-- it came by the passage, or left
abbrev pub passage_label : Option StayContent → List ℕ
passage_label None = codes "Left"
passage_label (Some stay) = codes "Came"

abbrev pub passage_fact : (label : List ℕ) → Option PassageContent → List ℕ
passage_fact label None = []
passage_fact label (Some passage) = pieces_text
    (Markup (codes "<dt>") ∷ Markup label ∷ Markup (codes "</dt><dd>by ") ∷ Markup (way_word passage.way) ∷ Markup (codes ", ")
    ∷ Reply passage.partner passage.number ∷ Markup (codes ", ") ∷ MomentText passage.moment ∷ Markup (codes "</dd>\n") ∷ [])

unfoldable pub booking_line : List ℕ → List ℕ
booking_line booking =
    pieces_text (Markup (codes "<dt>Booking</dt><dd>") ∷ Text booking ∷ Markup (codes "</dd>\n") ∷ [])

abbrev pub booking_fact : List ℕ → List ℕ
booking_fact booking = if length booking == 0 then [] else booking_line booking

abbrev pub gross_fact : ℕ → List ℕ
gross_fact kilos =
    if kilos == 0 then []
    else pieces_text (Markup (codes "<dt>Gross</dt><dd>") ∷ Kilos kilos ∷ Markup (codes "</dd>\n") ∷ [])

-- where the block is drawn
abbrev pub block_fact : Slot → List ℕ
block_fact slot = pieces_text
    (Markup (codes "<dt>Block</dt><dd><a href='/pages/picture#block-") ∷ LetterPart slot.block ∷ Markup (codes "'>")
    ∷ Letter slot.block ∷ Markup (codes " in the picture</a></dd>\n") ∷ [])

abbrev pub stay_lines : (booking : List ℕ) → (kilos : ℕ) → Slot → List ℕ
stay_lines booking kilos slot = booking_fact booking ++ gross_fact kilos ++ block_fact slot

abbrev pub stay_facts : Option StayContent → List ℕ
stay_facts None = []
stay_facts (Some stay) = stay_lines stay.booking stay.kilos stay.slot

abbrev pub facts_view : ContainerContent → List ℕ
facts_view report =
    size_fact report ++ passage_fact (passage_label report.stay) report.passage ++ stay_facts report.stay
    ++ pieces_text (Markup (codes "</dl>\n</section>\n") ∷ [])

-- ---- which lists want it

-- one that is not in the yard
abbrev pub expected_view : List (LineKey × LineContent) → List ℕ
expected_view lists = if length lists == 0 then [] else wanted_section lists

abbrev pub wanted_view : Option StayContent → (expected : List (LineKey × LineContent)) → List ℕ
wanted_view None expected = expected_view expected
wanted_view (Some stay) expected = wanted_section stay.lists

-- ---- the page

abbrev pub visits_view : Option VisitsContent → List ℕ
visits_view None = []
visits_view (Some visits) = visits_section visits

abbrev pub container_body : ContainerContent → (expected : List (LineKey × LineContent)) → Option VisitsContent → List ℕ
container_body report expected visits =
    place_section report ++ facts_view report ++ wanted_view report.stay expected ++ visits_view visits

-- with the open lines that name it if it is not in the yard
abbrev pub container_page : ContainerContent → (expected : List (LineKey × LineContent)) → Option VisitsContent → List ℕ
container_page report expected visits =
    page_top [] false (Markup (codes "Container ") ∷ Number report.container ∷ []) ++ container_body report expected visits ++ foot
