-- The start page: what needs attention, how much there is of what, calls with open work, and how full the blocks are.
use Rattle.std.specs.Prelude.{ℕ, ◌+◌, ◌-◌, ◌*◌, ◌==◌, Bool, true, List, [], ◌∷◌, ◌++◌, ◌&&◌, codes, count_by, length, nat_le, not, if◌then◌else◌, Option, None, Some}
use Rattle.std.specs.List.{flat_map}
use Rattle.terminal_core.specs.State.{LineKey}
use Rattle.office_reports.specs.{Blocks.{BlocksContent, blocks_content}, Calls.lists_content, declared.blocks.BlockUse.BlockUse}
use Rattle.office_reports.specs.{Partners.{PartnerRowContent, PartnersContent, WaitingContent, partners_content}, declared.calls.ListCount.ListCount}
use Rattle.office_pages.specs.{Blocks.blocks_section, Calls.{call_columns, call_row}, Fixed.foot, Frame.page_top, Partners.is_waiting, Tables.table_of}
use Rattle.office_pages.specs.{Pieces.{Count, Digits, Markup, Part, Text, pieces_text}, declared.start.StartReport.StartReport}

-- what the start page tells: how many visits are recorded, how many ever were, and how many there may ever be; what is
-- expected of the partners; the lists of the calls; and the blocks
pub record StartContent : Type 0 where
  pub visits : ℕ
  pub visits_ever : ℕ
  pub limit : ℕ
  pub partners : PartnersContent
  pub lists : List (LineKey × ListCount)
  pub blocks : BlocksContent

-- ---- what needs attention

-- a partner whose number is missing, and what waits for it
abbrev pub missing_line : (code : List ℕ) → (next : ℕ) → WaitingContent → List ℕ
missing_line code next waiting = pieces_text
    (Markup (codes "<li><b class='s wait'>number missing</b><span><a href='/pages/partners/") ∷ Part code ∷ Markup (codes "'>")
    ∷ Text code ∷ Markup (codes "</a> waits for number <b>") ∷ Digits next ∷ Markup (codes "</b>: ") ∷ Count waiting.count
    ∷ Markup (codes " came after it, ") ∷ Digits waiting.first ∷ Markup (codes " to ") ∷ Digits waiting.last
    ∷ Markup (codes "</span></li>\n") ∷ [])

abbrev pub missing_by : PartnerRowContent → Option WaitingContent → List ℕ
missing_by row None = []
missing_by row (Some waiting) = missing_line row.code row.next waiting

abbrev pub missing : PartnerRowContent → List ℕ
missing row = missing_by row row.waiting

-- nine tenths of the visits that there may ever be were recorded, or more
abbrev pub is_nearly_full : (visits_ever limit : ℕ) → Bool
is_nearly_full visits_ever limit = nat_le (limit * 9) (visits_ever * 10)

-- putting visits away makes no room
abbrev pub nearly_full : (visits_ever limit : ℕ) → List ℕ
nearly_full visits_ever limit =
    if is_nearly_full visits_ever limit then pieces_text
    (Markup (codes "<li><b class='s bad'>nearly full</b><span>") ∷ Count visits_ever ∷ Markup (codes " of ") ∷ Count limit
    ∷ Markup (codes " visits so far: begin a new store soon, or nothing can enter</span></li>\n") ∷ [])
    else []

-- nothing needs attention
abbrev pub is_quiet : StartContent → Bool
is_quiet report = count_by is_waiting report.partners.rows == 0 && not (is_nearly_full report.visits_ever report.limit)

abbrev pub attention_list : StartContent → List ℕ
attention_list report =
    pieces_text (Markup (codes "<ul class='todo'>\n") ∷ []) ++ flat_map missing report.partners.rows
    ++ nearly_full report.visits_ever report.limit ++ pieces_text (Markup (codes "</ul>\n</section>\n") ∷ [])

abbrev pub quiet_line : (room : ℕ) → List ℕ
quiet_line room = pieces_text
    (Markup (codes "<p class='fine'>Nothing waits, and there is room for ") ∷ Count room
    ∷ Markup (codes " more visits.</p>\n</section>\n") ∷ [])

abbrev pub attention : StartContent → List ℕ
attention report = if is_quiet report then quiet_line (report.limit - report.visits_ever) else attention_list report

-- ---- how much there is of what

-- so many containers in the yard
abbrev pub sums_of : (all visits partners waiting : ℕ) → BlockUse → List ℕ
sums_of all visits partners waiting used = pieces_text
    (Markup (codes "<ul class='sum'>\n<li><b>") ∷ Count all
    ∷ Markup (codes "</b> containers in the yard</li>\n<li><b>") ∷ Count used.twenties
    ∷ Markup (codes "</b> twenties</li>\n<li><b>") ∷ Count used.forties ∷ Markup (codes "</b> forties</li>\n<li><b>")
    ∷ Count partners ∷ Markup (codes "</b> partners</li>\n<li><b>") ∷ Count waiting
    ∷ Markup (codes "</b> interchanges wait</li>\n<li><b>") ∷ Count visits ∷ Markup (codes "</b> visits recorded</li>\n</ul>\n")
    ∷ [])

abbrev pub sums : (visits partners waiting : ℕ) → BlockUse → List ℕ
sums visits partners waiting used = sums_of (used.twenties + used.forties) visits partners waiting used

-- ---- calls with open work

abbrev pub has_open : LineKey × ListCount → Bool
has_open list = not (list.1.pending == 0)

abbrev pub open_row : LineKey × ListCount → List ℕ
open_row list = if has_open list then call_row list else []

abbrev pub open_head : (open_lists lists : ℕ) → List ℕ
open_head open_lists lists = pieces_text
    (Markup (codes "<section>\n<h2>Calls with open work <small>") ∷ Count open_lists ∷ Markup (codes " of ") ∷ Count lists
    ∷ Markup (codes " lists</small></h2>\n") ∷ [])

abbrev pub open_section : List (LineKey × ListCount) → List ℕ
open_section lists =
    open_head (count_by has_open lists) (length lists)
    ++ table_of (count_by has_open lists) call_columns (flat_map open_row lists) (codes "No list has an open line.")

-- ---- the page

abbrev pub start_top : List ℕ → List ℕ
start_top terminal =
    page_top (codes "/") true (Markup (codes "Office of ") ∷ Text terminal ∷ [])
    ++ pieces_text (Markup (codes "<h1><small>Office of</small> ") ∷ Text terminal ∷ Markup (codes "</h1>\n<section>\n<h2>Needs attention</h2>\n") ∷ [])

abbrev pub start_body : StartContent → List ℕ
start_body report =
    attention report ++ sums report.visits (length report.partners.rows) report.partners.waiting report.blocks.used
    ++ open_section report.lists ++ blocks_section report.blocks

-- of the terminal of that name
abbrev pub office_page : List ℕ → StartContent → List ℕ
office_page terminal report = start_top terminal ++ start_body report ++ foot

-- ---- as the code has it

abbrev pub start_content : StartReport → StartContent
start_content report = record {
  visits = report.visits;
  visits_ever = report.visits_ever;
  limit = report.limit;
  partners = partners_content report.partners;
  lists = lists_content report.calls.lists.entries;
  blocks = blocks_content report.blocks;
}
