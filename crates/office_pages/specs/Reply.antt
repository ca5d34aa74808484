-- The page of a reply: whether the interchange waits, or what became of each line of each message, and its CONTRL.
use Rattle.std.specs.{Prelude.{ℕ, ◌==◌, Bool, false, List, [], ◌∷◌, ◌++◌, codes, count_by, length, if◌then◌else◌, Option, None, Some}, List.flat_map}
use Rattle.std.specs.Str.{bytes_eq}
use Rattle.serde_json.specs.{Data.Data, Read.read}
use Rattle.office_pages.specs.{Contrl.contrl_section, Fixed.foot, Frame.page_top, Meanings.{meaning_of, message_faults, reasons}, Tables.table_of}
use Rattle.office_pages.specs.{Pieces.{Count, Digits, Markup, Part, Text, pieces_text}, ReplyValues.{items_in, number_in, text_in}}

-- ---- a line

unfoldable pub no_number : List ℕ
no_number = pieces_text (Markup (codes "<span class='note'>no number</span>") ∷ [])

unfoldable pub number_link : List ℕ → List ℕ
number_link number = pieces_text
    (Markup (codes "<a class='m' href='/pages/containers/") ∷ Part number ∷ Markup (codes "'>") ∷ Text number
    ∷ Markup (codes "</a>") ∷ [])

-- a container, which leads to its page; or its number could not be read
abbrev pub container_cell : List ℕ → List ℕ
container_cell number = if length number == 0 then no_number else number_link number

unfoldable pub slot_text : List ℕ → List ℕ
slot_text slot = pieces_text (Markup (codes " now in <span class='m'>") ∷ Text slot ∷ Markup (codes "</span>") ∷ [])

-- where it is now, if it got a slot
abbrev pub slot_view : List ℕ → List ℕ
slot_view slot = if length slot == 0 then [] else slot_text slot

-- what stands on it, if that is why
abbrev pub blocker_view : List ℕ → List ℕ
blocker_view blocker =
    if length blocker == 0 then [] else pieces_text (Markup (codes ": ") ∷ []) ++ container_cell blocker

abbrev pub reason_view : (reason sentence : List ℕ) → List ℕ
reason_view reason sentence = pieces_text
    (Markup (codes "<b class='s bad'>refused</b> <b>") ∷ Text reason ∷ Markup (codes "</b>: ") ∷ Text sentence ∷ [])

abbrev pub refusal_view : (reason blocker : List ℕ) → List ℕ
refusal_view reason blocker =
    reason_view reason (meaning_of reasons reason) ++ blocker_view blocker

abbrev pub done_view : List ℕ → List ℕ
done_view slot = pieces_text (Markup (codes "<b class='s ok'>done</b>") ∷ []) ++ slot_view slot

-- of a line that is neither refused nor done
abbrev pub other_mark : List ℕ → List ℕ
other_mark outcome =
    if bytes_eq outcome (codes "gone") then codes "<b class='s ok'>gone</b> it has left"
    else codes "<b class='s ok'>listed</b> its line is open"

abbrev pub is_refused : Data → Bool
is_refused line = bytes_eq (text_in (codes "outcome") line) (codes "refused")

abbrev pub outcome_by : (outcome : List ℕ) → Data → List ℕ
outcome_by outcome line =
    if bytes_eq outcome (codes "done") then done_view (text_in (codes "slot") line)
    else pieces_text (Markup (other_mark outcome) ∷ [])

abbrev pub outcome_view : Data → List ℕ
outcome_view line =
    if is_refused line then refusal_view (text_in (codes "reason") line) (text_in (codes "blocker") line)
    else outcome_by (text_in (codes "outcome") line) line

abbrev pub line_row : Data → List ℕ
line_row line =
    pieces_text (Markup (codes "<tr><td class='n'>") ∷ Count (number_in (codes "line") line) ∷ Markup (codes "</td><td>") ∷ [])
    ++ container_cell (text_in (codes "box") line) ++ pieces_text (Markup (codes "</td><td>") ∷ []) ++ outcome_view line
    ++ pieces_text (Markup (codes "</td></tr>\n") ∷ [])

-- ---- a message

abbrev pub line_columns : List ℕ
line_columns = codes "<th class='n'>Line</th><th>Container</th><th>What became of it</th>"

abbrev pub lines_table : List Data → List ℕ
lines_table lines = table_of (length lines) line_columns (flat_map line_row lines) (codes "It has no line.")

unfoldable pub dropped_line : ℕ → List ℕ
dropped_line dropped = pieces_text
    (Markup (codes "<p>") ∷ Count dropped ∷ Markup (codes " open lines of the list that it replaced were dropped.</p>\n") ∷ [])

-- how many open lines of the list that it replaced were dropped
abbrev pub dropped_view : ℕ → List ℕ
dropped_view dropped = if dropped == 0 then [] else dropped_line dropped

abbrev pub accepted_head : (reference : List ℕ) → (lines refused : ℕ) → List ℕ
accepted_head reference lines refused = pieces_text
    (Markup (codes "<section>\n<h2>Message ") ∷ Text reference ∷ Markup (codes " <b class='s ok'>accepted</b> <small>")
    ∷ Count lines ∷ Markup (codes " lines, ") ∷ Count refused ∷ Markup (codes " refused</small></h2>\n") ∷ [])

abbrev pub accepted_view : (reference : List ℕ) → (dropped : ℕ) → (lines : List Data) → List ℕ
accepted_view reference dropped lines =
    accepted_head reference (length lines) (count_by is_refused lines) ++ dropped_view dropped ++ lines_table lines

abbrev pub fault_view : (reference fault sentence : List ℕ) → List ℕ
fault_view reference fault sentence = pieces_text
    (Markup (codes "<section>\n<h2>Message ") ∷ Text reference ∷ Markup (codes " <b class='s bad'>rejected</b></h2>\n<p><b>")
    ∷ Text fault ∷ Markup (codes "</b>: ") ∷ Text sentence
    ∷ Markup (codes ". The message gave no orders.</p>\n</section>\n") ∷ [])

abbrev pub rejected_view : (reference fault : List ℕ) → List ℕ
rejected_view reference fault = fault_view reference fault (meaning_of message_faults fault)

abbrev pub is_accepted : Data → Bool
is_accepted message = bytes_eq (text_in (codes "result") message) (codes "accepted")

abbrev pub message_view : Data → List ℕ
message_view message =
    if is_accepted message
    then accepted_view (text_in (codes "reference") message) (number_in (codes "dropped") message)
    (items_in (codes "lines") message)
    else rejected_view (text_in (codes "reference") message) (text_in (codes "fault") message)

-- ---- the page of a reply

abbrev pub reply_top : (partner : List ℕ) → (number : ℕ) → List ℕ
reply_top partner number =
    page_top [] false (Markup (codes "Reply to ") ∷ Text partner ∷ Markup (codes " ") ∷ Digits number ∷ [])

abbrev pub reply_head : (partner : List ℕ) → (number : ℕ) → List ℕ
reply_head partner number = pieces_text
    (Markup (codes "<h1><small>Reply to</small> ") ∷ Text partner ∷ Markup (codes " ") ∷ Digits number
    ∷ Markup (codes "</h1>\n<p class='beside'>\n<a href='/pages/tickets/") ∷ Part partner ∷ Markup (codes "/") ∷ Digits number
    ∷ Markup (codes "'>What it did</a>\n<a href='/pages/contrls/") ∷ Part partner ∷ Markup (codes "/") ∷ Digits number
    ∷ Markup (codes "'>CONTRL</a>\n<a href='/pages/partners/") ∷ Part partner ∷ Markup (codes "'>Partner</a>\n</p>\n") ∷ [])

-- it waits for the number that is missing
unfoldable pub waiting_section : ℕ → List ℕ
waiting_section next = pieces_text
    (Markup (codes "<section>\n<div class='place'><b class='s wait'>waits</b><span>for number <b>") ∷ Digits next
    ∷ Markup (codes "</b>, which is missing</span></div>\n</section>\n") ∷ [])

abbrev pub taken_section : List ℕ
taken_section =
    pieces_text (Markup (codes "<section>\n<div class='place'><b class='s ok'>taken</b></div>\n</section>\n") ∷ [])

abbrev pub reply_body : Data → List ℕ
reply_body reply =
    flat_map message_view (items_in (codes "messages") reply) ++ contrl_section (text_in (codes "contrl") reply)

-- of the reply that is kept of an interchange that was taken
abbrev pub taken_view : Option Data → List ℕ
taken_view None = []
taken_view (Some reply) = reply_body reply

abbrev pub reply_page : (partner : List ℕ) → (number : ℕ) → (reply : List ℕ) → List ℕ
reply_page partner number reply =
    reply_top partner number ++ reply_head partner number ++ (taken_section ++ taken_view (read reply)) ++ foot

-- as long as it waits it has no reply
abbrev pub waiting_page : (partner : List ℕ) → (number next : ℕ) → List ℕ
waiting_page partner number next = reply_top partner number ++ reply_head partner number ++ waiting_section next ++ foot
