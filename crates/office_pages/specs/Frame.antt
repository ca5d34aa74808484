-- What is the same around every page: its head with style and title, and its header.
use Rattle.std.specs.{Prelude.{ℕ, ◌==◌, Bool, false, List, [], ◌∷◌, ◌++◌, codes, length, if◌then◌else◌}, Str.bytes_eq}
use Rattle.office_pages.specs.{Fixed.again, Pieces.{PieceContent, Markup, Text, pieces_text}, Style.{colours, outline, parts, sheets}}

-- what stands before the style
unfoldable pub opening : List ℕ
opening =
    codes "<!doctype html>\n"
    ++ codes "<html lang='en'>\n"
    ++ codes "<head>\n"
    ++ codes "<meta charset='utf-8'>\n"
    ++ codes "<meta name='viewport' content='width=device-width,initial-scale=1'>\n"
    ++ codes "<link rel='icon' href='data:,'>\n"
    ++ codes "<style>\n"

-- a field for a container's number
unfoldable pub finding : List ℕ
finding =
    codes "</nav>\n"
    ++ codes "<form action='/pages/find'>\n"
    ++ codes "<label for='container'>Container</label>\n"
    ++ codes "<input id='container' name='container' placeholder='ABCU 000001 7' autocomplete='off' "
    ++ codes "spellcheck='false' required"

-- what was typed stays in it
abbrev pub typed_value : List ℕ → List ℕ
typed_value typed =
    if length typed == 0 then []
    else pieces_text (Markup (codes " value='") ∷ Text typed ∷ Markup (codes "'") ∷ [])

unfoldable pub found_by : List ℕ
found_by =
    codes ">\n"
    ++ codes "<button>Find</button>\n"
    ++ codes "</form>\n"
    ++ codes "</div>\n"
    ++ codes "</header>\n"
    ++ codes "<main>\n"

-- the link of the header that leads to the page itself is marked
abbrev pub mark : List ℕ → List ℕ → List ℕ
mark here address = if bytes_eq here address then codes " aria-current='page'" else []

-- the style, and whether the page is asked for again each minute
unfoldable pub style_pieces : Bool → List PieceContent
style_pieces asks =
    Markup opening ∷ Markup colours ∷ Markup outline ∷ Markup parts ∷ Markup sheets ∷ Markup (codes "</style>\n")
    ∷ Markup (again asks) ∷ Markup (codes "<title>") ∷ []

-- links to the reports without a key, of which one may be the page itself
unfoldable pub header_pieces : (here : List ℕ) → List PieceContent
header_pieces here =
    Markup (codes "</title>\n</head>\n<body>\n<header>\n<div>\n<nav>\n<a href='/'") ∷ Markup (mark here (codes "/"))
    ∷ Markup (codes ">Start</a>\n<a href='/pages/yard'") ∷ Markup (mark here (codes "/pages/yard"))
    ∷ Markup (codes ">Yard</a>\n<a href='/pages/blocks'") ∷ Markup (mark here (codes "/pages/blocks"))
    ∷ Markup (codes ">Blocks</a>\n<a href='/pages/picture'>Picture</a>\n<a href='/pages/calls'")
    ∷ Markup (mark here (codes "/pages/calls")) ∷ Markup (codes ">Calls</a>\n<a href='/pages/partners'")
    ∷ Markup (mark here (codes "/pages/partners")) ∷ Markup (codes ">Partners</a>\n") ∷ Markup finding ∷ []

-- what stands before a page's own parts
unfoldable pub page_top : (here : List ℕ) → (asks : Bool) → (title : List PieceContent) → List ℕ
page_top here asks title =
    pieces_text (style_pieces asks) ++ pieces_text title ++ pieces_text (header_pieces here)
    ++ pieces_text (Markup found_by ∷ [])

-- the same before what a text finds
unfoldable pub typed_top : (typed : List ℕ) → (title : List PieceContent) → List ℕ
typed_top typed title =
    pieces_text (style_pieces false) ++ pieces_text title ++ pieces_text (header_pieces []) ++ typed_value typed
    ++ pieces_text (Markup found_by ∷ [])
