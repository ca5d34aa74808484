-- What a page is written of: markup, and what the office shows between it.
use Rattle.std.specs.{Prelude.{ℕ, ℤ, ◌%◌, ◌==◌, ◌&&◌, nat_lt, List, [], ◌∷◌, ◌++◌, length, codes, decimal, if◌then◌else◌}, Fmt.signed_decimal, List.flat_map}
use Rattle.box6346.specs.{SlotName.slot_text, declared.box_number.BoxNumber.BoxNumber, declared.size_type.SizeType.SizeType, declared.slot.Slot.Slot}
use Rattle.edi_syntax.specs.Moments.{CivilMoment, moment_text}
use Rattle.office_reports.specs.Fields.{field_text}
use Rattle.office_pages.specs.{Addresses.part, declared.pieces.Piece.Piece}
use Rattle.office_pages.specs.declared.pieces.Piece.TheVariants as piece

pub data PieceContent : Type 0 where
  -- as it stands
  Markup : List ℕ → PieceContent
  -- a text, so that no markup comes of it
  Text : List ℕ → PieceContent
  -- a text as a part of an address
  Part : List ℕ → PieceContent
  -- how many of something there are
  Count : ℕ → PieceContent
  -- a gross weight in kilograms, 0 if none was given
  Kilos : ℕ → PieceContent
  -- a number that is a name
  Digits : ℕ → PieceContent
  -- a difference
  Days : ℤ → PieceContent
  -- a container's number
  Number : BoxNumber → PieceContent
  -- the same, which leads to the container
  Container : BoxNumber → PieceContent
  -- a partner's code and the number of its interchange, which lead to the reply
  Reply : List ℕ → ℕ → PieceContent
  SlotText : Slot → PieceContent
  SizeText : SizeType → PieceContent
  MomentText : CivilMoment → PieceContent
  -- a block's letter, and as a part of an address
  Letter : ℕ → PieceContent
  LetterPart : ℕ → PieceContent

-- ---- numbers

-- before digits of which there are three, six, nine ..
abbrev pub comma_before : List ℕ → List ℕ
comma_before digits = if nat_lt 0 (length digits) && length digits % 3 == 0 then codes "," else []

-- digits, with a comma before each three but the first
abbrev pub parted : List ℕ → List ℕ
parted [] = []
parted (digit ∷ digits) = digit ∷ comma_before digits ++ parted digits

abbrev pub count_text : ℕ → List ℕ
count_text number = field_text (parted (decimal number))

abbrev pub kilos_text : ℕ → List ℕ
kilos_text kilos = if kilos == 0 then [] else count_text kilos ++ codes " kg"

-- ---- links

unfoldable pub container_link : BoxNumber → List ℕ
container_link number =
    codes "<a class='m' href='/pages/containers/" ++ part number ++ codes "'>" ++ field_text number ++ codes "</a>"

unfoldable pub reply_address : List ℕ → ℕ → List ℕ
reply_address partner number = codes "/pages/replies/" ++ part partner ++ codes "/" ++ decimal number

unfoldable pub reply_name : List ℕ → ℕ → List ℕ
reply_name partner number = field_text partner ++ codes " " ++ decimal number

unfoldable pub reply_link : List ℕ → ℕ → List ℕ
reply_link partner number =
    codes "<a href='" ++ reply_address partner number ++ codes "'>" ++ reply_name partner number ++ codes "</a>"

-- ---- pieces

unfoldable pub piece_text : PieceContent → List ℕ
piece_text (Markup text) = text
piece_text (Text text) = field_text text
piece_text (Part text) = part text
piece_text (Count number) = count_text number
piece_text (Kilos kilos) = kilos_text kilos
piece_text (Digits number) = decimal number
piece_text (Days days) = signed_decimal days
piece_text (Number number) = field_text number
piece_text (Container number) = container_link number
piece_text (Reply partner number) = reply_link partner number
piece_text (SlotText slot) = field_text (slot_text slot)
piece_text (SizeText size_type) = field_text size_type
piece_text (MomentText moment) = field_text (moment_text moment)
piece_text (Letter letter) = field_text (letter ∷ [])
piece_text (LetterPart letter) = part (letter ∷ [])

-- one after the other
unfoldable pub pieces_text : List PieceContent → List ℕ
pieces_text pieces = flat_map piece_text pieces

-- ---- as the code has them

abbrev pub piece_content : Piece → PieceContent
piece_content (piece.Markup text) = Markup text.now
piece_content (piece.Text text) = Text text.now
piece_content (piece.Part text) = Part text.now
piece_content (piece.Count number) = Count number
piece_content (piece.Kilos kilos) = Kilos kilos
piece_content (piece.Many number) = Count number
piece_content (piece.Few number) = Count number
piece_content (piece.Tier tier) = Count tier
piece_content (piece.Digits number) = Digits number
piece_content (piece.Measure number) = Digits number
piece_content (piece.Days days) = Days days
piece_content (piece.Number number) = Number number
piece_content (piece.Container number) = Container number
piece_content (piece.Reply partner number) = Reply partner.now number
piece_content (piece.SlotText slot) = SlotText slot
piece_content (piece.SizeText size_type) = SizeText size_type
piece_content (piece.MomentText moment) = MomentText moment
piece_content (piece.Letter letter) = Letter letter
piece_content (piece.LetterPart letter) = LetterPart letter
