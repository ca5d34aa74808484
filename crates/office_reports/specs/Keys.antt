-- The keys by which reports are asked for.
use Rattle.std.specs.Prelude.{ℕ, ◌==◌, ◌&&◌, nat_le, List, [], ◌∷◌, length, codes, slice_index, Option, None, Some, option_map, string_bytes, Result, Ok, Err, if◌then◌else◌}
use Rattle.std.specs.{Char.is_ascii_uppercase, Option.option_and_then, List.slice_split, Str.bytes_eq}
use Rattle.box6346.specs.{ContainerNumber.number_of as box_of, declared.box_number.BoxNumber.BoxNumber, declared.box_number.NumberFault.NumberFault}
use Rattle.edi_messages.specs.{Texts.is_name, declared.call.Call.Call}
use Rattle.edi_syntax.specs.{Bytes.digit_zero, Numbers.{number_of, as_control_number, last_number}}
use Rattle.terminal_core.specs.{declared.lines.Side.Side, declared.lines.Side.TheVariants.{Load, Discharge}}
use Rattle.office_reports.specs.{Escapes.decoded_part, AskedViews.has_view, declared.query.About.About, declared.query.Query.Query, declared.query.View.View}
use Rattle.office_reports.specs.declared.query.ReportKind.{ReportKind}
use Rattle.office_reports.specs.declared.query.About.TheVariants as about
use Rattle.office_reports.specs.declared.query.ReportKind.TheVariants as kind

-- what is asked about, with its texts as bytes
pub data AboutContent : Type 0 where
  yard partners blocks calls picture health metrics start : AboutContent
  visits container expected : BoxNumber → AboutContent
  block : ℕ → AboutContent
  list work : List ℕ → List ℕ → Side → AboutContent
  ticket reply contrl : List ℕ → ℕ → AboutContent
  one_partner next_number find : List ℕ → AboutContent

abbrev pub about_content : About → AboutContent
about_content about.Yard = yard
about_content (about.Visits number) = visits number
about_content (about.List call side) = list (string_bytes call.vessel) (string_bytes call.voyage) side
about_content (about.Ticket partner number) = ticket (string_bytes partner) number
about_content (about.Reply partner number) = reply (string_bytes partner) number
about_content (about.Container number) = container number
about_content (about.Work call side) = work (string_bytes call.vessel) (string_bytes call.voyage) side
about_content about.Partners = partners
about_content about.Blocks = blocks
about_content about.Calls = calls
about_content (about.Contrl partner number) = contrl (string_bytes partner) number
about_content about.Picture = picture
about_content (about.Partner code) = one_partner (string_bytes code)
about_content (about.Next code) = next_number (string_bytes code)
about_content about.Health = health
about_content about.Metrics = metrics
about_content about.Start = start
about_content (about.Find typed) = find (string_bytes typed)
about_content (about.Expected number) = expected number
about_content (about.Block letter) = block letter

-- what is asked for: about what, and as what it is shown
pub record QueryContent : Type 0 where
  pub about : AboutContent
  pub view : View

abbrev pub query_content : Query → QueryContent
query_content query = record { about = about_content query.about; view = query.view }

-- the list that a call and a side name
abbrev pub list_named : Call × Side → List ℕ × List ℕ × Side
list_named of = (string_bytes of.0.vessel, string_bytes of.0.voyage, of.1)

-- ---- the parts of a key

-- they stand between slashes (47)
abbrev pub key_parts : List ℕ → List (List ℕ)
key_parts key = slice_split (λ b. b == 47) key

abbrev pub one_part : List (List ℕ) → Option (List ℕ)
one_part [] = None
one_part (a ∷ []) = Some a
one_part (a ∷ b ∷ others) = None

abbrev pub two_parts : List (List ℕ) → Option (List ℕ × List ℕ)
two_parts [] = None
two_parts (a ∷ []) = None
two_parts (a ∷ b ∷ []) = Some (a, b)
two_parts (a ∷ b ∷ c ∷ others) = None

abbrev pub three_parts : List (List ℕ) → Option (List ℕ × List ℕ × List ℕ)
three_parts [] = None
three_parts (a ∷ []) = None
three_parts (a ∷ b ∷ []) = None
three_parts (a ∷ b ∷ c ∷ []) = Some (a, b, c)
three_parts (a ∷ b ∷ c ∷ d ∷ others) = None

-- ---- what a part names, if it can be read

-- a vessel, a voyage or a partner: 1 to 35 bytes from space to tilde
abbrev pub name_of : List ℕ → Option (List ℕ)
name_of bytes = if is_name bytes then Some bytes else None

-- a control reference from 1 to 999,999,999, in 1 to 14 digits
abbrev pub control_number_of : List ℕ → Option ℕ
control_number_of bytes = option_and_then as_control_number (number_of 14 bytes)

abbrev pub side_of : List ℕ → Option Side
side_of bytes =
    if bytes_eq bytes (codes "load") then Some Load
    else if bytes_eq bytes (codes "discharge") then Some Discharge
    else None

abbrev pub if_ok : Result BoxNumber NumberFault → Option BoxNumber
if_ok (Ok number) = Some number
if_ok (Err fault) = None

abbrev pub name_in : List ℕ → Option (List ℕ)
name_in part = option_and_then name_of (decoded_part part)

abbrev pub number_in : List ℕ → Option ℕ
number_in part = option_and_then control_number_of (decoded_part part)

abbrev pub side_in : List ℕ → Option Side
side_in part = option_and_then side_of (decoded_part part)

abbrev pub box_in : List ℕ → Option BoxNumber
box_in part = option_and_then (λ bytes. if_ok (box_of bytes)) (decoded_part part)

-- ---- how many texts are passed over

-- 0, or a number up to 999,999,999 that does not begin with 0, in digits
abbrev pub passed_of : List ℕ → Option ℕ
passed_of digits =
    if bytes_eq digits (codes "0") then Some 0
    else if slice_index digits 0 == digit_zero then None
    else option_and_then (λ number. if nat_le number last_number then Some number else None) (number_of 9 digits)

-- ---- what a key asks for

-- the empty key
abbrev pub if_empty : List ℕ → AboutContent → Option AboutContent
if_empty key what = if length key == 0 then Some what else None

-- BOX
abbrev pub container_of : List ℕ → Option BoxNumber
container_of key = option_and_then box_in (one_part (key_parts key))

-- VESSEL/VOYAGE/SIDE
abbrev pub list_in : List ℕ × List ℕ × List ℕ → Option (List ℕ × List ℕ × Side)
list_in p =
    option_and_then (λ vessel.
    option_and_then (λ voyage. option_map (λ side. (vessel, voyage, side)) (side_in p.2)) (name_in p.1))
    (name_in p.0)

abbrev pub list_of : List ℕ → Option (List ℕ × List ℕ × Side)
list_of key = option_and_then list_in (three_parts (key_parts key))

-- PARTNER
abbrev pub partner_of : List ℕ → Option (List ℕ)
partner_of key = option_and_then name_in (one_part (key_parts key))

-- PARTNER/NUMBER
abbrev pub interchange_in : List ℕ × List ℕ → Option (List ℕ × ℕ)
interchange_in p = option_and_then (λ partner. option_map (λ number. (partner, number)) (number_in p.1)) (name_in p.0)

abbrev pub interchange_of : List ℕ → Option (List ℕ × ℕ)
interchange_of key = option_and_then interchange_in (two_parts (key_parts key))

-- LETTER
abbrev pub letter_of : List ℕ → Option ℕ
letter_of [] = None
letter_of (letter ∷ more) = if length more == 0 && is_ascii_uppercase letter then Some letter else None

-- what a key asks about of that kind, if it can be read and something can be found under it
abbrev pub about_of : ReportKind → List ℕ → Option AboutContent
about_of kind.Yard key = if_empty key yard
about_of kind.Visits key = option_map visits (container_of key)
about_of kind.List key = option_map (λ of. list of.0 of.1 of.2) (list_of key)
about_of kind.Ticket key = option_map (λ of. ticket of.0 of.1) (interchange_of key)
about_of kind.Reply key = option_map (λ of. reply of.0 of.1) (interchange_of key)
about_of kind.Container key = option_map container (container_of key)
about_of kind.Work key = option_map (λ of. work of.0 of.1 of.2) (list_of key)
about_of kind.Partners key = if_empty key partners
about_of kind.Blocks key = if_empty key blocks
about_of kind.Calls key = if_empty key calls
about_of kind.Contrl key = option_map (λ of. contrl of.0 of.1) (interchange_of key)
about_of kind.Picture key = if_empty key picture
about_of kind.Partner key = option_map one_partner (partner_of key)
about_of kind.Health key = if_empty key health
about_of kind.Metrics key = if_empty key metrics
about_of kind.Start key = if_empty key start
about_of kind.Block key = option_map block (letter_of key)

-- what a key asks for of that kind, if it is shown so
abbrev pub query_of : ReportKind → View → List ℕ → Option QueryContent
query_of asked view key =
    if has_view asked view then option_map (λ what. record { about = what; view = view }) (about_of asked key) else None
