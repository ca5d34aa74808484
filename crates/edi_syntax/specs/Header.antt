-- The first segment of an interchange, UNB, by its data elements (ISO 9735).
use Rattle.std.specs.{Prelude.{ℕ, Bool, not, ◌&&◌, ◌||◌, ◌==◌, List, ◌++◌, length, codes, Option, None, if◌then◌else◌}, Option.option_and_then, List.list_all}
use Rattle.std.specs.Str.{bytes_eq}
use Rattle.edi_syntax.specs.{Moments.{CivilMoment, moment_of}, Characters.is_printable, Text.{Content, component_of, element_of}}
use Rattle.edi_syntax.specs.Numbers.{number_of, as_control_number}

-- S001, syntax identifier: 0001 identifier, 0002 version
abbrev pub syntax_identifier : Content → List ℕ
syntax_identifier header = component_of header 1 1

abbrev pub syntax_version : Content → List ℕ
syntax_version header = component_of header 1 2

-- S002, interchange sender: 0004 and its qualifiers, by number
abbrev pub sender : Content → ℕ → List ℕ
sender header component = component_of header 2 component

-- S003, interchange recipient: 0010 and its qualifiers, by number
abbrev pub recipient : Content → ℕ → List ℕ
recipient header component = component_of header 3 component

-- S004, date and time of preparation: 0017 YYMMDD, 0019 HHMM
abbrev pub preparation_date : Content → List ℕ
preparation_date header = component_of header 4 1

abbrev pub preparation_time : Content → List ℕ
preparation_time header = component_of header 4 2

-- 0020, interchange control reference
abbrev pub control_reference : Content → List ℕ
control_reference header = component_of header 5 1

-- 0035, test indicator
abbrev pub test_indicator : Content → List ℕ
test_indicator header = component_of header 11 1

-- the number that the control reference writes in 1 to 14 digits, from 1 to 999,999,999
abbrev pub control_number : Content → Option ℕ
control_number header = option_and_then as_control_number (number_of 14 (control_reference header))

-- the moment of six and four digits, in 2000 to 2099
abbrev pub preparation : Content → Option CivilMoment
preparation header =
    if length (preparation_date header) == 6 && length (preparation_time header) == 4
    then moment_of (codes "20" ++ preparation_date header ++ preparation_time header)
    else None

-- each value of the element can be printed
abbrev pub is_printable_element : Content → ℕ → Bool
is_printable_element segment element = list_all (list_all is_printable) (element_of segment element)

-- it names sender and recipient in bytes that can be printed
abbrev pub names_partners : Content → Bool
names_partners header =
    not (length (sender header 1) == 0) && not (length (recipient header 1) == 0) && is_printable_element header 2
    && is_printable_element header 3

-- UNOA, UNOB or UNOC, in version 1, 2 or 3
abbrev pub is_known_syntax : Content → Bool
is_known_syntax header =
    (bytes_eq (syntax_identifier header) (codes "UNOA") || bytes_eq (syntax_identifier header) (codes "UNOB")
    || bytes_eq (syntax_identifier header) (codes "UNOC"))
    && (bytes_eq (syntax_version header) (codes "1") || bytes_eq (syntax_version header) (codes "2")
    || bytes_eq (syntax_version header) (codes "3"))
