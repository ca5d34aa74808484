-- Whose requests a server takes: those that name this machine, or the one name that it is served under; and of what is posted
-- only what no other site sends (RFC 9110, section 7.2; RFC 6454, section 7; Fetch Metadata, section 2.1; our own).
use Rattle.std.specs.Prelude.{◌≡◌, ◌⊎◌, ℕ, Bool, true, false, ◌==◌, ◌&&◌, ◌||◌, nat_eq, nat_le, List, [], ◌∷◌, ◌++◌, length, drop, map, codes, Option, None, Some, is_some, Result, Err, if◌then◌else◌}
use Rattle.std.specs.{List.{after_first, before_first, starts_with}, Option.option_map_or, Str.{bytes_eq, str_eq_ignore_ascii_case}}
use Rattle.httparse.specs.{Grammar.RequestHead, Spans.name_and_value}
use Rattle.edi_syntax.specs.{Bytes.colon, Numbers.number_of}
use Rattle.office_http.specs.{Fields.values_of, Routes.endpoint_of, declared.routes.Endpoint.Endpoint, declared.response.Refusal.Refusal}
use Rattle.office_http.specs.declared.response.Refusal.TheVariants.{OtherHost, OtherSite}

-- ---- hosts

-- what stands before the first such byte, and after it
abbrev pub before : ℕ → List ℕ → List ℕ
before mark text = before_first (λ b. b == mark) text

abbrev pub after : ℕ → List ℕ → List ℕ
after mark text = after_first (λ b. b == mark) text

-- a number of an address: up to 255
abbrev pub is_octet : List ℕ → Bool
is_octet digits = option_map_or (λ n. nat_le n 255) (number_of 3 digits) false

-- two of them, and three, with a dot (46) between
abbrev pub are_two_octets : List ℕ → Bool
are_two_octets numbers = is_octet (before 46 numbers) && is_octet (after 46 numbers)

abbrev pub are_three_octets : List ℕ → Bool
are_three_octets numbers = is_octet (before 46 numbers) && are_two_octets (after 46 numbers)

-- an address of 127.0.0.0/8 (RFC 1122, section 3.2.1.3)
abbrev pub is_loopback : List ℕ → Bool
is_loopback host = bytes_eq (before 46 host) (codes "127") && are_three_octets (after 46 host)

-- the name that a server is served under, if it has one
abbrev pub is_named : (name : Option (List ℕ)) → List ℕ → Bool
is_named None host = false
is_named (Some name) host = str_eq_ignore_ascii_case host name

-- this machine, or that name; the case of letters doesn't matter
abbrev pub is_own : (name : Option (List ℕ)) → List ℕ → Bool
is_own name host = is_loopback host || (str_eq_ignore_ascii_case host (codes "localhost") || is_named name host)

-- a port: up to 5 digits, or none
abbrev pub is_port : List ℕ → Bool
is_port digits = (length digits == 0) || is_some (number_of 5 digits)

-- at the end of a host, nothing or a colon and a port
abbrev pub is_end : List ℕ → Bool
is_end rest = (length (before colon rest) == 0) && is_port (after colon rest)

-- the loopback address of IP version 6, and any port
abbrev pub is_loopback_6 : List ℕ → Bool
is_loopback_6 value = starts_with nat_eq value (codes "[::1]") && is_end (drop 5 value)

-- one of these with any port
abbrev pub is_own_host : (name : Option (List ℕ)) → List ℕ → Bool
is_own_host name value = is_loopback_6 value || (is_own name (before colon value) && is_port (after colon value))

-- What Host says passes where it says nothing, or once one of these.
abbrev pub host_passes : (name : Option (List ℕ)) → List (List ℕ) → Bool
host_passes name [] = true
host_passes name (value ∷ []) = is_own_host name value
host_passes name (value ∷ another ∷ others) = false

-- ---- sites

-- the site of a host, whatever the case of its letters
abbrev pub is_site_of : List ℕ → List ℕ → Bool
is_site_of host origin =
    str_eq_ignore_ascii_case origin (codes "http://" ++ host) || str_eq_ignore_ascii_case origin (codes "https://" ++ host)

abbrev pub is_site_of_one : (hosts : List (List ℕ)) → List ℕ → Bool
is_site_of_one [] origin = false
is_site_of_one (host ∷ []) origin = is_site_of host origin
is_site_of_one (host ∷ another ∷ others) origin = false

-- Origin passes where it isn't there, or once, as the site of what Host says.
abbrev pub origin_passes : (hosts origins : List (List ℕ)) → Bool
origin_passes hosts [] = true
origin_passes hosts (origin ∷ []) = is_site_of_one hosts origin
origin_passes hosts (origin ∷ another ∷ others) = false

-- Sec-Fetch-Site passes where it isn't there, or once, where a browser says that this site sends it, or a person.
abbrev pub fetch_passes : List (List ℕ) → Bool
fetch_passes [] = true
fetch_passes (from ∷ []) = bytes_eq from (codes "same-origin") || bytes_eq from (codes "none")
fetch_passes (from ∷ another ∷ others) = false

-- ---- what is refused

-- no other site sends it
abbrev pub site_passes : List (List ℕ × List ℕ) → Bool
site_passes fields =
    fetch_passes (values_of (codes "Sec-Fetch-Site") fields)
    && origin_passes (values_of (codes "Host") fields) (values_of (codes "Origin") fields)

-- why a request is not taken, by its method and its fields: its host first
abbrev pub stranger : (name : Option (List ℕ)) → List ℕ → List (List ℕ × List ℕ) → Option Refusal
stranger name method fields =
    if host_passes name (values_of (codes "Host") fields)
    then (if bytes_eq method (codes "POST") then (if site_passes fields then None else Some OtherSite) else None)
    else Some OtherHost

-- what is refused for that leads nowhere
abbrev pub unless_stranger : Option Refusal → Result Endpoint Refusal → Result Endpoint Refusal
unless_stranger None to = to
unless_stranger (Some refusal) to = Err refusal

-- where a request goes to at a server of a name, or why it is refused: first by whose it is, then by its path and its method
abbrev pub leads_to : (name : Option (List ℕ)) → RequestHead → Result Endpoint Refusal
leads_to name head =
    unless_stranger (stranger name head.method (map name_and_value head.fields)) (endpoint_of head.method head.target)

-- ---- what follows

-- Where none of these fields is there, none is a stranger's.
abbrev pub TellingNothingPasses : Type 0
TellingNothingPasses =
    (name : Option (List ℕ)) (method : List ℕ) (fields : List (List ℕ × List ℕ)) → values_of (codes "Host") fields ≡ []
    → values_of (codes "Origin") fields ≡ [] → values_of (codes "Sec-Fetch-Site") fields ≡ []
    → stranger name method fields ≡ None
