-- Names: of vessels, voyages, bookings and ports.
use Rattle.std.specs.{Prelude.{ℕ, Bool, ◌&&◌, nat_le, List, length}, List.list_all}
use Rattle.edi_syntax.specs.Characters.{is_printable}

-- 1 to 35 bytes from space to tilde
abbrev pub is_name : List ℕ → Bool
is_name value = nat_le 1 (length value) && nat_le (length value) 35 && list_all is_printable value
