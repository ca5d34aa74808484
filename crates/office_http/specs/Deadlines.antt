-- How long a peer may take (our own).
use Rattle.std.specs.Prelude.{ℕ, ◌-◌, ◌*◌, List, [], ◌∷◌}

-- how many nanoseconds are left, at a moment, of so many seconds from another one on; none once they are over
abbrev pub nanos_left : (seconds begun now : ℕ) → ℕ
nanos_left seconds begun now = seconds * 1000000000 - (now - begun)

-- how many seconds a request may take, of which these bytes came: two till its first byte, and ten till it is whole
abbrev pub request_seconds : (asked : List ℕ) → ℕ
request_seconds [] = 2
request_seconds (byte ∷ asked) = 10

-- how many seconds a response may take, and till its peer has closed after it
abbrev pub response_seconds : ℕ
response_seconds = 10
