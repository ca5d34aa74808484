-- An address at which connections are accepted.
use Rattle.std.specs.Prelude.{◌≡◌, ◌≤◌, ℕ, max, Bool, true, ◌&&◌, nat_le, nat_lt}
use Rattle.slab.specs.Slab.{slab_len}
use Rattle.office_http.specs.declared.gate.Gate.{Gate}

-- the most connections that are open at once (our own)
abbrev pub most_open : ℕ
most_open = 256

-- None was accepted, and none will be till some are expected; then as many may be open at once as there may be, and one may wait
-- already.
pub record IsFresh (gate : Gate) : Type 0 where
  pub most : gate.most ≡ most_open
  pub is_asked : gate.is_asked ≡ true
  pub accepted : gate.accepted ≡ 0
  pub lost : gate.lost ≡ 0
  pub served : gate.served ≡ 0
  pub left : gate.left ≡ 0

-- one waits to be accepted, and there is no room
abbrev pub is_full : Gate → Bool
is_full gate = gate.is_asked && (nat_lt 0 gate.left && nat_le gate.most (slab_len gate.lines.slots))

-- where no more may be open than the most, no more are, unless there were
abbrev pub KeepsBound : (old new : Gate) → Type 0
KeepsBound old new =
    old.most ≤ most_open → (new.most ≤ most_open) × (slab_len new.lines.slots ≤ max (slab_len old.lines.slots) most_open)
