-- Connections that wait side by side, each by what is awaited of it (our own).
use Rattle.std.specs.{Prelude.{◌≡◌, ◌≤◌, ◌⊎◌, ℕ, ◌+◌, ◌-◌, nat_le, ◌++◌, Bool, true, false, min, max, List, [], take, Option, None, Some, Result, Ok, Err, if◌then◌else◌}, Vec.vec_capacity}
use Rattle.slab.specs.Slab.{Slab, Updates, get, slab_len}
use Rattle.std.specs.{List.sum_by, Option.option_map_or, Time.instant_nanos, declared.time.Instant.Instant}
use Rattle.office_http.specs.{Deadlines.{nanos_left, request_seconds}, Held.most_held, declared.deadline.Deadline.Deadline, declared.line.Asking.Asking, declared.line.Line.Line}
use Rattle.office_http.specs.{declared.line.Peer.Peer, declared.line.Ready.Ready, declared.told.Parting.Parting, declared.told.Telling.Telling}
use Rattle.office_http.specs.declared.wanted.Tail.TheVariants.{Late}
use Rattle.office_http.specs.declared.line.Line.TheVariants as line

-- ---- what is known of one

abbrev pub peer_of : Line → Option Peer
peer_of (line.Asking asking) = Some asking.peer
peer_of (line.Ready ready) = Some ready.peer
peer_of (line.Telling telling) = Some telling.peer
peer_of (line.Parting parting) = Some parting.peer
peer_of line.Over = None

-- a read or a write may bring something now
abbrev pub is_awake : Line → Bool
is_awake one = option_map_or (λ (peer : Peer). peer.is_awake) (peer_of one) false

-- how many bytes are held for it
abbrev pub held_for : Line → ℕ
held_for (line.Asking asking) = vec_capacity asking.asked
held_for (line.Ready ready) = vec_capacity ready.asked
held_for (line.Telling telling) = vec_capacity telling.told
held_for (line.Parting parting) = 0
held_for line.Over = 0

-- when a byte last moved of one of which something is awaited
abbrev pub silent_since : Line → Option Instant
silent_since (line.Asking asking) = Some asking.peer.moved
silent_since (line.Ready ready) = None
silent_since (line.Telling telling) = Some telling.peer.moved
silent_since (line.Parting parting) = Some parting.peer.moved
silent_since line.Over = None

-- it was accepted so long before that moment
abbrev pub is_as_old : Line → (age moment : ℕ) → Bool
is_as_old one age moment =
    option_map_or (λ (peer : Peer). nat_le age (moment - instant_nanos peer.accepted)) (peer_of one) false

-- it was accepted as the one at that place, and has brought nothing yet
pub record IsJustAccepted (place : ℕ) (now : Instant) (one : Line) : Type 0 where
  pub asking : Asking
  pub is_asking : one ≡ line.Asking asking
  pub placed : asking.peer.place ≡ place
  pub accepted : asking.peer.accepted ≡ now
  pub moved : asking.peer.moved ≡ now
  pub awake : asking.peer.is_awake ≡ true
  pub asked : asking.asked.items ≡ []
  pub wanted : asking.wanted ≡ None

-- ---- how long its peer may still take, in nanoseconds

abbrev pub nanos_till : Deadline → (now : ℕ) → ℕ
nanos_till deadline now = nanos_left deadline.limit.0 (instant_nanos deadline.begun) now

abbrev pub asking_left : Asking → (now : ℕ) → ℕ
asking_left asking now = nanos_left (request_seconds asking.asked.items) (instant_nanos asking.peer.accepted) now

abbrev pub parting_left : Parting → (now : ℕ) → ℕ
parting_left parting now = min (nanos_till parting.deadline now) (nanos_till parting.silence now)

abbrev pub patience_of : Line → (now : ℕ) → ℕ
patience_of (line.Asking asking) now = asking_left asking now
patience_of (line.Ready ready) now = 0
patience_of (line.Telling telling) now = nanos_till telling.deadline now
patience_of (line.Parting parting) now = parting_left parting now
patience_of line.Over now = 0

-- how long nothing has to be done for it: not at all, if a read or a write may bring something
abbrev pub left_of : Line → (now : ℕ) → ℕ
left_of one now = if is_awake one then 0 else patience_of one now

-- ---- what becomes of one

-- more may be held of a request, up to so many bytes, if the bound of all allows it where so many are held; else nothing changes
pub record HasRoom (size held : ℕ) (asking later : Asking) : Type 0 where
  pub peer : later.peer ≡ asking.peer
  pub asked : later.asked.items ≡ asking.asked.items
  pub wanted : later.wanted ≡ asking.wanted
  pub wide : vec_capacity later.asked ≤ max (vec_capacity asking.asked) size
  pub bound : (vec_capacity later.asked ≡ vec_capacity asking.asked) ⊎ (held + size ≤ most_held)

abbrev pub IsWidened : (size held : ℕ) → (old new : Line) → Type 0
IsWidened size held (line.Asking asking) new =
    (later : Asking) × (new ≡ line.Asking later) × HasRoom size held asking later
IsWidened size held (line.Ready ready) new = new ≡ line.Ready ready
IsWidened size held (line.Telling telling) new = new ≡ line.Telling telling
IsWidened size held (line.Parting parting) new = new ≡ line.Parting parting
IsWidened size held line.Over new = new ≡ line.Over

-- it is the same connection, accepted at the same moment
pub record IsSamePeer (old new : Peer) : Type 0 where
  pub place : new.place ≡ old.place
  pub accepted : new.accepted ≡ old.accepted

-- more has come after what had come
abbrev pub HasGrown : (old new : List ℕ) → Type 0
HasGrown old new = (more : List ℕ) × (new ≡ old ++ more)

-- how many bytes are kept of a request that is given up
abbrev pub most_kept : ℕ
most_kept = 256

-- the front of what had come is left, or nothing where there is no memory for it
abbrev pub IsCutTo : (old new : List ℕ) → Type 0
IsCutTo old new = (new ≡ take most_kept old) ⊎ (new ≡ [])

-- a request that isn't waited for any more is served, as one whose read failed, and a response is cut
abbrev pub IsGivenUp : (old new : Line) → Type 0
IsGivenUp (line.Asking asking) new =
    (ready : Ready) × (new ≡ line.Ready ready) × (ready.peer ≡ asking.peer) × (ready.tail ≡ Late)
    × IsCutTo asking.asked.items ready.asked.items
IsGivenUp (line.Ready ready) new = new ≡ line.Ready ready
IsGivenUp (line.Telling telling) new = new ≡ line.Over
IsGivenUp (line.Parting parting) new = new ≡ line.Over
IsGivenUp line.Over new = new ≡ line.Over

-- what is read of a request is added to it, and it may take no longer for that; it isn't let go before it is served
abbrev pub IsHeard : Asking → Line → Type 0
IsHeard asking (line.Asking later) = IsSamePeer asking.peer later.peer × HasGrown asking.asked.items later.asked.items
IsHeard asking (line.Ready ready) = IsSamePeer asking.peer ready.peer × HasGrown asking.asked.items ready.asked.items
IsHeard asking (line.Telling telling) = ⊥
IsHeard asking (line.Parting parting) = ⊥
IsHeard asking line.Over = ⊥

-- a response stays as it is while it is taken, and may take no longer for that; its connection is never asked again
abbrev pub IsTold : Telling → Line → Type 0
IsTold telling (line.Asking asking) = ⊥
IsTold telling (line.Ready ready) = ⊥
IsTold telling (line.Telling later) =
    IsSamePeer telling.peer later.peer × (later.told ≡ telling.told) × (telling.taken ≤ later.taken)
    × (later.deadline ≡ telling.deadline)
IsTold telling (line.Parting parting) = IsSamePeer telling.peer parting.peer × (parting.deadline ≡ telling.deadline)
IsTold telling line.Over = Unit {0}

-- nothing but silence is awaited of a peer that has its response, and not for longer than that
abbrev pub IsParted : Parting → Line → Type 0
IsParted parting (line.Asking asking) = ⊥
IsParted parting (line.Ready ready) = ⊥
IsParted parting (line.Telling telling) = ⊥
IsParted parting (line.Parting later) = IsSamePeer parting.peer later.peer × (later.deadline ≡ parting.deadline)
IsParted parting line.Over = Unit {0}

-- One that can be served stays so. One that was served can never be served again, and one that is asked is let go only by being
-- served.
abbrev pub IsAdvanced : (old new : Line) → Type 0
IsAdvanced (line.Asking asking) (line.Asking later) = IsSamePeer asking.peer later.peer
IsAdvanced (line.Asking asking) (line.Ready ready) = IsSamePeer asking.peer ready.peer
IsAdvanced (line.Asking asking) (line.Telling telling) = ⊥
IsAdvanced (line.Asking asking) (line.Parting parting) = ⊥
IsAdvanced (line.Asking asking) line.Over = ⊥
IsAdvanced (line.Ready ready) new = new ≡ line.Ready ready
IsAdvanced (line.Telling telling) new = IsTold telling new
IsAdvanced (line.Parting parting) new = IsParted parting new
IsAdvanced line.Over new = new ≡ line.Over

-- ---- the response of one that is served

-- Of what was written, what a connection didn't take is kept after what was kept before. Once something is kept nothing more goes
-- to the connection, so that no byte passes another.
abbrev pub IsKept : {E : Type 0} → (old new bytes : List ℕ) → Result ℕ E → Type 0
IsKept old new bytes (Ok count) = (new ≡ old ++ take count bytes) ⊎ ((old ≡ []) × (new ≡ []))
IsKept old new bytes (Err error) = new ≡ old

-- ---- all of them

-- how many bytes are held for what is at a key
abbrev pub held_at : Option Line → ℕ
held_at None = 0
held_at (Some one) = held_for one

-- how many are held for all
abbrev pub held_by : Slab Line → ℕ
held_by slots = sum_by held_at slots.slots

-- one more is open, at a key that none had, and the others stay as they are
pub record IsAdded (one : Line) (old new : Slab Line) : Type 0 where
  pub key : ℕ
  pub is_free : get old key ≡ None
  pub is_there : Updates old new key (Some one)
  pub counted : slab_len new ≡ slab_len old + 1
