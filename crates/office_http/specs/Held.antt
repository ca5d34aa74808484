-- What is held for connections.
use Rattle.std.specs.Prelude.{ℕ}

-- how many bytes are held for all connections, at most: 64 MiB
abbrev pub most_held : ℕ
most_held = 67108864
