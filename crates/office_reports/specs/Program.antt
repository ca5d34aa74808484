-- The program.
use Rattle.std.specs.Prelude.{ℕ, List, codes}

-- the version that it is known by
abbrev pub program_version : List ℕ
program_version = codes "1.0.0"
