-- The parts that are the same on every page.
use Rattle.std.specs.Prelude.{ℕ, Bool, List, [], ◌++◌, codes, if◌then◌else◌}

-- a page that is asked for again each minute
unfoldable pub again : Bool → List ℕ
again asks = if asks then codes "<meta http-equiv='refresh' content='60'>\n" else []

-- the end
unfoldable pub foot : List ℕ
foot =
    codes "</main>\n"
    ++ codes "</body>\n"
    ++ codes "</html>\n"
