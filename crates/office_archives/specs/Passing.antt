-- What is still to be passed over, one text after the other.
use Rattle.std.specs.Prelude.{Bool, ◌-◌, ◌==◌, ◌&&◌, if◌then◌else◌}
use Rattle.office_archives.specs.declared.passing.Rest.{Rest}

-- no text is to be passed over
abbrev pub is_none : Rest → Bool
is_none rest = (rest.carried == 0) && (rest.from == 0)

-- what is to be passed over after one text: first those that the file before has too
abbrev pub rest_after : Rest → Rest
rest_after rest = record {
  from = if rest.carried == 0 then rest.from - 1 else rest.from;
  carried = rest.carried - 1;
}
