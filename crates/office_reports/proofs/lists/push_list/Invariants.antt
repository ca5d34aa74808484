use Rattle.std.proofs.Common.{◌≡◌, ◌++◌, string_bytes, flat_map}
use Rattle.office_reports.specs.Lists.{list_contents, list_line}
use Rattle.office_reports.proofs.lists.push_list.Given as goal

abbrev pub invariant-loop-container : goal.invariant-loop-container
invariant-loop-container l = string_bytes l.text ++ flat_map list_line (list_contents l.container-iterator) ≡ string_bytes l.initial.text ++ flat_map list_line (list_contents l.initial.container-iterator)
