use Rattle.std.proofs.Common.{◌≤◌, length, map, nat_lt}
use Rattle.office_closing.specs.Lists.{SettledListContent, list_content}
use Rattle.office_archive_files.proofs.PassingLemmas.{GoOn}
use Rattle.office_archive_files.proofs.is_archive.are_lists_before.Given as goal

abbrev pub invariant-loop-other : goal.invariant-loop-other
invariant-loop-other l = record {
  within : l.count ≤ length l.lists;
  goes_on : GoOn (λ (list : SettledListContent). nat_lt list.archive l.place) (map list_content l.lists) (map list_content l.others) l.count l.other-index;
}
