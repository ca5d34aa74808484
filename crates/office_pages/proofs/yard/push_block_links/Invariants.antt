use Rattle.std.{specs.List.range_with_len, proofs.Common.{◌≡◌, ◌+◌, ◌++◌, count_by, flat_map, string_bytes}}
use Rattle.office_reports.specs.Blocks.{is_in}
use Rattle.office_pages.specs.Yard.{block_link}
use Rattle.office_pages.proofs.yard.push_block_links.Given as goal

abbrev pub invariant-loop-n : goal.invariant-loop-n
invariant-loop-n l = string_bytes l.page ≡ string_bytes l.initial.page ++ flat_map (λ n. block_link l.block (65 + n) (count_by (is_in (65 + n)) l.yard)) (range_with_len 0 l.n)
