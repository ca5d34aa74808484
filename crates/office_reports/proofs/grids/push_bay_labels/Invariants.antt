use Rattle.std.{specs.List.range_with_len, proofs.Common.{◌≡◌, ◌+◌, ◌*◌, ◌++◌, flat_map, string_bytes}}
use Rattle.office_reports.specs.Views.{bay_label}
use Rattle.office_reports.proofs.grids.push_bay_labels.Given as goal

abbrev pub invariant-loop-n : goal.invariant-loop-n
invariant-loop-n l = string_bytes l.text ≡ string_bytes l.initial.text ++ flat_map (λ n. bay_label (2 * n + 1)) (range_with_len 0 l.n)
