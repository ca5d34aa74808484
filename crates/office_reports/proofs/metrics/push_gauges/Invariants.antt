use Rattle.std.proofs.Common.{◌≡◌, ◌++◌, drop, map, flat_map, string_bytes}
use Rattle.office_reports.specs.Metrics.{gauge_content, gauge_text}
use Rattle.office_reports.proofs.metrics.push_gauges.Given as goal

abbrev pub invariant-loop-gauge : goal.invariant-loop-gauge
invariant-loop-gauge l =
    string_bytes l.text ++ flat_map gauge_text (map gauge_content (drop l.gauge-index l.gauges))
    ≡ string_bytes l.initial.text ++ flat_map gauge_text (map gauge_content l.gauges)
