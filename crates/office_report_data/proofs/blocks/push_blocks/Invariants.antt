use Rattle.std.proofs.Common.{◌≡◌, ◌++◌, drop, false, map, string_bytes}
use Rattle.serde_json.specs.{View.items_of, Written.items_text}
use Rattle.office_report_data.specs.Blocks.{block_data}
use Rattle.office_report_data.proofs.blocks.push_blocks.Given as goal

abbrev pub invariant-loop-block : goal.invariant-loop-block
invariant-loop-block l =
    string_bytes l.text ++ items_text l.is_later (items_of (map block_data (drop l.block-index l.rows)))
    ≡ string_bytes l.initial.text ++ items_text false (items_of (map block_data l.rows))
