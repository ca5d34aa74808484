use Rattle.std.proofs.Common.{◌≡◌, map, take}
use Rattle.serde_json.specs.View.{view}
use Rattle.office_reports.specs.Interchanges.{row_content}
use Rattle.office_report_data.specs.Interchanges.{message_data}
use Rattle.office_report_data.proofs.interchanges.messages_value.Given as goal

abbrev pub invariant-loop-message : goal.invariant-loop-message
invariant-loop-message l = map view l.values.items ≡ map message_data (map row_content (take l.message-index l.messages))
