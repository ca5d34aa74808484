use Rattle.std.proofs.{Common.{sym, ap, ◌∙◌}, lemmas.Simd.map-map}
use Rattle.office_loading.proofs.Keyed.{listed_once}
use Rattle.office_rows.specs.{ByKey.line_entry, Rows.listing_content}
use Rattle.std.specs.FinMap as finite_map
use Rattle.office_archives.proofs.lists_away.terminal_of.Goals as goal

pub returns-in-Ok-restore : goal.returns-in-Ok-restore
returns-in-Ok-restore c = record {
  once = listed_once c.args.lines.items c.in-Ok-restore.ensures.ok.lines_once;
  lines = c.in-Ok-restore.ensures.ok.lines_are ∙ sym (ap finite_map.from_entries (map-map line_entry listing_content c.args.lines.items));
}
