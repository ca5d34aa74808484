use Rattle.std.{specs.Option.option_map, proofs.{Common.{sym, ◌∙◌, ap, map}, lemmas.List.map-append}}
use Rattle.csv.specs.Records.{fields_of}
use Rattle.office_explain.{specs.Entries.{entry_content, entry_of}, proofs.Givens.{kept_more, left_more}}
use Rattle.office_explain.proofs.records.section.Goals.{in-Some+in_ok-push, in_default}
use Rattle.office_explain.proofs.records.section.Goals as goal

pub loop-row-preserved : goal.loop-row-preserved
loop-row-preserved c =
    elim c.match-entry_of.branch [
      | in-Some+in_ok-push w ↦ (let kept = kept_more fields_of (entry_of c.args.what.now) c.args.rows.now c.loop-row.row-index c.row-item.result c.row-item.result (map entry_content c.loop-row.entries.items) (entry_content w.in-Some.entry) c.loop-row-test.true
          c.row-item.is (sym c.entry_of.ensures ∙ ap (option_map entry_content) w.in-Some.is) c.loop-row.invariant in
          rw (w.entries-is, w.in_ok-push.ensures.items, map-append) kept)
      | in_default w ↦ (let left = left_more fields_of (entry_of c.args.what.now) c.args.rows.now c.loop-row.row-index c.row-item.result c.row-item.result (map entry_content c.loop-row.entries.items) c.loop-row-test.true c.row-item.is
          (sym c.entry_of.ensures ∙ ap (option_map entry_content) w.in_default.is) c.loop-row.invariant in
          rw w.entries-is left)
    ]
