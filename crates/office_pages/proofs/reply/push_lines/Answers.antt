use Rattle.serde_json.specs.View.{view}
use Rattle.std.proofs.{Common.{◌≡◌, ◌∙◌, ◌==◌, ap, length, map, sym, true}, lemmas.List.length-map}
use Rattle.office_pages.proofs.reply.push_lines.Goals as goal

pub returns-then-is_empty : goal.returns-then-is_empty
returns-then-is_empty c =
    let lines = c.args.lines.now in
    let none : (length (map view lines) == 0) ≡ true =
    ap (λ n. n == 0) (length-map lines view) ∙ sym c.is_empty.ensures ∙ c.if-is_empty.true in
    rw none c.push_no_rows.ensures
