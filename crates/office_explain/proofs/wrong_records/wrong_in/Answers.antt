use Rattle.std.proofs.Common.{◌∙◌, map, sym, subst, List, ℕ}
use Rattle.std.proofs.lemmas.List.{length-map}
use Rattle.csv.specs.Records.{Row, fields_of}
use Rattle.office_explain.specs.Wrong.{Shows}
use Rattle.office_explain.proofs.Wrong.{behind_text}
use Rattle.office_explain.proofs.wrong_records.wrong_in.Goals as goal

pub returns : goal.returns
returns c =
    let shown = rw c.in-None.is at c.in_ok-number.ensures in
    let P : List Row → Type 0 = λ l. ¬ Shows c.args.file c.args.fault (map fields_of l) in
    behind_text c.args.file c.args.fault (map fields_of c.args.rows.items) (map fields_of c.in_ok-texts.texts.items) c.in_ok-texts.ensures
    (subst P c.deref.ensures.value shown) c.len.result c.len-count.result
    (c.len.ensures ∙ c.in_ok-texts.texts.ok.0 ∙ sym (length-map c.in_ok-texts.texts.items fields_of)) (c.len-count.ensures ∙ c.args.rows.ok.0 ∙ sym (length-map c.args.rows.items fields_of))
    c.behind.result c.behind.ensures
