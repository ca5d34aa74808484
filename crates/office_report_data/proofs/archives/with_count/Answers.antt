use Rattle.std.proofs.{Common.{arith, string_bytes}, lemmas.Result.IfOk-weaker, lemmas.Str.Pattern.strip_prefix_char}
use Rattle.office_report_data.proofs.WholeLemmas.{archives_told}
use Rattle.office_report_data.proofs.archives.with_count.Goals as goal

pub returns-in-Some : goal.returns-in-Some
returns-in-Some c =
    let begins = rw c.in-Some.is at (strip_prefix_char 123 c.args.json.now c.strip_prefix.result c.strip_prefix.ensures.cases (omega arith)) in
    IfOk-weaker c.before_members.result _ _
    (λ text is. archives_told c.args.count c.args.json.now c.in-Some.members.now (string_bytes text) begins is)
    c.before_members.ensures

pub returns-in-None : goal.returns-in-None
returns-in-None c =
    let never = rw c.in-None.is at (strip_prefix_char 123 c.args.json.now c.strip_prefix.result c.strip_prefix.ensures.cases (omega arith)) in
    IfOk-weaker c.from_str.result _ _ (λ text same told whole. absurd (never _ whole)) c.from_str.ensures.ok
