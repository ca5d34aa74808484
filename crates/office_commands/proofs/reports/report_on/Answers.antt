use Rattle.std.{specs.Prelude.{option_map, string_bytes}, proofs.lemmas.Result.err_from_is_err_and}
use Rattle.office_commands.{specs.Ending.Prints, proofs.ReportLemmas.printed_found}
use Rattle.office_commands.proofs.reports.report_on.Goals as goal

pub returns-in_ok-lines-in-Some-clause-ok : goal.returns-in_ok-lines-in-Some-clause-ok
returns-in_ok-lines-in-Some-clause-ok g c image opens =
    let old = c.args.writer.now in
    let new = c.print.new.writer in
    record {
      found = option_map string_bytes c.in_ok-text.field-0;
      is = c.in_ok-text.ensures.found image opens;
      printed = printed_found
          (λ text wanted. Prints old.failed new.failed new.flushed (g.W.Write.contents old.inner) (g.W.Write.contents new.inner) text wanted c.print.result)
          string_bytes c.in_ok-text.field-0 c.in-Some.text _ _ c.in-Some.is c.in_ok-lines-in-Some.ensures c.as_str.ensures.value c.print.ensures;
    }

pub returns-in_err-text-clause-fault : goal.returns-in_err-text-clause-fault
returns-in_err-text-clause-fault g c =
    let p = err_from_is_err_and c.from_residual.result c.from_residual.ensures.1 in
    λ sound. rw (p.1, p.2) (c.in_err-text.ensures.fault sound)
