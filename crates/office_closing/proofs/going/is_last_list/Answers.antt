use Rattle.std.proofs.Common.{◌-◌, length, sym, ◌∙◌}
use Rattle.office_closing.proofs.FoundLemmas.{last_line}
use Rattle.office_closing.proofs.going.is_last_list.Goals as goal

pub returns-in-Some : goal.returns-in-Some
returns-in-Some c is =
    let before = c.args.before.now in
    last_line before (length before - 1) c.in-Some.last.now c.args.line.now c.in-Some.ensures.value (sym c.is_of.ensures ∙ is)
