use Rattle.std.proofs.Common.{map}
use Rattle.office_parts.specs.Named.{named_list_content}
use Rattle.office_closing.proofs.WaitingLemmas.{named_under}
use Rattle.office_closing.proofs.waiting.lists_under.Goals as goal

pub returns-clause-named : goal.returns-clause-named
returns-clause-named g c clean rows has once =
    let admitted = c.in-Some-admit_for.ensures in
    named_under c.args.setup.now rows c.args.partner c.args.number c.in-Some-admit_for.admitted.partner c.in-Some.kept c.deref.result.now (map named_list_content c.in_ok-lists_named.field-0.items)
    once (rw c.in-Some.is at (c.in_ok-kept.ensures.answer clean rows has)) admitted.partner c.deref.ensures.value (c.in_ok-lists_named.ensures c.deref.result.now admitted.admitted)
