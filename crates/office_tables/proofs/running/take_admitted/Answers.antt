use Rattle.std.proofs.Common.{map, ap, refl, string_bytes}
use Rattle.terminal_core.specs.Rows.{change_content}
use Rattle.office_tables.proofs.WriteLemmas.{taken_now}
use Rattle.office_tables.proofs.running.take_admitted.Goals as goal

pub returns-clause-taken : goal.returns-clause-taken
returns-clause-taken c text is =
    taken_now c.args.setup.now c.args.terminal.now c.take.new.terminal c.args.admitted.now.partner c.args.admitted.now.partner c.args.number text (string_bytes c.in_ok-reply.reply)
    (map change_content c.new-changes.result.items) (map change_content c.take.new.changes.items) refl (ap (map change_content) c.new-changes.ensures.items)
    (c.in_ok-reply.ensures.taken text is) (c.in_ok-reply.ensures.changes text is)
