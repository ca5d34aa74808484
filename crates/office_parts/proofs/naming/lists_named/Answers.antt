use Rattle.std.proofs.Common.{sym, ap, ◌∙◌}
use Rattle.edi_syntax.specs.{Envelope.header_of, Header.preparation}
use Rattle.terminal_core.specs.Versions.{newest}
use Rattle.office_parts.{specs.Naming.lists_in_messages, proofs.BringingLemmas.{named_is, if_ok}}
use Rattle.office_parts.proofs.naming.lists_named.Goals as goal

pub returns : goal.returns
returns c =
    let setup = c.args.setup.now in
    let admitted = c.args.admitted.now in
    let prepared = ap (λ others. preparation (header_of others)) (sym c.head.ensures) ∙ c.moment-opened.ensures in
    if_ok c.lists_in_frames.result _ _
    (λ lists named. λ text is.
    named
    ∙ ap (λ messages. lists_in_messages newest c.for_kind-codes.result c.moment-opened.result messages) c.frames-frames.ensures.messages
    ∙ sym (named_is setup text admitted c.for_kind-codes.result c.moment-opened.result is c.for_kind-codes.ensures.kind c.for_kind-codes.ensures.table prepared))
    c.lists_in_frames.ensures
